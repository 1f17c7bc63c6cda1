use Rattle.std.proofs.Common.{◌≡◌, ◌≤◌, ◌+◌, ◌*◌, ◌^◌, length, IfSome, Some}
use Rattle.std.specs.Prelude.{vec_len}
use Rattle.std.specs.Vec.Iter.{into_iter_items}
use Rattle.shared_gate.specs.Closing.{calls_by}
use Rattle.serve_command.specs.GatewayRun.{all_joined, passes_in, rolls_left, served_by}
use Rattle.serve_command.proofs.gateway.passes_of.Given as goal

-- the passes so far, the calls of the workers among them, to each of whom fewer than 2^64 are
-- counted, and their tokens, put together
abbrev pub invariant-loop-left : goal.invariant-loop-left
invariant-loop-left g l = record {
  passes : l.passes.items ≡ passes_in l.yielded;
  calls : l.calls ≡ calls_by (served_by l.yielded);
  token : IfSome (g.L.Listener.roll l.fn.listener l.token) (λ all.
      all_joined (rolls_left g.L.Listener.roll l.fn.listener l.yielded) ≡ Some all);
  few : l.calls + 2 ^ 64 * length (into_iter_items l.left-iterator) ≤ 2 ^ 64 * vec_len l.fn.lefts;
}
