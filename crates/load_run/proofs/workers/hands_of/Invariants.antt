use Rattle.std.proofs.Common.{◌≡◌, ◌≤◌, ◌+◌, length, vec_capacity}
use Rattle.std.specs.Prelude.{vec_len}
use Rattle.std.specs.Vec.Iter.{into_iter_items}
use Rattle.audit.specs.Firsts.{EachHas}
use Rattle.load_run.proofs.workers.hands_of.Given as goal

-- one for each worker so far, with its number, and there is room for the others
abbrev pub invariant-loop-worker : goal.invariant-loop-worker
invariant-loop-worker g l = record {
  all : vec_len l.hands + length (into_iter_items l.worker-iterator)
      ≡ length (into_iter_items l.initial.worker-iterator);
  room : vec_len l.hands + length (into_iter_items l.worker-iterator) ≤ vec_capacity l.hands;
  each : EachHas (λ place hand. (hand.number ≡ place) × (hand.context.now ≡ l.context))
      l.hands.items;
}
