use Rattle.std.proofs.Common.{◌≡◌, ◌+◌, All, length}
use Rattle.std.specs.Prelude.{vec_len}
use Rattle.std.specs.Vec.Iter.{into_iter_items}
use Rattle.gate_desk.specs.State.{new_desk}
use Rattle.serve_command.specs.Beside.{IsUnused, StandsAt}
use Rattle.serve_command.proofs.operators.make_each.Given as goal

-- one for each pass so far, and nobody has called by the others
abbrev pub invariant-loop-pass : goal.invariant-loop-pass
invariant-loop-pass g l =
    let common = l.fn.gateway.common.now in record {
      unused : All IsUnused (into_iter_items l.pass-iterator);
      count : vec_len l.operators + length (into_iter_items l.pass-iterator) ≡ vec_len l.fn.passes;
      made : All (StandsAt (new_desk common.settings.now.table common.listener.now)
          l.fn.operating) l.operators.items;
    }
