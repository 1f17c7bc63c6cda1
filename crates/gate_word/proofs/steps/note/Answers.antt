use Rattle.std.proofs.Common.{arith, ap}
use Rattle.gate_word.proofs.Moves.{notes}
use Rattle.gate_word.proofs.steps.note.Goals as goal

pub join_seat-requires : goal.join_seat-requires
join_seat-requires g c =
    let r = c.requires in (
      r.table,
      r.other_table,
      ap (λ m. m.1) r.other,
      omega (arith, r.word),
      notes _ _ _ _ (ap (λ m. m.0.keeps) r.other),
    )
