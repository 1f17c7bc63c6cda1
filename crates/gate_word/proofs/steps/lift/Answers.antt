use Rattle.std.proofs.Common.{arith}
use Rattle.gate_word.proofs.Moves.{raises}
use Rattle.gate_word.proofs.steps.lift.Goals as goal

pub store-requires : goal.store-requires
store-requires g c =
    let r = c.requires in
    (r.table, omega (arith, r.word), raises _ _ _ _ _ r.keeps r.next)
