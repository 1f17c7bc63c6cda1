use Rattle.std.proofs.Common.{ap, ◌∙◌}
use Rattle.shared_gate.proofs.Behind.{behind_none}
use Rattle.shared_gate.proofs.gate.SharedGate.new.Goals as goal

-- a book of which nothing was asked is behind an empty log
pub invariant_of-new : goal.invariant_of-new
invariant_of-new g c =
    let keeper = c.with_readers-passes.ensures.keeper ∙ c.share-word.ensures.keeper in
    let book = c.invariant.ensures in (
      ap (λ k. k.table) keeper ∙ c.requires.word,
      c.requires.sealed,
      behind_none g.L.Limit.rules g.M.Naming.making.limit g.M.GateNaming.legal c.args.book _
          (ap (λ k. k.log) keeper) c.requires.unasked c.requires.legal book.sound.four
          book.unasked book.legal book.agrees,
      c.requires.few,
    )
