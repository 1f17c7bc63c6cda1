use Rattle.std.proofs.Common.{arith, refl}
use Rattle.std.proofs.lemmas.Bool.{false≢true}
use Rattle.std.proofs.lemmas.Option.{slice_get_within}
use Rattle.audit.proofs.Endings.{IsFirstEnding-noted, noted-IsFirstEnding, ended-noted}
use Rattle.audit.proofs.matching.ending_of.Goals as goal
use Rattle.audit.proofs.matching.ending_of.Goals.{else-ending-entries-via-then-ending-entries+else-is_ending_of, else-ending-entries-via-else-ending-entries}

pub returns-then-is_ending_of : goal.returns-then-is_ending_of
returns-then-is_ending_of c =
    IsFirstEnding-noted c.args.entries.now c.args.endings.now c.requires c.args.permit.now _
    (omega (arith, c.requires.long)) c.if-ending-entries.true (c.if-is_ending_of.ensures.0 refl)

pub returns-else-ending-entries : goal.returns-else-ending-entries
returns-else-ending-entries c = λ ending first.
    let there =
    noted-IsFirstEnding c.args.entries.now c.args.endings.now c.requires c.args.permit.now
    ending first in
    let within = slice_get_within c.args.entries.now ending first.entry first.here in
    elim c.else-ending-entries.branch [
      | else-ending-entries-via-then-ending-entries+else-is_ending_of w ↦
          false≢true
          (w.if-is_ending_of.ensures.1
          (ended-noted c.args.entries.now c.args.endings.now c.requires c.args.permit.now ending
          _ first))
      | else-ending-entries-via-else-ending-entries w ↦ absurd (omega (arith, there, within))
    ]
