use Rattle.std.proofs.Common.{sym, ◌∙◌, subst}
use Rattle.std.proofs.lemmas.Option.{slice_get-get_or, same_Some, none-some}
use Rattle.audit.specs.Marks.{IsFirstEnding}
use Rattle.audit.proofs.Endings.{AreOwed-same, AreOwed-marked}
use Rattle.audit.proofs.matching.mark_owed.Goals as goal

pub returns-in-Some-ending_of : goal.returns-in-Some-ending_of
returns-in-Some-ending_of c =
    AreOwed-marked c.args.entries.now c.args.number _
    (slice_get-get_or c.args.entries.now c.args.number _ c.requires.within) c.args.owed.now
    c.in-Some.permit c.in-Some-ending_of.ending
    (sym c.in-Some.ensures) c.in-Some-ending_of.ensures c.requires.owed

pub returns-in_default-ending_of : goal.returns-in_default-ending_of
returns-in_default-ending_of c =
    AreOwed-same c.args.entries.now c.args.number _
    (slice_get-get_or c.args.entries.now c.args.number _ c.requires.within) c.args.owed.now
    (λ permit hands ending first.
    c.in_default-ending_of.ensures ending
    (subst (IsFirstEnding c.args.entries.now ending)
    (same_Some permit c.in-Some.permit (sym hands ∙ sym c.in-Some.ensures)) first))
    c.requires.owed

pub returns-in_default : goal.returns-in_default
returns-in_default c =
    AreOwed-same c.args.entries.now c.args.number _
    (slice_get-get_or c.args.entries.now c.args.number _ c.requires.within) c.args.owed.now
    (λ permit hands ending first. none-some permit (c.in_default.ensures ∙ hands)) c.requires.owed
