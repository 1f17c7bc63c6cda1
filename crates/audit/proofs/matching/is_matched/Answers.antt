use Rattle.std.proofs.Common.{arith, ◌≡◌, ◌<◌, Some, refl, sym, ap, ◌∙◌}
use Rattle.std.proofs.lemmas.Option.{get_or_from_slice_get, none-some}
use Rattle.std.proofs.lemmas.Bool.Decides.{nat_tests}
use Rattle.audit.specs.Permits.{ended, is_lost}
use Rattle.audit.proofs.matching.is_matched.Goals as goal

pub returns-else-permit-number : goal.returns-else-permit-number
returns-else-permit-number c = λ entry here.
    let same = get_or_from_slice_get c.args.entries.now c.args.number entry _ here in
    let own : ended entry ≡ Some c.in-Some.permit = sym (c.in-Some.ensures ∙ ap ended same) in (
      λ below. absurd (grind (arith, nat_tests, below)),
      λ matched.
          let below : c.in-Some.permit.number < c.args.number =
          (matched.right c.in-Some.permit own).named in absurd (omega arith),
    )

pub returns-in-None : goal.returns-in-None
returns-in-None c = λ entry here.
    let same = get_or_from_slice_get c.args.entries.now c.args.number entry _ here in (
      λ _. record {
        found = sym (ap is_lost same) ∙ sym c.is_lost.ensures ∙ c.if-is_lost.false;
        right = λ permit own. absurd (none-some permit (c.in-None.ensures ∙ ap ended same ∙ own));
      },
      λ _. refl,
    )
