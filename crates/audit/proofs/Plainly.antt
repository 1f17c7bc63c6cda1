-- What is matched by the plain words is matched entry by entry.
use Rattle.std.proofs.Common.{◌≡◌, ℕ, ◌<◌, ◌≤◌, true, false, List, Option, Some, None, length, take, get_or, ap, ◌∙◌, refl, arith, inl, inr}
use Rattle.std.specs.Prelude.{slice_get}
use Rattle.std.specs.List.{list_any}
use Rattle.std.proofs.lemmas.Bool.{cases_Bool, eqb-true, false≢true}
use Rattle.std.proofs.lemmas.Option.{slice_get_within, get_or_from_slice_get}
use Rattle.std.proofs.lemmas.List.{length-take, get_or-take}
use Rattle.std.proofs.lemmas.List.Folds.{list_any_none}
use Rattle.limiter_core.specs.declared.event.PermitFacts.{PermitFacts}
use Rattle.limiter_core.specs.declared.event.Entry.{Entry}
use Rattle.audit.specs.Firsts.{EachHas}
use Rattle.audit.specs.Permits.{ends, ended, is_of, HandsOutNamed, IsMatched}
use Rattle.audit.specs.Accepted.{IsMatchedHistory}
use Rattle.audit.proofs.FirstPlaces.{item_at}

-- what is of a number is a permit of it
is_of-some : (number : ℕ) (one : Option PermitFacts) → is_of number one ≡ true
    → (permit : PermitFacts) × (one ≡ Some permit) × (permit.number ≡ number)
is_of-some number (Some permit) same = (permit, refl, eqb-true permit.number number same)
is_of-some number None same = absurd (false≢true same)

module _ (entries : List Entry) (plain : IsMatchedHistory entries) where
  -- no ending before this one names its number
  none_before : (number : ℕ) (entry : Entry) (permit : PermitFacts)
      → slice_get entries number ≡ Some entry → ended entry ≡ Some permit
      → list_any (ends permit.number) (take number entries) ≡ false
  none_before number entry permit here own =
      list_any_none (ends permit.number) (take number entries) (λ k d within.
      let inside : number < length entries = slice_get_within entries number entry here in
      let early : k < number = omega (arith, length-take number entries, within) in
      let one = item_at entries k (omega (arith, inside, early)) in
      let read : get_or (take number entries) k d ≡ one.0 =
      get_or-take number entries k d early
      ∙ get_or_from_slice_get entries k one.0 d one.1 in
      elim (cases_Bool (ends permit.number one.0)) [
        | inl named ↦
            let other = is_of-some permit.number (ended one.0) named in
            let same : k ≡ number =
            plain.once k number one.0 entry other.0 permit one.1 here other.1 own other.2 in
            absurd (omega (arith, same, early))
        | inr fails ↦ ap (ends permit.number) read ∙ fails
      ])

  -- so each entry is matched, where none hands out a permit of a later number
  pub IsMatched-plain : HandsOutNamed entries → EachHas (IsMatched entries) entries
  IsMatched-plain named number entry here = record {
    found = plain.found number entry here;
    right = λ permit own.
        let handed = plain.handed number entry permit here own in
        let early : permit.number ≤ handed.place =
        named handed.place handed.entry permit handed.here handed.hands in
        record {
          named = omega (arith, early, handed.before);
          handed = handed;
          once = none_before number entry permit here own;
        };
  }
