-- First endings, and what is owed.
use Rattle.std.proofs.Common.{◌≡◌, ℕ, ◌+◌, ◌<◌, ◌==◌, Bool, true, false, not, List, Some, None, length, take, drop, get_or, set, sym, ap, ◌∙◌, subst, arith, ◌⊎◌, inl, inr, get_or-set_same, get_or-set_other, length-set}
use Rattle.std.specs.Prelude.{slice_get}
use Rattle.std.specs.List.{list_any, position_or_len}
use Rattle.std.proofs.lemmas.Bool.{false≢true, cases_lt, cases_eq, cases_Bool}
use Rattle.std.proofs.lemmas.Bool.Decides.{nat_tests}
use Rattle.std.proofs.lemmas.Option.{slice_get-get_or, slice_get_within, get_or_from_slice_get, same_Some}
use Rattle.std.proofs.lemmas.List.{length-take, length-take-le, get_or-take}
use Rattle.std.proofs.lemmas.List.Folds.{list_any_none, list_any_at}
use Rattle.std.proofs.lemmas.List.Sums.{position_or_len_is, fails_before_first, prefix_len-drop_yes, prefix_len-drop_no}
use Rattle.limiter_core.specs.declared.event.PermitFacts.{PermitFacts}
use Rattle.limiter_core.specs.declared.event.Entry.{Entry}
use Rattle.limiter_core.specs.Open.{handed_out}
use Rattle.audit.specs.Permits.{ends, ended, is_of}
use Rattle.audit.specs.Marks.{AreFirstEndings, IsFirstEnding, IsOwed, AreOwed}

-- none before the first that passes does
pub list_any-before_first : {X : Type 0} (p : X → Bool) (xs : List X)
    → list_any p (take (position_or_len p xs) xs) ≡ false
list_any-before_first {X} p xs = list_any_none p (take (position_or_len p xs) xs) (λ k d within.
    let below : k < position_or_len p xs =
    omega (arith, length-take (position_or_len p xs) xs, within) in
    ap p (get_or-take (position_or_len p xs) xs k d below) ∙ fails_before_first p xs k d below)

-- where none passes, this one doesn't
pub list_any-false : {X : Type 0} (p : X → Bool) (xs : List X) (k : ℕ) (d : X)
    → list_any p xs ≡ false → k < length xs → p (get_or xs k d) ≡ false
list_any-false p xs k d none within =
    elim (cases_Bool (p (get_or xs k d))) [
      | inl passes ↦ absurd (false≢true (sym none ∙ list_any_at p xs k d within passes))
      | inr fails ↦ fails
    ]

-- a place before which none passes, and which passes, is the first
pub first_place : {X : Type 0} (p : X → Bool) (xs : List X) (n : ℕ) (x : X)
    → slice_get xs n ≡ Some x → p x ≡ true → list_any p (take n xs) ≡ false
    → position_or_len p xs ≡ n
first_place {X} p xs n x here passes none =
    let within : n < length xs = slice_get_within xs n x here in
    let long : length (take n xs) ≡ n = length-take-le n xs (omega arith) in
    position_or_len_is p xs n x (omega arith)
    (λ k below.
    ap p (sym (get_or-take n xs k x below))
    ∙ list_any-false p (take n xs) k x none (omega arith))
    (λ _. ap p (get_or_from_slice_get xs n x x here) ∙ passes)

-- an entry that ends a permit ends its number
pub ends-own : (entry : Entry) (permit : PermitFacts) → ended entry ≡ Some permit
    → ends permit.number entry ≡ true
ends-own entry permit own =
    let same : (permit.number == permit.number) ≡ true = grind (arith, nat_tests) in
    ap (is_of permit.number) own ∙ same

module _ (entries : List Entry) where
  module _ (endings : List ℕ) (first : AreFirstEndings entries endings) where
    -- an ending that stands at the permit's number, and is of it, is the first
    pub IsFirstEnding-noted : (permit : PermitFacts) (d : Entry) → permit.number < length entries
        → get_or endings permit.number 0 < length entries
        → ended (get_or entries (get_or endings permit.number 0) d) ≡ Some permit
        → IsFirstEnding entries (get_or endings permit.number 0) permit
    IsFirstEnding-noted permit d named within own = record {
      entry = get_or entries (get_or endings permit.number 0) d;
      here = slice_get-get_or entries (get_or endings permit.number 0) d within;
      own = own;
      named = named;
      once =
          subst (λ (n : ℕ). list_any (ends permit.number) (take n entries) ≡ false)
          (sym (first.at permit.number named)) (list_any-before_first (ends permit.number) entries);
    }

    -- each first ending stands there
    pub noted-IsFirstEnding : (permit : PermitFacts) (ending : ℕ)
        → IsFirstEnding entries ending permit → get_or endings permit.number 0 ≡ ending
    noted-IsFirstEnding permit ending is =
        first.at permit.number is.named
        ∙ first_place (ends permit.number) entries ending is.entry is.here
        (ends-own is.entry permit is.own) is.once

    -- and what stands there is of the permit
    pub ended-noted : (permit : PermitFacts) (ending : ℕ) (d : Entry)
        → IsFirstEnding entries ending permit
        → ended (get_or entries (get_or endings permit.number 0) d) ≡ Some permit
    ended-noted permit ending d is =
        ap (λ (n : ℕ). ended (get_or entries n d)) (noted-IsFirstEnding permit ending is)
        ∙ ap ended (get_or_from_slice_get entries ending is.entry d is.here) ∙ is.own

  -- a permit has one first ending
  pub same_ending : (permit : PermitFacts) (i j : ℕ) → IsFirstEnding entries i permit
      → IsFirstEnding entries j permit → i ≡ j
  same_ending permit i j one other =
      sym (first_place (ends permit.number) entries i one.entry one.here
      (ends-own one.entry permit one.own) one.once)
      ∙ first_place (ends permit.number) entries j other.entry other.here
      (ends-own other.entry permit other.own) other.once

  module _ (number : ℕ) (entry : Entry) (here : slice_get entries number ≡ Some entry) where
    -- what is owed stays owed
    pub IsOwed-later : (ending : ℕ) → IsOwed entries number ending
        → IsOwed entries (number + 1) ending
    IsOwed-later ending owed = record {
      permit = owed.permit;
      first = owed.first;
      handed = let h = owed.handed in record {
        place = h.place;
        entry = h.entry;
        before = omega arith;
        here = h.here;
        hands = h.hands;
      };
    }

    -- what the entry hands out is owed after it
    pub IsOwed-handed : (ending : ℕ) (permit : PermitFacts) → handed_out number entry ≡ Some permit
        → IsFirstEnding entries ending permit → IsOwed entries (number + 1) ending
    IsOwed-handed ending permit hands first = record {
      permit = permit;
      first = first;
      handed = record {
        place = number;
        entry = entry;
        before = omega arith;
        here = here;
        hands = hands;
      };
    }

    -- and nothing else
    pub IsOwed-cases : (ending : ℕ) → IsOwed entries (number + 1) ending
        → IsOwed entries number ending
        ⊎ ((permit : PermitFacts) × (handed_out number entry ≡ Some permit)
        × IsFirstEnding entries ending permit)
    IsOwed-cases ending owed =
        let h = owed.handed in
        elim (cases_lt h.place number) [
          | inl earlier ↦ inl (record {
            permit = owed.permit;
            first = owed.first;
            handed = record {
              place = h.place;
              entry = h.entry;
              before = earlier;
              here = h.here;
              hands = h.hands;
            };
          })
          | inr late ↦
              let there : h.place ≡ number = omega (arith, late, h.before) in
              let same : h.entry ≡ entry =
              same_Some h.entry entry (sym h.here ∙ ap (slice_get entries) there ∙ here) in
              inr (
                owed.permit,
                ap (λ (n : ℕ). handed_out n entry) (sym there)
                    ∙ ap (handed_out h.place) (sym same) ∙ h.hands,
                owed.first,
              )
        ]

    -- where the entry hands out nothing that has an ending, the same is owed
    pub AreOwed-same : (owed : List Bool)
        → ((permit : PermitFacts) → handed_out number entry ≡ Some permit → (ending : ℕ)
        → ¬ IsFirstEnding entries ending permit)
        → AreOwed entries number owed → AreOwed entries (number + 1) owed
    AreOwed-same owed none are = record {
      long = are.long;
      at = λ ending. (
        λ marked. IsOwed-later ending ((are.at ending).0 marked),
        λ later.
            elim (IsOwed-cases ending later) [
              | inl before ↦ (are.at ending).1 before
              | inr new ↦ absurd (none new.0 new.1 ending new.2)
            ],
      );
    }

    -- else the ending of what it hands out, too
    pub AreOwed-marked : (owed : List Bool) (permit : PermitFacts) (marked : ℕ)
        → handed_out number entry ≡ Some permit → IsFirstEnding entries marked permit
        → AreOwed entries number owed → AreOwed entries (number + 1) (set owed marked true)
    AreOwed-marked owed permit marked hands first are =
        let within : marked < length owed =
        omega (arith, are.long, slice_get_within entries marked first.entry first.here) in
        record {
          long = length-set owed marked true ∙ are.long;
          at = λ ending. elim (cases_eq ending marked) [
            | inl there ↦ (
              λ _. subst (IsOwed entries (number + 1)) (sym there)
                  (IsOwed-handed marked permit hands first),
              λ _.
                  ap (λ (n : ℕ). get_or (set owed marked true) n false) there
                  ∙ get_or-set_same owed marked true false within,
            )
            | inr other ↦
                let kept : get_or (set owed marked true) ending false ≡ get_or owed ending false =
                get_or-set_other owed marked ending true false other in (
                  λ is. IsOwed-later ending ((are.at ending).0 (sym kept ∙ is)),
                  λ later. kept ∙
                      elim (IsOwed-cases ending later) [
                        | inl before ↦ (are.at ending).1 before
                        | inr new ↦
                            let same : new.0 ≡ permit =
                            same_Some new.0 permit (sym new.1 ∙ hands) in
                            absurd
                            (other
                            (same_ending permit ending marked
                            (subst (IsFirstEnding entries ending) same new.2) first))
                      ],
                )
          ];
        }

-- the walk down the entries that notes endings: at each number stands the first of those so far
-- that names it
pub record AreNoted (entries : List Entry) (endings : List ℕ) (number : ℕ) : Type 0 where
  pub long : length endings ≡ length entries
  pub at : (named : ℕ) → named < length entries
      → get_or endings named 0 ≡ number + position_or_len (ends named) (drop number entries)

module _ (entries : List Entry) (endings : List ℕ) (number : ℕ) (d : Entry)
    (within : number < length entries) (noted : AreNoted entries endings (number + 1)) where
  -- an entry that doesn't end this number
  passed_over : (named : ℕ) → named < length entries → ends named (get_or entries number d) ≡ false
      → get_or endings named 0 ≡ number + position_or_len (ends named) (drop number entries)
  passed_over named below other =
      let next : position_or_len (ends named) (drop number entries)
      ≡ 1 + position_or_len (ends named) (drop (number + 1) entries) =
      prefix_len-drop_yes (λ e. not (ends named e)) entries number d within (ap not other) in
      omega (arith, noted.at named below, next)

  pub AreNoted-none : ended (get_or entries number d) ≡ None → AreNoted entries endings number
  AreNoted-none none = record {
    long = noted.long;
    at = λ named below. passed_over named below (ap (is_of named) none);
  }

  pub AreNoted-ending : (permit : PermitFacts) → ended (get_or entries number d) ≡ Some permit
      → AreNoted entries (set endings permit.number number) number
  AreNoted-ending permit own = record {
    long = length-set endings permit.number number ∙ noted.long;
    at = λ named below. elim (cases_eq named permit.number) [
      | inl same ↦
          let here : position_or_len (ends named) (drop number entries) ≡ 0 =
          prefix_len-drop_no (λ e. not (ends named e)) entries number d within
          (ap not
          (ap (λ (n : ℕ). ends n (get_or entries number d)) same
          ∙ ends-own (get_or entries number d) permit own)) in
          let set_here : get_or (set endings permit.number number) named 0 ≡ number =
          ap (λ (n : ℕ). get_or (set endings permit.number number) n 0) same
          ∙ get_or-set_same endings permit.number number 0 (omega (arith, noted.long, same)) in
          omega (arith, here, set_here)
      | inr other ↦
          let differs : (permit.number == named) ≡ false = grind (arith, nat_tests) in
          get_or-set_other endings permit.number named number 0 other
          ∙ passed_over named below (ap (is_of named) own ∙ differs)
    ];
  }
