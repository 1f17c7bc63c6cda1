-- An audit has one verdict.
use Rattle.std.proofs.Common.{◌≡◌, ℕ, ◌<◌, ◌≤◌, false, List, sym, ap, ◌∙◌, subst, refl, arith, inl, inr}
use Rattle.std.specs.Prelude.{Vec}
use Rattle.std.specs.declared.alloc.Global.{Global}
use Rattle.std.proofs.lemmas.Bool.{cases_order, true≢false}
use Rattle.std.proofs.lemmas.Option.{same_Some}
use Rattle.audit.specs.declared.cause.Cause.{Cause}
use Rattle.audit.specs.declared.cause.Cause.TheVariants.{Memory, PassesMissing, Rolled, Strange, Order, Uncovered, Unmatched}
use Rattle.audit.specs.Firsts.{EachHas, IsFirstWithout, AllPlacesHave, IsFirstPlaceWithout}
use Rattle.audit.specs.Receipts.{StandsIn, IsInOrderIn, IsCovered, all_kept}
use Rattle.audit.specs.Permits.{IsMatched}
use Rattle.audit.specs.Verdict.{Audit, HasAllPasses, IsWhole, AllStand, AllAreInOrder, AllAreCovered, AllAreMatched, NoneApplies, IsFirstCause, is_memory, HasOneVerdict}

-- where each item has the property, none is the first without it
no_first : {X : Type 0} (P : ℕ → X → Type 0) (xs : List X) (n : ℕ) → IsFirstWithout P xs n
    → ¬ EachHas P xs
no_first P xs n first each = first.lacks (each n first.item first.here)

no_first_place : {X : Type 0} (P : ℕ → List X → ℕ → X → Type 0) (lists : List (Vec X Global))
    (n place : ℕ) → IsFirstPlaceWithout P lists n place → ¬ AllPlacesHave P lists
no_first_place P lists n place first each =
    no_first (P n first.list.items) first.list.items place first.item (each n first.list first.here)

-- there is one first
one_first : {X : Type 0} (P : ℕ → X → Type 0) (xs : List X) (m n : ℕ) → IsFirstWithout P xs m
    → IsFirstWithout P xs n → m ≡ n
one_first P xs m n one other = elim (cases_order m n) [
  | inl same ↦ same
  | inr apart ↦ elim apart [
    | inl less ↦ absurd (one.lacks (other.before m one.item less one.here))
    | inr more ↦ absurd (other.lacks (one.before n other.item more other.here))
  ]
]

one_list : {X : Type 0} (P : ℕ → List X → ℕ → X → Type 0) (lists : List (Vec X Global))
    (m p n q : ℕ) → IsFirstPlaceWithout P lists m p → IsFirstPlaceWithout P lists n q → m ≡ n
one_list P lists m p n q one other = elim (cases_order m n) [
  | inl same ↦ same
  | inr apart ↦ elim apart [
    | inl less ↦
        absurd
        (no_first (P m one.list.items) one.list.items p one.item
        (other.before m one.list less one.here))
    | inr more ↦
        absurd
        (no_first (P n other.list.items) other.list.items q other.item
        (one.before n other.list more other.here))
  ]
]

one_place : {X : Type 0} (P : ℕ → List X → ℕ → X → Type 0) (lists : List (Vec X Global)) (m p q : ℕ)
    → IsFirstPlaceWithout P lists m p → IsFirstPlaceWithout P lists m q → p ≡ q
one_place {X} P lists m p q one other =
    let same : other.list ≡ one.list = same_Some other.list one.list (sym other.here ∙ one.here) in
    one_first (P m one.list.items) one.list.items p q one.item
    (subst (λ (v : Vec X Global). IsFirstWithout (P m v.items) v.items q) same other.item)

-- the place of a cause in their order
abbrev rank : Cause → ℕ
rank Memory = 0
rank (PassesMissing book sum) = 1
rank (Rolled base) = 2
rank (Strange list place) = 3
rank (Order list place) = 4
rank (Uncovered number) = 5
rank (Unmatched number) = 6

rank_below : (cause : Cause) → rank cause < 7
rank_below Memory = omega arith
rank_below (PassesMissing book sum) = omega arith
rank_below (Rolled base) = omega arith
rank_below (Strange list place) = omega arith
rank_below (Order list place) = omega arith
rank_below (Uncovered number) = omega arith
rank_below (Unmatched number) = omega arith

-- what is asked before that place
record HoldsBefore (a : Audit) (n : ℕ) : Type 0 where
  passes : 1 < n → HasAllPasses a
  whole : 2 < n → IsWhole a
  stand : 3 < n → AllStand a
  ordered : 4 < n → AllAreInOrder a
  covered : 5 < n → AllAreCovered a
  matched : 6 < n → AllAreMatched a

-- what is asked from that place on isn't
too_far : {P : Type 0} (m n : ℕ) → n ≤ m → m < n → P
too_far m n above below = absurd (omega (arith, above, below))

holds_before : (a : Audit) (cause : Cause) → IsFirstCause a cause → HoldsBefore a (rank cause)
holds_before a Memory first = record {
  passes = too_far 1 0 (omega arith);
  whole = too_far 2 0 (omega arith);
  stand = too_far 3 0 (omega arith);
  ordered = too_far 4 0 (omega arith);
  covered = too_far 5 0 (omega arith);
  matched = too_far 6 0 (omega arith);
}
holds_before a (PassesMissing book sum) first = record {
  passes = too_far 1 1 (omega arith);
  whole = too_far 2 1 (omega arith);
  stand = too_far 3 1 (omega arith);
  ordered = too_far 4 1 (omega arith);
  covered = too_far 5 1 (omega arith);
  matched = too_far 6 1 (omega arith);
}
holds_before a (Rolled base) first = record {
  passes = λ _. first.0;
  whole = too_far 2 2 (omega arith);
  stand = too_far 3 2 (omega arith);
  ordered = too_far 4 2 (omega arith);
  covered = too_far 5 2 (omega arith);
  matched = too_far 6 2 (omega arith);
}
holds_before a (Strange list place) first = record {
  passes = λ _. first.0;
  whole = λ _. first.1;
  stand = too_far 3 3 (omega arith);
  ordered = too_far 4 3 (omega arith);
  covered = too_far 5 3 (omega arith);
  matched = too_far 6 3 (omega arith);
}
holds_before a (Order list place) first = record {
  passes = λ _. first.0;
  whole = λ _. first.1;
  stand = λ _. first.2;
  ordered = too_far 4 4 (omega arith);
  covered = too_far 5 4 (omega arith);
  matched = too_far 6 4 (omega arith);
}
holds_before a (Uncovered number) first = record {
  passes = λ _. first.0;
  whole = λ _. first.1;
  stand = λ _. first.2;
  ordered = λ _. first.3;
  covered = too_far 5 5 (omega arith);
  matched = too_far 6 5 (omega arith);
}
holds_before a (Unmatched number) first = record {
  passes = λ _. first.0;
  whole = λ _. first.1;
  stand = λ _. first.2;
  ordered = λ _. first.3;
  covered = λ _. first.4;
  matched = too_far 6 6 (omega arith);
}

holds_all : (a : Audit) → NoneApplies a → HoldsBefore a 7
holds_all a none = record {
  passes = λ _. none.passes;
  whole = λ _. none.whole;
  stand = λ _. none.stand;
  ordered = λ _. none.ordered;
  covered = λ _. none.covered;
  matched = λ _. none.matched;
}

-- a cause doesn't apply where what it denies holds
clash : (a : Audit) (cause : Cause) (n : ℕ) → is_memory cause ≡ false → IsFirstCause a cause
    → rank cause < n → HoldsBefore a n → ⊥
clash a Memory n other first less holds = true≢false other
clash a (PassesMissing book sum) n other first less holds =
    first.2 (first.0 ∙ holds.passes less ∙ sym first.1)
clash a (Rolled base) n other first less holds = first.2 (first.1 ∙ holds.whole less)
clash a (Strange list place) n other first less holds =
    no_first_place (StandsIn a.entries a.kept) a.kept list place first.2 (holds.stand less)
clash a (Order list place) n other first less holds =
    no_first_place IsInOrderIn a.kept list place first.3 (holds.ordered less)
clash a (Uncovered number) n other first less holds =
    no_first (IsCovered (all_kept a.kept)) a.entries number first.4 (holds.covered less)
clash a (Unmatched number) n other first less holds =
    no_first (IsMatched a.entries) a.entries number first.5 (holds.matched less)

-- two first causes of one rank are one
same_rank : (a : Audit) (one other : Cause) → rank one ≡ rank other → IsFirstCause a one
    → IsFirstCause a other → one ≡ other
same_rank a Memory Memory ranks first second = refl
same_rank a (PassesMissing b s) (PassesMissing c t) ranks first second =
    ap (λ (n : ℕ). PassesMissing n s) (first.0 ∙ sym second.0)
    ∙ ap (λ (n : ℕ). PassesMissing c n) (first.1 ∙ sym second.1)
same_rank a (Rolled b) (Rolled c) ranks first second =
    ap (λ (n : ℕ). Rolled n) (first.1 ∙ sym second.1)
same_rank a (Strange m p) (Strange n q) ranks first second =
    let P = StandsIn a.entries a.kept in
    let list : m ≡ n = one_list P a.kept m p n q first.2 second.2 in
    let place : p ≡ q =
    one_place P a.kept m p q first.2
    (subst (λ (k : ℕ). IsFirstPlaceWithout P a.kept k q) (sym list) second.2) in
    ap (λ (k : ℕ). Strange k p) list ∙ ap (λ (k : ℕ). Strange n k) place
same_rank a (Order m p) (Order n q) ranks first second =
    let list : m ≡ n = one_list IsInOrderIn a.kept m p n q first.3 second.3 in
    let place : p ≡ q =
    one_place IsInOrderIn a.kept m p q first.3
    (subst (λ (k : ℕ). IsFirstPlaceWithout IsInOrderIn a.kept k q) (sym list) second.3) in
    ap (λ (k : ℕ). Order k p) list ∙ ap (λ (k : ℕ). Order n k) place
same_rank a (Uncovered m) (Uncovered n) ranks first second =
    ap (λ (k : ℕ). Uncovered k)
    (one_first (IsCovered (all_kept a.kept)) a.entries m n first.4 second.4)
same_rank a (Unmatched m) (Unmatched n) ranks first second =
    ap (λ (k : ℕ). Unmatched k) (one_first (IsMatched a.entries) a.entries m n first.5 second.5)
same_rank a one other ranks first second = absurd (omega (arith, ranks))

pub HasOneVerdict-any : (a : Audit) → HasOneVerdict a
HasOneVerdict-any a = record {
  cause = λ one other real also first second. elim (cases_order (rank one) (rank other)) [
    | inl same ↦ same_rank a one other same first second
    | inr apart ↦ elim apart [
      | inl less ↦ absurd (clash a one (rank other) real first less (holds_before a other second))
      | inr more ↦ absurd (clash a other (rank one) also second more (holds_before a one first))
    ]
  ];
  none = λ cause real none first. clash a cause 7 real first (rank_below cause) (holds_all a none);
}
