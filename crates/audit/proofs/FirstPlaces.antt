-- A walk over a list, item by item, until one lacks a property.
use Rattle.std.proofs.Common.{◌≡◌, ℕ, zero, suc, [], ◌∷◌, ◌+◌, ◌<◌, List, Some, length, get_or, sym, ap, ◌∙◌, subst, arith, refl}
use Rattle.std.specs.Prelude.{slice_get, Vec}
use Rattle.std.specs.declared.alloc.Global.{Global}
use Rattle.std.proofs.lemmas.Option.{slice_get-get_or}
use Rattle.lemmas.proofs.Walks.{EachBefore, EachBefore-more}
use Rattle.audit.specs.Firsts.{EachHas, IsFirstWithout, IsFirstPlaceWithout}

-- or to the first item that lacks it
pub stops : {X : Type 0} (P : ℕ → X → Type 0) (xs : List X) (n : ℕ) (d : X) → n < length xs
    → EachBefore P xs n → ¬ P n (get_or xs n d) → IsFirstWithout P xs n
stops P xs n d within before lacks = record {
  item = get_or xs n d;
  here = slice_get-get_or xs n d within;
  lacks = lacks;
  before = before;
}

-- the item of a place
pub item_at : {X : Type 0} (xs : List X) (n : ℕ) → n < length xs
    → (x : X) × (slice_get xs n ≡ Some x)
item_at [] n within = absurd (omega (arith, within))
item_at (x ∷ xs) zero within = (x, refl)
item_at (x ∷ xs) (suc n) within = item_at xs n (omega (arith, within))

-- the walk stops, where no item of this place has the property
pub stops_there : {X : Type 0} (P : ℕ → X → Type 0) (xs : List X) (n : ℕ) → n < length xs
    → EachBefore P xs n → ((x : X) → slice_get xs n ≡ Some x → ¬ P n x) → IsFirstWithout P xs n
stops_there P xs n within before lacks = let there = item_at xs n within in record {
  item = there.0;
  here = there.1;
  lacks = lacks there.0 there.1;
  before = before;
}

-- the items of each list before this one have the property
abbrev pub ListsBefore : {X : Type 0} → (ℕ → List X → ℕ → X → Type 0) → List (Vec X Global) → ℕ
    → Type 0
ListsBefore P lists n = EachBefore (λ number list. EachHas (P number list.items) list.items) lists n

-- the list that was read is the one of this number, and what was looked at are its items
pub record IsRead {X : Type 0} (lists : List (Vec X Global)) (n : ℕ) (list : Vec X Global)
    (items : List X) : Type 0 where
  pub within : n < length lists
  pub here : list ≡ get_or lists n list
  pub shown : items ≡ list.items

-- and so have its items
pub ListsBefore-more : {X : Type 0} (P : ℕ → List X → ℕ → X → Type 0) (lists : List (Vec X Global))
    (n : ℕ) (list : Vec X Global) (items : List X)
    → IsRead lists n list items → ListsBefore P lists n → EachHas (P n items) items
    → ListsBefore P lists (n + 1)
ListsBefore-more {X} P lists n list items read before has =
    let own : EachHas (P n list.items) list.items =
    subst (λ (xs : List X). EachHas (P n xs) xs) read.shown has in
    EachBefore-more (λ number list. EachHas (P number list.items) list.items) lists n list
    read.within before
    (subst (λ (v : Vec X Global). EachHas (P n v.items) v.items) read.here own)

-- or the walk stops in it
pub stops_in : {X : Type 0} (P : ℕ → List X → ℕ → X → Type 0) (lists : List (Vec X Global)) (n : ℕ)
    (list : Vec X Global) (items : List X) (place : ℕ)
    → IsRead lists n list items → ListsBefore P lists n → IsFirstWithout (P n items) items place
    → IsFirstPlaceWithout P lists n place
stops_in {X} P lists n list items place read before first = record {
  list = list;
  here =
      slice_get-get_or lists n list read.within ∙ ap (λ (v : Vec X Global). Some v) (sym read.here);
  item = subst (λ (xs : List X). IsFirstWithout (P n xs) xs place) read.shown first;
  before = before;
}
