-- The first item that lacks a property, in a list and in lists.
use Rattle.std.specs.Prelude.{◌≡◌, ℕ, ◌<◌, List, Some, slice_get, Vec}
use Rattle.std.specs.declared.alloc.Global.{Global}

-- each item of a list has the property, which may look at the item's place
abbrev pub EachHas : {X : Type 0} → (ℕ → X → Type 0) → List X → Type 0
EachHas {X} P xs = (n : ℕ) (x : X) → slice_get xs n ≡ Some x → P n x

-- the item at this place lacks the property, and each before it has it
pub record IsFirstWithout {X : Type 0} (P : ℕ → X → Type 0) (xs : List X) (n : ℕ) : Type 0 where
  pub item : X
  pub here : slice_get xs n ≡ Some item
  pub lacks : ¬ P n item
  pub before : (m : ℕ) (x : X) → m < n → slice_get xs m ≡ Some x → P m x

-- each item of each list has the property
abbrev pub AllPlacesHave : {X : Type 0} → (ℕ → List X → ℕ → X → Type 0) → List (Vec X Global)
    → Type 0
AllPlacesHave P lists = EachHas (λ number list. EachHas (P number list.items) list.items) lists

-- the item at this place of this list lacks the property, and each in an earlier list or at an
-- earlier place has it
pub record IsFirstPlaceWithout {X : Type 0} (P : ℕ → List X → ℕ → X → Type 0)
    (lists : List (Vec X Global)) (number place : ℕ) : Type 0 where
  pub list : Vec X Global
  pub here : slice_get lists number ≡ Some list
  pub item : IsFirstWithout (P number list.items) list.items place
  pub before : (m : ℕ) (earlier : Vec X Global) → m < number → slice_get lists m ≡ Some earlier
      → EachHas (P m earlier.items) earlier.items
