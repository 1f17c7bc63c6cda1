-- What a row of passes knows.
use Rattle.std.proofs.Common.{◌≡◌, ◌≢◌, ℕ, zero, suc, ◌+◌, ◌<◌, List, [], ◌∷◌, length, get_or, set}
use Rattle.std.proofs.Common.{◌++◌, All, refl, ap, sym, ◌∙◌, subst, arith}
use Rattle.std.proofs.lemmas.List.Elements.{All-nil}
use mathlib.Core.List.{IsPrefix}
use mathlib.Core.Logic.{dite}
use native.Mathlib.Decide.{ℕ_discrete}
use Rattle.limiter_core.specs.declared.event.Entry.{Entry}
use Rattle.shared_gate.specs.Calls.{Pass}
use Rattle.lemmas.proofs.Lists.{prefix_trans}

pub set_same : {A : Type 0} (l : List A) (i : ℕ) (a : A) → i < length l → a ≡ get_or l i a
    → set l i a ≡ l
set_same [] i a h e = refl
set_same (x ∷ xs) zero a h e = ap (λ y. y ∷ xs) e
set_same (x ∷ xs) (suc i) a h e = ap (λ ys. x ∷ ys) (set_same xs i a (omega arith) e)

get_any : {A : Type 0} (l : List A) (i : ℕ) (d e : A) → i < length l → get_or l i d ≡ get_or l i e
get_any [] i d e h = absurd (omega arith)
get_any (x ∷ xs) zero d e h = refl
get_any (x ∷ xs) (suc i) d e h = get_any xs i d e (omega arith)

-- a fact of each of a list that has one more in front, or behind
module _ {A : Type 0} (P : A → Type 0) where
  all_more : (r : A) (rs : List A) → P r → All P rs → All P (r ∷ rs)
  all_more r rs p all zero d k = p
  all_more r rs p all (suc j) d k = all j d (omega arith)

  pub all_behind : (rs : List A) (r : A) → All P rs → P r → All P (rs ++ r ∷ [])
  all_behind [] r all p = all_more r [] p (All-nil P)
  all_behind (x ∷ rs) r all p = all_more x (rs ++ r ∷ []) (all 0 x (omega arith))
      (all_behind rs r (λ j d k. all (suc j) d (omega arith)) p)

-- what begins with all so far, and with the next, begins with one more
pub gathers : (items : List Pass) (i : ℕ) (p q : List Entry) (one : Pass) → i < length items
    → one ≡ get_or items i one
    → ((k : ℕ) (d : Pass) → k < i → IsPrefix (get_or items k d).log p)
    → IsPrefix p q → IsPrefix one.log q
    → (k : ℕ) (d : Pass) → k < i + 1 → IsPrefix (get_or items k d).log q
gathers items i p q one within is all up here k d below =
    dite (ℕ_discrete k i)
    (λ (e : k ≡ i).
    subst (λ (j : ℕ). IsPrefix (get_or items j d).log q) (sym e)
    (subst (λ (x : Pass). IsPrefix x.log q) (is ∙ get_any items i one d within) here))
    (λ (ne : k ≢ i).
    prefix_trans (get_or items k d).log p q (all k d (omega arith)) up)
