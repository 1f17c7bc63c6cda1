-- Who is on a roll behind one turn more.
use Rattle.std.proofs.Common.{◌≡◌, ◌∙◌, List, [], ◌∷◌, ◌++◌, Option, None, Some, ap, sym, refl}
use Rattle.std.proofs.Common.{append_assoc, append-nil}
use Rattle.client_tokens.specs.Roll.{Comes, Goes, Roll, RollsOn, Seen, Stays}
use Rattle.handling.specs.Visits.{Client}
use Rattle.serving.specs.Turns.{Ending, Keeping, Missing, Rolls, Turn, came_in, left_in, seen}

came_more : (ts : List Turn) (t : Turn) → came_in (ts ++ t ∷ []) ≡ came_in ts ++ came_in (t ∷ [])
came_more [] t = refl
came_more (Missing ∷ ts) t = came_more ts t
came_more (Ending before behind told ∷ ts) t =
    ap (λ (xs : List Seen). seen before ∷ xs) (came_more ts t)
came_more (Keeping before behind told ∷ ts) t =
    ap (λ (xs : List Seen). seen before ∷ xs) (came_more ts t)

left_more : (ts : List Turn) (t : Turn) → left_in (ts ++ t ∷ []) ≡ left_in ts ++ left_in (t ∷ [])
left_more [] t = refl
left_more (Missing ∷ ts) t = left_more ts t
left_more (Ending before behind told ∷ ts) t =
    ap (λ (xs : List Seen). seen behind ∷ xs) (left_more ts t)
left_more (Keeping before behind told ∷ ts) t =
    ap (λ (xs : List Seen). seen behind ∷ xs) (left_more ts t)

-- a fact of a roll behind another one
rolls_on : (P Q R : Roll → Roll → Type 0) (old mid new : Option Roll) → RollsOn old mid P
    → RollsOn mid new Q → ((o m n : Roll) → P o m → Q m n → R o n) → RollsOn old new R
rolls_on P Q R None mid None p q joined = tt
rolls_on P Q R (Some o) mid None p q joined = tt
rolls_on P Q R None None (Some n) p q joined = absurd q
rolls_on P Q R None (Some m) (Some n) p q joined = absurd p
rolls_on P Q R (Some o) None (Some n) p q joined = absurd q
rolls_on P Q R (Some o) (Some m) (Some n) p q joined = joined o m n p q

pub all_rolled : (ts : List Turn) (t : Turn) (old mid new : Option Roll) → Rolls ts old mid
    → Rolls (t ∷ []) mid new → Rolls (ts ++ t ∷ []) old new
all_rolled ts t old mid new p q =
    rolls_on _ _ _ old mid new p q (λ o m n before one. (
      one.0 ∙ ap (λ (xs : List Seen). xs ++ came_in (t ∷ [])) before.0
          ∙ append_assoc o.came (came_in ts) (came_in (t ∷ []))
          ∙ ap (λ (xs : List Seen). o.came ++ xs) (sym (came_more ts t)),
      one.1 ∙ ap (λ (xs : List Seen). xs ++ left_in (t ∷ [])) before.1
          ∙ append_assoc o.left (left_in ts) (left_in (t ∷ []))
          ∙ ap (λ (xs : List Seen). o.left ++ xs) (sym (left_more ts t)),
    ))

same_rolled : (o n : Roll) → n ≡ o → (n.came ≡ o.came ++ []) × (n.left ≡ o.left ++ [])
same_rolled o n same = (
  ap (λ (it : Roll). it.came) same ∙ sym (append-nil o.came),
  ap (λ (it : Roll). it.left) same ∙ sym (append-nil o.left),
)

pub missing_rolled : (old new : Option Roll) → Stays old new → Rolls (Missing ∷ []) old new
missing_rolled None None p = tt
missing_rolled (Some o) None p = tt
missing_rolled None (Some n) p = absurd p
missing_rolled (Some o) (Some n) p = same_rolled o n p

pub nothing_rolled : (roll : Option Roll) → Rolls [] roll roll
nothing_rolled None = tt
nothing_rolled (Some it) = same_rolled it it refl

-- one came, and was left
pub visit_rolled : (old mid new : Option Roll) (before behind : Client)
    → Comes old mid (seen before)
    → Goes mid new (seen behind)
    → RollsOn old new (λ o n. (n.came ≡ o.came ++ seen before ∷ [])
    × (n.left ≡ o.left ++ seen behind ∷ []))
visit_rolled old mid new before behind p q =
    rolls_on _ _ _ old mid new p q (λ o m n came left. (
      left.0 ∙ came.0,
      left.1 ∙ ap (λ (xs : List Seen). xs ++ seen behind ∷ []) came.1,
    ))
