-- Who was given by a listener, and who was left there.
use Rattle.std.specs.Prelude.{◌≡◌, ℕ, List, [], ◌∷◌, ◌++◌, Option, None, Some, IfSome}

-- a client at one moment: what it has yet to send, and what was written to it so far, where they
-- are known
pub record Seen : Type 0 where
  pub sent : Option (List ℕ)
  pub written : Option (List ℕ)

-- A ROLL: who was given, each as it came, and who was left, each as it was left, in their order
pub record Roll : Type 0 where
  pub came : List Seen
  pub left : List Seen

-- nobody was
abbrev pub nobody : Roll
nobody = record { came = []; left = [] }

-- it is known, and this holds of it
abbrev pub IsKnown : Option Roll → (Roll → Type 0) → Type 0
IsKnown None P = ⊥
IsKnown (Some roll) P = P roll

-- a fact of a roll before and after: one that is known was known before. It may be lost
abbrev pub RollsOn : Option Roll → Option Roll → (Roll → Roll → Type 0) → Type 0
RollsOn old new P = IfSome new (λ n. IsKnown old (λ o. P o n))

-- one more came
abbrev pub Comes : Option Roll → Option Roll → Seen → Type 0
Comes old new client = RollsOn old new (λ o n.
    (n.came ≡ o.came ++ client ∷ []) × (n.left ≡ o.left))

-- one more was left
abbrev pub Goes : Option Roll → Option Roll → Seen → Type 0
Goes old new client = RollsOn old new (λ o n.
    (n.came ≡ o.came) × (n.left ≡ o.left ++ client ∷ []))

-- nobody came or was left
abbrev pub Stays : Option Roll → Option Roll → Type 0
Stays old new = RollsOn old new (λ o n. n ≡ o)

-- two rolls, one behind the other
abbrev pub both : Roll → Roll → Roll
both first second =
    record { came = first.came ++ second.came; left = first.left ++ second.left }

-- one was put behind another
abbrev pub Joins : Option Roll → Option Roll → Option Roll → Type 0
Joins old other new = IfSome new (λ n. IsKnown old (λ o. IsKnown other (λ more. n ≡ both o more)))
