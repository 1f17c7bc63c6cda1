-- What a door shows of its clients.
use Rattle.std.specs.Prelude.{◌≡◌, ℕ, Bool, true, false, List, [], ◌∷◌, ◌++◌}
use Rattle.std.specs.Prelude.{Option, Some, None, ⊤, IfSome}

-- a client between two requests: what it has yet to send, and what was written to it so far, where
-- they are known; and whether it was served before, and kept
pub record Client : Type 0 where
  pub sent : Option (List ℕ)
  pub written : Option (List ℕ)
  pub is_kept : Bool

-- nothing was written to it yet, unless it was served before
abbrev pub IsUnwritten : Client → Type 0
IsUnwritten client = client.is_kept ≡ false → IfSome client.written (λ written. written ≡ [])

-- a client came; none was to be had; the one who came last was let go, and this had been written to
-- it and its request came to this; or it was kept, as it is now
pub data Event (T : Type 0) : Type 0 where
  Opened : Client → Event T
  Missed : Event T
  Closed : Option (List ℕ) → T → Event T
  Kept : Client → T → Event T

-- who waits, new or kept, in the order in which they come, and what happened so far
pub record Visits (T : Type 0) : Type 0 where
  pub waiting : List Client
  pub log : List (Event T)

module _ {T : Type 0} where
  -- a fact of a door before and after: one that shows its visits did so before. It may stop showing
  -- them, as where it has no memory for it
  abbrev pub Follows : Option (Visits T) → Option (Visits T) → (Visits T → Visits T → Type 0)
      → Type 0
  Follows old None P = ⊤
  Follows None (Some new) P = ⊥
  Follows (Some old) (Some new) P = P old new

  abbrev pub Arrives : Option (Visits T) → Option (Visits T) → Client → Type 0
  Arrives old new client = Follows old new (λ o n.
      (o.waiting ≡ client ∷ n.waiting) × (n.log ≡ o.log ++ Opened client ∷ []))

  abbrev pub Misses : Option (Visits T) → Option (Visits T) → Type 0
  Misses old new = Follows old new (λ o n.
      (n.waiting ≡ o.waiting) × (n.log ≡ o.log ++ Missed ∷ []))

  abbrev pub Closes : Option (Visits T) → Option (Visits T) → Client → T → Type 0
  Closes old new client told = Follows old new (λ o n.
      (n.waiting ≡ o.waiting) × (n.log ≡ o.log ++ Closed client.written told ∷ []))

-- it waits again, wherever among the others
pub record Waits (client : Client) (old new : List Client) : Type 0 where
  pub before : List Client
  pub behind : List Client
  pub was : old ≡ before ++ behind
  pub is : new ≡ before ++ client ∷ behind

module _ {T : Type 0} where
  abbrev pub Keeps : Option (Visits T) → Option (Visits T) → Client → T → Type 0
  Keeps old new client told = Follows old new (λ o n.
      Waits client o.waiting n.waiting × (n.log ≡ o.log ++ Kept client told ∷ []))

  -- it waits again where it is kept, and else it is let go
  abbrev pub LeavesBy : Bool → Option (Visits T) → Option (Visits T) → Client → T → Type 0
  LeavesBy true old new client told = Keeps old new client told
  LeavesBy false old new client told = Closes old new client told

  -- by what its request came to
  abbrev pub Leaves : (T → Bool) → Option (Visits T) → Option (Visits T) → Client → T → Type 0
  Leaves kept old new client told = LeavesBy (kept told) old new client told
