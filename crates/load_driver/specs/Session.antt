-- A session: a journal with the permits that are open in it, kept by number.
use Rattle.std.specs.Prelude.{◌≡◌, ℕ, nat_eq, List, [], ◌∷◌}
use Rattle.std.specs.HashMap.{get, HashMap}
use Rattle.std.specs.Map.{lookup}
use Rattle.std.specs.declared.hash.FoldHasher.{FoldHasher}
use Rattle.std.specs.declared.hash.BuildHasherDefault.{BuildHasherDefault}
use Rattle.limit_laws.specs.Algorithm.{Algorithm}
use Rattle.limiter_core.specs.declared.event.PermitFacts.{PermitFacts}
use Rattle.limiter_core.specs.declared.event.Entry.{Entry}
use Rattle.limiter_core.specs.History.{Image}
use Rattle.limiter_core.specs.Open.{open_permit}
use Rattle.limiter_core.specs.Handed.{IsHanded}
use Rattle.gate_journal.specs.Journal.{Journal, gate}
use Rattle.gate_journal.specs.Rolling.{IsLastStretch}
use Rattle.load_driver.specs.Replay.{Open}

-- a journal, and permits by number
pub record Session (S : Type 0) : Type 0 where
  pub journal : Journal S
  pub permits : List (ℕ × PermitFacts)

-- the open permit of each number
abbrev pub open_in : {S : Type 0} → Session S → Open
open_in s number = lookup (λ n. nat_eq number n) s.permits

-- a journal of which nothing was asked yet: nothing stands in its opening
pub record IsUnasked {S : Type 0} (j : Journal S) : Type 0 where
  pub empty : j.entries ≡ []
  pub base : j.opening.next ≡ 0
  pub idle : j.opening.counts ≡ 0 ∷ 0 ∷ 0 ∷ 0 ∷ 0 ∷ []
  pub nobody_waits : j.opening.waiters ≡ []
  pub none_granted : j.opening.granted ≡ []

abbrev pub Permits : Type 0
Permits = HashMap ℕ PermitFacts (BuildHasherDefault FoldHasher)

-- what a session keeps: its journal is the last stretch of a history, in which the open permits
-- with the granted ones are those in flight, and each open permit is found by its number
pub record IsSession {S : Type 0}
    (rules : Algorithm S) (j : Journal S) (permits : Permits) : Type 0 where
  pub first : Image S
  pub all : List Entry
  pub stretch : IsLastStretch rules first all j
  pub handed : IsHanded (gate rules j) first all
  pub found : (n : ℕ) → get nat_eq permits n ≡ open_permit first.next all n
