-- The turns of a worker.
use Rattle.std.specs.Prelude.{◌≡◌, ◌≤◌, ◌+◌, ℕ, Bool, true, false, List, [], ◌∷◌, ◌++◌, length}
use Rattle.std.specs.Prelude.{Option}
use Rattle.counted_io.specs.Count.{raised}
use Rattle.client_tokens.specs.Roll.{Roll, RollsOn, Seen}
use Rattle.handling.specs.Visits.{Client, Event, Opened, Missed, Closed, Kept, Follows, IsUnwritten}
use Rattle.handling.specs.Visits.{Visits, Waits}
use Rattle.proxy.specs.declared.told.Exchange.{Exchange}
use Rattle.proxy.specs.Exchanges.{Bytes, Policy}
use Rattle.proxy.specs.Made.{is_kept}
use Rattle.serving.specs.declared.working.TurnCounts.{TurnCounts}
use Rattle.serving.specs.Served.{Back, IsServed, policy_for}

-- a turn: nobody was to be had; or a client as it came, as it was left, and what is told of it: it
-- was let go, or kept
pub data Turn : Type 0 where
  Missing : Turn
  Ending : Client → Client → Exchange → Turn
  Keeping : Client → Client → Exchange → Turn

-- how many exchanges there were, and how often nobody came
abbrev pub served : List Turn → ℕ
served [] = 0
served (Missing ∷ turns) = served turns
served (Ending before behind told ∷ turns) = served turns + 1
served (Keeping before behind told ∷ turns) = served turns + 1

abbrev pub missed : List Turn → ℕ
missed [] = 0
missed (Missing ∷ turns) = missed turns + 1
missed (Ending before behind told ∷ turns) = missed turns
missed (Keeping before behind told ∷ turns) = missed turns

-- what a door shows of the turns: each client is let go or kept before the next one is asked for
abbrev pub events_of : List Turn → List (Event Exchange)
events_of [] = []
events_of (Missing ∷ turns) = Missed ∷ events_of turns
events_of (Ending before behind told ∷ turns) =
    Opened before ∷ Closed behind.written told ∷ events_of turns
events_of (Keeping before behind told ∷ turns) =
    Opened before ∷ Kept behind told ∷ events_of turns

-- a client of a turn, as the ends of its connection tell
abbrev pub seen : Client → Seen
seen client = record { sent = client.sent; written = client.written }

-- the clients of turns as they came, and as they were left
abbrev pub came_in : List Turn → List Seen
came_in [] = []
came_in (Missing ∷ turns) = came_in turns
came_in (Ending before behind told ∷ turns) = seen before ∷ came_in turns
came_in (Keeping before behind told ∷ turns) = seen before ∷ came_in turns

abbrev pub left_in : List Turn → List Seen
left_in [] = []
left_in (Missing ∷ turns) = left_in turns
left_in (Ending before behind told ∷ turns) = seen behind ∷ left_in turns
left_in (Keeping before behind told ∷ turns) = seen behind ∷ left_in turns

-- who was given and left by a token: those of the turns more, and nobody else
abbrev pub Rolls : List Turn → Option Roll → Option Roll → Type 0
Rolls turns old new = RollsOn old new (λ o n.
    (n.came ≡ o.came ++ came_in turns) × (n.left ≡ o.left ++ left_in turns))

-- WHO WAITS: each who comes was the first of those who waited, as it was left, and one who is kept
-- waits again with what it has yet to send; nobody else comes or goes
abbrev pub Wait : List Turn → List Client → List Client → Type 0
Wait [] old new = new ≡ old
Wait (Missing ∷ turns) old new = Wait turns old new
Wait (Ending before behind told ∷ turns) old new =
    (rest : List Client) × (old ≡ before ∷ rest) × Wait turns rest new
Wait (Keeping before behind told ∷ turns) old new =
    (rest : List Client) × (mid : List Client) × (old ≡ before ∷ rest) × Waits behind rest mid
    × Wait turns mid new

-- an exchange for a client who came where it is served, and to whom nothing had been written,
-- unless it had been kept: only then its request is a later one
pub record IsTurn (p : Policy) (came : Bytes → Type 0) (before behind : Client) (old new : Back)
    (told : Exchange) : Type 0 where
  pub unwritten : IsUnwritten before
  pub served : IsServed (policy_for p before.is_kept) before.sent before.written behind.sent
      behind.written old new told
  pub comes : came before.sent

-- THE EXCHANGES: one for each client that came, in order, and nothing else is asked of the gate, or
-- forwarded; who was told so is kept, and nobody else
abbrev pub AreServed : Policy → (Bytes → Type 0) → List Turn → Back → Back → Type 0
AreServed p came [] old new = new ≡ old
AreServed p came (Missing ∷ turns) old new = AreServed p came turns old new
AreServed p came (Ending before behind told ∷ turns) old new =
    (mid : Back) × IsTurn p came before behind old mid told × (is_kept told ≡ false)
    × AreServed p came turns mid new
AreServed p came (Keeping before behind told ∷ turns) old new =
    (mid : Back) × IsTurn p came before behind old mid told × (is_kept told ≡ true)
    × AreServed p came turns mid new

-- what a worker finds and leaves: its door's counts, whether that was found closed, what it shows,
-- who was given and left there, where that is known, and what stands behind the worker
pub record Place : Type 0 where
  pub given : ℕ
  pub failed : ℕ
  pub closed : Bool
  pub visits : Option (Visits Exchange)
  pub roll : Option Roll
  pub back : Back

-- what it finds or leaves at a door, a port and a backend, by what these show
abbrev pub place_of : {A P B : Type 0} → (A → ℕ) → (A → ℕ) → (A → Bool)
    → (A → Option (Visits Exchange)) → (A → Option Roll) → (P → B → Back) → A → P → B → Place
place_of given failed closed visits roll back door port backend = record {
  given = given door;
  failed = failed door;
  closed = closed door;
  visits = visits door;
  roll = roll door;
  back = back port backend;
}

-- a door's counts after the turns; each stays at its greatest value
abbrev pub given_by : List Turn → ℕ → ℕ
given_by [] n = n
given_by (Missing ∷ turns) n = given_by turns n
given_by (Ending before behind told ∷ turns) n = given_by turns (raised n)
given_by (Keeping before behind told ∷ turns) n = given_by turns (raised n)

abbrev pub failed_by : List Turn → ℕ → ℕ
failed_by [] n = n
failed_by (Missing ∷ turns) n = failed_by turns (raised n)
failed_by (Ending before behind told ∷ turns) n = failed_by turns n
failed_by (Keeping before behind told ∷ turns) n = failed_by turns n

-- what a door shows that shows its visits: these came, and this happened
abbrev pub Shows : List Turn → Option (Visits Exchange) → Option (Visits Exchange) → Type 0
Shows turns old new = Follows old new (λ o n.
    Wait turns o.waiting n.waiting × (n.log ≡ o.log ++ events_of turns))

-- TAKEN: the turns, as they are tallied, as the door counts, shows and lists them, and as they are
-- served
pub record AreTaken (p : Policy) (came : Bytes → Type 0) (turns : List Turn) (old new : Place)
    (tally : TurnCounts) : Type 0 where
  pub accepted : tally.accepted ≡ served turns
  pub unaccepted : tally.unaccepted ≡ missed turns
  pub given : new.given ≡ given_by turns old.given
  pub failed : new.failed ≡ failed_by turns old.failed
  pub exchanges : AreServed p came turns old.back new.back
  pub shown : Shows turns old.visits new.visits
  pub rolled : Rolls turns old.roll new.roll

-- A RUN of so many turns, or of fewer where the door was found closed, and then it was shut
pub record IsRun (p : Policy) (came : Bytes → Type 0) (Shut : Type 0) (most : ℕ)
    (old new : Place) (tally : TurnCounts) : Type 0 where
  pub turns : List Turn
  pub taken : AreTaken p came turns old new tally
  pub few : length turns ≤ most
  pub whole : new.closed ≡ false → length turns ≡ most
  pub shut : new.closed ≡ true → old.closed ≡ false → Shut
