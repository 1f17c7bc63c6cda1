-- What a worker makes of its arrivals.
use Rattle.std.specs.Prelude.{◌≡◌, ◌≢◌, ℕ, ◌+◌, ◌%◌, ◌≤◌, ◌<◌, Bool, not, ◌&&◌, List, [], ◌∷◌}
use Rattle.std.specs.Prelude.{◌++◌, length, All, Option, None, Some}
use Rattle.limit_laws.specs.Facts.{moment}
use Rattle.limiter_core.specs.declared.event.Event.{Event}
use Rattle.limiter_core.specs.declared.event.Event.TheVariants.{Acquire, End, GiveUp}
use Rattle.limiter_core.specs.declared.event.Reply.TheVariants.{Waiting}
use Rattle.limiter_core.specs.declared.event.Entry.TheVariants.{Call}
use Rattle.limiter_core.specs.declared.event.PermitFacts.{PermitFacts}
use Rattle.limiter_core.specs.Open.{handed_out}
use Rattle.gate_ledgers.specs.Receipt.{Told}
use Rattle.gate_history.specs.Refusal.{IsSpent, Refusal}
use Rattle.trace.specs.declared.arrival.Arrival.{Arrival}

-- an arrival waits where it says so and doesn't go past the limit
abbrev pub waits : Arrival → Bool
waits a = a.wait && not a.bypass

-- what it asks at its moment
abbrev pub asked : Arrival → Event
asked a = Acquire a.part a.bypass (waits a) a.at

-- the ending of a permit that an arrival got: its own outcome, after its own duration
abbrev pub ending : Arrival → PermitFacts → Event
ending a permit = End permit a.outcome (moment (permit.start + a.duration))

-- the permit that a call was handed, by its receipt
abbrev pub handed : Told → Option PermitFacts
handed told = handed_out told.number (Call told.event told.reply)

-- these receipts end that permit, and do nothing else
abbrev pub Ends : Arrival → Option PermitFacts → List Told → Type 0
Ends a None ended = ended ≡ []
Ends a (Some permit) ended = (e : Told) × (ended ≡ e ∷ []) × (e.event ≡ ending a permit)

-- this event was asked and refused, since the history was spent
pub record Refuses (e : Event) (refusal : Refusal) : Type 0 where
  pub event : refusal.event ≡ e
  pub spent : IsSpent refusal.held refusal.kept refusal.is_rolling refusal.next

-- THE RECEIPTS AND REFUSALS OF AN ARRIVAL: a refusal of its acquire alone; or the receipt of that,
-- where it waited that of the giving up of its number, or a refusal of this, and where either
-- handed a permit out that of the one ending of this permit
pub data Makes (a : Arrival) : List Told → List Refusal → Type 0 where
  exhausted : (refusal : Refusal) → Refuses (asked a) refusal → Makes a [] (refusal ∷ [])
  at_once : (asks : Told) (ended : List Told) → asks.event ≡ asked a → asks.reply ≢ Waiting
      → Ends a (handed asks) ended → Makes a (asks ∷ ended) []
  gave_up : (asks gives : Told) (ended : List Told) → asks.event ≡ asked a → asks.reply ≡ Waiting
      → gives.event ≡ GiveUp asks.number → Ends a (handed gives) ended
      → Makes a (asks ∷ gives ∷ ended) []
  stuck : (asks : Told) (refusal : Refusal) → asks.event ≡ asked a → asks.reply ≡ Waiting
      → Refuses (GiveUp asks.number) refusal → Makes a (asks ∷ []) (refusal ∷ [])

-- THEY LIE BETWEEN two numbers of the history: each receipt has the first or a greater one, below
-- the second, and so had the entries that each refusal found
pub record LieBetween (from until : ℕ) (told : List Told) (refused : List Refusal) : Type 0 where
  pub receipts : All (λ receipt. (from ≤ receipt.number) × (receipt.number < until)) told
  pub refusals : All (λ refusal. (from ≤ refusal.next) × (refusal.next ≤ until)) refused

-- THE RECEIPTS AND REFUSALS OF A WORKER, one of so many, up to a number of the history: those of
-- each arrival whose place, counted from 0, leaves the worker's number when it is divided by how
-- many there are. They were asked for in their order: those of an arrival lie behind the number
-- that those of the arrivals before it lie in front of
pub data IsWork (workers worker : ℕ) : List Arrival → List Told → List Refusal → ℕ → Type 0 where
  begins : (seen : ℕ) → IsWork workers worker [] [] [] seen
  leaves : (before : List Arrival) (told : List Told) (refused : List Refusal) (seen : ℕ)
      (a : Arrival) → IsWork workers worker before told refused seen
      → length before % workers ≢ worker
      → IsWork workers worker (before ++ a ∷ []) told refused seen
  takes : (before : List Arrival) (told own : List Told) (refused spent : List Refusal)
      (seen until : ℕ) (a : Arrival) → IsWork workers worker before told refused seen
      → length before % workers ≡ worker → Makes a own spent → LieBetween seen until own spent
      → IsWork workers worker (before ++ a ∷ []) (told ++ own) (refused ++ spent) until
