-- What the calls of a shared gate tell.
use Rattle.std.specs.Prelude.{◌≡◌, ℕ, ◌+◌, ◌≤◌, ◌<◌, Bool, true, false, Result, Ok, Err}
use Rattle.std.specs.Prelude.{List, [], ◌∷◌, ◌++◌, length}
use mathlib.Core.List.{IsPrefix}
use Rattle.partitions.specs.declared.part.Part.{Part}
use Rattle.limiter_core.specs.declared.event.Event.{Event}
use Rattle.limiter_core.specs.declared.event.Event.TheVariants.{Acquire, End, Claim, GiveUp}
use Rattle.limiter_core.specs.declared.event.Entry.{Entry}
use Rattle.limiter_core.specs.declared.event.Entry.TheVariants.{Call}
use Rattle.limiter_core.specs.declared.event.Outcome.{Outcome}
use Rattle.limiter_core.specs.declared.event.PermitFacts.{PermitFacts}
use Rattle.limiter_core.specs.declared.event.Reply.TheVariants as reply
use Rattle.gate_ledgers.specs.Receipt.{Told}
use Rattle.gate_history.specs.Book.{calls_of}
use Rattle.gate_history.specs.declared.step.Step.{Step}
use Rattle.gate_history.specs.Handing.{Given, given_by, told_of}
use Rattle.gate_history.specs.Refusal.{Refusal}
use Rattle.gate_history.specs.Replies.{Answers, HandsBack, IsOf, IsOwn, WasGranted}
use Rattle.gate_history.specs.declared.answers.Got.{Got}
use Rattle.gate_history.specs.declared.answers.Got.TheVariants as got
use Rattle.shared_gate.specs.declared.answers.Waited.{Waited}
use Rattle.shared_gate.specs.declared.answers.Waited.TheVariants as waited
use Rattle.gate_history.specs.declared.answers.Claimed.{Claimed}
use Rattle.gate_history.specs.declared.answers.Claimed.TheVariants as claimed
use Rattle.gate_history.specs.declared.answers.GaveUp.{GaveUp}
use Rattle.gate_history.specs.declared.answers.GaveUp.TheVariants as gave_up

-- a pass: how many calls were made by it, the beginning of the gate's log that it knows, and the
-- numbers of its calls there, the last one first
pub record Pass : Type 0 where
  pub count : ℕ
  pub log : List Entry
  pub own : List ℕ

-- a number that all entries that it knows of are below
abbrev pub seen_by : Pass → ℕ
seen_by pass = length pass.log

-- a pass that made so many calls, and knows of no entry
abbrev pub pass_of : ℕ → Pass
pass_of count = record { count = count; log = []; own = [] }

-- TOLD: the receipt is of this event; the call is counted on the pass, its number is the pass's
-- own, and no less than the pass's calls before it. Its entry stands at that number, behind all
-- that the pass knew before; only promotions come behind it, and the pass knows all that now
pub record IsTold (before after : Pass) (e : Event) (receipt : Told) : Type 0 where
  pub event : receipt.event ≡ e
  pub counted : after.count ≡ before.count + 1
  pub own : after.own ≡ receipt.number ∷ before.own
  pub ahead : before.count ≤ receipt.number
  pub found : List Entry
  pub promoted : List Entry
  pub begins : IsPrefix before.log found
  pub number : receipt.number ≡ length found
  pub stands : after.log ≡ found ++ Call e receipt.reply ∷ promoted
  pub alone : calls_of promoted ≡ 0
  pub unseen : seen_by before ≤ receipt.number
  pub seen : receipt.number < seen_by after

-- UNTOLD: the refusal is of this event, and no call is counted on the pass. The log had no entry
-- more than the pass knows now, of which it knew a beginning before: the next number is behind them
pub record IsUntold (before after : Pass) (e : Event) (refusal : Refusal) : Type 0 where
  pub event : refusal.event ≡ e
  pub uncounted : after.count ≡ before.count
  pub own : after.own ≡ before.own
  pub begins : IsPrefix before.log after.log
  pub next : refusal.next ≡ seen_by after
  pub unseen : seen_by before ≤ refusal.next

-- a step, without what it did under the lock, by what the caller is told and given
abbrev pub TellsOf : Pass → Pass → Event → Result Told Refusal → Given → Type 0
TellsOf before after e (Ok told) got =
    IsTold before after e told × Answers told.number e told.reply got
TellsOf before after e (Err refusal) got = IsUntold before after e refusal × HandsBack e got

-- a step under the lock, by what the pass knew before and knows now
abbrev pub Tells : {M : Type 0} → Pass → Pass → Event → Step M → Type 0
Tells before after e step = TellsOf before after e (told_of step) (given_by step)

-- the receipt of an acquire that waits
abbrev pub IsQueued : Pass → Pass → Part → ℕ → Told → Type 0
IsQueued before after part now receipt =
    IsTold before after (Acquire part false true now) receipt × (receipt.reply ≡ reply.Waiting)

-- an acquire
abbrev pub Gets : {M : Type 0} → Pass → Pass → Part → Bool → Bool → ℕ → Got M → Type 0
Gets before after part bypass wait now (got.Admitted receipt permit) =
    IsTold before after (Acquire part bypass wait now) receipt
    × IsOwn receipt.number (Acquire part bypass wait now) receipt.reply permit
Gets before after part bypass wait now (got.Bypassed receipt) =
    IsTold before after (Acquire part bypass wait now) receipt
    × (receipt.reply ≡ reply.Bypassed) × (bypass ≡ true)
Gets before after part bypass wait now (got.Full receipt) =
    IsTold before after (Acquire part bypass wait now) receipt
    × (receipt.reply ≡ reply.Full) × (bypass ≡ false) × (wait ≡ false)
Gets before after part bypass wait now (got.BacklogFull receipt) =
    IsTold before after (Acquire part bypass wait now) receipt
    × (receipt.reply ≡ reply.BacklogFull) × (bypass ≡ false) × (wait ≡ true)
Gets before after part bypass wait now (got.Waiting receipt ticket) =
    IsTold before after (Acquire part bypass wait now) receipt
    × (receipt.reply ≡ reply.Waiting) × (ticket ≡ receipt.number)
    × (bypass ≡ false) × (wait ≡ true)
Gets before after part bypass wait now (got.Exhausted spent) =
    IsUntold before after (Acquire part bypass wait now) spent

-- an acquire that may wait: an acquire with `wait`, and where that waits a giving up of its number,
-- by the pass as it was left then. Its time is over only once the latest moment that the clock told
-- is no earlier than the deadline
abbrev pub Waits : {M : Type 0} → Pass → Pass → Part → (now deadline latest : ℕ) → Waited M → Type 0
Waits {M} before after part now deadline latest (waited.Admitted receipt permit) =
    Gets {M = M} before after part false true now (got.Admitted receipt permit)
Waits {M} before after part now deadline latest (waited.BacklogFull receipt) =
    Gets {M = M} before after part false true now (got.BacklogFull receipt)
Waits before after part now deadline latest (waited.Exhausted spent) =
    IsUntold before after (Acquire part false true now) spent
Waits before after part now deadline latest (waited.Promoted first second permit) =
    (mid : Pass) × IsQueued before mid part now first
    × IsTold mid after (GiveUp first.number) second
    × WasGranted second.number first.number second.reply permit
Waits before after part now deadline latest (waited.TimedOut first second) =
    (mid : Pass) × IsQueued before mid part now first
    × IsTold mid after (GiveUp first.number) second
    × (second.reply ≡ reply.TimedOut) × (first.number < second.number) × (deadline ≤ latest)
Waits before after part now deadline latest (waited.Lost first (Ok second)) =
    (mid : Pass) × IsQueued before mid part now first
    × IsTold mid after (GiveUp first.number) second × (second.reply ≡ reply.Lost)
Waits before after part now deadline latest (waited.Lost first (Err spent)) =
    (mid : Pass) × IsQueued before mid part now first
    × IsUntold mid after (GiveUp first.number) spent

-- an ending
abbrev pub Ends : Pass → Pass → PermitFacts → Outcome → ℕ → Told → Type 0
Ends before after permit outcome now receipt =
    IsTold before after (End permit outcome now) receipt
    × IsOf (End permit outcome now) receipt.reply

-- a claim: its number is below the receipt's where it isn't lost
abbrev pub Claims : {M : Type 0} → Pass → Pass → ℕ → Claimed M → Type 0
Claims before after named (claimed.Granted receipt permit) =
    IsTold before after (Claim named) receipt
    × WasGranted receipt.number named receipt.reply permit
Claims before after named (claimed.StillWaiting receipt ticket) =
    IsTold before after (Claim named) receipt
    × (receipt.reply ≡ reply.StillWaiting) × (ticket ≡ named) × (named < receipt.number)
Claims before after named (claimed.Lost receipt) =
    IsTold before after (Claim named) receipt × (receipt.reply ≡ reply.Lost)
Claims before after named (claimed.Exhausted spent ticket) =
    IsUntold before after (Claim named) spent × (ticket ≡ named)

-- a giving up
abbrev pub GivesUp : {M : Type 0} → Pass → Pass → ℕ → GaveUp M → Type 0
GivesUp before after named (gave_up.Granted receipt permit) =
    IsTold before after (GiveUp named) receipt
    × WasGranted receipt.number named receipt.reply permit
GivesUp before after named (gave_up.TimedOut receipt) =
    IsTold before after (GiveUp named) receipt
    × (receipt.reply ≡ reply.TimedOut) × (named < receipt.number)
GivesUp before after named (gave_up.Lost receipt) =
    IsTold before after (GiveUp named) receipt × (receipt.reply ≡ reply.Lost)
GivesUp before after named (gave_up.Exhausted spent) =
    IsUntold before after (GiveUp named) spent

-- a setting, a reset or a look
abbrev pub Changes : Pass → Pass → Event → Result Told Refusal → Type 0
Changes before after e (Ok receipt) = IsTold before after e receipt × IsOf e receipt.reply
Changes before after e (Err refusal) = IsUntold before after e refusal
