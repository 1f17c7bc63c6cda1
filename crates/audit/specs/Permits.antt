-- Which permits the entries hand out and end.
use Rattle.std.specs.Prelude.{◌≡◌, ℕ, ◌<◌, ◌≤◌, ◌==◌, Bool, true, false, List, Option, None, Some, take, slice_get}
use Rattle.std.specs.List.{list_any}
use Rattle.limiter_core.specs.declared.event.PermitFacts.{PermitFacts}
use Rattle.limiter_core.specs.declared.event.Event.{Event}
use Rattle.limiter_core.specs.declared.event.Event.TheVariants.{End}
use Rattle.limiter_core.specs.declared.event.Reply.{Reply}
use Rattle.limiter_core.specs.declared.event.Reply.TheVariants.{Lost}
use Rattle.limiter_core.specs.declared.event.Entry.{Entry}
use Rattle.limiter_core.specs.declared.event.Entry.TheVariants.{Call, Promotion}
use Rattle.limiter_core.specs.Open.{handed_out}

-- the permit that an event ends, if any
abbrev pub ended_by : Event → Option PermitFacts
ended_by (End permit outcome now) = Some permit
ended_by _ = None

-- the permit that an entry ends, if any
abbrev pub ended : Entry → Option PermitFacts
ended (Call event reply) = ended_by event
ended (Promotion waiter part start inflight) = None

-- a permit of this number
abbrev pub is_of : ℕ → Option PermitFacts → Bool
is_of number (Some permit) = permit.number == number
is_of number None = false

-- an entry ends the permit of this number
abbrev pub ends : ℕ → Entry → Bool
ends number entry = is_of number (ended entry)

-- a reply that a number is lost
abbrev pub is_lost_reply : Reply → Bool
is_lost_reply Lost = true
is_lost_reply _ = false

-- an entry answers that a number is lost
abbrev pub is_lost : Entry → Bool
is_lost (Call event reply) = is_lost_reply reply
is_lost (Promotion waiter part start inflight) = false

-- an entry before this number hands the permit out
pub record IsHandedBefore (entries : List Entry) (number : ℕ) (permit : PermitFacts) : Type 0 where
  pub place : ℕ
  pub entry : Entry
  pub before : place < number
  pub here : slice_get entries place ≡ Some entry
  pub hands : handed_out place entry ≡ Some permit

-- an ending of this number is right: it names an earlier number, an earlier entry handed that
-- permit out just so, and no earlier ending names it
pub record EndsRightly (entries : List Entry) (number : ℕ) (permit : PermitFacts) : Type 0 where
  pub named : permit.number < number
  pub handed : IsHandedBefore entries number permit
  pub once : list_any (ends permit.number) (take number entries) ≡ false

-- an entry is matched: its reply is not that a number is lost, and where it is an ending, it is
-- right
pub record IsMatched (entries : List Entry) (number : ℕ) (entry : Entry) : Type 0 where
  pub found : is_lost entry ≡ false
  pub right : (permit : PermitFacts) → ended entry ≡ Some permit → EndsRightly entries number permit

-- no entry hands out a permit of a later number than its own. So it is in each history that a gate
-- kept: a granted number is that of an earlier acquire
abbrev pub HandsOutNamed : List Entry → Type 0
HandsOutNamed entries =
    (number : ℕ) (entry : Entry) (permit : PermitFacts) → slice_get entries number ≡ Some entry
    → handed_out number entry ≡ Some permit → permit.number ≤ number

-- an ending is right as soon as an earlier entry handed its permit out and no earlier ending names
-- it
abbrev pub IsNamedByItself : List Entry → Type 0
IsNamedByItself entries =
    (number : ℕ) (permit : PermitFacts) → IsHandedBefore entries number permit
    → list_any (ends permit.number) (take number entries) ≡ false
    → EndsRightly entries number permit
