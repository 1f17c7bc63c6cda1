-- What the gate's verdict on a request is: that of one thread's limiter, at its place in one log.
--
-- g: what the limiter was made with, o: what stood at first, log: all that was asked and answered,
-- own: the numbers of the calls for the request, most: from how many entries on the history is
-- exhausted
use Rattle.std.specs.Prelude.{◌≡◌, ◌≤◌, ◌<◌, ◌⊎◌, ℕ, true, List, length, Option, Some, IfSome}
use Rattle.std.specs.Prelude.{is_some, slice_get, take}
use Rattle.partitions.specs.declared.part.Part.{Part}
use Rattle.partitions.specs.Table.{place_of, share}
use Rattle.limiter_core.specs.declared.event.Event.{Event}
use Rattle.limiter_core.specs.declared.event.Event.TheVariants.{End, GiveUp}
use Rattle.limiter_core.specs.declared.event.Outcome.{Outcome}
use Rattle.limiter_core.specs.declared.event.PermitFacts.{PermitFacts}
use Rattle.limiter_core.specs.declared.event.Reply.{Reply}
use Rattle.limiter_core.specs.declared.event.Reply.TheVariants as reply
use Rattle.limiter_core.specs.declared.event.Entry.{Entry}
use Rattle.limiter_core.specs.declared.event.Entry.TheVariants.{Call}
use Rattle.limiter_core.specs.declared.promote.Promote.TheVariants as rule
use Rattle.limiter_core.specs.History.{Gate, Image, image_after, limit, total}
use Rattle.limiter_core.specs.Answer.{answer, waits}
use Rattle.limiter_core.specs.Settled.{NobodyHasRoom}
use Rattle.gateway_settings.specs.declared.settings.Settings.{Settings}
use Rattle.gate_port.specs.declared.port.Why.{Why}
use Rattle.gate_port.specs.declared.port.Why.TheVariants as why
use Rattle.gate_port.specs.Asking.{Ask, acquire}
use Rattle.gate_word.specs.Rule.{times}
use Rattle.proxy.specs.declared.told.ExchangeSummary.{ExchangeSummary}
use Rattle.proxy.specs.declared.told.Verdict.{Verdict}
use Rattle.proxy.specs.declared.told.Verdict.TheVariants as verdict
use Rattle.proxy.specs.Settling.{asked_for}

-- what stood before the entry of a number
abbrev pub found_at : {S : Type 0} → Gate S → Image S → List Entry → ℕ → Image S
found_at g o log number = image_after g o (take number log)

module _ {S : Type 0} (g : Gate S) (o : Image S) (log : List Entry) (own : List ℕ) where
  -- ANSWERED at a number of one's own: the call stands there with its reply, which is the
  -- sequential limiter's after the entries before it
  pub record IsAnsweredAt (number : ℕ) (e : Event) (r : Reply) : Type 0 where
    pub is_own : 1 ≤ times number own
    pub stands : slice_get log number ≡ Some (Call e r)
    pub sequential : slice_get (answer g o (take number log) e) 0 ≡ Some (Call e r)

  -- TURNED AWAY at a number: the acquire of what was asked for was answered so, and found the whole
  -- limit in use and the share of its class taken
  pub record IsTurnedAway (ask : Ask) (now number : ℕ) (r : Reply) : Type 0 where
    pub answered : IsAnsweredAt number (acquire ask now) r
    pub in_use : limit g (found_at g o log number) ≤ total (found_at g o log number)
    pub taken : share g.rows (place_of g.rows ask.part) (limit g (found_at g o log number))
        ≤ (found_at g o log number).inflight (place_of g.rows ask.part)

  -- WAITED from a number on: it was made to wait, and its giving up, at a later number, was
  -- answered so
  pub record HasWaited (ask : Ask) (now number : ℕ) (r : Reply) : Type 0 where
    pub queued : IsTurnedAway ask now number reply.Waiting
    pub second : ℕ
    pub behind : number < second
    pub gave_up : IsAnsweredAt second (GiveUp number) r

  -- GOT: it was admitted at this number, or got the permit that it waited for from there on
  abbrev pub IsGot : Ask → ℕ → ℕ → Type 0
  IsGot ask now number =
      ((inflight : ℕ) × IsAnsweredAt number (acquire ask now) (reply.Admitted inflight))
      ⊎ ((part : Part) × (start : ℕ) × (inflight : ℕ)
      × HasWaited ask now number (reply.Granted part start inflight))

  -- ENDED: a permit of this number was ended with this outcome, at a later number
  pub record IsEnded (number : ℕ) (outcome : Outcome) : Type 0 where
    pub permit : PermitFacts
    pub of : permit.number ≡ number
    pub end : ℕ
    pub promoted : ℕ
    pub last : ℕ
    pub behind : number < last
    pub ended : IsAnsweredAt last (End permit outcome end) (reply.Ended promoted)

  -- TIMED OUT: it waited in vain, and under all nobody who waited had room as it gave up
  pub record IsTimedOut (ask : Ask) (now : ℕ) : Type 0 where
    pub number : ℕ
    pub waited : HasWaited ask now number reply.TimedOut
    pub still : waits (found_at g o log waited.second) number ≡ true
    pub no_room : g.promote ≡ rule.All → NobodyHasRoom g (found_at g o log waited.second)

  -- LOST: it was made to wait, and its giving up told that it neither waited nor lay granted, or
  -- wasn't answered, and then the log has as many entries as exhaust the history
  abbrev pub IsLost : ℕ → Ask → ℕ → ℕ → Type 0
  IsLost most ask now number =
      HasWaited ask now number reply.Lost
      ⊎ (IsTurnedAway ask now number reply.Waiting × (most ≤ length log))

  -- REFUSED for this cause; Exhausted only where the log has as many entries as exhaust the history
  abbrev pub IsRefused : ℕ → Ask → ℕ → Why → Type 0
  IsRefused most ask now why.Full = (number : ℕ) × IsTurnedAway ask now number reply.Full
  IsRefused most ask now why.BacklogFull =
      (number : ℕ) × IsTurnedAway ask now number reply.BacklogFull
  IsRefused most ask now why.TimedOut = IsTimedOut ask now
  IsRefused most ask now why.Lost = (number : ℕ) × IsLost most ask now number
  IsRefused most ask now why.Exhausted = most ≤ length log

  -- THE VERDICT on what was asked for at this moment, and the outcome of what was admitted
  abbrev pub IsVerdict : ℕ → Ask → ℕ → Verdict → Option Outcome → Type 0
  IsVerdict most ask now verdict.NotAsked outcome = ⊥
  IsVerdict most ask now verdict.Admitted outcome =
      (number : ℕ) × IsGot ask now number × IfSome outcome (IsEnded number)
      × (is_some outcome ≡ true)
  IsVerdict most ask now verdict.Bypassed outcome =
      (number : ℕ) × IsAnsweredAt number (acquire ask now) reply.Bypassed
  IsVerdict most ask now (verdict.Refused cause) outcome = IsRefused most ask now cause

  -- DECIDED: an exchange whose request was read, by the request's class
  abbrev pub IsDecided : ℕ → Settings → ExchangeSummary → Type 0
  IsDecided most s x =
      IfSome x.class (λ class.
      (now : ℕ) × IsVerdict most (asked_for s class) now x.admission x.outcome)
