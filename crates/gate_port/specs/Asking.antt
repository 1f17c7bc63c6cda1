-- Asking for a permit.
use Rattle.std.specs.Prelude.{◌≡◌, ℕ, List, [], ◌∷◌, Bool, true, false, Option, None, Some, is_some}
use Rattle.std.specs.Prelude.{if◌then◌else◌}
use Rattle.limit_laws.specs.Facts.{moment}
use Rattle.partitions.specs.declared.part.Part.{Part}
use Rattle.limiter_core.specs.declared.event.Event.{Event}
use Rattle.limiter_core.specs.declared.event.Event.TheVariants.{Acquire, GiveUp}
use Rattle.limiter_core.specs.declared.event.Reply.{Reply}
use Rattle.limiter_core.specs.declared.event.Reply.TheVariants as reply
use Rattle.limiter_core.specs.declared.event.Entry.{Entry}
use Rattle.limiter_core.specs.declared.event.Entry.TheVariants.{Call}
use Rattle.limiter_core.specs.declared.event.PermitFacts.{PermitFacts}
use Rattle.limiter_core.specs.History.{permit_of}
use Rattle.gate_port.specs.declared.port.Why.TheVariants as why
use Rattle.gate_port.specs.declared.port.Admission.{Admission}
use Rattle.gate_port.specs.declared.port.Admission.TheVariants.{Admitted, Bypassed, Refused}
use Rattle.gate_port.specs.Shown.{Shown, Adds, is_exhausted, next_of}

-- what is asked for
pub record Ask : Type 0 where
  pub part : Part
  pub bypass : Bool
  pub wait : Bool

-- one that bypasses never waits; another one waits where it has a deadline
abbrev pub would_wait : Bool → Option ℕ → Bool
would_wait bypass deadline = if bypass then false else is_some deadline

abbrev pub ask_of : Part → Bool → Option ℕ → Ask
ask_of part bypass deadline =
    record { part = part; bypass = bypass; wait = would_wait bypass deadline }

-- its acquire
abbrev pub acquire : Ask → ℕ → Event
acquire ask now = Acquire ask.part ask.bypass ask.wait now

-- WHAT A REPLY SAYS to who asked under this number, be it the reply to the acquire or to the
-- giving up of it; who waits is told nothing yet
abbrev pub says : Ask → ℕ → ℕ → Reply → Option (Admission PermitFacts)
says ask number now (reply.Admitted inflight) =
    Some (Admitted (permit_of number ask.part (moment now) inflight))
says ask number now (reply.Granted part start inflight) =
    Some (Admitted (permit_of number part start inflight))
says ask number now reply.Bypassed = Some Bypassed
says ask number now reply.Full = Some (Refused why.Full)
says ask number now reply.BacklogFull = Some (Refused why.BacklogFull)
says ask number now reply.TimedOut = Some (Refused why.TimedOut)
says ask number now reply.Lost = Some (Refused why.Lost)
says ask number now _ = None

-- THE ENTRIES OF AN ASKING where this was shown before, and what its caller is told. Just where
-- the history was exhausted there are none, and that is told; else there is an acquire, and what
-- its reply says; or an acquire that waits and the giving up of its number, and what the reply to
-- that says
pub data IsAsked (ask : Ask) (old : Shown) (now : ℕ) : List Entry → Admission PermitFacts
    → Type 0 where
  spent : is_exhausted old ≡ true → IsAsked ask old now [] (Refused why.Exhausted)
  answered : is_exhausted old ≡ false
      → (r : Reply) (told : Admission PermitFacts) → says ask (next_of old) now r ≡ Some told
      → IsAsked ask old now (Call (acquire ask now) r ∷ []) told
  gave_up : is_exhausted old ≡ false
      → (r : Reply) (told : Admission PermitFacts) → says ask (next_of old) now r ≡ Some told
      → IsAsked ask old now
      (Call (acquire ask now) reply.Waiting ∷ Call (GiveUp (next_of old)) r ∷ []) told

-- what is answered, with its permit's facts in the permit's place
abbrev pub told : {P : Type 0} → (P → PermitFacts) → Admission P → Admission PermitFacts
told facts (Admitted permit) = Admitted (facts permit)
told facts Bypassed = Bypassed
told facts (Refused cause) = Refused cause

-- A PORT ADMITS: the entries of an asking are added
abbrev pub Admits : {P : Type 0} → Part → Bool → Option ℕ → ℕ → Option Shown → Option Shown
    → (P → PermitFacts) → Admission P → Type 0
Admits part bypass deadline now old new facts answer =
    Adds old new
    (λ before added. IsAsked (ask_of part bypass deadline) before now added (told facts answer))
