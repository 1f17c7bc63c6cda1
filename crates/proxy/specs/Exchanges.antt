-- What an exchange is.
use Rattle.std.specs.Prelude.{◌≡◌, ℕ, Bool, false, nat_eq, List, Option, None, Some, Result, Ok, Err}
use Rattle.std.specs.Prelude.{IfSome, IsErrOf, OnOk, take}
use Rattle.std.specs.Io.KnownBytes.{Appends}
use Rattle.clocks.specs.Looks.{Looked}
use Rattle.counted_io.specs.declared.counted.Counted.{Counted}
use Rattle.counted_io.specs.Count.{raised}
use Rattle.counted_io.specs.Causes.{HasRead, IsWriteCause}
use Rattle.counted_io.specs.Counted.{failures_of, inner_of}
use Rattle.message_reading.specs.Reading.{HasFailed}
use Rattle.wire.specs.declared.fault.WireFault.{WireFault}
use Rattle.wire.specs.declared.fault.WireFault.TheVariants as fault
use Rattle.message_parts.specs.declared.request.Request.{Request}
use Rattle.wire.specs.Fault.{IsUsedUp, Reads}
use Rattle.wire.specs.Messages.{IsRequest, Said, SaidFront}
use Rattle.gateway_settings.specs.declared.settings.Settings.{Settings}
use Rattle.gate_port.specs.Log.{Known}
use Rattle.gate_port.specs.Shown.{Shown}
use Rattle.wire.specs.declared.answer.BackendAnswer.{BackendAnswer}
use Rattle.wire.specs.Forwards.{Forwarded}
use Rattle.proxy.specs.declared.told.ExchangeSummary.{ExchangeSummary}
use Rattle.proxy.specs.declared.told.Verdict.TheVariants as verdict
use Rattle.proxy.specs.Keeping.{Persists}
use Rattle.proxy.specs.Settling.{IsSettled, class_by}
use Rattle.proxy.specs.Table.{fault_status, is_sent_own, outcome_at, sent_status, sent_text}

-- the bytes that a reader has left or that a writer holds, where they are known
abbrev pub Bytes : Type 0
Bytes = Option (List ℕ)

abbrev pub known : Bytes → Bytes
known bytes = bytes

-- a reader or a writer by its counts and by what is known of its bytes
abbrev pub told_by : {T : Type 0} → (T → Bytes) → Counted T → Counted Bytes
told_by bytes c = record {
  inner = bytes c.inner;
  calls = c.calls;
  flushes = c.flushes;
  failures = c.failures;
  is_flushed = c.is_flushed;
}

-- what exchanges are made by: settings, whether own answers have marks, what clients' keeper tells,
-- where that is known, and whether the request is a later one of its client's connection
pub record Policy : Type 0 where
  pub settings : Settings
  pub marks : Bool
  pub keeps : Option Bool
  pub later : Bool

-- what an exchange finds and leaves: the client's two ends, the gate's entries where they are
-- shown, what is known of its log where that is told, the looks at the clock, how many requests the
-- backend was given, and which where it shows them
pub record World : Type 0 where
  pub reader : Counted Bytes
  pub writer : Counted Bytes
  pub shown : Option Shown
  pub known : Option Known
  pub looks : Looked BackendAnswer
  pub count : ℕ
  pub log : Option (List Forwarded)

-- READ: the request that the reader's bytes begin with, or the fault that comes first in them,
-- with what was said to the client meanwhile, or a beginning of it, behind which its writer has
-- these bytes; a fault of the reader, of too many reads, or of the writer has its cause, at the end
-- of all. Whatever it is, a read was made, and for a request no read failed
pub record IsRead (reader reader' writer writer' : Counted Bytes) (asked : Bytes)
    (read : Result Request WireFault) : Type 0 where
  pub bytes : Reads known reader reader' (λ (request : Request). request) IsRequest read
  pub said : (IsErrOf read fault.Write → ⊥)
      → Said (inner_of reader) (inner_of writer) asked read
  pub failed : IsErrOf read fault.Read → HasFailed reader reader'
  pub used_up : IsErrOf read fault.TurnLimit → IsUsedUp reader reader'
  pub front : IsErrOf read fault.Write → SaidFront (inner_of reader) (inner_of writer) asked
  pub unsaid : IsErrOf read fault.Write → IsWriteCause writer writer'
  pub reads : HasRead reader reader'
  pub unfailing : OnOk read (failures_of reader' ≡ failures_of reader)

-- after a fault of reading the gate isn't asked, no clock is looked at and nothing is forwarded;
-- else what was read is settled
abbrev pub Deals : Settings → World → World → Result Request WireFault
    → Option BackendAnswer → ExchangeSummary → Type 0
Deals s old new (Err f) answer x =
    (x.class ≡ None) × (x.admission ≡ verdict.NotAsked) × (x.permit ≡ None) × (answer ≡ None)
    × (new.shown ≡ old.shown) × (new.count ≡ old.count) × (new.log ≡ old.log)
    × (new.looks ≡ old.looks) × (new.known ≡ old.known)
Deals s old new (Ok request) answer x =
    (x.class ≡ Some (class_by s request))
    × IsSettled s request old.shown new.shown old.known new.known old.looks new.looks
    old.count new.count old.log new.log (class_by s request) x.admission x.permit answer

-- the bytes end inside the message, and one read was made: it found their end
abbrev pub is_empty : WireFault → ℕ → ℕ → Bool
is_empty fault.Early before reads = nat_eq reads (raised before)
is_empty other before reads = false

-- whether nothing was sent: what was read ended as it was first read
abbrev pub is_unsent : Result Request WireFault → ℕ → ℕ → Bool
is_unsent (Err f) before reads = is_empty f before reads
is_unsent (Ok request) before reads = false

-- it ended as the body of its request wasn't held: the gate wasn't asked, and the answer is that of
-- this fault
abbrev pub IsUnheld : ExchangeSummary → Type 0
IsUnheld x = (x.admission ≡ verdict.NotAsked) × (x.answer ≡ fault_status fault.Bodies)

-- AN EXCHANGE: something is read, and dealt with; what is told of it, and what is written to the
-- client, or with a fault of writing a beginning of that, is by the table of answers, its own
-- answers with marks or without; and whether the client is kept was decided by then. A fault of
-- writing as something was read is reported as such
pub record IsExchange (p : Policy) (old new : World) (x : ExchangeSummary) : Type 0 where
  pub read : Result Request WireFault
  pub asked : Bytes
  pub answer : Option BackendAnswer
  pub reading : IsRead old.reader new.reader old.writer new.writer asked read
  pub deals : Deals p.settings old new read answer x
  pub status : x.answer ≡ sent_status p.later read answer
  pub own : x.is_own ≡ is_sent_own p.later read answer
  pub empty : x.is_empty ≡ is_unsent read old.reader.calls new.reader.calls
  pub outcome : x.outcome ≡ outcome_at answer
  pub persists : Persists p.keeps x.is_drained p.later read answer x.persistence
  pub text : x.written_fault ≡ None → Appends asked (inner_of new.writer)
      (sent_text p.later x.persistence p.marks read x.admission answer)
  pub begun : IfSome x.written_fault (λ f. (count : ℕ) × Appends asked (inner_of new.writer)
      (take count (sent_text p.later x.persistence p.marks read x.admission answer)))
  pub unasked : IsErrOf read fault.Write → x.written_fault ≡ Some fault.Write
