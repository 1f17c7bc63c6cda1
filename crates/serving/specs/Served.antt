-- What it is that a client was served, told by the bytes of its two ends.
use Rattle.std.specs.Prelude.{◌≡◌, ℕ, zero, suc, Bool, true, false, List, Option, Some, None}
use Rattle.std.specs.Prelude.{IfSome}
use Rattle.clocks.specs.Looks.{Looked, unlooked}
use Rattle.counted_io.specs.declared.counted.Counted.{Counted}
use Rattle.counted_io.specs.Causes.{IsWriteCause}
use Rattle.counted_io.specs.Counted.{fresh}
use Rattle.handling.specs.Handled.{Ends, IsSent}
use Rattle.gateway_settings.specs.declared.settings.Settings.{Settings}
use Rattle.gate_port.specs.Log.{Known}
use Rattle.gate_port.specs.Shown.{Shown}
use Rattle.wire.specs.declared.fault.WireFault.TheVariants as fault
use Rattle.wire.specs.declared.answer.BackendAnswer.{BackendAnswer}
use Rattle.wire.specs.Forwards.{Forwarded}
use Rattle.proxy.specs.declared.told.Exchange.{Exchange}
use Rattle.proxy.specs.Exchanges.{Bytes, IsExchange, Policy, World}
use Rattle.proxy.specs.Made.{counted_with, counts_of, is_all_sent, is_kept, reads_of, summary_of}
use Rattle.proxy.specs.Made.{writes_of}

-- what stands behind a worker: the gate's entries where they are shown, what is known of its log
-- where that is told, how many requests the worker's backend was given, and which where it shows
-- them
pub record Back : Type 0 where
  pub shown : Option Shown
  pub known : Option Known
  pub count : ℕ
  pub log : Option (List Forwarded)

-- what stands behind it at a port and a backend, by what these show
abbrev pub back_of : {P B : Type 0} → (P → Option Shown) → (P → Option Known) → (B → ℕ)
    → (B → Option (List Forwarded)) → P → B → Back
back_of shown known forwarded log port backend = record {
  shown = shown port;
  known = known port;
  count = forwarded backend;
  log = log backend;
}

-- what an exchange finds or leaves
abbrev pub around : Counted Bytes → Counted Bytes → Looked BackendAnswer → Back → World
around reader writer looks back = record {
  reader = reader;
  writer = writer;
  shown = back.shown;
  known = back.known;
  looks = looks;
  count = back.count;
  log = back.log;
}

-- CARRIED OUT: an exchange over the two ends of a connection, with no look at the clock before, has
-- the counts of these ends; a fault of writing has its cause in them
pub record IsCarriedOut (p : Policy) (old new : Back) (before behind : Ends) (x : Exchange)
    : Type 0 where
  pub looks : Looked BackendAnswer
  pub exchanged : IsExchange p (around before.reader before.writer unlooked old)
      (around behind.reader behind.writer looks new) (summary_of x)
  pub broken : IfSome (summary_of x).written_fault (λ f.
      (f ≡ fault.Write) × IsWriteCause before.writer behind.writer)
  pub reads : reads_of x ≡ counts_of behind.reader
  pub writes : writes_of x ≡ counts_of behind.writer

-- SERVED by this exchange: it began with what the client would send and with what had been written
-- to it, over a reader and a writer that weren't called yet, before any look at the clock; it ended
-- with just the counts that it has; and what was written to the client is what it gave its writer.
-- A fault of writing has its cause in these counts. Where the client is kept, all that was taken of
-- its connection was read: what it has yet to send is just what the exchange left unread
pub record IsServed (p : Policy) (sent unwritten yet written : Bytes) (old new : Back)
    (x : Exchange) : Type 0 where
  pub left : Bytes
  pub given : Bytes
  pub looks : Looked BackendAnswer
  pub exchanged : IsExchange p (around (fresh sent) (fresh unwritten) unlooked old)
      (around (counted_with left (reads_of x)) (counted_with given (writes_of x)) looks new)
      (summary_of x)
  pub broken : IfSome (summary_of x).written_fault (λ f.
      (f ≡ fault.Write) × IsWriteCause (fresh unwritten) (counted_with given (writes_of x)))
  pub ended : IsSent given written (is_all_sent x)
  pub unread : is_kept x ≡ true → yet ≡ left

-- what a keeper tells whose settings have so many places for clients: without one nobody is kept
abbrev pub told_by_places : ℕ → Option Bool
told_by_places zero = Some false
told_by_places (suc n) = None

-- what a worker of these settings serves a new client by, with marks or without
abbrev pub policy_of : Settings → Bool → Policy
policy_of settings marks = record {
  settings = settings;
  marks = marks;
  keeps = told_by_places settings.clients;
  later = false;
}

-- and the same for a client that was kept, whose request is a later one, or wasn't
abbrev pub policy_for : Policy → Bool → Policy
policy_for p kept = record p { later = kept }
