-- The headline of a gateway: what it gives whoever sends a request to it.
--
-- g: what the limiter is made with, o: what stood at first, log: all that was asked and answered,
-- most: from how many entries on the history is exhausted
use Rattle.std.specs.Prelude.{◌≡◌, ℕ, List, [], ◌∷◌, ◌++◌, Option, length}
use Rattle.std.specs.List.{AllZip}
use Rattle.limit_laws.specs.Algorithm.{Algorithm}
use Rattle.limiter_core.specs.declared.counters.Counters.{Counters}
use Rattle.limiter_core.specs.declared.event.Entry.{Entry}
use Rattle.limiter_core.specs.History.{Gate, Image}
use Rattle.gate_journal.specs.Image.{image_of}
use Rattle.gate_ledgers.specs.Making.{Making}
use Rattle.gate_history.specs.Refusal.{exhausted_from}
use Rattle.client_tokens.specs.Roll.{Roll}
use Rattle.gateway_settings.specs.declared.settings.Settings.{Settings}
use Rattle.shared_gate.specs.Calls.{Pass}
use Rattle.shared_gate.specs.Closing.{calls_by, limiter_of}
use Rattle.shared_gate.specs.Reported.{AreCountersOfAll}
use Rattle.proxy.specs.Exchanges.{Policy}
use Rattle.proxy.specs.Made.{summary_of}
use Rattle.gate_laws.specs.Decided.{IsDecided}
use Rattle.serving.specs.Turns.{Ending, Keeping, Missing, Turn}
use Rattle.serve_command.specs.Worked.{HasRunTo, calls_told, roll_by}

-- each request of these turns, in order, was let through or refused as one thread's limiter
-- decides, by calls of its own: theirs are these numbers, the last one first
abbrev pub AreDecided : {S : Type 0} → Gate S → Image S → List Entry → ℕ → Settings → List Turn
    → List ℕ → Type 0
AreDecided g o log most s [] numbers = numbers ≡ []
AreDecided g o log most s (Missing ∷ turns) numbers = AreDecided g o log most s turns numbers
AreDecided g o log most s (Ending before behind told ∷ turns) numbers =
    (own : List ℕ) × (later : List ℕ) × (numbers ≡ later ++ own)
    × IsDecided g o log own most s (summary_of told) × AreDecided g o log most s turns later
AreDecided g o log most s (Keeping before behind told ∷ turns) numbers =
    (own : List ℕ) × (later : List ℕ) × (numbers ≡ later ++ own)
    × IsDecided g o log own most s (summary_of told) × AreDecided g o log most s turns later

-- RAN IN A LOG of a gate that is made so: a worker that took these turns, with requests each of
-- which was decided there, by calls of its own, which are all that were made by the worker's pass
pub record HasRunIn {S : Type 0} (g : Gate S) (o : Image S) (log : List Entry) (m : Making)
    (p : Policy) (Came : Option (List ℕ) → Type 0) (Shut : Type 0) (most : ℕ) (pass : Pass)
    (turns : List Turn) : Type 0 where
  pub ran : HasRunTo m p Came Shut most pass
  pub took : ran.run.turns ≡ turns
  pub decided : AreDecided g o log (exhausted_from m) p.settings turns pass.own

-- THE COUNTERS OF RUNS: there is one log of the gate, legal since nothing was asked, after which
-- these are its counters. It begins with what the passes of so many workers know, each of which ran
-- in it, and those of whoever was served beside them; each of its calls was made by one of these,
-- and no two of them have the same number, so that no two requests were decided by the same call.
-- The clients of the workers' turns, as they came and as they were left, are all whom their
-- listener gave. The counters tell of just as many calls as the workers made; and at its end
-- nothing is in flight, and nobody waits
pub record AreCountersOfRuns {S : Type 0} (rules : Algorithm S) (m : Making)
    (p : Policy) (Came : Option (List ℕ) → Type 0) (Shut : Type 0) (Gave : Roll → Type 0)
    (workers most : ℕ) (beside : List Pass) (counters : Counters) : Type 0 where
  pub passes : List Pass
  pub all : length passes ≡ workers
  pub behind : AreCountersOfAll rules m (passes ++ beside) counters
  pub turns : List (List Turn)
  pub ran : AllZip (HasRunIn (limiter_of rules m) (image_of behind.after.origin) behind.log m p
      Came Shut most) passes turns
  pub gave : Gave (roll_by turns)
  pub balance : calls_told counters ≡ calls_by passes
  pub ended : (behind.report.inflight ≡ 0) × (behind.report.waiters ≡ 0)
