-- Runs of new workers.
use Rattle.std.proofs.Common.{◌≡◌, ◌∙◌, ◌≤◌, ◌+◌, ℕ, Bool, false, List, [], ◌∷◌, Option, None, Some}
use Rattle.std.proofs.Common.{IfSome, subst, arith}
use Rattle.std.specs.List.{AllZip}
use Rattle.gate_port.specs.Log.{Known}
use Rattle.gate_port.specs.Shown.{Shown}
use Rattle.tcp_backend.specs.declared.connecting.TcpBackend.{TcpBackend}
use Rattle.tcp_backend.specs.declared.dialing.Dialer.{Dialer}
use Rattle.tcp_backend.specs.Connecting.{count_of}
use Rattle.serving.specs.declared.jobs.WorkerExit.{WorkerExit}
use Rattle.serving.specs.declared.jobs.Worker.{Worker}
use Rattle.serving.specs.declared.working.WorkerSettings.{WorkerSettings}
use Rattle.listening.specs.Accepted.{listener_of, token_of}
use Rattle.client_tokens.specs.Roll.{Roll, nobody}
use Rattle.handling.specs.declared.door.Door.{Door}
use Rattle.handling.specs.Doors.{counted_in, failed_of, given_of, is_closed, roll_at}
use Rattle.proxy.specs.Exchanges.{Bytes}
use Rattle.serving.specs.Served.{back_of, policy_of}
use Rattle.serving.specs.Turns.{IsRun, Place, Rolls, Turn, place_of}
use Rattle.serving.specs.declared.working.TurnCounts.{TurnCounts}
use Rattle.proxy.specs.Exchanges.{Policy}
use Rattle.serving.specs.Workers.{Begins, HasRun, HasWorked, IsWork}

-- what stands at a worker's start
abbrev from : {P : Type 0} → (P → Option Shown) → (P → Option Known) → Option Roll → ℕ → ℕ
    → Bool → P → ℕ → Place
from shown known roll given failed closed port count = record {
  given = given;
  failed = failed;
  closed = closed;
  visits = None;
  roll = roll;
  back = record { shown = shown port; known = known port; count = count; log = None };
}

-- where nobody was on a roll at first, it is that of the turns alone
first_rolled : (turns : List Turn) (old new : Option Roll) → IfSome old (λ it. it ≡ nobody)
    → Rolls turns old new → Rolls turns (Some nobody) new
first_rolled turns old None none rolled = tt
first_rolled turns None (Some new) none rolled = absurd rolled
first_rolled turns (Some old) (Some new) none rolled =
    subst (λ (it : Roll). Rolls turns (Some it) (Some new)) none rolled

-- a run of a token by which nobody was given before
from_nobody : {P : Type 0} (shown : P → Option Shown) (known : P → Option Known) (p : Policy)
    (Came : Bytes → Type 0) (Shut : Type 0) (most : ℕ)
    (before : Option Roll) (port : P) (end : Place) (tally : TurnCounts)
    → IfSome before (λ it. it ≡ nobody)
    → IsRun p Came Shut most (from shown known before 0 0 false port 0) end tally
    → IsRun p Came Shut most (from shown known (Some nobody) 0 0 false port 0) end tally
from_nobody shown known p Came Shut most before port end tally none run = record {
  turns = run.turns;
  taken = record {
    accepted = run.taken.accepted;
    unaccepted = run.taken.unaccepted;
    given = run.taken.given;
    failed = run.taken.failed;
    exchanges = run.taken.exchanges;
    shown = run.taken.shown;
    rolled = first_rolled run.turns before end.roll none run.taken.rolled;
  };
  few = run.few;
  whole = run.whole;
  shut = run.shut;
}

module _ {R T L K N C W V P : Type 0} (came : L → Bytes → Type 0) (found : L → Bool → Type 0)
    (roll : L → K → Option Roll) (shown : P → Option Shown) (known : P → Option Known)
    (common : WorkerSettings L C W) where
  abbrev place : Door L K N → P → TcpBackend (Dialer R T) T V C → Place
  place = place_of given_of failed_of is_closed (λ _. None) (roll_at roll)
      (back_of shown known count_of (λ _. None))

  abbrev Did : Worker (Door L K N) P (TcpBackend (Dialer R T) T V C)
      → WorkerExit (Door L K N) P (TcpBackend (Dialer R T) T V C) → Type 0
  Did = HasWorked place (λ door. came (listener_of (counted_in door)))
      (λ door. found (listener_of (counted_in door)) false)
      (λ door. listener_of (counted_in door))
      (policy_of common.settings.now common.marks) common.per_worker

  -- what a worker leaves, with the roll of its token as a listener has it
  abbrev left_with : Door L K N → P → TcpBackend (Dialer R T) T V C → L → Place
  left_with door port backend listener =
      place_of given_of failed_of is_closed (λ _. None)
      (λ (it : Door L K N). roll listener (token_of (counted_in it)))
      (back_of shown known count_of (λ _. None)) door port backend

  ran : (address : List ℕ) (port : P)
      (worker : Worker (Door L K N) P (TcpBackend (Dialer R T) T V C))
      (ended : WorkerExit (Door L K N) P (TcpBackend (Dialer R T) T V C))
      → Begins common.listener.now roll common.backend_timeout_ns address port worker
      → Did worker ended → HasRun came found roll shown known common port ended
  ran address port worker ended begins both =
      let did = both.0 in
      let given = given_of worker.door in
      let failed = failed_of worker.door in
      let closed = is_closed worker.door in
      let count = count_of worker.backend in
      let before = roll_at roll worker.door in
      let here = common.listener.now in
      let p = policy_of common.settings.now common.marks in
      let end : L → Place = left_with ended.door ended.port ended.backend in
      let Ran : L → Place → Type 0 = λ l start.
      IsWork p common.per_worker (came l) (found l false) start
      (end (listener_of (counted_in ended.door))) ended.tally in
      let there : Ran here (from shown known before 0 0 false port 0) =
      subst (λ (n : ℕ). Ran here (from shown known before 0 0 false port n)) begins.unused
      (subst (λ (p : P). Ran here (from shown known before 0 0 false p count)) begins.port_is
      (subst (λ (b : Bool). Ran here (from shown known before 0 0 b worker.port count))
      begins.unclosed
      (subst (λ (n : ℕ). Ran here (from shown known before 0 n closed worker.port count))
      begins.failed
      (subst (λ (n : ℕ). Ran here (from shown known before n failed closed worker.port count))
      begins.given
      (subst (λ (l : L). Ran l (from shown known before given failed closed worker.port count))
      begins.opens_to did))))) in
      let same : listener_of (counted_in ended.door) ≡ here = both.1 ∙ begins.opens_to in
      let run : IsWork p common.per_worker (came here) (found here false)
      (from shown known before 0 0 false port 0) (end here) ended.tally =
      subst (λ (l : L). IsWork p common.per_worker (came here) (found here false)
      (from shown known before 0 0 false port 0) (end l) ended.tally) same there in
      let bounded = run.bounded in
      let accepted : given_of ended.door ≡ 0 + ended.tally.accepted =
      run.accepted (omega arith) in
      let unaccepted : failed_of ended.door ≡ 0 + ended.tally.unaccepted =
      run.unaccepted (omega arith) in
      let once : count_of ended.backend ≤ 0 + ended.tally.accepted = run.once in
      record {
        run = from_nobody shown known p (came here) (found here false) common.per_worker before port
            (end here) ended.tally begins.unrolled run.run;
        tallied = record {
          accepted = omega arith;
          unaccepted = omega arith;
          once = omega arith;
          turns = run.turns;
          whole = run.whole;
        };
      }

  pub all_ran : (address : List ℕ) (ports : List P)
      (workers : List (Worker (Door L K N) P (TcpBackend (Dialer R T) T V C)))
      (ended : List (WorkerExit (Door L K N) P (TcpBackend (Dialer R T) T V C)))
      → AllZip (Begins common.listener.now roll common.backend_timeout_ns address) ports workers
      → AllZip Did workers ended
      → AllZip (HasRun came found roll shown known common) ports ended
  all_ran address [] [] [] p q = tt
  all_ran address [] [] (e ∷ es) p q = absurd q
  all_ran address [] (w ∷ ws) es p q = absurd p
  all_ran address (b ∷ bs) [] es p q = absurd p
  all_ran address (b ∷ bs) (w ∷ ws) [] p q = absurd q
  all_ran address (b ∷ bs) (w ∷ ws) (e ∷ es) p q =
      (ran address b w e p.0 q.0, all_ran address bs ws es p.1 q.1)
