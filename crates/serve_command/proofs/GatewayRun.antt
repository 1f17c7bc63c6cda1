-- What the workers of a gateway did, by what their ports know in the end.
use Rattle.std.proofs.Common.{◌≡◌, ◌⊎◌, inl, inr, refl, ap, Bool, ℕ, suc, ◌+◌, false, List, [], ◌∷◌}
use Rattle.std.proofs.Common.{All, Option, None, Some, Result, Ok, Err, IfOk, IfErr}
use Rattle.std.specs.List.{AllZip}
use Rattle.std.specs.Prelude.{IfNone, IfSome, sum_by}
use Rattle.std.proofs.Common.{◌++◌, ◌∙◌, arith, length, map, subst, sym}
use mathlib.Core.List.{IsPrefix}
use Rattle.std.proofs.lemmas.List.Elements.{All-append, All-nil, All-cons, All-head, All-tail}
use Rattle.std.proofs.lemmas.List.Sums.{sum_by-append, sum_by-cons}
use Rattle.limit_laws.specs.Algorithm.{Algorithm}
use Rattle.limiter_core.specs.declared.counters.Counters.{Counters}
use Rattle.limiter_core.specs.declared.event.Entry.{Entry}
use Rattle.limiter_core.specs.History.{Gate}
use Rattle.audit.specs.declared.judge.Calls.{Calls}
use Rattle.gate_ledgers.specs.Making.{Making}
use Rattle.gate_word.specs.Rule.{times}
use Rattle.shared_gate.specs.Calls.{Pass}
use Rattle.shared_gate.specs.Closing.{calls_by}
use Rattle.shared_gate.specs.Reported.{AreCountersOfAll, ArePassesMissing}
use Rattle.ports.specs.declared.asked.Receipts.TheVariants.{Nothing}
use Rattle.ports.specs.Asked.{Shared, known_at, known_by, port_in}
use Rattle.listening.specs.Accepted.{token_of}
use Rattle.client_tokens.specs.Roll.{Roll, nobody}
use Rattle.proxy.specs.Exchanges.{Policy}
use Rattle.tcp_backend.specs.declared.connecting.TcpBackend.{TcpBackend}
use Rattle.tcp_backend.specs.declared.dialing.Dialer.{Dialer}
use Rattle.tcp_backend.specs.Connecting.{count_of}
use Rattle.handling.specs.declared.door.Door.{Door}
use Rattle.handling.specs.Doors.{counted_in, failed_of, given_of, is_closed}
use Rattle.serving.specs.declared.jobs.WorkerExit.{WorkerExit}
use Rattle.serving.specs.declared.jobs.JobResult.{JobResult}
use Rattle.serving.specs.declared.jobs.JobResult.TheVariants as left
use Rattle.serving.specs.declared.working.WorkerSettings.{WorkerSettings}
use Rattle.serving.specs.Served.{policy_of}
use Rattle.serving.specs.Turns.{IsRun, Rolls, Turn}
use Rattle.serving.specs.Workers.{HasRun, made_in}
use Rattle.gate_port.specs.declared.report.Report.{Report}
use Rattle.gate_laws.specs.Balance.{IsBalanced, ReportsBalance}
use Rattle.gate_laws.specs.Exchanges.{ExchangesAreOneThreads}
use Rattle.gate_desk.specs.Desk.{IsDone}
use Rattle.gate_desk.specs.State.{DeskState}
use Rattle.serve_command.specs.declared.admin.SideAddresses.{SideAddresses}
use Rattle.serve_command.specs.Beside.{AreServedBeside, IsUnused}
use Rattle.serve_command.specs.GatewayRun.{AreCountersOfRuns, AreEnded, AreMiscounted, AreOff}
use Rattle.serve_command.specs.GatewayRun.{HasRunTo, HasServedAll, calls_told}
use Rattle.serve_command.specs.GatewayRun.{passes_in, served_by, stood_at}
use Rattle.serve_command.specs.Worked.{roll_by}
use Rattle.serve_command.proofs.Clients.{all_ran_in}

module _ {L K C W : Type 0} (N R T V M : Type 0) (m : Making)
    (came : L → Option (List ℕ) → Type 0) (found : L → Bool → Type 0)
    (roll : L → K → Option Roll) (common : WorkerSettings L C W) where
  abbrev End : Type 0
  End = WorkerExit (Door L K N) (Shared M) (TcpBackend (Dialer R T) T V C)

  abbrev Ran : Shared M → End → Type 0
  Ran = HasRun came found roll (λ port. None) (λ port. Some (known_by m port)) common

  abbrev RanTo : Pass → Type 0
  RanTo = HasRunTo m (policy_of common.settings.now common.marks) (came common.listener.now)
      (found common.listener.now false) common.per_worker

  abbrev TookTurns : Pass → List Turn → Type 0
  TookTurns pass turns = (ran : RanTo pass) × (ran.run.turns ≡ turns)

  abbrev pass_in : End → Pass
  pass_in ended = ended.port.pass

  -- what is known of who was given and left by the token of its door
  abbrev pub roll_in_end : End → Option Roll
  roll_in_end ended = roll common.listener.now (token_of (counted_in ended.door))

  abbrev pub RolledTo : End → List Turn → Type 0
  RolledTo ended turns = Rolls turns (Some nobody) (roll_in_end ended)

  abbrev port_of : Pass → Shared M
  port_of pass = port_in pass Nothing 0

  -- one worker, whose pass knew nothing
  ran_to : (pass : Pass) (ended : End) → IsUnused pass → Ran (port_of pass) ended
      → (turns : List Turn) × TookTurns (pass_in ended) turns × RolledTo ended turns
  ran_to pass ended empty did =
      let run = subst (λ (it : Pass). IsRun
      (policy_of common.settings.now common.marks) (came common.listener.now)
      (found common.listener.now false) common.per_worker
      (stood_at 0 0 false (Some nobody) 0 (known_at m it 0))
      (stood_at (given_of ended.door) (failed_of ended.door) (is_closed ended.door)
      (roll_in_end ended) (count_of ended.backend) (known_by m ended.port)) ended.tally) empty
      did.run in
      let ran : RanTo (pass_in ended) = record {
        given = given_of ended.door;
        failed = failed_of ended.door;
        closed = is_closed ended.door;
        roll = roll_in_end ended;
        forwarded = count_of ended.backend;
        reached = ended.port.reached;
        tally = ended.tally;
        run = run;
        tallied = did.tallied;
      } in
      (run.turns, (ran, refl), run.taken.rolled)

  -- all of them: as many as there were passes, each with the turns that it took
  pub record HaveRunTo (passes : List Pass) (ends : List End) : Type 0 where
    pub turns : List (List Turn)
    pub took : AllZip TookTurns (map pass_in ends) turns
    pub rolled : AllZip RolledTo ends turns
    pub many : length (map pass_in ends) ≡ length passes

  pub all_ran_to : (passes : List Pass) (ends : List End) → All IsUnused passes
      → AllZip Ran (map port_of passes) ends → HaveRunTo passes ends
  all_ran_to [] [] empty all = record { turns = []; took = tt; rolled = tt; many = refl }
  all_ran_to [] (e ∷ es) empty all = absurd all
  all_ran_to (p ∷ ps) [] empty all = absurd all
  all_ran_to (p ∷ ps) (e ∷ es) empty all =
      let rest = all_ran_to ps es (All-tail IsUnused p ps empty) all.1 in
      let one = ran_to p e (All-head IsUnused p ps empty) all.0 in
      record {
        turns = one.0 ∷ rest.turns;
        took = (one.1, rest.took);
        rolled = (one.2, rest.rolled);
        many = ap suc rest.many;
      }

-- the passes of those who served, and of one more
pub passes_more : {A B M : Type 0} (lefts : List (JobResult A (Shared M) B Pass))
    (l : JobResult A (Shared M) B Pass)
    → passes_in (lefts ++ l ∷ []) ≡ passes_in lefts ++ passes_in (l ∷ [])
passes_more [] l = refl
passes_more (left.SideTask pass ∷ lefts) l =
    ap (λ (ps : List Pass). pass ∷ ps) (passes_more lefts l)
passes_more (left.Worked ended ∷ lefts) l =
    ap (λ (ps : List Pass). ended.port.pass ∷ ps) (passes_more lefts l)

none_before : (n : ℕ) → n ≡ 0 + n
none_before n = omega arith

-- the calls of those workers, and of one more
pub calls_more : {A B M : Type 0} (lefts : List (JobResult A (Shared M) B Pass))
    (l : JobResult A (Shared M) B Pass)
    → calls_by (served_by (lefts ++ l ∷ []))
    ≡ calls_by (served_by lefts) + calls_by (served_by (l ∷ []))
calls_more [] l = none_before (calls_by (served_by (l ∷ [])))
calls_more (left.SideTask pass ∷ lefts) l = calls_more lefts l
calls_more (left.Worked ended ∷ lefts) l =
    let count : Pass → ℕ = λ pass. pass.count in
    omega (
      arith,
      calls_more lefts l,
      sum_by-cons count ended.port.pass (served_by (lefts ++ l ∷ [])),
      sum_by-cons count ended.port.pass (served_by lefts),
    )

-- a list of the passes so far, and of that of one more
pub one_pass_more : {A B M : Type 0} (lefts : List (JobResult A (Shared M) B Pass))
    (l : JobResult A (Shared M) B Pass) (old new own : List Pass) → old ≡ passes_in lefts
    → passes_in (l ∷ []) ≡ own → new ≡ old ++ own → new ≡ passes_in (lefts ++ l ∷ [])
one_pass_more lefts l old new own is one goes =
    goes ∙ ap (λ (ps : List Pass). ps ++ own) is
    ∙ ap (λ (ps : List Pass). passes_in lefts ++ ps) (sym one) ∙ sym (passes_more lefts l)

-- and their calls
pub one_call_more : {A B M : Type 0} (lefts : List (JobResult A (Shared M) B Pass))
    (l : JobResult A (Shared M) B Pass) (old new own : ℕ) → old ≡ calls_by (served_by lefts)
    → own ≡ calls_by (served_by (l ∷ [])) → new ≡ old + own
    → new ≡ calls_by (served_by (lefts ++ l ∷ []))
one_call_more lefts l old new own is one goes = omega (arith, is, one, goes, calls_more lefts l)

-- they come apart into those of workers, and of those beside them: what holds of all holds of these
pub all_apart : {A B M : Type 0} (P : Pass → Type 0)
    (lefts : List (JobResult A (Shared M) B Pass)) → All P (passes_in lefts)
    → All P (served_by lefts) × All P (made_in lefts)
all_apart P [] all = (All-nil P, All-nil P)
all_apart P (left.SideTask pass ∷ lefts) all =
    let rest = all_apart P lefts (All-tail P pass (passes_in lefts) all) in (
      rest.0,
      All-cons P pass (made_in lefts) (All-head P pass (passes_in lefts) all) rest.1,
    )
all_apart P (left.Worked ended ∷ lefts) all =
    let pass = ended.port.pass in
    let rest = all_apart P lefts (All-tail P pass (passes_in lefts) all) in (
      All-cons P pass (served_by lefts) (All-head P pass (passes_in lefts) all) rest.0,
      rest.1,
    )

-- and together they made as many calls, and as many of a number
sums_apart : {A B M : Type 0} (count : Pass → ℕ) (lefts : List (JobResult A (Shared M) B Pass))
    → sum_by count (passes_in lefts) ≡ sum_by count (served_by lefts) + sum_by count (made_in lefts)
sums_apart count [] = refl
sums_apart count (left.SideTask pass ∷ lefts) =
    omega (
      arith,
      sums_apart count lefts,
      sum_by-cons count pass (passes_in lefts),
      sum_by-cons count pass (made_in lefts),
    )
sums_apart count (left.Worked ended ∷ lefts) =
    omega (
      arith,
      sums_apart count lefts,
      sum_by-cons count ended.port.pass (passes_in lefts),
      sum_by-cons count ended.port.pass (served_by lefts),
    )

module _ {S A B M : Type 0} (rules : Algorithm S) (m : Making)
    (lefts : List (JobResult A (Shared M) B Pass)) where
  abbrev both : List Pass
  both = served_by lefts ++ made_in lefts

  sums_by_both : (count : Pass → ℕ) → sum_by count both ≡ sum_by count (passes_in lefts)
  sums_by_both count = omega (
    arith,
    sum_by-append count (served_by lefts) (made_in lefts),
    sums_apart count lefts,
  )

  made_by_both : calls_by both ≡ calls_by (passes_in lefts)
  made_by_both = sums_by_both (λ (pass : Pass). pass.count)

  begun_both : (log : List Entry) → All (λ pass. IsPrefix pass.log log) (passes_in lefts)
      → All (λ pass. IsPrefix pass.log log) both
  begun_both log begun =
      let Begun : Pass → Type 0 = λ pass. IsPrefix pass.log log in
      let apart = all_apart Begun lefts begun in
      All-append Begun (served_by lefts) (made_in lefts) apart.0 apart.1

  -- so what is told behind all of them is told behind these and those
  of_both : (counters : Counters) → AreCountersOfAll rules m (passes_in lefts) counters
      → AreCountersOfAll rules m both counters
  of_both counters behind = record {
    log = behind.log;
    report = behind.report;
    after = behind.after;
    told = behind.told;
    begun = begun_both behind.log behind.begun;
    all = made_by_both ∙ behind.all;
    once = λ number. omega (
      arith,
      sums_by_both (λ (pass : Pass). times number pass.own),
      behind.once number,
    );
  }

  missing_both : (calls : Calls) → ArePassesMissing rules m (passes_in lefts) calls
      → ArePassesMissing rules m both calls
  missing_both calls missing = record {
    log = missing.log;
    report = missing.report;
    after = missing.after;
    begun = begun_both missing.log missing.begun;
    book = missing.book;
    sum = missing.sum ∙ sym made_by_both;
    fewer = missing.fewer;
  }

-- by a balanced report of counters that tell of no permit that is left, none is
none_left : (report : Report) (counters : Counters) → report.counters ≡ counters
    → IsBalanced report → AreEnded counters → (report.inflight ≡ 0) × (report.waiters ≡ 0)
none_left report counters told balanced ended =
    let own : AreEnded report.counters = subst AreEnded (sym told) ended in (
      omega (arith, balanced.permits, own.permits),
      omega (arith, balanced.waiters, own.waiters),
    )

module _ {S A B M : Type 0} (rules : Algorithm S) (m : Making)
    (lefts : List (JobResult A (Shared M) B Pass)) (workers : ℕ)
    (all : length (served_by lefts) ≡ workers) (passes : List Pass)
    (are : passes ≡ passes_in lefts) (counted : Result Counters Calls)
    (behind : IfOk counted (AreCountersOfAll rules m passes))
    (missing : IfErr counted (ArePassesMissing rules m passes)) (calls : ℕ)
    (made : calls ≡ calls_by (served_by lefts)) where
  of_all : (counters : Counters) → counted ≡ Ok counters
      → AreCountersOfAll rules m (both rules m lefts) counters
  of_all counters is =
      of_both rules m lefts counters
      (subst (λ (ps : List Pass). AreCountersOfAll rules m ps counters) are
      (subst (λ (it : Result Counters Calls). IfOk it (AreCountersOfAll rules m passes)) is behind))

  -- the counters of runs, where they tell of just as many calls as the workers made, and all whom
  -- their listener gave came in these turns
  pub counted_runs : (p : Policy) (Came : Option (List ℕ) → Type 0) (Shut : Type 0)
      (Gave : Roll → Type 0) (most : ℕ)
      (told final : Option Counters) → ((g : Gate S) → ExchangesAreOneThreads g)
      → ReportsBalance rules → (turns : List (List Turn))
      → AllZip (λ pass own. (ran : HasRunTo m p Came Shut most pass) × (ran.run.turns ≡ own))
      (served_by lefts) turns
      → IfSome told (λ it. (counted ≡ Ok it) × (calls_told it ≡ calls) × AreEnded it)
      → IfSome final (λ it. told ≡ Some it) → IfSome final (λ it. Gave (roll_by turns))
      → IfSome final (AreCountersOfRuns rules m p Came Shut Gave workers most (made_in lefts))
  counted_runs p Came Shut Gave most told None one balances turns took some same gave = tt
  counted_runs p Came Shut Gave most told (Some it) one balances turns took some same gave =
      let here : (counted ≡ Ok it) × (calls_told it ≡ calls) × AreEnded it =
      subst (λ (t : Option Counters). IfSome t (λ it. (counted ≡ Ok it)
      × (calls_told it ≡ calls) × AreEnded it)) same some in
      let own = of_all it here.0 in
      record {
        passes = served_by lefts;
        all = all;
        behind = own;
        turns = turns;
        ran = all_ran_in rules m p Came Shut most (served_by lefts) (made_in lefts) it one own
            turns took;
        gave = gave;
        balance = here.1 ∙ made;
        ended = none_left own.report it own.told (balances m own.log own.report own.after) here.2;
      }

  abbrev Off : Type 0 → Type 0
  Off Lost = ((calls : Calls) × ArePassesMissing rules m (both rules m lefts) calls)
      ⊎ ((counters : Counters) × AreCountersOfAll rules m (both rules m lefts) counters
      × AreOff (served_by lefts) counters)
      ⊎ Lost

  is_off : (Lost : Type 0) (it : Result Counters Calls) → counted ≡ it
      → IfOk it (λ counters. ¬ ((calls_told counters ≡ calls) × AreEnded counters)) → Off Lost
  is_off Lost (Ok counters) is none =
      inr (inl (counters, of_all counters is, λ same. none (same.0 ∙ sym made, same.1)))
  is_off Lost (Err calls) is none = inl (
    calls,
    missing_both rules m lefts calls
        (subst (λ (ps : List Pass). ArePassesMissing rules m ps calls) are
        (subst (λ (it : Result Counters Calls). IfErr it (ArePassesMissing rules m passes)) is
        missing)),
  )

  why_off : (Lost : Type 0) (told : Option Counters)
      → IfNone told (IfOk counted (λ counters. ¬ ((calls_told counters ≡ calls)
      × AreEnded counters)))
      → (told ≡ None) ⊎ Lost → Off Lost
  why_off Lost told none (inr lost) = inr (inr lost)
  why_off Lost told none (inl nothing) =
      is_off Lost counted refl
      (subst (λ (t : Option Counters). IfNone t (IfOk counted (λ counters.
      ¬ ((calls_told counters ≡ calls) × AreEnded counters)))) nothing none)

  -- and else they are off, or some are missing, or the listener can't tell whom it gave
  pub runs_miscounted : (Lost : Type 0) (told final : Option Counters)
      → IfNone told (IfOk counted (λ counters. ¬ ((calls_told counters ≡ calls)
      × AreEnded counters)))
      → IfNone final ((told ≡ None) ⊎ Lost)
      → IfNone final (AreMiscounted rules m workers Lost)
  runs_miscounted Lost told (Some it) none why = tt
  runs_miscounted Lost told None none why = record {
    passes = served_by lefts;
    all = all;
    beside = made_in lefts;
    off = why_off Lost told none why;
  }

-- with whoever was served beside the workers
pub served_all : {S L C : Type 0} (rules : Algorithm S) (m : Making) (closed : L → Type 0)
    (came : L → Option (List ℕ) → Type 0) (found : L → Bool → Type 0) (gave : L → Roll → Type 0)
    (p : Policy) (begin : DeskState L) (side : SideAddresses L C) (workers most : ℕ)
    (beside : List Pass) (told : Option Counters)
    → AreServedBeside (IsDone rules m closed) came found begin side beside
    → IfSome told (AreCountersOfRuns rules m p (came begin.front) (found begin.front false)
    (gave begin.front) workers most beside)
    → IfSome told (HasServedAll rules m closed came found gave p begin side workers most)
served_all rules m closed came found gave p begin side workers most beside None served counted = tt
served_all rules m closed came found gave p begin side workers most beside (Some it) served
    counted =
    record { beside = beside; served = served; counted = counted }

-- where one cause is another one, too
pub lost_too : {S : Type 0} (rules : Algorithm S) (m : Making) (workers : ℕ) (Lost Other : Type 0)
    → (Lost → Other) → AreMiscounted rules m workers Lost → AreMiscounted rules m workers Other
lost_too rules m workers Lost Other too off = record {
  passes = off.passes;
  all = off.all;
  beside = off.beside;
  off = go off.off;
} where
  go : ((calls : Calls) × ArePassesMissing rules m (off.passes ++ off.beside) calls)
      ⊎ ((counters : Counters) × AreCountersOfAll rules m (off.passes ++ off.beside) counters
      × AreOff off.passes counters)
      ⊎ Lost
      → ((calls : Calls) × ArePassesMissing rules m (off.passes ++ off.beside) calls)
      ⊎ ((counters : Counters) × AreCountersOfAll rules m (off.passes ++ off.beside) counters
      × AreOff off.passes counters)
      ⊎ Other
  go (inl missing) = inl missing
  go (inr (inl told)) = inr (inl told)
  go (inr (inr lost)) = inr (inr (too lost))
