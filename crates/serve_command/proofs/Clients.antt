-- The clients of a worker, by what its pass knows of the gate's log.
use Rattle.std.proofs.Common.{◌≡◌, ℕ, [], ◌∷◌, ◌++◌, List, Option, Some, All}
use Rattle.std.proofs.Common.{append_assoc, ap, ◌∙◌, sym, subst, refl}
use Rattle.std.proofs.lemmas.List.{append-nil}
use Rattle.std.proofs.lemmas.Option.{same_Some}
use Rattle.std.proofs.lemmas.List.Elements.{All-head, All-tail}
use Rattle.std.specs.List.{AllZip}
use mathlib.Core.List.{IsPrefix}
use Rattle.lemmas.proofs.Lists.{prefix_trans}
use Rattle.counted_io.specs.Counted.{fresh}
use Rattle.limit_laws.specs.Algorithm.{Algorithm}
use Rattle.limiter_core.specs.declared.counters.Counters.{Counters}
use Rattle.limiter_core.specs.declared.event.Entry.{Entry}
use Rattle.limiter_core.specs.History.{Gate, Image}
use Rattle.limiter_core.specs.Legal.{IsLegal}
use Rattle.gate_journal.specs.Image.{image_of}
use Rattle.gate_ledgers.specs.Making.{Making}
use Rattle.gate_history.specs.Refusal.{exhausted_from}
use Rattle.gate_port.specs.Log.{Known}
use Rattle.clocks.specs.Looks.{unlooked}
use Rattle.ports.specs.Asked.{known_at}
use Rattle.shared_gate.specs.Calls.{Pass, pass_of}
use Rattle.shared_gate.specs.Closing.{limiter_of}
use Rattle.shared_gate.specs.Reported.{AreCountersOfAll}
use Rattle.handling.specs.Visits.{Client}
use Rattle.proxy.specs.declared.told.Exchange.{Exchange}
use Rattle.proxy.specs.Exchanges.{Bytes, Policy}
use Rattle.proxy.specs.Made.{counted_with, reads_of, summary_of, writes_of}
use Rattle.gate_laws.specs.Decided.{IsDecided}
use Rattle.gate_laws.specs.Exchanges.{ExchangesAreOneThreads, HasCalled}
use Rattle.serving.specs.Served.{Back, around, policy_for}
use Rattle.serving.specs.Turns.{AreServed, Ending, IsTurn, Keeping, Missing, Turn}
use Rattle.serve_command.specs.Clients.{AreDecided, HasRunIn}
use Rattle.serve_command.specs.Worked.{HasRunTo}

module _ {S : Type 0} (g : Gate S) (one : ExchangesAreOneThreads g) (p : Policy)
    (came : Bytes → Type 0) where
  -- a worker knows so much of a log, in which this was decided by calls at numbers of its own
  abbrev Knows : Option Known → Known → (List ℕ → Image S → List Entry → Type 0) → Type 0
  Knows known before Decided =
      (after : Known) × (own : List ℕ) × (known ≡ Some after) × HasCalled own before after
      × ((o : Image S) (log : List Entry) → o.waiters ≡ [] → IsLegal g o log
      → IsPrefix after.log log → Decided own o log)

  -- behind one exchange, and behind one and what comes then
  decided_one : (before behind : Client) (told : Exchange) (old mid : Back) (known : Known)
      (most : ℕ) → known.exhausted_from ≡ most
      → IsTurn p came before behind old mid told → old.known ≡ Some known
      → Knows mid.known known
      (λ own o log. IsDecided g o log own most p.settings (summary_of told))
  decided_one before behind told old mid known most same turn from =
      let is = turn.served in
      subst (λ (n : ℕ). Knows mid.known known
      (λ own o log. IsDecided g o log own n p.settings (summary_of told))) same
      (one (policy_for p before.is_kept)
      (around (fresh before.sent) (fresh before.written) unlooked old)
      (around (counted_with is.left (reads_of told)) (counted_with is.given (writes_of told))
      is.looks mid)
      (summary_of told) known is.exchanged from)

  decided_more : (known : Option Known) (before mid : Known) (own : List ℕ)
      (One Rest : List ℕ → Image S → List Entry → Type 0)
      → HasCalled own before mid
      → ((o : Image S) (log : List Entry) → o.waiters ≡ [] → IsLegal g o log
      → IsPrefix mid.log log → One own o log)
      → Knows known mid Rest
      → Knows known before (λ numbers o log. (first : List ℕ) × (later : List ℕ)
      × (numbers ≡ later ++ first) × One first o log × Rest later o log)
  decided_more known before mid own One Rest called decided rest =
      let more = rest.3 in (
        rest.0,
        rest.1 ++ own,
        rest.2,
        record {
          goes_on = prefix_trans before.log mid.log rest.0.log called.goes_on more.goes_on;
          numbers =
              more.numbers ∙ ap (λ (xs : List ℕ). rest.1 ++ xs) called.numbers
              ∙ sym (append_assoc rest.1 own before.own);
          same = more.same ∙ called.same;
        },
        λ o log idle legal begun. (
          own,
          rest.1,
          refl,
          decided o log idle legal (prefix_trans mid.log rest.0.log log more.goes_on begun),
          rest.4 o log idle legal begun,
        ),
      )

  -- behind its turns a worker knows of a log, in which all of their requests were decided
  decided_behind : (turns : List Turn) (old new : Back) (before : Known) (most : ℕ)
      → before.exhausted_from ≡ most
      → AreServed p came turns old new → old.known ≡ Some before
      → Knows new.known before
      (λ numbers o log. AreDecided g o log most p.settings turns numbers)
  decided_behind [] old new before most from_there same from = (
    before,
    [],
    ap (λ (back : Back). back.known) same ∙ from,
    record { goes_on = ([], append-nil before.log); numbers = refl; same = refl },
    λ o log idle legal begun. refl,
  )
  decided_behind (Missing ∷ turns) old new before most from_there are from =
      decided_behind turns old new before most from_there are from
  decided_behind (Ending before behind told ∷ turns) old new known most from_there are from =
      let first = decided_one before behind told old are.0 known most from_there are.1 from in
      decided_more new.known known first.0 first.1 _ _ first.3 first.4
      (decided_behind turns are.0 new first.0 most (first.3.same ∙ from_there) are.3 first.2)
  decided_behind (Keeping before behind told ∷ turns) old new known most from_there are from =
      let first = decided_one before behind told old are.0 known most from_there are.1 from in
      decided_more new.known known first.0 first.1 _ _ first.3 first.4
      (decided_behind turns are.0 new first.0 most (first.3.same ∙ from_there) are.3 first.2)

module _ {S : Type 0} (rules : Algorithm S) (m : Making) (p : Policy)
    (Came : Option (List ℕ) → Type 0) (Shut : Type 0) (most : ℕ) (passes beside : List Pass)
    (counters : Counters) (one : (g : Gate S) → ExchangesAreOneThreads g)
    (behind : AreCountersOfAll rules m (passes ++ beside) counters) where
  abbrev pub RanIn : Pass → List Turn → Type 0
  RanIn = HasRunIn (limiter_of rules m) (image_of behind.after.origin) behind.log m p Came Shut most

  -- a worker took these turns
  abbrev pub Took : Pass → List Turn → Type 0
  Took pass turns = (ran : HasRunTo m p Came Shut most pass) × (ran.run.turns ≡ turns)

  ran_in : (pass : Pass) (turns : List Turn) → Took pass turns → IsPrefix pass.log behind.log
      → RanIn pass turns
  ran_in pass turns took begun =
      let ran = took.0 in
      let g = limiter_of rules m in
      let o = image_of behind.after.origin in
      let all = decided_behind g (one g) p Came ran.run.turns _ _
      (known_at m (pass_of 0) 0) (exhausted_from m) refl ran.run.taken.exchanges refl in
      let ends : known_at m pass ran.reached ≡ all.0 = same_Some _ all.0 all.2 in
      let numbers : all.1 ≡ pass.own =
      sym (append-nil all.1) ∙ sym all.3.numbers ∙ ap (λ (known : Known). known.own) (sym ends) in
      record {
        ran = ran;
        took = took.1;
        decided =
            subst (λ (ts : List Turn). AreDecided g o behind.log (exhausted_from m)
            p.settings ts pass.own) took.1
            (subst (λ (ns : List ℕ). AreDecided g o behind.log (exhausted_from m)
            p.settings ran.run.turns ns) numbers
            (all.4 o behind.log behind.after.unasked.nobody behind.after.legal
            (subst (λ (known : Known). IsPrefix known.log behind.log) ends begun)));
      }

  all_ran : (own : List Pass) (turns : List (List Turn)) → AllZip Took own turns
      → All (λ pass. IsPrefix pass.log behind.log) (own ++ beside) → AllZip RanIn own turns
  all_ran [] [] ran begun = tt
  all_ran [] (ts ∷ tss) ran begun = absurd ran
  all_ran (q ∷ qs) [] ran begun = absurd ran
  all_ran (q ∷ qs) (ts ∷ tss) ran begun =
      let Begun : Pass → Type 0 = λ pass. IsPrefix pass.log behind.log in (
        ran_in q ts ran.0 (All-head Begun q (qs ++ beside) begun),
        all_ran qs tss ran.1 (All-tail Begun q (qs ++ beside) begun),
      )

  -- ALL OF THEM RAN IN THE LOG whose counters are told
  pub all_ran_in : (turns : List (List Turn)) → AllZip Took passes turns
      → AllZip RanIn passes turns
  all_ran_in turns all = all_ran passes turns all behind.begun
