-- Two exchanges of passes that are handed back are decided in the log behind these.
use Rattle.std.proofs.Common.{◌≡◌, ℕ, List, [], ◌∷◌, ◌++◌, All, Some, ap, arith, sym, ◌∙◌, subst}
use Rattle.std.proofs.lemmas.List.{append-nil}
use Rattle.std.proofs.lemmas.List.Sums.{sum_by-cons}
use Rattle.std.proofs.lemmas.List.Elements.{All-head, All-same, All-tail}
use Rattle.std.proofs.lemmas.Option.{same_Some}
use mathlib.Core.List.{IsPrefix}
use Rattle.limit_laws.specs.Algorithm.{Algorithm}
use Rattle.limiter_core.specs.declared.counters.Counters.{Counters}
use Rattle.limiter_core.specs.History.{Gate}
use Rattle.gate_journal.specs.Image.{image_of}
use Rattle.gate_ledgers.specs.Making.{Making}
use Rattle.gate_history.specs.Refusal.{exhausted_from}
use Rattle.gate_port.specs.Log.{Known}
use Rattle.gate_port.specs.declared.report.Report.{Report}
use Rattle.gateway_settings.specs.declared.settings.Settings.{Settings}
use Rattle.gate_word.specs.Rule.{times}
use Rattle.ports.specs.Asked.{known_at}
use Rattle.shared_gate.specs.Calls.{Pass, pass_of}
use Rattle.shared_gate.specs.Closing.{limiter_of, times_by}
use Rattle.shared_gate.specs.Reported.{AreCountersOfAll}
use Rattle.proxy.specs.declared.told.ExchangeSummary.{ExchangeSummary}
use Rattle.proxy.specs.Exchanges.{Policy}
use Rattle.gate_laws.specs.Decided.{IsDecided}
use Rattle.gate_laws.specs.Exchanges.{ExchangesAreOneThreads}
use Rattle.gateway_tests.specs.Deciding.{AreBothDecided, IsServed}

-- two that were pushed behind none
pub two_pushed : {A : Type 0} (none one both : List A) (x y : A) → none ≡ []
    → one ≡ none ++ x ∷ [] → both ≡ one ++ y ∷ [] → both ≡ x ∷ y ∷ []
two_pushed {A} none one both x y empty first second =
    second ∙ ap (λ (it : List A). it ++ y ∷ []) (first ∙ ap (λ (it : List A). it ++ x ∷ []) empty)

module _ {S : Type 0} (rules : Algorithm S) (m : Making) (passes : List Pass) (counters : Counters)
    (law : (g : Gate S) → ExchangesAreOneThreads g)
    (behind : AreCountersOfAll rules m passes counters) where
  decided : (x : ExchangeSummary) (pass : Pass)
      → ((p : Policy) × IsServed m p x pass) → IsPrefix pass.log behind.log
      → (s : Settings)
      × IsDecided (limiter_of rules m) (image_of behind.after.origin) behind.log pass.own
      (exhausted_from m) s x
  decided x pass is begun =
      let told = law (limiter_of rules m) is.0 is.1.old is.1.new x (known_at m (pass_of 0) 0)
      is.1.exchanged is.1.from in
      let ends : known_at m pass is.1.reached ≡ told.0 =
      same_Some _ told.0 (sym is.1.to ∙ told.2) in
      let numbers : told.1 ≡ pass.own =
      sym (append-nil told.1) ∙ sym told.3.numbers ∙ ap (λ (it : Known). it.own) (sym ends) in (
        is.0.settings,
        subst (λ (own : List ℕ).
            IsDecided (limiter_of rules m) (image_of behind.after.origin) behind.log own
            (exhausted_from m) is.0.settings x) numbers
            (told.4 (image_of behind.after.origin) behind.log behind.after.unasked.nobody
            behind.after.legal
            (subst (λ (it : Known). IsPrefix it.log behind.log) ends begun)),
      )

  pub both_decided : (one two : Pass) (x y : ExchangeSummary) → passes ≡ one ∷ two ∷ []
      → ((p : Policy) × IsServed m p x one)
      → ((p : Policy) × IsServed m p y two)
      → AreBothDecided rules m counters x y
  both_decided one two x y same first second =
      let begins : Pass → Type 0 = λ pass. IsPrefix pass.log behind.log in
      let all : All begins (one ∷ two ∷ []) = All-same begins _ _ (sym same) behind.begun in
      record {
        origin = behind.after.origin;
        unasked = behind.after.unasked;
        log = behind.log;
        legal = behind.after.legal;
        counted = sym behind.told ∙ ap (λ (it : Report). it.counters) behind.after.told;
        own = one.own;
        others = two.own;
        apart = λ number.
            let by : Pass → ℕ = λ pass. times number pass.own in
            omega (
              arith,
              behind.once number,
              ap (λ (ps : List Pass). times_by number ps) same,
              sum_by-cons by one (two ∷ []),
              sum_by-cons by two [],
            );
        first = decided x one first (All-head begins one (two ∷ []) all);
        second = decided y two second
            (All-head begins two [] (All-tail begins one (two ∷ []) all));
      }
