-- The log behind a step, done or exhausted.
use Rattle.std.proofs.Common.{◌≡◌, ℕ, zero, suc, ◌-◌, List, [], ◌∷◌, ◌++◌, length, drop}
use Rattle.std.proofs.Common.{Result, Ok, Err}
use Rattle.std.proofs.Common.{refl, ap, sym, ◌∙◌, subst, arith}
use Rattle.std.proofs.lemmas.List.{append-nil}
use mathlib.Core.List.{IsPrefix}
use Rattle.limit_laws.specs.Algorithm.{Algorithm}
use Rattle.limiter_core.specs.declared.event.Event.{Event}
use Rattle.limiter_core.specs.declared.event.Entry.{Entry}
use Rattle.limiter_core.specs.Laws.{CountersAddUp}
use Rattle.gate_journal.specs.Journal.{Journal, answered, next_number}
use Rattle.gate_journal.specs.Rolling.{StretchesJoin, ready}
use Rattle.gate_ledgers.specs.Course.{Change}
use Rattle.gate_ledgers.specs.Receipt.{Told}
use Rattle.gate_history.specs.Book.{Book}
use Rattle.gate_history.specs.Handing.{Given}
use Rattle.gate_history.specs.Refusal.{Refusal}
use Rattle.gate_history.specs.Steps.{StepsTo}
use Rattle.gate_word.specs.Rule.{numbered}
use Rattle.shared_gate.specs.Calls.{Pass, TellsOf}
use Rattle.shared_gate.specs.Log.{IsBehind}
use Rattle.shared_gate.proofs.Behind.{behind_then, longer_is, next_then, number_is}
use Rattle.shared_gate.proofs.Telling.{tells, tells_spent}

drop_all : {A : Type 0} (xs : List A) (k : ℕ) → k ≡ length xs → drop k xs ≡ []
drop_all [] zero e = refl
drop_all [] (suc k) e = absurd (omega arith)
drop_all (x ∷ xs) zero e = absurd (omega arith)
drop_all (x ∷ xs) (suc k) e = drop_all xs k (omega arith)

-- what the journal has from the log's next number on
abbrev picked : {S : Type 0} → List Entry → Journal S → List Entry
picked log next = drop (length log - next.opening.next) next.entries

-- where the book is as it was that is nothing
module _ {S : Type 0} (rules : Algorithm S) (old new : Book S) (limit : List Change → ℕ)
    (legal : List Entry → Type 0) (log : List Entry) (behind : IsBehind rules limit legal log old)
    (next : Journal S) (is : next ≡ new.journal) (unchanged : new ≡ old) where
  none_picked : picked log next ≡ []
  none_picked =
      let number = number_is rules limit legal old log behind in
      let as_before : next ≡ old.journal = is ∙ ap (λ (b : Book S). b.journal) unchanged in
      subst (λ (j : Journal S). picked log j ≡ []) (sym as_before)
      (drop_all old.journal.entries (length log - old.journal.opening.next)
      (omega (arith, number)))

  none_added : log ++ picked log next ≡ log
  none_added = ap (λ (h : List Entry). log ++ h) none_picked ∙ append-nil log

module _ {S : Type 0} (rules : Algorithm S) (old new : Book S) (before after : ℕ) (e : Event)
    (same : answered rules (ready rules old.journal) e ≡ answered rules old.journal e)
    (limit : List Change → ℕ) (legal : List Entry → Type 0) (log : List Entry)
    (behind : IsBehind rules limit legal log old)
    (next : Journal S) (is : next ≡ new.journal) where
  pub sealed_after : (told : Result Told Refusal) (got : Given)
      → StepsTo rules old new before after e told got
      → new.is_sealed ≡ old.is_sealed
  sealed_after (Ok told) got d = d.is_sealed
  sealed_after (Err refusal) got d = ap (λ (b : Book S). b.is_sealed) d.same

  -- it has as many passes as before
  pub passes_after : (told : Result Told Refusal) (got : Given)
      → StepsTo rules old new before after e told got
      → new.tally.passes ≡ old.tally.passes
  passes_after (Ok told) got d = d.passes
  passes_after (Err refusal) got d = ap (λ (b : Book S). b.tally.passes) d.same

  pub next_after : (told : Result Told Refusal) (got : Given)
      → StepsTo rules old new before after e told got
      → next_number next ≡ length (log ++ picked log next)
  next_after (Ok told) got d =
      next_then rules old new before after e told got d same limit legal log behind next is
  next_after (Err refusal) got d =
      ap next_number (is ∙ ap (λ (b : Book S). b.journal) d.same)
      ∙ number_is rules limit legal old log behind
      ∙ ap (λ (h : List Entry). length h)
      (sym (none_added rules old new limit legal log behind next is d.same))

  -- the log after it
  module _ (longer : List Entry) (raised : longer ≡ log ++ picked log next) where
    pub behind_after : StretchesJoin rules → CountersAddUp
        → (told : Result Told Refusal) (got : Given)
        → StepsTo rules old new before after e told got → IsBehind rules limit legal longer new
    behind_after join add (Ok told) got d =
        behind_then rules old new before after e told got d same limit legal log behind next is
        longer raised join add
    behind_after join add (Err refusal) got d =
        subst (λ (h : List Entry). IsBehind rules limit legal h new)
        (sym (raised ∙ none_added rules old new limit legal log behind next is d.same))
        (subst (λ (b : Book S). IsBehind rules limit legal log b) (sym d.same) behind)

    -- WHAT IT TELLS, where the pass knew a beginning of the log before it, and knows the log then
    pub tells_of : (known now : Pass) → known.count ≡ before → now.count ≡ after
        → IsPrefix known.log log → now.log ≡ longer
        → now.own ≡ numbered log (picked log next) known.own
        → (told : Result Told Refusal) (got : Given)
        → StepsTo rules old new before after e told got → TellsOf known now e told got
    tells_of known now first second begins knows owns (Ok told) got d =
        let longer_by = longer_is rules old new before after e told got d same limit legal log
        behind next is longer raised in
        tells rules old new known now e told got log (picked log next)
        (rw (first, second) d)
        (number_is rules limit legal old log behind) begins (knows ∙ longer_by)
        (sym raised ∙ longer_by) owns
    tells_of known now first second begins knows owns (Err refusal) got d =
        tells_spent rules old new known now e refusal got log
        (rw (first, second) d)
        (number_is rules limit legal old log behind) begins
        (knows ∙ raised ∙ none_added rules old new limit legal log behind next is d.same)
        (owns ∙ ap (λ (more : List Entry). numbered log more known.own)
        (none_picked rules old new limit legal log behind next is d.same))
