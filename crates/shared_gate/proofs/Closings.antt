-- Why a closed gate's audit fails, by its book and its history.
use Rattle.std.proofs.Common.{◌≡◌, ℕ, List, [], ◌++◌, length, drop}
use Rattle.std.proofs.Common.{refl, sym, ap, ◌∙◌, subst, arith, length-append}
use Rattle.std.specs.Prelude.{IfErr, IfOk, Result, Ok, Err, Vec, false}
use Rattle.std.specs.declared.alloc.Global.{Global}
use Rattle.lemmas.proofs.Lists.{drop-append_at}
use Rattle.limit_laws.specs.Algorithm.{Algorithm}
use Rattle.limiter_core.specs.declared.event.Entry.{Entry}
use Rattle.limiter_core.specs.History.{Gate}
use Rattle.limiter_core.specs.Legal.{IsLegal}
use Rattle.limiter_core.specs.Bound.{IsSound}
use Rattle.gate_journal.specs.Image.{Standing, image_of}
use Rattle.gate_journal.specs.Journal.{Journal, gate, opening}
use Rattle.gate_ledgers.specs.Making.{Making}
use Rattle.gate_ledgers.specs.Receipt.{Told}
use Rattle.gate_history.specs.Book.{Agrees, Book, IsMadeAs, IsUnasked, calls_of}
use Rattle.audit.specs.declared.cause.Cause.{Cause}
use Rattle.audit.specs.declared.cause.Cause.TheVariants as cause
use Rattle.audit.specs.declared.judge.Calls.{Calls}
use Rattle.audit.specs.Accepted.{IsHistoryOf}
use Rattle.audit.specs.Verdict.{Audit, HasAllPasses, audited, IsFirstCause}
use Rattle.shared_gate.specs.Closing.{IsEndOf, IsKept, is_missing, limiter_of}
use Rattle.shared_gate.specs.Log.{IsBehind}

-- the book's journal as a value of its own
pub record IsHistoryIn {S : Type 0} (b : Book S) (base : ℕ) (entries : List Entry) : Type 0 where
  pub first : base ≡ b.journal.opening.next
  pub all : entries ≡ b.journal.entries

pub is_history_in : {S : Type 0} (b : Book S) (j : Journal S) (base : ℕ) (entries : List Entry)
    → j ≡ b.journal → base ≡ j.opening.next → entries ≡ j.entries → IsHistoryIn b base entries
is_history_in {S} b j base entries same first all = record {
  first = first ∙ ap (λ (k : Journal S). k.opening.next) same;
  all = all ∙ ap (λ (k : Journal S). k.entries) same;
}

-- the gate of a journal that is made so
pub same_gate : {S : Type 0} (rules : Algorithm S) (m : Making) (j : Journal S) → IsMadeAs m j
    → gate rules j ≡ limiter_of rules m
same_gate rules m j made =
    λ k. record {
      rules = rules;
      rows = made.rows k;
      room = made.room k;
      promote = made.promote k;
    }

-- the journal of a book behind a log is the end of that
pub is_end_of : {S : Type 0} (rules : Algorithm S) (m : Making) (legal : List Entry → Type 0)
    (log : List Entry) (b : Book S) (base : ℕ) (entries : List Entry)
    → IsBehind rules m.limit legal log b → IsMadeAs m b.journal → IsHistoryIn b base entries
    → IsEndOf rules m log base entries
is_end_of {S} rules m legal log b base entries behind made is =
    let here : gate rules b.journal ≡ limiter_of rules m = same_gate rules m b.journal made in
    let parts : log ≡ behind.earlier ++ entries =
    behind.ends ∙ ap (λ (h : List Entry). behind.earlier ++ h) (sym is.all) in
    let at : base ≡ length behind.earlier = is.first ∙ behind.first in
    record {
      origin = behind.origin;
      unasked = behind.unasked;
      legal =
          subst (λ (g : Gate S). IsLegal g (image_of behind.origin) log) here
          behind.stretch.whole;
      long = omega (
        arith,
        at,
        ap (λ (h : List Entry). length h) parts,
        length-append behind.earlier entries,
      );
      ends =
          ap (λ (h : List Entry). drop base h) parts
          ∙ drop-append_at behind.earlier entries base at;
    }

-- where that begins with number 0 it is the log
pub is_all : {S : Type 0} (rules : Algorithm S) (m : Making) (log : List Entry) (base : ℕ)
    (entries : List Entry) → IsEndOf rules m log base entries → base ≡ 0 → entries ≡ log
is_all rules m log base entries end first =
    sym end.ends ∙ ap (λ (n : ℕ). drop n log) first

-- the first cause of what was shown is that of what was handed in
pub first_of : (calls : Calls) (counted base : ℕ) (entries shown : List Entry)
    (kept lists : List (Vec Told Global)) (cause : Cause) → calls.book ≡ counted
    → shown ≡ entries → lists ≡ kept → IsFirstCause (audited calls base shown lists) cause
    → IsFirstCause (audited (record { book = counted; sum = calls.sum }) base entries kept) cause
first_of calls counted base entries shown kept lists cause is same lent first =
    let same_calls : calls ≡ record { book = counted; sum = calls.sum } =
    (λ k. record { book = is k; sum = calls.sum }) in
    subst (λ (cs : Calls). IsFirstCause (audited cs base entries kept) cause) same_calls
    (subst (λ (h : List Entry). IsFirstCause (audited calls base h kept) cause) same
    (subst (λ (ls : List (Vec Told Global)). IsFirstCause (audited calls base shown ls) cause)
    lent first))

-- where all passes are there none is missing
pub none_is_missing : (a : Audit) (c : Cause) → HasAllPasses a → IsFirstCause a c
    → is_missing c ≡ false
none_is_missing a cause.Memory all first = refl
none_is_missing a (cause.PassesMissing book sum) all first =
    absurd (first.2 (first.0 ∙ all ∙ sym first.1))
none_is_missing a (cause.Rolled base) all first = refl
none_is_missing a (cause.Strange list place) all first = refl
none_is_missing a (cause.Order list place) all first = refl
none_is_missing a (cause.Uncovered number) all first = refl
none_is_missing a (cause.Unmatched number) all first = refl

-- an accepted history has the calls of the passes
pub has_the_calls : (calls : Calls) (log entries : List Entry) → calls.book ≡ calls_of log
    → calls.book ≡ calls.sum → entries ≡ log → calls.sum ≡ calls_of entries
has_the_calls calls log entries counted all is =
    sym all ∙ counted ∙ ap (λ (h : List Entry). calls_of h) (sym is)

-- it is accepted as it was shown
pub is_accepted : (entries shown : List Entry) (kept lists : List (Vec Told Global))
    → shown ≡ entries → lists ≡ kept → IsHistoryOf shown lists → IsHistoryOf entries kept
is_accepted entries shown kept lists same lent is =
    subst (λ (h : List Entry). IsHistoryOf h kept) same
    (subst (λ (ls : List (Vec Told Global)). IsHistoryOf shown ls) lent is)

-- and the gate kept it, which is made so
pub is_kept : {S : Type 0} (rules : Algorithm S) (m : Making) (b : Book S)
    (j : Journal S) (o : Standing S) (base : ℕ) (entries : List Entry)
    → IsLegal (gate rules b.journal) (opening b.journal) b.journal.entries
    → IsSound (gate rules b.journal) (opening b.journal)
    → IsMadeAs m b.journal
    → (b.journal.opening.next ≡ 0 → IsUnasked rules m.limit b.journal.opening) → Agrees rules b
    → j ≡ b.journal → o ≡ j.opening → base ≡ j.opening.next → entries ≡ j.entries
    → IsKept rules m o base entries
is_kept {S} rules m b j o base entries legal sound made unasked agrees same opens first all =
    let g : Gate S = limiter_of rules m in
    let here : gate rules b.journal ≡ g = same_gate rules m b.journal made in
    let same_opening : b.journal.opening ≡ o =
    sym (opens ∙ ap (λ (k : Journal S). k.opening) same) in
    let same_entries : b.journal.entries ≡ entries =
    sym (all ∙ ap (λ (k : Journal S). k.entries) same) in
    let same_base : base ≡ b.journal.opening.next =
    first ∙ ap (λ (k : Journal S). k.opening.next) same in
    record {
      first = first ∙ ap (λ (s : Standing S). s.next) (sym opens);
      whole = λ still. same_base ∙ agrees.begins (made.is_rolling ∙ still);
      unasked =
          λ zero_base.
          subst (λ (s : Standing S). IsUnasked rules m.limit s) same_opening
          (unasked (sym same_base ∙ zero_base));
      sound =
          subst (λ (s : Standing S). IsSound g (image_of s)) same_opening
          (subst (λ (h : Gate S). IsSound h (opening b.journal)) here sound);
      legal =
          subst (λ (xs : List Entry). IsLegal g (image_of o) xs) same_entries
          (subst (λ (s : Standing S). IsLegal g (image_of s) b.journal.entries) same_opening
          (subst (λ (h : Gate S). IsLegal h (opening b.journal) b.journal.entries) here legal));
    }

-- facts of what is answered, and of what is faulted
pub on_ok : {A E : Type 0} (P Q : A → Type 0) → ((a : A) → P a → Q a) → (r : Result A E)
    → IfOk r P → IfOk r Q
on_ok P Q f (Ok a) p = f a p
on_ok P Q f (Err e) p = tt

pub on_err : {A E : Type 0} (P P' Q : E → Type 0) → ((e : E) → P e → P' e → Q e)
    → (r : Result A E) → IfErr r P → IfErr r P' → IfErr r Q
on_err P P' Q f (Ok a) p q = tt
on_err P P' Q f (Err e) p q = f e p q
