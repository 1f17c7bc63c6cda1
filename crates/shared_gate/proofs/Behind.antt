-- The book behind a log, step by step.
use Rattle.std.proofs.Common.{◌≡◌, ℕ, ◌+◌, ◌-◌, ◌≤◌, Bool, true, false, cond, List, [], ◌∷◌, ◌++◌, length, drop}
use Rattle.std.proofs.Common.{refl, ap, sym, ◌∙◌, subst, arith, append_assoc, length-append}
use Rattle.std.proofs.lemmas.List.{append-nil}
use Rattle.std.proofs.lemmas.List.Sums.{sum_by-append}
use Rattle.lemmas.proofs.Lists.{drop-append_at}
use Rattle.limit_laws.specs.Algorithm.{Algorithm}
use Rattle.limiter_core.specs.declared.counters.Counters.{Counters}
use Rattle.limiter_core.specs.declared.event.Event.{Event}
use Rattle.limiter_core.specs.declared.event.Entry.{Entry}
use Rattle.limiter_core.specs.History.{image_after}
use Rattle.limiter_core.specs.Counting.{counters_after}
use Rattle.limiter_core.specs.Laws.{CountersAddUp}
use Rattle.limiter_core.specs.Legal.{IsLegal}
use Rattle.gate_journal.specs.Image.{image_of}
use Rattle.gate_journal.specs.Journal.{Journal, answered, gate, next_number, opening}
use Rattle.gate_journal.specs.Rolling.{IsLastStretch, StretchesJoin, continued, ready, rolls}
use Rattle.gate_journal.specs.Rolling.{standing}
use Rattle.gate_ledgers.specs.Course.{Change}
use Rattle.gate_ledgers.specs.Receipt.{Told}
use Rattle.gate_history.specs.Book.{Agrees, Book, IsUnasked, calls_of}
use Rattle.gate_history.specs.Handing.{Given}
use Rattle.gate_history.specs.Steps.{IsDone}
use Rattle.shared_gate.specs.Log.{IsBehind, MeansAtLeast}
use Rattle.shared_gate.proofs.Promoted.{one, one_call}

none_of : {A : Type 0} (xs : List A) → length xs ≡ 0 → xs ≡ []
none_of [] e = refl
none_of (x ∷ xs) e = absurd (omega arith)

-- a book of which nothing was asked is behind an empty log
pub behind_none : {S : Type 0} (rules : Algorithm S) (limit : List Change → ℕ)
    (legal : List Entry → Type 0) (b : Book S) (log : List Entry)
    → log ≡ [] → next_number b.journal ≡ 0
    → MeansAtLeast (gate rules b.journal) (opening b.journal) legal
    → length b.journal.rows ≤ 4
    → (b.journal.opening.next ≡ 0 → IsUnasked rules limit b.journal.opening)
    → IsLegal (gate rules b.journal) (opening b.journal) b.journal.entries → Agrees rules b
    → IsBehind rules limit legal log b
behind_none {S} rules limit legal b log empty none means four begins own agrees =
    let g = gate rules b.journal in
    let o = opening b.journal in
    let nothing_yet : b.journal.entries ≡ [] = none_of b.journal.entries (omega (arith, none)) in
    let same : b.journal.entries ≡ log = nothing_yet ∙ sym empty in
    let unasked = begins (omega (arith, none)) in
    record {
      origin = b.journal.opening;
      unasked = unasked;
      means = means;
      stretch = record {
        four = four;
        five = ap (λ (counts : List ℕ). length counts) unasked.idle;
        whole = subst (IsLegal g o) same own;
        own = own;
        leads =
            ap (λ (h : List Entry). image_after g o h) same;
      };
      earlier = [];
      ends = sym same;
      first = omega (arith, none);
      calls =
          let few = agrees.few in
          omega (arith, none, few, ap (λ (h : List Entry). calls_of h) empty);
      counted = ap (counters_after b.journal.opening.counters) same;
    }

-- its next number is that of the log
pub number_is : {S : Type 0} (rules : Algorithm S) (limit : List Change → ℕ)
    (legal : List Entry → Type 0) (b : Book S) (log : List Entry)
    → IsBehind rules limit legal log b → next_number b.journal ≡ length log
number_is rules limit legal b log behind =
    omega (
      arith,
      behind.first,
      ap (λ (h : List Entry). length h) behind.ends,
      length-append behind.earlier b.journal.entries,
    )

module _ {S : Type 0} (rules : Algorithm S) (j : Journal S) (e : Event)
    (same : answered rules (ready rules j) e ≡ answered rules j e) where
  abbrev fresh : Journal S
  fresh = ready rules j

  ready_next : (b : Bool)
      → (cond b (standing rules j) j.opening).next + length (cond b [] j.entries) ≡ next_number j
  ready_next true = omega arith
  ready_next false = refl

  next_is : fresh.opening.next + length fresh.entries ≡ next_number j
  next_is = ready_next (rolls j)

  -- what a step added is what stands from the next number of the log on
  pub added_is : (log : List Entry) (next : Journal S) → next ≡ continued rules j e
      → next_number j ≡ length log
      → drop (length log - next.opening.next) next.entries ≡ answered rules j e
  added_is log next is number =
      let at : length log - fresh.opening.next ≡ length fresh.entries =
      omega (arith, next_is, number) in
      subst (λ (v : Journal S).
      drop (length log - v.opening.next) v.entries ≡ answered rules j e) (sym is)
      (drop-append_at fresh.entries (answered rules fresh e) (length log - fresh.opening.next) at
      ∙ same)

  -- and the next number is behind that
  pub number_then : (log : List Entry) → next_number j ≡ length log
      → next_number (continued rules j e) ≡ length (log ++ answered rules j e)
  number_then log number =
      let own : next_number (continued rules j e)
      ≡ fresh.opening.next + length (fresh.entries ++ answered rules fresh e) = refl in
      let long : fresh.opening.next + length (fresh.entries ++ answered rules fresh e)
      ≡ length (log ++ answered rules j e) = omega (
        arith,
        number,
        next_is,
        length-append fresh.entries (answered rules fresh e),
        length-append log (answered rules j e),
        ap {B = ℕ} length same,
      ) in
      own ∙ long

  -- a roll counts on
  module _ (add : CountersAddUp) where
    counted_ready : (b : Bool)
        → counters_after (cond b (standing rules j) j.opening).counters (cond b [] j.entries)
        ≡ counters_after j.opening.counters j.entries
    counted_ready true =
        add j.opening.counters j.entries []
        ∙ ap (counters_after j.opening.counters) (append-nil j.entries)
    counted_ready false = refl

    pub counted_then : (c : Counters) (log : List Entry)
        → counters_after j.opening.counters j.entries ≡ counters_after c log
        → counters_after fresh.opening.counters (fresh.entries ++ answered rules fresh e)
        ≡ counters_after c (log ++ answered rules j e)
    counted_then c log so_far =
        sym (add fresh.opening.counters fresh.entries (answered rules fresh e))
        ∙ ap (λ (d : Counters). counters_after d (answered rules fresh e))
        (counted_ready (rolls j) ∙ so_far)
        ∙ ap (counters_after (counters_after c log)) same
        ∙ add c log (answered rules j e)

  -- a roll leaves all entries so far behind
  module _ (log earlier : List Entry) (ends : log ≡ earlier ++ j.entries)
      (first : j.opening.next ≡ length earlier) where
    abbrev left : Bool → List Entry
    left b = cond b log earlier

    ends_ready : (b : Bool) → log ≡ left b ++ cond b [] j.entries
    ends_ready true = sym (append-nil log)
    ends_ready false = ends

    first_ready : (b : Bool) → (cond b (standing rules j) j.opening).next ≡ length (left b)
    first_ready true = omega (
      arith,
      first,
      ap (λ (h : List Entry). length h) ends,
      length-append earlier j.entries,
    )
    first_ready false = first

    pub ends_then : log ++ answered rules j e
        ≡ left (rolls j) ++ (fresh.entries ++ answered rules fresh e)
    ends_then =
        ap (λ (h : List Entry). h ++ answered rules j e) (ends_ready (rolls j))
        ∙ append_assoc (left (rolls j)) fresh.entries (answered rules j e)
        ∙ ap (λ (h : List Entry). left (rolls j) ++ (fresh.entries ++ h)) (sym same)

    pub first_then : fresh.opening.next ≡ length (left (rolls j))
    first_then = first_ready (rolls j)

-- A STEP of the book that is done, where the pick is what the journal has from the log's next
-- number on
module _ {S : Type 0} (rules : Algorithm S) (old new : Book S) (before after : ℕ) (e : Event)
    (told : Told) (got : Given) (d : IsDone rules old new before after e told got)
    (same : answered rules (ready rules old.journal) e ≡ answered rules old.journal e)
    (limit : List Change → ℕ) (legal : List Entry → Type 0) (log : List Entry)
    (behind : IsBehind rules limit legal log old)
    (next : Journal S) (is : next ≡ new.journal) where
  number : next_number old.journal ≡ length log
  number = number_is rules limit legal old log behind

  picked_is : drop (length log - next.opening.next) next.entries ≡ answered rules old.journal e
  picked_is = added_is rules old.journal e same log next (is ∙ d.journal) number

  pub next_then : next_number next
      ≡ length (log ++ drop (length log - next.opening.next) next.entries)
  next_then =
      ap next_number (is ∙ d.journal)
      ∙ (number_then rules old.journal e same log number
      ∙ ap (λ (xs : List Entry). length (log ++ xs)) (sym picked_is))

  -- the log after it
  module _ (longer : List Entry)
      (raised : longer ≡ log ++ drop (length log - next.opening.next) next.entries) where
    pub longer_is : longer ≡ log ++ answered rules old.journal e
    longer_is = raised ∙ ap (λ (xs : List Entry). log ++ xs) picked_is

    calls_then : new.tally.calls ≡ calls_of (log ++ answered rules old.journal e)
    calls_then = omega (
      arith,
      d.calls,
      behind.calls,
      sum_by-append one log (answered rules old.journal e),
      one_call rules old.journal e,
    )

    pub behind_then : StretchesJoin rules → CountersAddUp → IsBehind rules limit legal longer new
    behind_then join add =
        let j = old.journal in
        let whole : List Entry = log ++ answered rules j e in
        let then : Journal S = continued rules j e in
        let stretch = (join (image_of behind.origin) log j e behind.stretch d.may).1 in
        subst (λ (l : List Entry). IsBehind rules limit legal l new) (sym longer_is) (record {
          origin = behind.origin;
          unasked = behind.unasked;
          means =
              subst (λ (v : Journal S). MeansAtLeast (gate rules v) (image_of behind.origin) legal)
              (sym d.journal) behind.means;
          stretch =
              subst (λ (v : Journal S).
              IsLastStretch rules (image_of behind.origin) whole v)
              (sym d.journal) stretch;
          earlier = cond (rolls j) log behind.earlier;
          ends =
              ends_then rules j e same log behind.earlier behind.ends behind.first
              ∙ ap (λ (v : Journal S). cond (rolls j) log behind.earlier ++ v.entries)
              (sym d.journal);
          first =
              ap (λ (v : Journal S). v.opening.next) d.journal
              ∙ first_then rules j e same log behind.earlier behind.ends behind.first;
          calls = calls_then;
          counted =
              ap (λ (v : Journal S). counters_after v.opening.counters v.entries) d.journal
              ∙ counted_then rules j e same add behind.origin.counters log behind.counted;
        })
