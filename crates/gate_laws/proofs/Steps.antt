-- Each entry changes who waits just as it is counted.
use Rattle.std.proofs.Common.{◌≡◌, ◌≤◌, ℕ, ◌+◌, ◌==◌, Bool, true, false, not}
use Rattle.std.proofs.Common.{◌||◌, List, [], ◌∷◌, ◌++◌, length, Option, None}
use Rattle.std.proofs.Common.{filter, count_by, length-append, option_to_list, refl, sym, ap, ◌∙◌, subst, arith}
use Rattle.std.proofs.Common.{eqb-true, true≢false}
use Rattle.std.specs.List.{list_any}
use Rattle.std.proofs.lemmas.List.{append-nil}
use Rattle.std.proofs.lemmas.List.Filters.{length-filter_both, sum_by-filter_both}
use Rattle.std.proofs.lemmas.List.Sums.{length-filter, sum_by-append, sum_by-cons}
use Rattle.partitions.specs.declared.part.Part.{Part}
use Rattle.lifo_backlog.specs.declared.waiter.Waiter.{Waiter}
use Rattle.limiter_core.specs.declared.event.Event.{Event}
use Rattle.limiter_core.specs.declared.event.Event.TheVariants as event
use Rattle.limiter_core.specs.declared.event.Entry.{Entry}
use Rattle.limiter_core.specs.declared.event.Entry.TheVariants.{Call, Promotion}
use Rattle.limiter_core.specs.declared.event.Reply.{Reply}
use Rattle.limiter_core.specs.declared.event.Reply.TheVariants as reply
use Rattle.limiter_core.specs.History.{starts_waiting, stops_waiting}
use Rattle.limiter_core.specs.Counting.{is_promoted, is_timed_out, is_waiting}
use Rattle.gate_laws.proofs.Entries.{IsRight, bit}
use Rattle.gate_laws.proofs.InFlight.{counted_both, counted_more}
use Rattle.gate_laws.proofs.Waiting.{kept_all, or_false, stays, waiting_after}
use Rattle.gate_laws.proofs.Waiting.{waiting_at_first, waiting_both}

-- how many of them have a number
abbrev pub numbered : ℕ → List Waiter → ℕ
numbered n ws = count_by (λ w. w.number == n) ws

-- the numbers of those who wait are different, and were given out before
pub record AreDistinct (ws : List Waiter) (next : ℕ) : Type 0 where
  pub one : (n : ℕ) → numbered n ws ≤ 1
  pub below : (n : ℕ) → next ≤ n → numbered n ws ≡ 0

-- WHO WAITS after entries: as many as before and as began to wait, less those who were promoted or
-- gave up
pub record IsMoved (ws : List Waiter) (next : ℕ) (t : List Entry) : Type 0 where
  pub moved : length (waiting_after ws next t) + count_by is_promoted t + count_by is_timed_out t
      ≡ length ws + count_by is_waiting t
  pub distinct : AreDistinct (waiting_after ws next t) (next + length t)

pub nothing_moved : (ws : List Waiter) (next : ℕ) → AreDistinct ws next → IsMoved ws next []
nothing_moved ws next are = record {
  moved = omega (arith, ap (λ (vs : List Waiter). length vs) (waiting_at_first ws next));
  distinct =
      subst (λ (vs : List Waiter). AreDistinct vs (next + 0)) (sym (waiting_at_first ws next))
      (subst (AreDistinct ws) (omega arith) are);
}

pub moved_both : (ws : List Waiter) (next : ℕ) (h t : List Entry) → IsMoved ws next h
    → IsMoved (waiting_after ws next h) (next + length h) t → IsMoved ws next (h ++ t)
moved_both ws next h t own later =
    let both = waiting_both ws next h t in
    record {
      moved = omega (
        arith,
        own.moved,
        later.moved,
        ap (λ (vs : List Waiter). length vs) both,
        counted_both is_promoted h t,
        counted_both is_timed_out h t,
        counted_both is_waiting h t,
      );
      distinct =
          subst (λ (vs : List Waiter). AreDistinct vs (next + length (h ++ t))) (sym both)
          (subst (AreDistinct (waiting_after (waiting_after ws next h) (next + length h) t))
          (omega (arith, length-append h t)) later.distinct);
    }

-- an entry that moves nobody
quiet : (ws : List Waiter) (next : ℕ) (e : Entry) → ((w : Waiter) → stops_waiting w e ≡ false)
    → starts_waiting next e ≡ None → bit (is_promoted e) + bit (is_timed_out e) ≡ bit (is_waiting e)
    → bit (is_waiting e) ≡ 0 → AreDistinct ws next → IsMoved ws next (e ∷ [])
quiet ws next e stops starts counted none are =
    let same : waiting_after ws next (e ∷ []) ≡ ws =
    ap (λ (o : Option Waiter). stays (e ∷ []) ws ++ (stays [] (option_to_list o) ++ [])) starts
    ∙ append-nil (stays (e ∷ []) ws)
    ∙ kept_all (λ w. stops_waiting w e || false)
    (λ w. ap (λ (b : Bool). b || false) (stops w)) ws in
    record {
      moved = omega (
        arith,
        ap (λ (vs : List Waiter). length vs) same,
        counted_more is_promoted e [],
        counted_more is_timed_out e [],
        counted_more is_waiting e [],
        counted,
        none,
      );
      distinct = record {
        one = λ n. omega (arith, ap (numbered n) same, are.one n);
        below = λ n later. omega (arith, ap (numbered n) same, are.below n (omega (arith, later)));
      };
    }

-- an acquire that is made to wait has a number of its own
module _ (ws : List Waiter) (next : ℕ) (are : AreDistinct ws next) where
  new_number : (n : ℕ) (here : Bool) → (next == n) ≡ here → numbered n ws + bit here ≤ 1
  new_number n true is = omega (arith, are.below n (omega (arith, eqb-true next n is)))
  new_number n false is = omega (arith, are.one n)

  not_new : (n : ℕ) (here : Bool) → (next == n) ≡ here → next + 1 ≤ n
      → numbered n ws + bit here ≡ 0
  not_new n true is later = absurd (omega (arith, eqb-true next n is, later))
  not_new n false is later = omega (arith, are.below n (omega (arith, later)))

  begins : (part : Part) (bypass wait : Bool) (now : ℕ)
      → IsMoved ws next (Call (event.Acquire part bypass wait now) reply.Waiting ∷ [])
  begins part bypass wait now =
      let e = Call (event.Acquire part bypass wait now) reply.Waiting in
      let new : Waiter = record { number = next; part = part } in
      let same : waiting_after ws next (e ∷ []) ≡ ws ++ new ∷ [] =
      ap (λ (vs : List Waiter). vs ++ new ∷ []) (kept_all (λ w. false) (λ w. refl) ws) in
      let counted : (n : ℕ) → numbered n (ws ++ new ∷ []) ≡ numbered n ws + bit (next == n) =
      λ n. sum_by-append (λ w. bit (w.number == n)) ws (new ∷ []) ∙ omega arith in
      record {
        moved = omega (
          arith,
          ap (λ (vs : List Waiter). length vs) same,
          length-append ws (new ∷ []),
        );
        distinct = record {
          one =
              λ n.
              omega (arith, ap (numbered n) same, counted n, new_number n (next == n) refl);
          below =
              λ n later.
              omega (
                arith,
                ap (numbered n) same,
                counted n,
                not_new n (next == n) refl (omega (arith, later)),
              );
        };
      }

-- an entry that takes the one waiter of a number away
counted_same : (t u : Waiter → Bool) → ((w : Waiter) → t w ≡ u w) → (ws : List Waiter)
    → count_by t ws ≡ count_by u ws
counted_same t u same [] = refl
counted_same t u same (w ∷ ws) = omega (
  arith,
  sum_by-cons (λ v. bit (t v)) w ws,
  sum_by-cons (λ v. bit (u v)) w ws,
  ap bit (same w),
  counted_same t u same ws,
)

pub not_not : (b : Bool) → b ≡ not (not b)
not_not true = refl
not_not false = refl

takes : (ws : List Waiter) (next number : ℕ) (e : Entry)
    → ((w : Waiter) → stops_waiting w e ≡ (w.number == number)) → starts_waiting next e ≡ None
    → bit (is_promoted e) + bit (is_timed_out e) ≡ 1 → bit (is_waiting e) ≡ 0
    → 1 ≤ numbered number ws → AreDistinct ws next → IsMoved ws next (e ∷ [])
takes ws next number e stops starts counted none some are =
    let gone : Waiter → Bool = λ w. stops_waiting w e || false in
    let kept = filter (λ w. not (gone w)) ws in
    let same : waiting_after ws next (e ∷ []) ≡ kept =
    ap (λ (o : Option Waiter). stays (e ∷ []) ws ++ (stays [] (option_to_list o) ++ [])) starts
    ∙ append-nil kept in
    let one : count_by gone ws ≡ numbered number ws =
    counted_same gone (λ w. w.number == number)
    (λ w. or_false (stops_waiting w e) ∙ stops w) ws in
    let fewer : (n : ℕ) → numbered n kept ≤ numbered n ws =
    λ n. omega (
      arith,
      sum_by-filter_both (λ w. not (gone w)) gone (λ w. not_not (gone w))
          (λ w. bit (w.number == n)) ws,
    ) in
    record {
      moved = omega (
        arith,
        ap (λ (vs : List Waiter). length vs) same,
        length-filter_both (λ w. not (gone w)) gone (λ w. not_not (gone w)) ws,
        length-filter gone ws,
        one,
        some,
        are.one number,
        counted_more is_promoted e [],
        counted_more is_timed_out e [],
        counted_more is_waiting e [],
        counted,
        none,
      );
      distinct = record {
        one = λ n. omega (arith, ap (numbered n) same, fewer n, are.one n);
        below =
            λ n later.
            omega (arith, ap (numbered n) same, fewer n, are.below n (omega (arith, later)));
      };
    }

-- a number that waits is had by somebody
first_or_later : (number : ℕ) (w : Waiter) (ws : List Waiter) (here : Bool)
    → here || list_any (λ v. v.number == number) ws ≡ true
    → (list_any (λ v. v.number == number) ws ≡ true → 1 ≤ numbered number ws)
    → numbered number (w ∷ ws) ≡ bit here + numbered number ws
    → 1 ≤ numbered number (w ∷ ws)
first_or_later number w ws true is rest counted = omega (arith, counted)
first_or_later number w ws false is rest counted = omega (arith, counted, rest is)

somebody : (number : ℕ) (ws : List Waiter) → list_any (λ w. w.number == number) ws ≡ true
    → 1 ≤ numbered number ws
somebody number [] is = absurd (true≢false (sym is))
somebody number (w ∷ ws) is =
    first_or_later number w ws (w.number == number) is (somebody number ws)
    (sum_by-cons (λ v. bit (v.number == number)) w ws)

-- A CALL moves those whom its reply says
pub called : (ws : List Waiter) (next : ℕ) (e : Event) (r : Reply)
    → IsRight (λ number. list_any (λ w. w.number == number) ws) e r → AreDistinct ws next
    → IsMoved ws next (Call e r ∷ [])
called ws next (event.Acquire part bypass wait now) reply.Waiting is are =
    begins ws next are part bypass wait now
called ws next (event.Acquire part bypass wait now) reply.TimedOut is are = absurd is
called ws next (event.Acquire part bypass wait now) r is are =
    quiet ws next (Call (event.Acquire part bypass wait now) r) (λ w. refl) refl refl refl are
called ws next (event.GiveUp number) reply.TimedOut is are =
    takes ws next number (Call (event.GiveUp number) reply.TimedOut) (λ w. refl) refl refl refl
    (somebody number ws is) are
called ws next (event.GiveUp number) reply.Waiting is are = absurd is
called ws next (event.GiveUp number) r is are =
    quiet ws next (Call (event.GiveUp number) r) (λ w. refl) refl refl refl are
called ws next _ reply.Waiting is are = absurd is
called ws next _ reply.TimedOut is are = absurd is
called ws next e r is are = quiet ws next (Call e r) (λ w. refl) refl refl refl are

-- a promotion takes whom it names
pub promoted_one : (ws : List Waiter) (next waiter : ℕ) (part : Part) (start inflight : ℕ)
    → 1 ≤ numbered waiter ws → AreDistinct ws next
    → IsMoved ws next (Promotion waiter part start inflight ∷ [])
promoted_one ws next waiter part start inflight some are =
    takes ws next waiter (Promotion waiter part start inflight) (λ w. refl) refl refl refl some are
