-- Who was told to wait waits.
use Rattle.std.proofs.Common.{◌≡◌, ℕ, ◌+◌, ◌==◌, Bool, true, false, ◌||◌, List, [], ◌∷◌, ◌++◌}
use Rattle.std.proofs.Common.{length, option_to_list, refl, ap, subst}
use Rattle.std.proofs.Common.{arith, rules}
use Rattle.std.specs.List.{list_any}
use Rattle.limit_laws.specs.Algorithm.{Algorithm}
use Rattle.partitions.specs.declared.part.Part.{Part}
use Rattle.lifo_backlog.specs.declared.waiter.Waiter.{Waiter}
use Rattle.limiter_core.specs.declared.event.Event.TheVariants.{Acquire}
use Rattle.limiter_core.specs.declared.event.Reply.TheVariants.{Waiting}
use Rattle.limiter_core.specs.declared.event.Entry.{Entry}
use Rattle.limiter_core.specs.declared.event.Entry.TheVariants.{Call}
use Rattle.limiter_core.specs.History.{brought, starts_waiting, stops_waiting, untaken}
use Rattle.limiter_core.specs.Answer.{waits}
use Rattle.gate_journal.specs.Journal.{Journal, image}

or_true : (a b : Bool) → b ≡ true → (a || b) ≡ true
or_true true b is = refl
or_true false b is = is

module _ {X : Type 0} (t : X → Bool) where
  any_last : (xs ys : List X) → list_any t ys ≡ true → list_any t (xs ++ ys) ≡ true
  any_last [] ys is = is
  any_last (x ∷ xs) ys is = or_true (t x) (list_any t (xs ++ ys)) (any_last xs ys is)

same_number : (n : ℕ) → (n == n) ≡ true
same_number n = search rules

or_left : (a b : Bool) → a ≡ true → (a || b) ≡ true
or_left true b is = refl
or_left false b is = absurd (omega (arith, ap (λ (x : Bool). cond-of x) is))
  where
    cond-of : Bool → ℕ
    cond-of true = 1
    cond-of false = 0

module _ (part : Part) (now : ℕ) where
  abbrev pub last : List Entry
  last = Call (Acquire part false true now) Waiting ∷ []

  -- what an entry brings last stands
  brought_last : (n number : ℕ) (h : List Entry) → number ≡ n + length h
      → list_any (λ (w : Waiter). w.number == number)
      (brought starts_waiting stops_waiting n (h ++ last)) ≡ true
  brought_last n number [] is =
      or_left (n == number) _
      (subst (λ (m : ℕ). (n == m) ≡ true) (omega arith) (same_number n))
  brought_last n number (x ∷ xs) is =
      any_last (λ (w : Waiter). w.number == number)
      (untaken stops_waiting (xs ++ last) (option_to_list (starts_waiting n x)))
      (brought starts_waiting stops_waiting (n + 1) (xs ++ last))
      (brought_last (n + 1) number xs (omega arith))

  module _ {S : Type 0} (rules : Algorithm S) (m : Journal S) where
    pub last_waits : (number : ℕ) → number ≡ m.opening.next + length m.entries
        → waits (image rules (record m { entries = m.entries ++ last })) number ≡ true
    last_waits number is =
        any_last (λ (w : Waiter). w.number == number)
        (untaken stops_waiting (m.entries ++ last) m.opening.waiters)
        (brought starts_waiting stops_waiting m.opening.next (m.entries ++ last))
        (brought_last m.opening.next number m.entries is)
