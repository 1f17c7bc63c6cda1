-- A calendar of arrivals that are all to come.
use Rattle.std.proofs.Common.{◌≡◌, ℕ, ◌+◌, ◌<◌, ◌≤◌, true, List, [], length, nat_eq, Option, None}
use Rattle.std.proofs.Common.{Some, slice_get, unwrap_or, refl, sym, ap, ◌∙◌, subst, ⊎_elim, ◌⊎◌}
use Rattle.std.proofs.Common.{inl, inr, arith}
use Rattle.std.specs.Prelude.{option_and_then}
use Rattle.std.proofs.lemmas.Bool.{cases_eq}
use Rattle.std.proofs.lemmas.Option.{slice_get_within}
use Rattle.std.specs.BTreeSet as tree
use Rattle.std.specs.HashMap as hash
use Rattle.std.specs.Map.{lookup}
use Rattle.trace.specs.declared.arrival.Arrival.{Arrival}
use Rattle.virtual_time.specs.declared.action.Kind.TheVariants.{Arriving}
use Rattle.virtual_time.specs.declared.action.Action.{Action}
use Rattle.virtual_time.specs.declared.calendar.Calendar.{Calendar}
use Rattle.virtual_time.specs.Pending.{IsPending, arriving}
use Rattle.virtual_time.specs.Calendar.{Has, IsHeld}
use Rattle.virtual_time.proofs.Orders.{derived, actions_cases}
use Rattle.virtual_time.proofs.Calendars.{inserted}

-- the arrivals before a place, and no other actions, are queued
pub record HasFirst (arrivals : List Arrival) (place : ℕ) (actions : tree.BTreeSet Action) : Type 0
  where
    pub from : (t : ℕ) (d : Action) → Has actions d → IsPending arrivals t [] d
    pub below : (d : Action) → Has actions d → d.place < place
    pub to : (t : ℕ) (d : Action) → IsPending arrivals t [] d → d.place < place → Has actions d

-- the action of an arrival that is to come
to_come : (arrivals : List Arrival) (t place : ℕ) (a : Arrival) → slice_get arrivals place ≡ Some a
    → IsPending arrivals t [] (arriving a place)
to_come arrivals t place a found =
    ap (option_and_then (λ (b : Arrival). Some (arriving b place))) found

module _ (arrivals : List Arrival) (place : ℕ) (a : Arrival) (found : slice_get arrivals place
    ≡ Some a) (old new : tree.BTreeSet Action) (first : HasFirst arrivals place old)
    (updates : tree.Updates derived old new (arriving a place) true) where
  came : (d : Action) → Has new d → (arriving a place ≡ d) ⊎ Has old d
  came d h = ⊎_elim (λ same. inl same)
      (λ apart. inr (sym ((inserted old new (arriving a place) updates).1 d apart) ∙ h))
      (actions_cases (arriving a place) d)

  pub first_more : HasFirst arrivals (place + 1) new
  first_more = record {
    from = λ t d h. ⊎_elim (λ same. subst (IsPending arrivals t []) same
        (to_come arrivals t place a found)) (first.from t d) (came d h);
    below = λ d h. ⊎_elim (λ same. omega (arith, ap (λ (x : Action). x.place) same))
        (λ had. omega (arith, first.below d had)) (came d h);
    to = λ t d p under. ⊎_elim
        (λ same.
        let is : arriving a place ≡ d =
        ap (λ (o : Option Action). unwrap_or o d) (sym (to_come arrivals t place a found)
        ∙ ap (λ (q : ℕ). option_and_then (λ (b : Arrival). Some (arriving b q))
        (slice_get arrivals q)) (sym same) ∙ p) in
        subst (Has new) is (inserted old new (arriving a place) updates).0)
        (λ apart. (inserted old new (arriving a place) updates).1 d
        (λ same. apart (ap (λ (x : Action). x.place) same))
        ∙ first.to t d p (omega (arith, under, apart)))
        (cases_eq d.place place);
  }

-- all are to come
arrives : (arrivals : List Arrival) (t : ℕ) (d : Action) (o : Option Arrival)
    → option_and_then (λ (b : Arrival). Some (arriving b d.place)) o ≡ Some d → d.kind ≡ Arriving
arrives arrivals t d None h = cc
arrives arrivals t d (Some a) h = ap (λ (o : Option Action). (unwrap_or o d).kind) (sym h)

within : (arrivals : List Arrival) (t : ℕ) (d : Action) (o : Option Arrival)
    → slice_get arrivals d.place ≡ o
    → option_and_then (λ (b : Arrival). Some (arriving b d.place)) o ≡ Some d
    → d.place < length arrivals
within arrivals t d None e h = cc
within arrivals t d (Some a) e h = slice_get_within arrivals d.place a e

pub all_to_come : (arrivals : List Arrival) (place : ℕ) (c : Calendar) → length arrivals ≤ place
    → HasFirst arrivals place c.actions → c.waiters.entries ≡ [] → c.read ≡ 0 → (t : ℕ)
    → IsHeld arrivals t [] [] c
all_to_come arrivals place c all first empty unread t =
    let none : (n : ℕ) → hash.get nat_eq c.waiters n ≡ None =
    λ n. ap (λ (es : List (ℕ × Action)). lookup (λ m. nat_eq n m) es) empty in
    let comes : (d : Action) → Has c.actions d → d.kind ≡ Arriving =
    λ d h. arrives arrivals t d (slice_get arrivals d.place) (first.from t d h) in
    record {
      kept = record {
        found = λ d h waits. cc (comes d h);
        gives_up = λ n d h. cc (none n);
        named = λ n d h. cc (none n);
        numbered = λ d h waits. cc (comes d h);
        read = λ k d below f. omega (arith, below, unread);
        within = omega (arith, unread);
      };
      from = first.from t;
      to = λ d p. first.to t d p
          (omega (arith, all, within arrivals t d (slice_get arrivals d.place) refl p));
    }
