-- What a calendar keeps while entries come and an action joins its queue.
use Rattle.std.proofs.Common.{◌≡◌, ◌≢◌, ℕ, zero, suc, ◌<◌, List, [], ◌∷◌, ◌++◌, length, nat_eq}
use Rattle.std.proofs.Common.{Option, Some, slice_get, unwrap_or, refl, sym, ap, ◌∙◌, subst, ⊎_elim}
use Rattle.std.proofs.Common.{◌⊎◌, inl, inr, length-append, arith}
use Rattle.std.proofs.lemmas.Bool.{cases_eq}
use Rattle.std.specs.HashMap as hash
use Rattle.limiter_core.specs.declared.event.Entry.{Entry}
use Rattle.virtual_time.specs.declared.action.Kind.{Kind}
use Rattle.virtual_time.specs.declared.action.Kind.TheVariants.{Ending, GivingUp, Arriving}
use Rattle.virtual_time.specs.declared.action.Action.{Action}
use Rattle.virtual_time.specs.declared.calendar.Calendar.{Calendar}
use Rattle.virtual_time.specs.Next.{promotes}
use Rattle.virtual_time.specs.Calendar.{Has, IsKept, Adds}
use Rattle.virtual_time.proofs.Orders.{actions_cases}

slice_get-grown : {X : Type 0} (xs ys : List X) (k : ℕ) → k < length xs → slice_get (xs ++ ys) k
    ≡ slice_get xs k
slice_get-grown [] ys k h = absurd (omega (arith, h))
slice_get-grown (x ∷ xs) ys zero h = refl
slice_get-grown (x ∷ xs) ys (suc k) h = slice_get-grown xs ys k (omega (arith, h))

-- more entries change nothing
pub kept_grown : (entries told : List Entry) (c : Calendar) → IsKept entries c
    → IsKept (entries ++ told) c
kept_grown entries told c kept = record {
  found = kept.found;
  gives_up = kept.gives_up;
  named = kept.named;
  numbered = λ d h waits. omega (arith, kept.numbered d h waits, length-append entries told);
  read = λ k d below f. kept.read k d below (record {
    gives_up = f.gives_up;
    promoted = ap promotes (sym
        (slice_get-grown entries told k (omega (arith, below, kept.within)))) ∙ f.promoted;
    earlier = f.earlier;
    late = f.late;
    waits = f.waits;
  });
  within = omega (arith, kept.within, length-append entries told);
}

gives_up_cases : (k : Kind) → (k ≡ GivingUp) ⊎ (k ≢ GivingUp)
gives_up_cases Ending = inr (λ h. cc)
gives_up_cases GivingUp = inl refl
gives_up_cases Arriving = inr (λ h. cc)

module _ (entries told : List Entry) (old new : Calendar) (d : Action) (kept : IsKept entries old)
    (adds : Adds old new d) (numbered : d.kind ≡ GivingUp → d.number ≡ length entries)
    (some : 0 < length told) where
  -- what is queued now is the action, or was queued before
  pub joined : (e : Action) → Has new.actions e → (d ≡ e) ⊎ Has old.actions e
  joined e h = ⊎_elim (λ same. inl same) (λ apart. inr (sym (adds.others e apart) ∙ h))
      (actions_cases d e)

  -- what is found now under a number is the action, or was found before
  found_before : (n : ℕ) (e : Action) → hash.get nat_eq new.waiters n ≡ Some e
      → ((d ≡ e) × (n ≡ d.number) × (d.kind ≡ GivingUp)) ⊎ (hash.get nat_eq old.waiters n ≡ Some e)
  found_before n e h = ⊎_elim
      (λ waits. ⊎_elim
      (λ same. inl (
        ap (λ (o : Option Action). unwrap_or o e) (sym (adds.waits waits)
            ∙ ap (hash.get nat_eq new.waiters) (sym same) ∙ h),
        same,
        waits,
      ))
      (λ apart. inr (sym (adds.apart n apart) ∙ h)) (cases_eq n d.number))
      (λ no. inr (sym (adds.same no n) ∙ h)) (gives_up_cases d.kind)

  -- what was found before under a number that was given out is found still
  found_still : (n : ℕ) (e : Action) → n < length entries → hash.get nat_eq old.waiters n ≡ Some e
      → hash.get nat_eq new.waiters n ≡ Some e
  found_still n e below h = ⊎_elim
      (λ waits. adds.apart n (λ same. omega (arith, same, numbered waits, below)) ∙ h)
      (λ no. adds.same no n ∙ h) (gives_up_cases d.kind)

  pub kept_added : IsKept (entries ++ told) new
  kept_added =
      let grown = kept_grown entries told old kept in
      record {
        found = λ e h waits. ⊎_elim
            (λ same. subst (λ (x : Action). hash.get nat_eq new.waiters x.number ≡ Some x) same
            (adds.waits (ap (λ (x : Action). x.kind) same ∙ waits)))
            (λ had. found_still e.number e (kept.numbered e had waits) (kept.found e had waits))
            (joined e h);
        gives_up = λ n e h. ⊎_elim (λ here. ap (λ (x : Action). x.kind) (sym here.0) ∙ here.2)
            (kept.gives_up n e) (found_before n e h);
        named = λ n e h. ⊎_elim (λ here. ap (λ (x : Action). x.number) (sym here.0) ∙ sym here.1)
            (kept.named n e) (found_before n e h);
        numbered = λ e h waits. ⊎_elim
            (λ same. omega (
              arith,
              ap (λ (x : Action). x.number) same,
              numbered
                  (ap (λ (x : Action). x.kind) same ∙ waits),
              some,
              length-append entries told,
            ))
            (λ had. grown.numbered e had waits) (joined e h);
        read = λ k e below f. ⊎_elim
            (λ same. omega (
              arith,
              ap (λ (x : Action). x.number) same,
              numbered
                  (ap (λ (x : Action). x.kind) same ∙ f.gives_up),
              f.earlier,
              kept.within,
              adds.read,
              below,
            ))
            (λ had. grown.read k e (omega (arith, adds.read, below))
            (record {
              gives_up = f.gives_up;
              promoted = f.promoted;
              earlier = f.earlier;
              late =
                  f.late;
              waits = had;
            }))
            (joined (record e { moment = f.late }) f.waits);
        within = omega (arith, adds.read, grown.within);
      }
