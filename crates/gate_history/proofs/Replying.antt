-- What a step replies and hands out, by the reply rule.
use Rattle.std.proofs.Common.{◌≡◌, ℕ, ◌+◌, ◌<◌, ◌==◌, ltb, ltb-true, nat_lt, Bool, true, false}
use Rattle.std.proofs.Common.{◌||◌, cond, List, [], ◌∷◌, length, Option, None, Some}
use Rattle.std.proofs.Common.{Result, Ok, Err, is_some, find, count_by}
use Rattle.std.proofs.Common.{refl, sym, ap, subst, arith, true≢false}
use Rattle.std.specs.List.{list_any}
use Rattle.std.proofs.lemmas.Bool.{ltb-false}
use Rattle.std.proofs.lemmas.List.Sums.{sum_by-cons}
use Rattle.limit_laws.specs.declared.limit.SetFault.{SetFault}
use Rattle.partitions.specs.declared.part.Part.{Part}
use Rattle.partitions.specs.Table.{place_of}
use Rattle.lifo_backlog.specs.declared.waiter.Waiter.{Waiter}
use Rattle.limiter_core.specs.declared.event.Event.{Event}
use Rattle.limiter_core.specs.declared.event.Event.TheVariants.{Acquire, End, Claim, GiveUp}
use Rattle.limiter_core.specs.declared.event.Event.TheVariants.{SetLimit, Reset, Look}
use Rattle.limiter_core.specs.declared.event.PermitFacts.{PermitFacts}
use Rattle.limiter_core.specs.declared.event.Reply.{Reply}
use Rattle.limiter_core.specs.declared.event.Reply.TheVariants as reply
use Rattle.limiter_core.specs.History.{Gate, Image, total}
use Rattle.limiter_core.specs.Answer.{counting, granted_of, granted_or, has_room, may_wait}
use Rattle.limiter_core.specs.Answer.{queued, reply_to, set_reply, waits}
use Rattle.limiter_core.specs.Bound.{IsSound}
use Rattle.gate_history.specs.Handing.{IsChange, given, nothing}
use Rattle.gate_history.specs.Replies.{Answers, HandsBack}

-- what is found, or passes, is counted
module _ {X : Type 0} (t : X → Bool) where
  found-at : (x : X) (xs : List X) (found : X) (b : Bool) → cond b (Some x) (find t xs) ≡ Some found
      → (find t xs ≡ Some found → 0 < count_by t xs) → 0 < cond b 1 0 + count_by t xs
  found-at x xs found true e rest = omega arith
  found-at x xs found false e rest = omega (arith, rest e)

  found_counts : (xs : List X) (found : X) → find t xs ≡ Some found → 0 < count_by t xs
  found_counts [] found e = absurd (true≢false (sym (ap is_some e)))
  found_counts (x ∷ xs) found e =
      subst (λ (n : ℕ). 0 < n) (sym (sum_by-cons (λ y. cond (t y) 1 0) x xs))
      (found-at x xs found (t x) e (found_counts xs found))

  any-at : (x : X) (xs : List X) (b : Bool) → (b || list_any t xs) ≡ true
      → (list_any t xs ≡ true → 0 < count_by t xs) → 0 < cond b 1 0 + count_by t xs
  any-at x xs true e rest = omega arith
  any-at x xs false e rest = omega (arith, rest e)

  any_counts : (xs : List X) → list_any t xs ≡ true → 0 < count_by t xs
  any_counts [] e = absurd (true≢false (sym e))
  any_counts (x ∷ xs) e =
      subst (λ (n : ℕ). 0 < n) (sym (sum_by-cons (λ y. cond (t y) 1 0) x xs))
      (any-at x xs (t x) e (any_counts xs))

module _ {S : Type 0} (g : Gate S) (i : Image S) (sound : IsSound g i) where
  -- a number that is granted, or waits, was given out before
  earlier : (n : ℕ)
      → 0 < count_by (λ w. w.number == n) i.waiters
      + count_by (λ x. x.number == n) i.granted
      → n < i.next
  earlier n some = go (ltb n i.next) refl
    where
      go : (b : Bool) → ltb n i.next ≡ b → n < i.next
      go true e = ltb-true n i.next e
      go false e = absurd (omega (arith, some, sound.below n (ltb-false n i.next e)))

  earlier_granted : (n : ℕ) (one : PermitFacts) → granted_of i n ≡ Some one → n < i.next
  earlier_granted n one e =
      earlier n (omega (arith, found_counts (λ (x : PermitFacts). x.number == n) i.granted one e))

  earlier_waiting : (n : ℕ) → waits i n ≡ true → n < i.next
  earlier_waiting n e =
      earlier n (omega (arith, any_counts (λ (w : Waiter). w.number == n) i.waiters e))

  module _ (number : ℕ) (is : number ≡ i.next) (told : ℕ) where
    -- what an event gets, for a reply
    abbrev pub Fits : Event → Reply → Type 0
    Fits e r = Answers number e r (given number e r)

    acquire_fits : (part : Part) (wait : Bool) (now : ℕ) (room behind : Bool)
        → Fits (Acquire part false wait now)
        (counting told (cond room (reply.Admitted (total i + 1))
        (cond wait (cond behind reply.Waiting reply.BacklogFull) reply.Full)))
    acquire_fits part wait now true behind = (refl, refl, refl)
    acquire_fits part true now false true = (refl, refl, refl, refl)
    acquire_fits part true now false false = (refl, refl)
    acquire_fits part false now false behind = (refl, refl)

    claim_fits : (n : ℕ) (o : Option PermitFacts) (b : Bool) → granted_of i n ≡ o → waits i n ≡ b
        → Fits (Claim n) (counting told (granted_or o (cond b reply.StillWaiting reply.Lost)))
    claim_fits n (Some one) b found waiting =
        (refl, refl, omega (arith, is, earlier_granted n one found))
    claim_fits n None true found waiting =
        (refl, refl, omega (arith, is, earlier_waiting n waiting))
    claim_fits n None false found waiting = refl

    give_up_fits : (n : ℕ) (o : Option PermitFacts) (b : Bool) → granted_of i n ≡ o
        → waits i n ≡ b
        → Fits (GiveUp n) (counting told (granted_or o (cond b reply.TimedOut reply.Lost)))
    give_up_fits n (Some one) b found waiting =
        (refl, refl, omega (arith, is, earlier_granted n one found))
    give_up_fits n None true found waiting = omega (arith, is, earlier_waiting n waiting)
    give_up_fits n None false found waiting = tt

    set_fits : (n now : ℕ) (r : Result S SetFault)
        → Fits (SetLimit n now) (counting told (set_reply r))
    set_fits n now (Ok state) = tt
    set_fits n now (Err fault) = tt

    pub reply_fits : (e : Event) → Fits e (counting told (reply_to g i e))
    reply_fits (Acquire part true wait now) = refl
    reply_fits (Acquire part false wait now) = acquires wait
      where
        acquires : (wait : Bool)
            → Fits (Acquire part false wait now)
            (counting told (cond (has_room g i (place_of g.rows part))
            (reply.Admitted (total i + 1)) (queued g i (place_of g.rows part) wait)))
        acquires true =
            acquire_fits part true now (has_room g i (place_of g.rows part))
            (may_wait g i (place_of g.rows part))
        acquires false =
            acquire_fits part false now (has_room g i (place_of g.rows part)) true
    reply_fits (End ended outcome now) = tt
    reply_fits (Claim n) = claim_fits n (granted_of i n) (waits i n) refl refl
    reply_fits (GiveUp n) = give_up_fits n (granted_of i n) (waits i n) refl refl
    reply_fits (SetLimit n now) = set_fits n now (g.rules.put i.state n)
    reply_fits (Reset now) = tt
    reply_fits (Look part) = tt

-- a change hands nothing back
pub change_back : (e : Event) → IsChange e → HandsBack e nothing
change_back (SetLimit n now) is = tt
change_back (Reset now) is = tt
change_back (Look part) is = tt
change_back (Acquire part bypass wait now) is = absurd is
change_back (End ended outcome now) is = absurd is
change_back (Claim n) is = absurd is
change_back (GiveUp n) is = absurd is
