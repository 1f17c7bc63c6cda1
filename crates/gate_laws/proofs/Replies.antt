-- What the limiter may reply to an acquire, and to a giving up.
use Rattle.std.proofs.Common.{◌≡◌, ℕ, ◌+◌, Bool, true, false, cond, List, Option, Some, None}
use Rattle.std.proofs.Common.{length, ap, subst, refl}
use Rattle.std.specs.Prelude.{slice_get}
use Rattle.std.proofs.lemmas.Option.{same_Some}
use Rattle.partitions.specs.declared.part.Part.{Part}
use Rattle.partitions.specs.Table.{place_of}
use Rattle.limiter_core.specs.declared.event.Event.{Event}
use Rattle.limiter_core.specs.declared.event.Event.TheVariants.{Acquire, GiveUp}
use Rattle.limiter_core.specs.declared.event.PermitFacts.{PermitFacts}
use Rattle.limiter_core.specs.declared.event.Reply.{Reply}
use Rattle.limiter_core.specs.declared.event.Reply.TheVariants as reply
use Rattle.limiter_core.specs.declared.event.Entry.{Entry}
use Rattle.limiter_core.specs.declared.event.Entry.TheVariants.{Call, Promotion}
use Rattle.limiter_core.specs.History.{Gate, Image, image_after, total}
use Rattle.limiter_core.specs.Answer.{answer, counting, granted_of, granted_or, has_room, may_wait}
use Rattle.limiter_core.specs.Answer.{promoted, queued, reply_to, waits}

-- the replies to an acquire,
abbrev pub IsOfAcquire : Reply → Type 0
IsOfAcquire (reply.Admitted inflight) = Unit {0}
IsOfAcquire reply.Bypassed = Unit {0}
IsOfAcquire reply.Full = Unit {0}
IsOfAcquire reply.BacklogFull = Unit {0}
IsOfAcquire reply.Waiting = Unit {0}
IsOfAcquire _ = ⊥

-- and to a giving up, of a number that waits or not
abbrev pub IsOfGivingUp : Bool → Reply → Type 0
IsOfGivingUp still (reply.Granted part start inflight) = Unit {0}
IsOfGivingUp still reply.TimedOut = still ≡ true
IsOfGivingUp still reply.Lost = Unit {0}
IsOfGivingUp still _ = ⊥

may_be_queued : (n : ℕ) (may : Bool)
    → IsOfAcquire (counting n (cond may reply.Waiting reply.BacklogFull))
may_be_queued n true = tt
may_be_queued n false = tt

module _ {S : Type 0} (g : Gate S) (i : Image S) where
  is_queued : (n p : ℕ) (wait : Bool) → IsOfAcquire (counting n (queued g i p wait))
  is_queued n p false = tt
  is_queued n p true = may_be_queued n (may_wait g i p)

  has_its_room : (n p : ℕ) (wait room : Bool)
      → IsOfAcquire (counting n (cond room (reply.Admitted (total i + 1)) (queued g i p wait)))
  has_its_room n p wait true = tt
  has_its_room n p wait false = is_queued n p wait

  to_acquire : (n : ℕ) (part : Part) (bypass wait : Bool) (now : ℕ)
      → IsOfAcquire (counting n (reply_to g i (Acquire part bypass wait now)))
  to_acquire n part true wait now = tt
  to_acquire n part false wait now =
      has_its_room n (place_of g.rows part) wait (has_room g i (place_of g.rows part))

  granted_to : (n number : ℕ) (still : Bool) (granted : Option PermitFacts)
      → IsOfGivingUp still
      (counting n (granted_or granted (cond still reply.TimedOut reply.Lost)))
  granted_to n number still (Some permit) = tt
  granted_to n number true None = refl
  granted_to n number false None = tt

  to_giving_up : (n number : ℕ)
      → IsOfGivingUp (waits i number) (counting n (reply_to g i (GiveUp number)))
  to_giving_up n number = granted_to n number (waits i number) (granted_of i number)

-- the reply of an entry
abbrev reply_in : Reply → Entry → Reply
reply_in other (Call event r) = r
reply_in other (Promotion waiter part start inflight) = other

-- what is replied is by the rule
module _ {S : Type 0} (g : Gate S) (o : Image S) (h : List Entry) where
  by_rule : (e : Event) (r : Reply) → slice_get (answer g o h e) 0 ≡ Some (Call e r)
      → counting (length (promoted g o h e)) (reply_to g (image_after g o h) e) ≡ r
  by_rule e r here = ap (reply_in r) (same_Some _ (Call e r) here)

  pub of_acquire : (part : Part) (bypass wait : Bool) (now : ℕ) (r : Reply)
      → slice_get (answer g o h (Acquire part bypass wait now)) 0
      ≡ Some (Call (Acquire part bypass wait now) r)
      → IsOfAcquire r
  of_acquire part bypass wait now r here =
      subst IsOfAcquire (by_rule (Acquire part bypass wait now) r here)
      (to_acquire g (image_after g o h) _ part bypass wait now)

  pub of_giving_up : (number : ℕ) (r : Reply)
      → slice_get (answer g o h (GiveUp number)) 0 ≡ Some (Call (GiveUp number) r)
      → IsOfGivingUp (waits (image_after g o h) number) r
  of_giving_up number r here =
      subst (IsOfGivingUp (waits (image_after g o h) number))
      (by_rule (GiveUp number) r here) (to_giving_up g (image_after g o h) _ number)
