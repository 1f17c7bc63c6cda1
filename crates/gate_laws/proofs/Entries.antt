-- Which replies an event may have, and which entries a place counts.
use Rattle.std.proofs.Common.{◌≡◌, ◌≤◌, ℕ, zero, suc, ◌+◌, ◌==◌, Bool, true, false, cond, List}
use Rattle.std.proofs.Common.{length, nat_lt, Option, None, Some, Result, Ok, Err, refl, arith}
use Rattle.std.proofs.Common.{ltb-true}
use Rattle.limit_laws.specs.declared.limit.SetFault.{SetFault}
use Rattle.partitions.specs.declared.part.Part.{Part}
use Rattle.partitions.specs.declared.part.Part.TheVariants.{Known, Unknown}
use Rattle.partitions.specs.Table.{Row, place_of}
use Rattle.limiter_core.specs.declared.event.Event.{Event}
use Rattle.limiter_core.specs.declared.event.Event.TheVariants as event
use Rattle.limiter_core.specs.declared.event.Outcome.TheVariants as outcome
use Rattle.limiter_core.specs.declared.event.PermitFacts.{PermitFacts}
use Rattle.limiter_core.specs.declared.event.Reply.{Reply}
use Rattle.limiter_core.specs.declared.event.Reply.TheVariants as reply
use Rattle.limiter_core.specs.declared.event.Entry.{Entry}
use Rattle.limiter_core.specs.declared.event.Entry.TheVariants.{Call, Promotion}
use Rattle.limiter_core.specs.History.{Gate, Image, enters, leaves, total}
use Rattle.limiter_core.specs.Answer.{counting, granted_of, granted_or, has_room, may_wait, queued}
use Rattle.limiter_core.specs.Answer.{reply_to, set_reply, waits}
use Rattle.limiter_core.specs.Counting.{is_admitted, is_dropped, is_ignored, is_promoted, is_success}

abbrev pub bit : Bool → ℕ
bit b = cond b 1 0

-- the sum over the five places
abbrev pub over_places : (ℕ → ℕ) → ℕ
over_places f = f 0 + f 1 + f 2 + f 3 + f 4

-- a part has one of them
one_of_five : (q : ℕ) → q ≤ 4 → over_places (λ p. bit (q == p)) ≡ 1
one_of_five zero few = refl
one_of_five (suc zero) few = refl
one_of_five (suc (suc zero)) few = refl
one_of_five (suc (suc (suc zero))) few = refl
one_of_five (suc (suc (suc (suc zero)))) few = refl
one_of_five (suc (suc (suc (suc (suc n))))) few = absurd (omega (arith, few))

known_at : (k l : ℕ) → l ≤ 4 → (b : Bool) → nat_lt k l ≡ b → cond b k 4 ≤ 4
known_at k l few true is = omega (arith, ltb-true k l is, few)
known_at k l few false is = omega arith

at_place : (rows : List Row) → length rows ≤ 4 → (part : Part) → place_of rows part ≤ 4
at_place rows few Unknown = omega arith
at_place rows few (Known k) = known_at k (length rows) few (nat_lt k (length rows)) refl

-- WHO WAITS: a reply that somebody is made to wait is one to an acquire, and one that the time is
-- over to a giving up of a number that waits. A reply that somebody is admitted is to an acquire
abbrev pub IsRight : (ℕ → Bool) → Event → Reply → Type 0
IsRight waiting (event.Acquire part bypass wait now) reply.TimedOut = ⊥
IsRight waiting (event.Acquire part bypass wait now) r = Unit {0}
IsRight waiting (event.GiveUp number) reply.TimedOut = waiting number ≡ true
IsRight waiting e (reply.Admitted inflight) = ⊥
IsRight waiting e reply.Waiting = ⊥
IsRight waiting e reply.TimedOut = ⊥
IsRight waiting e r = Unit {0}

module _ {S : Type 0} (g : Gate S) (i : Image S) where
  abbrev Right : Event → ℕ → Reply → Type 0
  Right e n r = IsRight (waits i) e (counting n r)

  right_queued : (part : Part) (bypass wait : Bool) (now n : ℕ) (may : Bool)
      → Right (event.Acquire part bypass wait now) n (cond may reply.Waiting reply.BacklogFull)
  right_queued part bypass wait now n true = tt
  right_queued part bypass wait now n false = tt

  right_full : (part : Part) (bypass wait : Bool) (now n : ℕ) (may : Bool)
      → Right (event.Acquire part bypass wait now) n (queued g i (place_of g.rows part) may)
  right_full part bypass wait now n false = tt
  right_full part bypass wait now n true =
      right_queued part bypass wait now n (may_wait g i (place_of g.rows part))

  right_room : (part : Part) (wait : Bool) (now n : ℕ) (room : Bool)
      → Right (event.Acquire part false wait now) n
      (cond room (reply.Admitted (total i + 1)) (queued g i (place_of g.rows part) wait))
  right_room part wait now n true = tt
  right_room part wait now n false = right_full part false wait now n wait

  right_claim : (number n : ℕ) (granted : Option PermitFacts) (still : Bool)
      → Right (event.Claim number) n
      (granted_or granted (cond still reply.StillWaiting reply.Lost))
  right_claim number n (Some permit) still = tt
  right_claim number n None true = tt
  right_claim number n None false = tt

  right_give_up : (number n : ℕ) (granted : Option PermitFacts) (still : Bool)
      → waits i number ≡ still
      → Right (event.GiveUp number) n (granted_or granted (cond still reply.TimedOut reply.Lost))
  right_give_up number n (Some permit) still is = tt
  right_give_up number n None true is = is
  right_give_up number n None false is = tt

  right_set : (limit now n : ℕ) (put : Result S SetFault)
      → Right (event.SetLimit limit now) n (set_reply put)
  right_set limit now n (Ok state) = tt
  right_set limit now n (Err fault) = tt

  -- so it is of what the limiter replies
  pub right : (e : Event) (n : ℕ) → IsRight (waits i) e (counting n (reply_to g i e))
  right (event.Acquire part true wait now) n = tt
  right (event.Acquire part false wait now) n =
      right_room part wait now n (has_room g i (place_of g.rows part))
  right (event.End permit outcome now) n = tt
  right (event.Claim number) n = right_claim number n (granted_of i number) (waits i number)
  right (event.GiveUp number) n =
      right_give_up number n (granted_of i number) (waits i number) refl
  right (event.SetLimit limit now) n = right_set limit now n (g.rules.put i.state limit)
  right (event.Reset now) n = tt
  right (event.Look part) n = tt

-- an entry's place, and its count
module _ (rows : List Row) (few : length rows ≤ 4) where
  abbrev Enters : Entry → Type 0
  Enters e = over_places (λ p. bit (enters rows p e)) ≡ bit (is_admitted e) + bit (is_promoted e)

  abbrev Leaves : Entry → Type 0
  Leaves e =
      over_places (λ p. bit (leaves rows p e))
      ≡ bit (is_success e) + bit (is_ignored e) + bit (is_dropped e)

  pub promoted_enters : (waiter : ℕ) (part : Part) (start inflight : ℕ)
      → Enters (Promotion waiter part start inflight)
  promoted_enters waiter part start inflight =
      one_of_five (place_of rows part) (at_place rows few part)

  acquire_enters : (part : Part) (bypass wait : Bool) (now : ℕ) (r : Reply)
      → Enters (Call (event.Acquire part bypass wait now) r)
  acquire_enters part bypass wait now (reply.Admitted inflight) =
      one_of_five (place_of rows part) (at_place rows few part)
  acquire_enters part bypass wait now _ = refl

  pub call_enters : (waiting : ℕ → Bool) (e : Event) (r : Reply) → IsRight waiting e r
      → Enters (Call e r)
  call_enters waiting (event.Acquire part bypass wait now) r is =
      acquire_enters part bypass wait now r
  call_enters waiting _ (reply.Admitted inflight) is = absurd is
  call_enters waiting _ _ is = refl

  pub call_leaves : (e : Event) (r : Reply) → Leaves (Call e r)
  call_leaves (event.End permit outcome.Success now) r =
      one_of_five (place_of rows permit.part) (at_place rows few permit.part)
  call_leaves (event.End permit outcome.Ignored now) r =
      one_of_five (place_of rows permit.part) (at_place rows few permit.part)
  call_leaves (event.End permit outcome.Dropped now) r =
      one_of_five (place_of rows permit.part) (at_place rows few permit.part)
  call_leaves _ r = refl
