-- Who began to wait was promoted, gave up in vain, or waits.
use Rattle.std.proofs.Common.{◌≡◌, ◌≤◌, ℕ, zero, suc, ◌+◌, ◌-◌, ◌==◌, Bool, not}
use Rattle.std.proofs.Common.{◌⊎◌, inl, inr, List, [], ◌∷◌, ◌++◌, length, Option, None, Some}
use Rattle.std.proofs.Common.{length-append, option_to_list, refl, sym, ap, ◌∙◌}
use Rattle.std.proofs.Common.{subst, arith, eq-eqb}
use Rattle.std.specs.Prelude.{slice_get}
use Rattle.std.specs.List.{last_or}
use Rattle.std.proofs.lemmas.List.Filters.{sum_by-filter_both}
use Rattle.std.proofs.lemmas.List.Sums.{sum_by-cons}
use Rattle.std.proofs.lemmas.Option.{none-some, same_Some}
use Rattle.partitions.specs.Table.{place_of}
use Rattle.lifo_backlog.specs.declared.waiter.Waiter.{Waiter}
use Rattle.lifo_backlog.specs.Waiters.{newest_of}
use Rattle.limiter_core.specs.declared.event.Event.{Event}
use Rattle.limiter_core.specs.declared.event.Event.TheVariants as event
use Rattle.limiter_core.specs.declared.event.Entry.{Entry}
use Rattle.limiter_core.specs.declared.event.Entry.TheVariants.{Call}
use Rattle.limiter_core.specs.declared.event.Reply.{Reply}
use Rattle.limiter_core.specs.declared.event.Reply.TheVariants as reply
use Rattle.limiter_core.specs.declared.promote.Promote.{Promote}
use Rattle.limiter_core.specs.declared.promote.Promote.TheVariants as rule
use Rattle.limiter_core.specs.History.{Gate, Image, image_after}
use Rattle.limiter_core.specs.Answer.{answer, candidates, counting, has_room, moment_of, next_waiter}
use Rattle.limiter_core.specs.Answer.{promoted, promotion, promotion_then, promotions}
use Rattle.limiter_core.specs.Answer.{promotions_at, reply_to, with_room}
use Rattle.limiter_core.specs.Legal.{IsLegal}
use Rattle.limiter_core.specs.Legal.IsLegal.{more, nothing}
use Rattle.gate_laws.proofs.Entries.{bit, right}
use Rattle.gate_laws.proofs.Steps.{AreDistinct, IsMoved, called, moved_both, nothing_moved}
use Rattle.gate_laws.proofs.Steps.{numbered, promoted_one}
use Rattle.gate_laws.proofs.Waiting.{waiting_after, waiting_both}

own_number : (w : Waiter) (ws : List Waiter) → 1 ≤ numbered w.number (w ∷ ws)
own_number w ws = omega (
  arith,
  sum_by-cons (λ v. bit (v.number == w.number)) w ws,
  ap bit (eq-eqb w.number w.number refl),
)

-- the last one is one of them
last_of : (o : Option Waiter) (ws : List Waiter) (w : Waiter) → last_or o ws ≡ Some w
    → (o ≡ Some w) ⊎ (1 ≤ numbered w.number ws)
last_of o [] w is = inl is
last_of o (v ∷ ws) w is = elim (last_of (Some v) ws w is) [
  | inl first ↦
      inr (subst (λ (it : Waiter). 1 ≤ numbered w.number (it ∷ ws)) (sym (same_Some v w first))
      (own_number w ws))
  | inr later ↦
      inr (omega (arith, later, sum_by-cons (λ u. bit (u.number == w.number)) v ws))
]

-- who stands there is one of them
one_of : (ws : List Waiter) (k : ℕ) (o : Option Waiter) (n : ℕ) → slice_get ws k ≡ o
    → numbered n (option_to_list o) ≤ numbered n ws
one_of ws k None n is = omega arith
one_of [] k (Some w) n is = absurd (none-some w is)
one_of (v ∷ ws) zero (Some w) n is = omega (
  arith,
  sum_by-cons (λ u. bit (u.number == n)) v ws,
  sum_by-cons (λ u. bit (u.number == n)) w [],
  ap (λ (u : Waiter). bit (u.number == n)) (same_Some v w is),
)
one_of (v ∷ ws) (suc k) (Some w) n is =
    omega (arith, one_of ws k (Some w) n is, sum_by-cons (λ u. bit (u.number == n)) v ws)

fewer_looked_at : (promote : Promote) (ws : List Waiter) (n : ℕ)
    → numbered n (candidates promote ws) ≤ numbered n ws
fewer_looked_at rule.All ws n = omega arith
fewer_looked_at rule.Newest ws n = one_of ws (length ws - 1) (newest_of ws) n refl

module _ {S : Type 0} (g : Gate S) where
  -- who is promoted next waits
  next_waits : (i : Image S) (w : Waiter) → next_waiter g i ≡ Some w
      → 1 ≤ numbered w.number i.waiters
  next_waits i w is =
      let room : Waiter → Bool = λ v. has_room g i (place_of g.rows v.part) in
      let looked_at = candidates g.promote i.waiters in
      elim (last_of None (with_room g i looked_at) w is) [
        | inl none ↦ absurd (none-some w none)
        | inr some ↦ omega (
          arith,
          some,
          sum_by-filter_both room (λ v. not (room v)) (λ v. refl)
              (λ v. bit (v.number == w.number)) looked_at,
          fewer_looked_at g.promote i.waiters w.number,
        )
      ]

  abbrev Moves : Image S → List Entry → Type 0
  Moves i t = IsMoved i.waiters i.next t

  then_moves : (i : Image S) (start : ℕ) (rest : Image S → List Entry)
      → ((j : Image S) → AreDistinct j.waiters j.next → Moves j (rest j))
      → (w : Option Waiter) → next_waiter g i ≡ w → AreDistinct i.waiters i.next
      → Moves i (promotion_then g i start rest w)
  then_moves i start rest all None is are = nothing_moved i.waiters i.next are
  then_moves i start rest all (Some w) is are =
      let entry = promotion i start w in
      let j = image_after g i (entry ∷ []) in
      let first = promoted_one i.waiters i.next w.number w.part start _ (next_waits i w is) are in
      moved_both i.waiters i.next (entry ∷ []) (rest j) first (all j first.distinct)

  all_move : (start turns : ℕ) (i : Image S) → AreDistinct i.waiters i.next
      → Moves i (promotions g start turns i)
  all_move start zero i are = nothing_moved i.waiters i.next are
  all_move start (suc turns) i are =
      then_moves i start (promotions g start turns) (all_move start turns) (next_waiter g i) refl
      are

  move_at : (i : Image S) (at : Option ℕ) → AreDistinct i.waiters i.next
      → Moves i (promotions_at g i at)
  move_at i None are = nothing_moved i.waiters i.next are
  move_at i (Some start) are = all_move start _ i are

-- how many were promoted changes nothing of who waits
same_ended : (ws : List Waiter) (next : ℕ) (e : Event) (n m : ℕ)
    → waiting_after ws next (Call e (reply.Ended n) ∷ [])
    ≡ waiting_after ws next (Call e (reply.Ended m) ∷ [])
same_ended ws next (event.Acquire part bypass wait now) n m = refl
same_ended ws next (event.GiveUp number) n m = refl
same_ended ws next _ n m = refl

same_counted : (ws : List Waiter) (next : ℕ) (e : Event) (n : ℕ) (r : Reply)
    → waiting_after ws next (Call e (counting n r) ∷ []) ≡ waiting_after ws next (Call e r ∷ [])
same_counted ws next e n (reply.Ended m) = same_ended ws next e n m
same_counted ws next e n _ = refl

module _ {S : Type 0} (g : Gate S) (o : Image S) where
  -- an answer moves those whom it names
  answer_moves : (h : List Entry) (e : Event)
      → AreDistinct (image_after g o h).waiters (image_after g o h).next
      → IsMoved (image_after g o h).waiters (image_after g o h).next (answer g o h e)
  answer_moves h e are =
      let i = image_after g o h in
      let n = length (promoted g o h e) in
      let r = reply_to g i e in
      let j = image_after g o (h ++ Call e r ∷ []) in
      let first = called i.waiters i.next e (counting n r) (right g i e n) are in
      let same : j.waiters ≡ waiting_after i.waiters i.next (Call e (counting n r) ∷ []) =
      waiting_both o.waiters o.next h (Call e r ∷ []) ∙ sym (same_counted i.waiters i.next e n r) in
      let next : j.next ≡ i.next + 1 = omega (arith, length-append h (Call e r ∷ [])) in
      let distinct : AreDistinct j.waiters j.next =
      subst (AreDistinct j.waiters) (sym next)
      (subst (λ (ws : List Waiter). AreDistinct ws (i.next + 1)) (sym same) first.distinct) in
      let later = move_at g j (moment_of g.promote e r) distinct in
      moved_both i.waiters i.next (Call e (counting n r) ∷ []) (promoted g o h e) first
      (subst (λ (m : ℕ). IsMoved (waiting_after i.waiters i.next (Call e (counting n r) ∷ [])) m
      (promoted g o h e)) next
      (subst (λ (ws : List Waiter). IsMoved ws j.next (promoted g o h e)) same later))

  -- WHO BEGAN TO WAIT was promoted, gave up in vain, or waits
  pub waiters_moved : (h : List Entry) → IsLegal g o h → AreDistinct o.waiters o.next
      → IsMoved o.waiters o.next h
  waiters_moved [] nothing are = nothing_moved o.waiters o.next are
  waiters_moved _ (more h e before may) are =
      let own = waiters_moved h before are in
      moved_both o.waiters o.next h (answer g o h e) own (answer_moves h e own.distinct)
