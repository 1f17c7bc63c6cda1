-- Each call of a legal history has the sequential limiter's reply.
use Rattle.std.proofs.Common.{◌≡◌, ℕ, zero, suc, ◌+◌, [], ◌∷◌, ◌++◌, false, List, Option, Some, None, length, take, drop, sym, ap, ◌∙◌, refl, subst, arith, inl, inr}
use Rattle.std.specs.Prelude.{slice_get}
use Rattle.std.proofs.Math.Seq.{take-append_seam}
use Rattle.std.proofs.lemmas.Bool.{false≢true}
use Rattle.std.proofs.lemmas.List.{take-append-le}
use Rattle.std.proofs.lemmas.Option.{same_Some, none-some, slice_get_within}
use Rattle.lemmas.proofs.Lists.{slice_get-append}
use Rattle.lifo_backlog.specs.declared.waiter.Waiter.{Waiter}
use Rattle.limiter_core.specs.declared.event.Event.{Event}
use Rattle.limiter_core.specs.declared.event.Reply.{Reply}
use Rattle.limiter_core.specs.declared.event.Entry.{Entry}
use Rattle.limiter_core.specs.declared.event.Entry.TheVariants.{Call, Promotion}
use Rattle.limiter_core.specs.History.{Gate, Image, image_after}
use Rattle.limiter_core.specs.Answer.{answer, reply_to, promotion, promotion_then, promotions, promotions_at, next_waiter, moment_of}
use Rattle.limiter_core.specs.Legal.{IsLegal}
use Rattle.limiter_core.specs.Legal.IsLegal.{nothing, more}
use Rattle.limiter_core.specs.Laws.{TurnsAwayRightly}
use Rattle.limiter_core.specs.History.{is_call}
use Rattle.shared_gate.specs.Headline.{AcceptedIsOneThreads}

-- a list, cut at one of its items
pub cut : {X : Type 0} (xs : List X) (n : ℕ) (x : X) → slice_get xs n ≡ Some x
    → take n xs ++ x ∷ drop (suc n) xs ≡ xs
cut [] n x here = absurd (none-some x here)
cut (y ∷ xs) zero x here = ap (λ z. z ∷ xs) (sym (same_Some y x here))
cut (y ∷ xs) (suc n) x here = ap (λ zs. y ∷ zs) (cut xs n x here)

-- what a call asks
abbrev asked : Event → Entry → Event
asked other (Call event reply) = event
asked other (Promotion waiter part start inflight) = other

-- a promotion is no call
module _ {S : Type 0} (g : Gate S) where
  then_is_no_call : (i : Image S) (start : ℕ) (rest : Image S → List Entry)
      → ((j : Image S) (k : ℕ) (entry : Entry) → slice_get (rest j) k ≡ Some entry
      → is_call entry ≡ false)
      → (w : Option Waiter) (k : ℕ) (entry : Entry)
      → slice_get (promotion_then g i start rest w) k ≡ Some entry → is_call entry ≡ false
  then_is_no_call i start rest none None k entry here = absurd (none-some entry here)
  then_is_no_call i start rest none (Some w) zero entry here =
      ap is_call (sym (same_Some (promotion i start w) entry here))
  then_is_no_call i start rest none (Some w) (suc k) entry here =
      none (image_after g i (promotion i start w ∷ [])) k entry here

  promotion_is_no_call : (start turns : ℕ) (i : Image S) (k : ℕ) (entry : Entry)
      → slice_get (promotions g start turns i) k ≡ Some entry → is_call entry ≡ false
  promotion_is_no_call start zero i k entry here = absurd (none-some entry here)
  promotion_is_no_call start (suc turns) i k entry here =
      then_is_no_call i start (promotions g start turns) (promotion_is_no_call start turns)
      (next_waiter g i) k entry here

  promoted_is_no_call : (i : Image S) (at : Option ℕ) (k : ℕ) (entry : Entry)
      → slice_get (promotions_at g i at) k ≡ Some entry → is_call entry ≡ false
  promoted_is_no_call i None k entry here = absurd (none-some entry here)
  promoted_is_no_call i (Some start) k entry here = promotion_is_no_call start _ i k entry here

module _ {S : Type 0} (g : Gate S) (o : Image S) where
  -- the answer's call is its first entry
  answers_itself : (h : List Entry) (e event : Event) (reply : Reply) (k : ℕ)
      → slice_get (answer g o h e) k ≡ Some (Call event reply)
      → (k ≡ 0) × (slice_get (answer g o h event) 0 ≡ Some (Call event reply))
  answers_itself h e event reply zero here =
      let same : e ≡ event =
      ap (asked e) (same_Some _ (Call event reply) here) in (
        refl,
        subst (λ (it : Event). slice_get (answer g o h it) 0 ≡ Some (Call event reply))
            same here,
      )
  answers_itself h e event reply (suc k) here =
      let called_before = h ++ Call e (reply_to g (image_after g o h) e) ∷ [] in
      absurd (false≢true (sym (promoted_is_no_call g (image_after g o called_before)
      (moment_of g.promote e (reply_to g (image_after g o h) e)) k (Call event reply) here)))

  pub is_sequential : (h : List Entry) → IsLegal g o h → (n : ℕ) (event : Event) (reply : Reply)
      → slice_get h n ≡ Some (Call event reply)
      → slice_get (answer g o (take n h) event) 0 ≡ Some (Call event reply)
  is_sequential [] nothing n event reply here = absurd (none-some (Call event reply) here)
  is_sequential _ (more h e before may) n event reply here =
      elim (slice_get-append h (answer g o h e) n (Call event reply) here) [
        | inl earlier ↦
            let within = slice_get_within h n (Call event reply) earlier in
            subst (λ (it : List Entry). slice_get (answer g o it event) 0 ≡ Some (Call event reply))
            (sym (take-append-le n h (answer g o h e) (omega (arith, within))))
            (is_sequential h before n event reply earlier)
        | inr after ↦
            let first = answers_itself h e event reply after.0 after.2 in
            let at : length h ≡ n = omega (arith, after.1, first.0) in
            let all : h ≡ take n (h ++ answer g o h e) =
            sym (take-append_seam h (answer g o h e))
            ∙ ap (λ (m : ℕ). take m (h ++ answer g o h e)) at in
            subst (λ (it : List Entry). slice_get (answer g o it event) 0 ≡ Some (Call event reply))
            all first.1
      ]

pub accepted_is_one_threads : {S : Type 0} (g : Gate S) → TurnsAwayRightly g
    → AcceptedIsOneThreads g
accepted_is_one_threads g turns o h kept legal accepted = record {
  one_threaded = legal;
  replies =
      λ place receipt here.
      is_sequential g o h legal receipt.number receipt.event receipt.reply
      (accepted.receipts place receipt here);
  shares =
      λ place receipt here part bypass wait now asks away.
      let there : slice_get h receipt.number ≡ Some (Call receipt.event receipt.reply) =
      accepted.receipts place receipt here in
      let own = there ∙ ap (λ (it : Event). Some (Call it receipt.reply)) asks in
      turns o (take receipt.number h) (drop (suc receipt.number) h) part bypass wait now
      receipt.reply (subst (IsLegal g o) (sym (cut h receipt.number _ own)) legal) away;
  once = accepted.calls;
  in_order = accepted.rising;
}
