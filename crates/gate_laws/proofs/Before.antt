-- What stands before a call of a legal history is legal.
use Rattle.std.proofs.Common.{◌≡◌, ℕ, zero, suc, [], ◌∷◌, ◌++◌, List, Option, Some, None}
use Rattle.std.proofs.Common.{length, take, sym, ap, ◌∙◌, subst, arith, inl, inr}
use Rattle.std.specs.Prelude.{slice_get}
use Rattle.std.proofs.Math.Seq.{take-append_seam}
use Rattle.std.proofs.lemmas.List.{take-append-le}
use Rattle.std.proofs.lemmas.Option.{same_Some, none-some, slice_get_within}
use Rattle.lemmas.proofs.Lists.{slice_get-append}
use Rattle.lifo_backlog.specs.declared.waiter.Waiter.{Waiter}
use Rattle.limiter_core.specs.declared.event.Event.{Event}
use Rattle.limiter_core.specs.declared.event.Reply.{Reply}
use Rattle.limiter_core.specs.declared.event.Entry.{Entry}
use Rattle.limiter_core.specs.declared.event.Entry.TheVariants.{Call, Promotion}
use Rattle.limiter_core.specs.History.{Gate, Image, image_after}
use Rattle.limiter_core.specs.Answer.{answer, reply_to, promotion, promotion_then, promotions}
use Rattle.limiter_core.specs.Answer.{promotions_at, next_waiter, moment_of}
use Rattle.limiter_core.specs.Legal.{IsLegal}
use Rattle.limiter_core.specs.Legal.IsLegal.{nothing, more}

-- a promotion is no call
abbrev pub IsPromoted : Entry → Type 0
IsPromoted (Call event reply) = ⊥
IsPromoted (Promotion waiter part start inflight) = Unit {0}

module _ {S : Type 0} (g : Gate S) where
  then_promoted : (i : Image S) (start : ℕ) (rest : Image S → List Entry)
      → ((j : Image S) (k : ℕ) (entry : Entry) → slice_get (rest j) k ≡ Some entry
      → IsPromoted entry)
      → (w : Option Waiter) (k : ℕ) (entry : Entry)
      → slice_get (promotion_then g i start rest w) k ≡ Some entry → IsPromoted entry
  then_promoted i start rest all None k entry here = absurd (none-some entry here)
  then_promoted i start rest all (Some w) zero entry here =
      subst IsPromoted (same_Some (promotion i start w) entry here) tt
  then_promoted i start rest all (Some w) (suc k) entry here =
      all (image_after g i (promotion i start w ∷ [])) k entry here

  all_promoted : (start turns : ℕ) (i : Image S) (k : ℕ) (entry : Entry)
      → slice_get (promotions g start turns i) k ≡ Some entry → IsPromoted entry
  all_promoted start zero i k entry here = absurd (none-some entry here)
  all_promoted start (suc turns) i k entry here =
      then_promoted i start (promotions g start turns) (all_promoted start turns)
      (next_waiter g i) k entry here

  pub promoted_at : (i : Image S) (at : Option ℕ) (k : ℕ) (entry : Entry)
      → slice_get (promotions_at g i at) k ≡ Some entry → IsPromoted entry
  promoted_at i None k entry here = absurd (none-some entry here)
  promoted_at i (Some start) k entry here = all_promoted start _ i k entry here

module _ {S : Type 0} (g : Gate S) (o : Image S) where
  -- so the call of an answer is its first entry
  is_first : (h : List Entry) (e event : Event) (reply : Reply) (k : ℕ)
      → slice_get (answer g o h e) k ≡ Some (Call event reply) → k ≡ 0
  is_first h e event reply zero here = omega arith
  is_first h e event reply (suc k) here =
      absurd (promoted_at g (image_after g o (h ++ Call e (reply_to g (image_after g o h) e) ∷ []))
      (moment_of g.promote e (reply_to g (image_after g o h) e)) k (Call event reply) here)

  pub legal_before : (h : List Entry) → IsLegal g o h → (n : ℕ) (event : Event) (reply : Reply)
      → slice_get h n ≡ Some (Call event reply) → IsLegal g o (take n h)
  legal_before [] nothing n event reply here = absurd (none-some (Call event reply) here)
  legal_before _ (more h e before may) n event reply here =
      elim (slice_get-append h (answer g o h e) n (Call event reply) here) [
        | inl earlier ↦
            let within = slice_get_within h n (Call event reply) earlier in
            subst (IsLegal g o) (sym (take-append-le n h (answer g o h e) (omega (arith, within))))
            (legal_before h before n event reply earlier)
        | inr after ↦
            let at : length h ≡ n =
            omega (arith, after.1, is_first h e event reply after.0 after.2) in
            let all : h ≡ take n (h ++ answer g o h e) =
            sym (take-append_seam h (answer g o h e))
            ∙ ap (λ (m : ℕ). take m (h ++ answer g o h e)) at in
            subst (IsLegal g o) all before
      ]
