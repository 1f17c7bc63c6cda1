-- Behind the call of an answer come promotions alone, which are no calls.
use Rattle.std.proofs.Common.{◌≡◌, ℕ, zero, suc, cond, List, [], ◌∷◌, length, Option, None, Some}
use Rattle.std.proofs.Common.{refl, arith}
use Rattle.std.proofs.lemmas.List.Sums.{sum_by-cons}
use Rattle.limit_laws.specs.Algorithm.{Algorithm}
use Rattle.lifo_backlog.specs.declared.waiter.Waiter.{Waiter}
use Rattle.limiter_core.specs.declared.event.Event.{Event}
use Rattle.limiter_core.specs.declared.event.Reply.{Reply}
use Rattle.limiter_core.specs.declared.event.Entry.{Entry}
use Rattle.limiter_core.specs.declared.event.Entry.TheVariants.{Call}
use Rattle.limiter_core.specs.History.{Gate, Image, image_after}
use Rattle.limiter_core.specs.Answer.{counting, next_waiter, promoted, promotion, promotion_then}
use Rattle.limiter_core.specs.Answer.{promotions, promotions_at, reply_to}
use Rattle.gate_journal.specs.Journal.{Journal, answered, gate, image, opening}
use Rattle.limiter_core.specs.History.{is_call}
use Rattle.gate_history.specs.Book.{calls_of}

abbrev pub one : Entry → ℕ
one entry = cond (is_call entry) 1 0

module _ {S : Type 0} (g : Gate S) where
  then_none : (i : Image S) (start : ℕ) (rest : Image S → List Entry)
      → ((j : Image S) → calls_of (rest j) ≡ 0) → (w : Option Waiter)
      → calls_of (promotion_then g i start rest w) ≡ 0
  then_none i start rest none None = refl
  then_none i start rest none (Some w) =
      let after : Image S = image_after g i (promotion i start w ∷ []) in
      omega (arith, sum_by-cons one (promotion i start w) (rest after), none after)

  promotions_none : (start turns : ℕ) (i : Image S) → calls_of (promotions g start turns i) ≡ 0
  promotions_none start zero i = refl
  promotions_none start (suc turns) i =
      then_none i start (promotions g start turns) (promotions_none start turns) (next_waiter g i)

  pub promoted_none : (i : Image S) (at : Option ℕ) → calls_of (promotions_at g i at) ≡ 0
  promoted_none i None = refl
  promoted_none i (Some start) = promotions_none start _ i

module _ {S : Type 0} (rules : Algorithm S) (j : Journal S) (e : Event) where
  -- whom an answer promotes, and its own reply
  abbrev pub follow : List Entry
  follow = promoted (gate rules j) (opening j) j.entries e

  abbrev pub own : Reply
  own = counting (length follow) (reply_to (gate rules j) (image rules j) e)

  pub follow_none : calls_of follow ≡ 0
  follow_none = promoted_none (gate rules j) _ _

  -- so an answer has one call
  pub one_call : calls_of (answered rules j e) ≡ 1
  one_call = omega (arith, sum_by-cons one (Call e own) follow, follow_none)
