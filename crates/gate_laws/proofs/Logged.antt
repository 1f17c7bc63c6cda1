-- A call that stands in what a port knows of a log, in the whole log.
use Rattle.std.proofs.Common.{◌≡◌, ◌≤◌, ◌<◌, ℕ, zero, suc, cond, true, [], ◌∷◌, List, All}
use Rattle.std.proofs.Common.{length, sym, ap, ◌∙◌, subst, refl, arith}
use Rattle.std.proofs.Common.{length-append}
use Rattle.std.proofs.lemmas.Option.{same_Some, none-some}
use Rattle.std.proofs.lemmas.List.Elements.{All-head, All-tail}
use Rattle.std.proofs.lemmas.List.Sums.{sum_by-cons}
use mathlib.Core.List.{IsPrefix}
use Rattle.lemmas.proofs.Lists.{prefix_length, prefix_trans}
use Rattle.limiter_core.specs.declared.event.Event.{Event}
use Rattle.limiter_core.specs.declared.event.Reply.{Reply}
use Rattle.limiter_core.specs.declared.event.Entry.{Entry}
use Rattle.limiter_core.specs.declared.event.Entry.TheVariants as entry
use Rattle.limiter_core.specs.History.{Gate, Image}
use Rattle.limiter_core.specs.Legal.{IsLegal}
use Rattle.limiter_core.specs.Answer.{is_turned_away}
use Rattle.limiter_core.specs.History.{is_call}
use Rattle.gate_history.specs.Book.{calls_of}
use Rattle.audit.specs.Firsts.{EachHas}
use Rattle.gate_port.specs.Asking.{Ask, acquire}
use Rattle.gate_port.specs.Ending.{IsPromotion}
use Rattle.gate_port.specs.Log.{IsLogged, Known}
use Rattle.shared_gate.specs.Calls.{IsTold}
use Rattle.shared_gate.specs.Running.{AreCallsOf, Call, IsServedAsOne, RunningIsOneThreads}
use Rattle.gate_laws.specs.Decided.{IsAnsweredAt, IsTurnedAway}
use Rattle.gate_laws.proofs.Owned.{Since, Within, is_own}

-- what was known begins what is known
pub begins : (old new : Known) (number : ℕ) (e : Event) (r : Reply)
    → IsLogged old new number e r → IsPrefix old.log new.log
begins old new number e r is =
    prefix_trans old.log is.found new.log is.begins (entry.Call e r ∷ is.promoted, sym is.stands)

abbrev one : Entry → ℕ
one e = cond (is_call e) 1 0

no_calls : (h : List Entry) → All IsPromotion h → calls_of h ≡ 0
no_calls [] all = refl
no_calls (entry.Call e r ∷ h) all = absurd (All-head IsPromotion (entry.Call e r) h all)
no_calls (entry.Promotion waiter part start inflight ∷ h) all =
    let first = entry.Promotion waiter part start inflight in
    omega (
      arith,
      sum_by-cons one first h,
      no_calls h (All-tail IsPromotion first h all),
    )

-- what was known has no entry of its number or a later one, and what is known has it
pub unseen : (old new : Known) (number : ℕ) (e : Event) (r : Reply)
    → IsLogged old new number e r → length old.log ≤ number
unseen old new number e r is =
    omega (arith, prefix_length old.log is.found is.begins, is.number_is)

pub seen : (old new : Known) (number : ℕ) (e : Event) (r : Reply)
    → IsLogged old new number e r → number < length new.log
seen old new number e r is =
    omega (
      arith,
      is.number_is,
      ap length is.stands ∙ length-append is.found (entry.Call e r ∷ is.promoted),
    )

module _ {S : Type 0} (g : Gate S) (served : RunningIsOneThreads g) (o : Image S)
    (log : List Entry) (legal : IsLegal g o log) (own base : List ℕ) (old new : Known)
    (number : ℕ) (e : Event) (r : Reply) (is : IsLogged old new number e r)
    (begun : IsPrefix new.log log) (since : Since base old) (within : Within own base new) where
  -- as the only call of a pass
  abbrev call : Call
  call = record {
    before = record { count = 0; log = old.log; own = old.own };
    receipt = record { number = number; event = e; reply = r };
    after = record { count = 1; log = new.log; own = new.own };
  }

  told : IsTold call.before call.after e call.receipt
  told = record {
    event = refl;
    counted = refl;
    own = is.own;
    ahead = omega arith;
    found = is.found;
    promoted = is.promoted;
    begins = is.begins;
    number = is.number_is;
    stands = is.stands;
    alone = no_calls is.promoted is.alone;
    unseen = unseen old new number e r is;
    seen = seen old new number e r is;
  }

  each : EachHas (λ pass calls. AreCallsOf [] calls log) ((call ∷ []) ∷ [])
  each zero calls here =
      subst (λ (cs : List Call). AreCallsOf [] cs log) (same_Some (call ∷ []) calls here)
      ((old.log, refl), told, begun)
  each (suc place) calls here = absurd (none-some calls here)

  all : IsServedAsOne g o log ((call ∷ []) ∷ [])
  all = served o log ((call ∷ []) ∷ []) legal each

  pub answered_at : IsAnsweredAt g o log own number e r
  answered_at = record {
    is_own = is_own base old new number e r is own since within;
    stands = all.stand 0 (call ∷ []) refl 0 call refl;
    sequential = all.replies 0 (call ∷ []) refl 0 call refl;
  }

  pub turned_away : (ask : Ask) (now : ℕ) → e ≡ acquire ask now → is_turned_away r ≡ true
      → IsTurnedAway g o log own ask now number r
  turned_away ask now asks away =
      let full = all.shares 0 (call ∷ []) refl 0 call refl ask.part ask.bypass ask.wait now
      asks away in
      record {
        answered =
            subst (λ (it : Event). IsAnsweredAt g o log own number it r) asks answered_at;
        in_use = full.0;
        taken = full.1;
      }
