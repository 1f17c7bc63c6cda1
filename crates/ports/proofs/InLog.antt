-- What the receipts of a port say of the log that its pass knows.
use Rattle.std.proofs.Common.{◌≡◌, ℕ, cond, List, [], ◌∷◌, All, refl, sym, subst, arith}
use Rattle.std.proofs.lemmas.List.Elements.{All-cons, All-nil}
use Rattle.std.proofs.lemmas.List.Sums.{sum_by-cons}
use Rattle.limiter_core.specs.declared.event.Event.{Event}
use Rattle.limiter_core.specs.declared.event.Event.TheVariants.{End, GiveUp}
use Rattle.limiter_core.specs.declared.event.Outcome.{Outcome}
use Rattle.limiter_core.specs.declared.event.Reply.{Reply}
use Rattle.limiter_core.specs.declared.event.Reply.TheVariants as reply
use Rattle.limiter_core.specs.declared.event.Entry.{Entry}
use Rattle.limiter_core.specs.declared.event.Entry.TheVariants.{Call, Promotion}
use Rattle.limiter_core.specs.declared.event.PermitFacts.{PermitFacts}
use Rattle.gate_ledgers.specs.Making.{Making}
use Rattle.gate_ledgers.specs.Receipt.{Told}
use Rattle.limiter_core.specs.History.{is_call}
use Rattle.gate_history.specs.Book.{calls_of}
use Rattle.gate_history.specs.Refusal.{exhausted_from}
use Rattle.gate_history.specs.Replies.{IsOf}
use Rattle.shared_gate.specs.Calls.{IsTold, Pass}
use Rattle.gate_port.specs.declared.port.Admission.{Admission}
use Rattle.gate_port.specs.declared.port.Admission.TheVariants.{Admitted, Bypassed, Refused}
use Rattle.gate_port.specs.Asking.{Ask, acquire, told}
use Rattle.gate_port.specs.Ending.{IsPromotion}
use Rattle.gate_port.specs.Log.{IsAskedIn, IsEndedIn, IsLogged, answered, gave_up, missed, spent}
use Rattle.ports.specs.declared.asked.Receipts.{Receipts}
use Rattle.ports.specs.declared.asked.Receipts.TheVariants as asked
use Rattle.ports.specs.Asked.{IsAnswered, IsOver, IsQueued, known_at}

abbrev one : Entry → ℕ
one entry = cond (is_call entry) 1 0

-- entries of which none is a call are promotions
promotions : (h : List Entry) → calls_of h ≡ 0 → All IsPromotion h
promotions [] none = All-nil IsPromotion
promotions (Call e r ∷ h) none = absurd (omega (arith, none, sum_by-cons one (Call e r) h))
promotions (Promotion waiter part start inflight ∷ h) none =
    All-cons IsPromotion (Promotion waiter part start inflight) h tt (promotions h
    (omega (arith, none, sum_by-cons one (Promotion waiter part start inflight) h)))

-- a receipt's entry stands in what its pass knows
module _ (m : Making) where
  logged : (before after : Pass) (r r' : ℕ) (e : Event) (receipt : Told)
      → IsTold before after e receipt
      → IsLogged (known_at m before r) (known_at m after r') receipt.number e receipt.reply
  logged before after r r' e receipt is = record {
    found = is.found;
    promoted = is.promoted;
    begins = is.begins;
    number_is = is.number;
    stands = is.stands;
    alone = promotions is.promoted is.alone;
    own = is.own;
  }

  queued : (before after : Pass) (r r' : ℕ) (ask : Ask) (now : ℕ) (first : Told)
      → IsQueued before after ask now first
      → IsLogged (known_at m before r) (known_at m after r') first.number (acquire ask now)
      reply.Waiting
  queued before after r r' ask now first is =
      subst (IsLogged (known_at m before r) (known_at m after r') first.number (acquire ask now))
      is.1 (logged before after r r' (acquire ask now) first is.0)

  -- AN ASKING stands in the log
  pub asked_in : {M : Type 0} (before after : Pass) (r r' : ℕ) (ask : Ask) (now : ℕ)
      (kept : Receipts M) (answer : Admission PermitFacts)
      → IsAnswered before after ask now kept answer → IsOver (exhausted_from m) kept
      → IsAskedIn ask (known_at m before r) now (known_at m after r') answer
  asked_in before after r r' ask now asked.Nothing answer is over = absurd is
  asked_in before after r r' ask now (asked.Exhausted refusal) answer is over =
      subst (IsAskedIn ask (known_at m before r) now (known_at m after r')) (sym is.1)
      (spent (known_at m after r') (is.0.begins, is.0.own) (omega (arith, over, is.0.next)))
  asked_in before after r r' ask now (asked.Answered receipt) answer is over =
      answered (known_at m after r') receipt.number receipt.reply answer
      (logged before after r r' (acquire ask now) receipt is.0) is.1
  asked_in before after r r' ask now (asked.GaveUp first second) answer is over =
      gave_up (known_at m is.0 r) (known_at m after r') first.number second.number second.reply
      answer (queued before is.0 r r ask now first is.1)
      (logged is.0 after r r' (GiveUp first.number) second is.2) is.3
  asked_in before after r r' ask now (asked.Missed first refusal) answer is over =
      subst (IsAskedIn ask (known_at m before r) now (known_at m after r')) (sym is.3)
      (missed (known_at m is.0 r) (known_at m after r') first.number
      (queued before is.0 r r ask now first is.1) (is.2.begins, is.2.own)
      (omega (arith, over, is.2.next)))

-- what is answered of permits that are their facts
pub same_told : (answer : Admission PermitFacts)
    → told (λ (permit : PermitFacts). permit) answer ≡ answer
same_told (Admitted permit) = refl
same_told Bypassed = refl
same_told (Refused why) = refl

-- AN ENDING stands in it
ended_reply : (permit : PermitFacts) (outcome : Outcome) (now : ℕ) (r : Reply)
    → IsOf (End permit outcome now) r → (promoted : ℕ) × (r ≡ reply.Ended promoted)
ended_reply permit outcome now (reply.Ended promoted) is = (promoted, refl)
ended_reply permit outcome now (reply.Admitted inflight) is = absurd is
ended_reply permit outcome now reply.Bypassed is = absurd is
ended_reply permit outcome now reply.Full is = absurd is
ended_reply permit outcome now reply.BacklogFull is = absurd is
ended_reply permit outcome now reply.Waiting is = absurd is
ended_reply permit outcome now (reply.Granted part start inflight) is = absurd is
ended_reply permit outcome now reply.StillWaiting is = absurd is
ended_reply permit outcome now reply.TimedOut is = absurd is
ended_reply permit outcome now reply.Lost is = absurd is
ended_reply permit outcome now reply.LimitSet is = absurd is
ended_reply permit outcome now (reply.Refused fault) is = absurd is
ended_reply permit outcome now reply.ResetDone is = absurd is
ended_reply permit outcome now (reply.Seen limit total waiting granted inflight share) is =
    absurd is

pub ended_in : (m : Making) (before after : Pass) (r r' : ℕ) (permit : PermitFacts)
    (outcome : Outcome) (now : ℕ) (receipt : Told)
    → IsTold before after (End permit outcome now) receipt
    → IsOf (End permit outcome now) receipt.reply
    → IsEndedIn permit outcome now (known_at m before r) (known_at m after r')
ended_in m before after r r' permit outcome now receipt is of =
    let ended = ended_reply permit outcome now receipt.reply of in
    let e = End permit outcome now in (
      receipt.number,
      ended.0,
      subst (IsLogged (known_at m before r) (known_at m after r') receipt.number e) ended.1
          (logged m before after r r' e receipt is),
    )
