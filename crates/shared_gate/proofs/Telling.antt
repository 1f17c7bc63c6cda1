-- What a step tells, without what it did under the lock.
use Rattle.std.proofs.Common.{◌≡◌, ℕ, List, ◌∷◌, ◌++◌, length}
use Rattle.std.proofs.Common.{Ok, Err, sym, ap, ◌∙◌, subst, arith, length-append}
use mathlib.Core.List.{IsPrefix}
use Rattle.std.proofs.lemmas.List.{append_cancel_left}
use Rattle.std.proofs.lemmas.Option.{same_Some}
use Rattle.limit_laws.specs.Algorithm.{Algorithm}
use Rattle.limiter_core.specs.declared.event.Event.{Event}
use Rattle.limiter_core.specs.declared.event.Reply.{Reply}
use Rattle.limiter_core.specs.declared.event.Entry.{Entry}
use Rattle.limiter_core.specs.declared.event.Entry.TheVariants.{Call}
use Rattle.gate_journal.specs.Journal.{Journal, answered, next_number}
use Rattle.gate_ledgers.specs.Receipt.{Told}
use Rattle.gate_history.specs.declared.step.Step.{Step}
use Rattle.gate_history.specs.Book.{Book}
use Rattle.gate_history.specs.Handing.{Given}
use Rattle.gate_history.specs.Steps.{IsDone, IsExhausted, Steps}
use Rattle.gate_history.specs.Refusal.{Refusal}
use Rattle.gate_word.specs.Rule.{numbered}
use Rattle.shared_gate.specs.Calls.{Pass, TellsOf}
use Rattle.lemmas.proofs.Lists.{prefix_length}
use Rattle.shared_gate.proofs.Promoted.{follow, follow_none, own}

-- what is known of a step, of the answer that it gave
pub steps_as : {S : Type 0} {N : Type 0} (rules : Algorithm S) (old new : Book S)
    (before after : ℕ) (e : Event) {step told : Step N} → step ≡ told
    → Steps rules old new before after e step → Steps rules old new before after e told
steps_as {S} {N} rules old new before after e is =
    subst (λ (step : Step N). Steps rules old new before after e step) is

-- the number of the first of some entries behind a log
numbered_first : (log added behind : List Entry) (first : Entry) (own : List ℕ)
    → log ++ added ≡ log ++ first ∷ behind → numbered log added own ≡ length log ∷ own
numbered_first log added behind first own same =
    ap (λ (h : List Entry). numbered log h own) (append_cancel_left log added (first ∷ behind) same)

-- WHAT A STEP TELLS that is done, where the pass knew a beginning of the log before it, and knows
-- the log after it
pub tells : {S : Type 0} (rules : Algorithm S) (old new : Book S) (before after : Pass)
    (e : Event) (told : Told) (got : Given) (log added : List Entry)
    → IsDone rules old new before.count after.count e told got
    → next_number old.journal ≡ length log → IsPrefix before.log log
    → after.log ≡ log ++ answered rules old.journal e
    → log ++ added ≡ log ++ answered rules old.journal e
    → after.own ≡ numbered log added before.own → TellsOf before after e (Ok told) got
tells {S} rules old new before after e told got log added did number begins longer by owns =
    let j : Journal S = old.journal in
    let behind : List Entry = follow rules j e in
    let replied : Reply = own rules j e in
    let call : Call e replied ≡ Call e told.reply =
    same_Some (Call e replied) (Call e told.reply) (sym did.reply) in
    let same : replied ≡ told.reply = cc (call) in
    let stands : after.log ≡ log ++ Call e told.reply ∷ behind =
    longer ∙ ap (λ (r : Reply). log ++ Call e r ∷ behind) same in (
      record {
        event = did.event;
        counted = did.counted;
        own =
            owns ∙ numbered_first log added behind (Call e replied) before.own by
            ∙ ap (λ (n : ℕ). n ∷ before.own) (sym (did.number ∙ number));
        ahead = did.ahead;
        found = log;
        promoted = behind;
        begins = begins;
        number = did.number ∙ number;
        stands = stands;
        alone = follow_none rules j e;
        unseen = omega (arith, did.number, number, prefix_length before.log log begins);
        seen = omega (
          arith,
          did.number,
          number,
          ap (λ (h : List Entry). length h) stands,
          length-append log (Call e told.reply ∷ behind),
        );
      },
      did.answers,
    )

-- and one that is exhausted
pub tells_spent : {S : Type 0} (rules : Algorithm S) (old new : Book S) (before after : Pass)
    (e : Event) (refusal : Refusal) (got : Given) (log : List Entry)
    → IsExhausted rules old new before.count after.count e refusal got
    → next_number old.journal ≡ length log → IsPrefix before.log log → after.log ≡ log
    → after.own ≡ before.own → TellsOf before after e (Err refusal) got
tells_spent rules old new before after e refusal got log did number begins whole owns = (
  record {
    event = did.event;
    uncounted = did.uncounted;
    own = owns;
    begins = subst (λ (h : List Entry). IsPrefix before.log h) (sym whole) begins;
    next = did.next ∙ number ∙ ap (λ (h : List Entry). length h) (sym whole);
    unseen = omega (arith, did.next, number, prefix_length before.log log begins);
  },
  did.back,
)
