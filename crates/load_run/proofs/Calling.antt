-- The receipts of an arrival, by what its calls tell.
use Rattle.std.proofs.Common.{◌≡◌, ◌≢◌, ℕ, [], ◌∷◌, Bool, true, false, not, ◌&&◌, Option, Some, None, Result, Ok, Err, sym, ap, ◌∙◌, refl, subst}
use Rattle.std.proofs.lemmas.Bool.{false≢true}
use Rattle.limit_laws.specs.Facts.{moment}
use Rattle.limiter_core.specs.declared.event.Event.{Event}
use Rattle.limiter_core.specs.declared.event.Event.TheVariants.{Acquire, GiveUp}
use Rattle.limiter_core.specs.declared.event.Reply.{Reply}
use Rattle.limiter_core.specs.declared.event.Reply.TheVariants.{Admitted, Granted, Waiting}
use Rattle.limiter_core.specs.declared.event.Entry.TheVariants.{Call}
use Rattle.limiter_core.specs.declared.event.PermitFacts.{PermitFacts}
use Rattle.limiter_core.specs.History.{permit_of}
use Rattle.limiter_core.specs.Open.{handed_out}
use Rattle.limiter_core.specs.declared.event.Reply.TheVariants as reply
use Rattle.gate_ledgers.specs.Receipt.{Told}
use Rattle.gate_history.specs.Refusal.{IsSpent, Refusal}
use Rattle.shared_gate.specs.declared.answers.Waited.TheVariants.{Lost}
use Rattle.shared_gate.specs.Calls.{Pass, Waits}
use Rattle.trace.specs.declared.arrival.Arrival.{Arrival}
use Rattle.load_run.specs.Worker.{asked, ending, handed, waits, Ends, Makes}
use Rattle.load_run.specs.Worker.Makes.{at_once, exhausted, gave_up, stuck}

abbrev is_waiting : Reply → Bool
is_waiting Waiting = true
is_waiting _ = false

not_waiting : (r s : Reply) → r ≡ s → is_waiting s ≡ false → r ≢ Waiting
not_waiting r s same other waiting = false≢true (sym other ∙ ap is_waiting (sym same ∙ waiting))

-- what a receipt handed out, by its event and reply
handed_by : (t : Told) (e : Event) (r : Reply) → t.event ≡ e → t.reply ≡ r
    → handed t ≡ handed_out t.number (Call e r)
handed_by t e r event reply =
    ap (λ (x : Event). handed_out t.number (Call x t.reply)) event
    ∙ ap (λ (x : Reply). handed_out t.number (Call e x)) reply

ends_it : (a : Arrival) (o : Option PermitFacts) (permit : PermitFacts) (e : Told)
    → o ≡ Some permit → e.event ≡ ending a permit → Ends a o (e ∷ [])
ends_it a o permit e has event =
    subst (λ (x : Option PermitFacts). Ends a x (e ∷ [])) (sym has) (e, refl, event)

ends_nothing : (a : Arrival) (o : Option PermitFacts) → o ≡ None → Ends a o []
ends_nothing a o none = subst (λ (x : Option PermitFacts). Ends a x []) (sym none) refl

-- the event of an arrival that doesn't wait, and of one that does, which goes not past the limit
pub asks_at_once : (a : Arrival) {e : Event} → waits a ≡ false
    → e ≡ Acquire a.part a.bypass false a.at → e ≡ asked a
asks_at_once a unwaiting event =
    event ∙ ap (λ (w : Bool). Acquire a.part a.bypass w a.at) (sym unwaiting)

goes_by : (wait bypass : Bool) → (wait && not bypass) ≡ true → bypass ≡ false
goes_by wait false waiting = refl
goes_by true true waiting = sym waiting
goes_by false true waiting = sym waiting

pub asks_waiting : (a : Arrival) {e : Event} → waits a ≡ true
    → e ≡ Acquire a.part false true a.at → e ≡ asked a
asks_waiting a waiting event =
    event ∙ ap (λ (w : Bool). Acquire a.part false w a.at) (sym waiting)
    ∙ ap (λ (b : Bool). Acquire a.part b (waits a) a.at) (sym (goes_by a.wait a.bypass waiting))

-- admitted at once, and ended
pub makes_admitted : (a : Arrival) (t e : Told) (permit : PermitFacts) → t.event ≡ asked a
    → t.reply ≡ Admitted permit.inflight
    → permit ≡ permit_of t.number a.part (moment a.at) permit.inflight
    → e.event ≡ ending a permit → Makes a (t ∷ e ∷ []) []
makes_admitted a t e permit event reply own ended =
    at_once t (e ∷ []) event (not_waiting t.reply (Admitted permit.inflight) reply refl)
    (ends_it a (handed t) permit e
    (handed_by t (asked a) (Admitted permit.inflight) event reply ∙ ap Some (sym own)) ended)

-- refused or let through at once
pub makes_one : (a : Arrival) (t : Told) (r : Reply) → t.event ≡ asked a → t.reply ≡ r
    → is_waiting r ≡ false → handed_out t.number (Call (asked a) r) ≡ None → Makes a (t ∷ []) []
makes_one a t r event reply other none =
    at_once t [] event (not_waiting t.reply r reply other)
    (ends_nothing a (handed t) (handed_by t (asked a) r event reply ∙ none))

-- not answered
pub makes_none : (a : Arrival) (r : Refusal) → r.event ≡ asked a
    → IsSpent r.held r.kept r.is_rolling r.next → Makes a [] (r ∷ [])
makes_none a r event why = exhausted r (record { event = event; spent = why })

-- waited, got a permit, and ended it
pub makes_promoted : (a : Arrival) (t g e : Told) (permit : PermitFacts) → t.event ≡ asked a
    → t.reply ≡ Waiting → g.event ≡ GiveUp t.number
    → g.reply ≡ Granted permit.part permit.start permit.inflight → permit.number ≡ t.number
    → e.event ≡ ending a permit → Makes a (t ∷ g ∷ e ∷ []) []
makes_promoted a t g e permit event waits gives reply own ended =
    gave_up t g (e ∷ []) event waits gives
    (ends_it a (handed g) permit e
    (handed_by g (GiveUp t.number) (Granted permit.part permit.start permit.inflight) gives reply
    ∙ ap (λ (n : ℕ). Some (permit_of n permit.part permit.start permit.inflight)) (sym own)) ended)

-- waited, and got none
pub makes_two : (a : Arrival) (t g : Told) (r : Reply) → t.event ≡ asked a → t.reply ≡ Waiting
    → g.event ≡ GiveUp t.number → g.reply ≡ r
    → handed_out g.number (Call (GiveUp t.number) r) ≡ None → Makes a (t ∷ g ∷ []) []
makes_two a t g r event waits gives reply none =
    gave_up t g [] event waits gives
    (ends_nothing a (handed g) (handed_by g (GiveUp t.number) r gives reply ∙ none))

-- waited, and then its number was lost, or the giving up exhausted
module _ (M : Type 0) (before after : Pass) (a : Arrival) (first : Told) (r : Result Told Refusal)
    (deadline latest : ℕ) (waiting : waits a ≡ true)
    (told : Waits {M = M} before after a.part a.at deadline latest (Lost first r)) where
  pub makes_lost : (second : Told) → r ≡ Ok second → Makes a (first ∷ second ∷ []) []
  makes_lost second is =
      let w = subst (λ (x : Result Told Refusal).
      Waits {M = M} before after a.part a.at deadline latest (Lost first x)) is told in
      makes_two a first second reply.Lost (asks_waiting a waiting w.1.0.event) w.1.1
      w.2.event w.3 refl

  pub makes_stuck : (spent : Refusal) → IsSpent spent.held spent.kept spent.is_rolling spent.next
      → r ≡ Err spent → Makes a (first ∷ []) (spent ∷ [])
  makes_stuck spent why is =
      let w = subst (λ (x : Result Told Refusal).
      Waits {M = M} before after a.part a.at deadline latest (Lost first x)) is told in
      stuck first spent (asks_waiting a waiting w.1.0.event) w.1.1
      (record { event = w.2.event; spent = why })
