-- What a step of a book adds and hands out, as its port sees it.
use Rattle.std.proofs.Common.{◌≡◌, ℕ, zero, suc, ◌+◌, ◌≤◌, Bool, true, false, not, ◌&&◌, ◌||◌, cond}
use Rattle.std.proofs.Common.{List, [], ◌∷◌, ◌++◌, length, Option, None, Some, Result, Ok, Err}
use Rattle.std.proofs.Common.{All, refl, sym, ap, ◌∙◌, subst, rules, true≢false}
use Rattle.limit_laws.specs.Algorithm.{Algorithm}
use Rattle.partitions.specs.declared.part.Part.{Part}
use Rattle.partitions.specs.Table.{place_of}
use Rattle.lifo_backlog.specs.declared.waiter.Waiter.{Waiter}
use Rattle.limiter_core.specs.declared.event.Event.{Event}
use Rattle.limiter_core.specs.declared.event.Event.TheVariants.{Acquire, End, Claim, GiveUp}
use Rattle.limiter_core.specs.declared.event.Event.TheVariants.{SetLimit, Reset, Look}
use Rattle.limiter_core.specs.declared.event.Reply.{Reply}
use Rattle.limiter_core.specs.declared.event.Reply.TheVariants as reply
use Rattle.limiter_core.specs.declared.event.Entry.{Entry}
use Rattle.limiter_core.specs.declared.event.Entry.TheVariants.{Call, Promotion}
use Rattle.limiter_core.specs.declared.event.PermitFacts.{PermitFacts}
use Rattle.limiter_core.specs.declared.promote.Promote.{Promote}
use Rattle.limiter_core.specs.declared.promote.Promote.TheVariants as rule
use Rattle.limiter_core.specs.History.{Gate, Image, image_after, total}
use Rattle.limiter_core.specs.Answer.{candidates, counting, granted_of, granted_or, has_room, may_wait}
use Rattle.limiter_core.specs.Answer.{moment_of, next_waiter, promoted, promotion, promotion_then}
use Rattle.limiter_core.specs.Answer.{promotions, promotions_at, queued, reply_to, waits}
use Rattle.gate_journal.specs.Journal.{Journal, answered, gate, image, is_over, opening}
use Rattle.gate_journal.specs.Rolling.{continued, ready}
use Rattle.gate_ledgers.specs.Receipt.{Told}
use Rattle.gate_history.specs.Book.{Book}
use Rattle.gate_history.specs.Handing.{Given}
use Rattle.gate_history.specs.Refusal.{Refusal}
use Rattle.gate_history.specs.Steps.{StepsTo}
use Rattle.gate_port.specs.Ending.{IsPromotion}
use Rattle.gate_port.specs.Shown.{Shown, next_of}
use Rattle.ports.specs.Solo.{IsOfPort, MakesOf, MayExhaust, Queues, Records}
use Rattle.ports.specs.Solo.{Waits, shown_of}
use Rattle.ports.proofs.Grown.{adds_map, grows, next_ready}
use Rattle.ports.proofs.LastWaiter.{last_waits}

-- all promotions are some
module _ {S : Type 0} (g : Gate S) where
  all_then : (i : Image S) (start : ℕ) (rest : Image S → List Entry)
      → ((then : Image S) → All IsPromotion (rest then)) → (w : Option Waiter)
      → All IsPromotion (promotion_then g i start rest w)
  all_then i start rest all None = search rules
  all_then i start rest all (Some w) =
      search (rules, all (image_after g i (promotion i start w ∷ [])))

  all_promoted : (start turns : ℕ) (i : Image S) → All IsPromotion (promotions g start turns i)
  all_promoted start zero i = search rules
  all_promoted start (suc turns) i =
      all_then i start (promotions g start turns) (all_promoted start turns) (next_waiter g i)

  all_at : (i : Image S) (when : Option ℕ) → All IsPromotion (promotions_at g i when)
  all_at i None = search rules
  all_at i (Some start) = all_promoted start (length (candidates g.promote i.waiters)) i

-- an acquire promotes nobody, nor does a giving up
acquire_is_alone : (promote : Promote) (part : Part) (bypass wait : Bool) (now : ℕ) (r : Reply)
    → moment_of promote (Acquire part bypass wait now) r ≡ None
acquire_is_alone rule.Newest part bypass wait now r = refl
acquire_is_alone rule.All part bypass wait now r = refl

give_up_is_alone : (promote : Promote) (number : ℕ) (r : Reply)
    → moment_of promote (GiveUp number) r ≡ None
give_up_is_alone rule.Newest number r = refl
give_up_is_alone rule.All number r = refl

not_over : (a b c : Bool) → (not (a || b) && c) ≡ true → a ≡ true → ⊥
not_over true b c over waiting = true≢false (sym over)
not_over false b c over waiting = true≢false (sym waiting)

abbrev entry_or : Entry → Option Entry → Entry
entry_or other None = other
entry_or other (Some entry) = entry

abbrev reply_of : Reply → Entry → Reply
reply_of other (Call e r) = r
reply_of other (Promotion waiter part start inflight) = other

module _ {S : Type 0} (rules : Algorithm S) (j : Journal S) where
  -- who is promoted by an event, and its own reply
  abbrev follow : Event → List Entry
  follow e = promoted (gate rules j) (opening j) j.entries e

  abbrev own : Event → Reply
  own e = counting (length (follow e)) (reply_to (gate rules j) (image rules j) e)

  -- what stands behind an event's call
  abbrev behind : Event → Image S
  behind e =
      image_after (gate rules j) (opening j)
      (j.entries ++ Call e (reply_to (gate rules j) (image rules j) e) ∷ [])

  acquire_alone : (part : Part) (bypass wait : Bool) (now : ℕ)
      → answered rules j (Acquire part bypass wait now)
      ≡ Call (Acquire part bypass wait now) (own (Acquire part bypass wait now)) ∷ []
  acquire_alone part bypass wait now =
      let e : Event = Acquire part bypass wait now in
      ap (λ (when : Option ℕ).
      Call e (own e) ∷ promotions_at (gate rules j) (behind e) when)
      (acquire_is_alone j.promote part bypass wait now
      (reply_to (gate rules j) (image rules j) e))

  give_up_alone : (number : ℕ)
      → answered rules j (GiveUp number) ≡ Call (GiveUp number) (own (GiveUp number)) ∷ []
  give_up_alone number =
      let e : Event = GiveUp number in
      ap (λ (when : Option ℕ).
      Call e (own e) ∷ promotions_at (gate rules j) (behind e) when)
      (give_up_is_alone j.promote number (reply_to (gate rules j) (image rules j) e))

  records : (e : Event) → IsOfPort e → (r : Reply) → own e ≡ r → (added : List Entry)
      → added ≡ answered rules j e → Records e r added
  records (Acquire part bypass wait now) port r is added all =
      all ∙ acquire_alone part bypass wait now
      ∙ ap (λ (x : Reply). Call (Acquire part bypass wait now) x ∷ []) is
  records (GiveUp number) port r is added all =
      all ∙ give_up_alone number ∙ ap (λ (x : Reply). Call (GiveUp number) x ∷ []) is
  records (End ended outcome now) port r is added all = (
    follow (End ended outcome now),
    all_at (gate rules j) (behind (End ended outcome now))
        (moment_of j.promote (End ended outcome now)
        (reply_to (gate rules j) (image rules j) (End ended outcome now))),
    sym is,
    all ∙ ap (λ (x : Reply).
        Call (End ended outcome now) x ∷ follow (End ended outcome now)) is,
  )
  records (Claim number) port r is added all = absurd port
  records (SetLimit n now) port r is added all = absurd port
  records (Reset now) port r is added all = absurd port
  records (Look part) port r is added all = absurd port

  may : (e : Event) → is_over rules j e ≡ true → MayExhaust rules e j
  may (Acquire part bypass wait now) over = tt
  may (End ended outcome now) over = absurd (true≢false (sym over))
  may (GiveUp number) over = not_over (waits (image rules j) number) _ _ over
  may (Claim number) over = tt
  may (SetLimit n now) over = tt
  may (Reset now) over = tt
  may (Look part) over = tt

  module _ (new : Journal S) (number : ℕ) (is : number ≡ j.opening.next + length j.entries)
      (same : (e : Event) → answered rules (ready rules j) e ≡ answered rules j e) where
    -- who waits by a reply
    abbrev Fits : Event → Reply → Type 0
    Fits e r = new ≡ continued rules j e → own e ≡ r → Queues rules number r new

    queued_waits : (part : Part) (now : ℕ)
        → new ≡ continued rules j (Acquire part false true now)
        → own (Acquire part false true now) ≡ reply.Waiting → Waits rules number new
    queued_waits part now goes waiting =
        let m : Journal S = ready rules j in
        let e : Event = Acquire part false true now in
        let entries : answered rules m e ≡ Call e reply.Waiting ∷ [] =
        same e ∙ acquire_alone part false true now
        ∙ ap (λ (r : Reply). Call e r ∷ []) waiting in
        subst (Waits rules number)
        (sym (goes ∙ ap (λ (xs : List Entry). record m { entries = m.entries ++ xs }) entries))
        (last_waits part now rules m number (is ∙ next_ready rules j))

    acquire_fits : (told : ℕ) (part : Part) (wait : Bool) (now : ℕ) (room behind : Bool)
        → Fits (Acquire part false wait now)
        (counting told (cond room (reply.Admitted (total (image rules j) + 1))
        (cond wait (cond behind reply.Waiting reply.BacklogFull) reply.Full)))
    acquire_fits told part wait now true behind = λ goes r. tt
    acquire_fits told part true now false true = queued_waits part now
    acquire_fits told part true now false false = λ goes r. tt
    acquire_fits told part false now false behind = λ goes r. tt

    give_up_fits : (told n : ℕ) (o : Option PermitFacts) (b : Bool)
        → Fits (GiveUp n) (counting told (granted_or o (cond b reply.TimedOut reply.Lost)))
    give_up_fits told n (Some one) b = λ goes r. tt
    give_up_fits told n None true = λ goes r. tt
    give_up_fits told n None false = λ goes r. tt

    reply_fits : (e : Event) → IsOfPort e → Fits e (own e)
    reply_fits (Acquire part true wait now) port = λ goes r. tt
    reply_fits (Acquire part false wait now) port = acquires wait
      where
        acquires : (wait : Bool)
            → Fits (Acquire part false wait now)
            (counting (length (follow (Acquire part false wait now)))
            (cond (has_room (gate rules j) (image rules j) (place_of j.rows part))
            (reply.Admitted (total (image rules j) + 1))
            (queued (gate rules j) (image rules j) (place_of j.rows part) wait)))
        acquires true =
            acquire_fits (length (follow (Acquire part false true now))) part true now
            (has_room (gate rules j) (image rules j) (place_of j.rows part))
            (may_wait (gate rules j) (image rules j) (place_of j.rows part))
        acquires false =
            acquire_fits (length (follow (Acquire part false false now))) part false now
            (has_room (gate rules j) (image rules j) (place_of j.rows part)) true
    reply_fits (End ended outcome now) port = λ goes r. tt
    reply_fits (GiveUp n) port =
        give_up_fits (length (follow (GiveUp n))) n (granted_of (image rules j) n)
        (waits (image rules j) n)
    reply_fits (Claim n) port = absurd port
    reply_fits (SetLimit n now) port = absurd port
    reply_fits (Reset now) port = absurd port
    reply_fits (Look part) port = absurd port

-- WHAT A STEP MAKES
pub makes : {S : Type 0} (rules : Algorithm S) (old new : Book S) (before after : ℕ) (e : Event)
    (told : Result Told Refusal) (got : Given) → IsOfPort e → 1 ≤ old.journal.kept
    → ((x : Event)
    → answered rules (ready rules old.journal) x ≡ answered rules old.journal x)
    → StepsTo rules old new before after e told got
    → MakesOf rules old.journal new.journal e told got
makes rules old new before after e (Ok told) got port some same did =
    let j = old.journal in
    let r : own rules j e ≡ told.reply =
    ap (λ (o : Option Entry). reply_of told.reply (entry_or (Call e (own rules j e)) o))
    (sym did.reply) in (
      record {
        served = did.served;
        adds = adds_map (shown_of j) (shown_of new.journal)
            (λ s more. (told.number ≡ next_of s) × (more ≡ answered rules j e))
            (λ s more. (told.number ≡ next_of s) × Records e told.reply more)
            (grows rules j new.journal e told.number did.journal (same e) did.number some)
            (λ (s : Shown) (more : List Entry) both.
            (both.0, records rules j e port told.reply r more both.1));
        queues =
            subst (λ (x : Reply). new.journal ≡ continued rules j e → own rules j e ≡ x
            → Queues rules told.number x new.journal) r
            (reply_fits rules j new.journal told.number did.number same e port) did.journal r;
      },
      did.answers,
    )
makes rules old new before after e (Err refusal) got port some same did = (
  record {
    over = did.exhausted;
    same = ap (λ (b : Book _). b.journal) did.same;
    may = may rules old.journal e did.exhausted;
  },
  did.back,
)
