-- A calendar after one action more.
use Rattle.std.proofs.Common.{◌≡◌, ◌≢◌, ℕ, ◌<◌, true, List, [], ◌∷◌, ◌++◌, length, Option, None}
use Rattle.std.proofs.Common.{Some, is_some, slice_get, unwrap_or, sym, ap, ◌∙◌, subst, true≢false}
use Rattle.std.proofs.Common.{⊎_elim, arith}
use Rattle.std.proofs.lemmas.Bool.{cases_eq}
use Rattle.limiter_core.specs.declared.event.Entry.{Entry}
use Rattle.trace.specs.declared.arrival.Arrival.{Arrival}
use Rattle.virtual_time.specs.declared.action.Kind.TheVariants.{GivingUp}
use Rattle.virtual_time.specs.declared.action.Action.{Action}
use Rattle.virtual_time.specs.declared.action.Step.{Step}
use Rattle.virtual_time.specs.declared.calendar.Calendar.{Calendar}
use Rattle.virtual_time.specs.Pending.{IsPending, pending_at, left}
use Rattle.virtual_time.specs.Next.{IsNext, follows, leads}
use Rattle.virtual_time.specs.Course.{Limiter, Course, IsCourse, more, answered, with_action}
use Rattle.virtual_time.specs.Course.{course_with, step_of, reply_of}
use Rattle.virtual_time.specs.Calendar.{has, Has, IsKept, IsHeld, Takes, Adds, Joins}
use Rattle.virtual_time.proofs.Calendars.{had_before, follows_more}
use Rattle.virtual_time.proofs.Pendings.{pending_within, pending_here, pending_elsewhere}
use Rattle.virtual_time.proofs.Pendings.{left_place, left_number, left_answered}
use Rattle.virtual_time.proofs.Additions.{kept_grown, kept_added, joined}

-- the next action is the same where the same actions are pending
pub next_same : (P Q : Action → Type 0) (entries : List Entry) (d : Action)
    → ((e : Action) → P e → Q e)
    → ((e : Action) → Q e → P e) → IsNext P entries d → IsNext Q entries d
next_same P Q entries d to from (follows first) = follows (record {
  place = first.place;
  follows = follows_more P Q entries first.place d to first.follows;
  first = λ k e below f. first.first k e below (follows_more Q P entries k e from f);
})
next_same P Q entries d to from (leads none least) = leads
    (λ k e f. none k e (follows_more Q P entries k e from f))
    (record { pending = to d least.pending; least = λ e p. least.least e (from e p) })

-- an answer with a reply has an entry
pub replied : (told : List Entry) → is_some (reply_of told) ≡ true → 0 < length told
replied [] h = absurd (true≢false (sym h))
replied (e ∷ told) h = omega arith

module _ (arrivals : List Arrival) (timeout : ℕ) (steps : List Step) (entries : List Entry)
    (c mid : Calendar) (held : IsHeld arrivals timeout steps entries c) (d : Action)
    (takes : Takes c.actions mid.actions d) where
  abbrev taken : Action
  taken = record d { moment = takes.late }

  was_pending : IsPending arrivals timeout steps taken
  was_pending = held.from taken takes.loses.had

  -- so its arrival is in the trace
  pub taken_within : d.place < length arrivals
  taken_within = pending_within arrivals timeout steps taken was_pending

  module _ (told : List Entry) (a : Arrival) (found : slice_get arrivals d.place ≡ Some a)
      (kept : IsKept entries mid) where
    abbrev s : Step
    s = step_of d entries told

    -- what is still queued is pending at another place
    still_pending : (e : Action) → Has mid.actions e → IsPending arrivals timeout steps e
    still_pending e h = held.from e (had_before c.actions mid.actions taken takes.loses e h)

    another_place : (e : Action) → Has mid.actions e → e.place ≢ d.place
    another_place e h same =
        let is : e ≡ taken = ap (λ (o : Option Action). unwrap_or o e) (sym (still_pending e h)
        ∙ ap (pending_at arrivals timeout steps) same ∙ was_pending) in
        true≢false (sym h ∙ ap (has mid.actions) is ∙ takes.loses.gone)

    pending_still : (e : Action) → Has mid.actions e
        → IsPending arrivals timeout (steps ++ s ∷ []) e
    pending_still e h = pending_elsewhere steps s arrivals timeout e.place (another_place e h)
        ∙ still_pending e h

    queued_still : (e : Action) → e.place ≢ d.place → IsPending arrivals timeout (steps ++ s ∷ []) e
        → Has mid.actions e
    queued_still e apart p =
        takes.loses.others e (λ same. apart (ap (λ (x : Action). x.place) same))
        ∙ held.to e (sym (pending_elsewhere steps s arrivals timeout e.place apart) ∙ p)

    -- where the step leaves nothing
    pub held_without : left timeout a s ≡ None
        → IsHeld arrivals timeout (steps ++ s ∷ []) (entries ++ told) mid
    held_without none = record {
      kept = kept_grown entries told mid kept;
      from = pending_still;
      to = λ e p. ⊎_elim (λ same. cc (sym p
          ∙ pending_here steps s arrivals timeout a e.place same found ∙ none))
          (λ apart. queued_still e apart p) (cases_eq e.place d.place);
    }

    -- where it leaves an action, which joins
    pub held_with : (x : Action) (new : Calendar) → left timeout a s ≡ Some x → Adds mid new x
        → IsHeld arrivals timeout (steps ++ s ∷ []) (entries ++ told) new
    held_with x new some adds =
        let place : x.place ≡ d.place = left_place timeout a s d.kind (reply_of told) x some in
        let number : x.kind ≡ GivingUp → x.number ≡ length entries =
        left_number timeout a s d.kind (reply_of told) x some in
        let answered : 0 < length told =
        replied told (left_answered timeout a s d.kind (reply_of told) x some) in
        record {
          kept = kept_added entries told mid new x kept adds number answered;
          from = λ e h. ⊎_elim
              (λ same. subst (IsPending arrivals timeout (steps ++ s ∷ [])) same
              (pending_here steps s arrivals timeout a x.place place found ∙ some))
              (pending_still e) (joined entries told mid new x kept adds number answered e h);
          to = λ e p. ⊎_elim
              (λ same.
              let is : x ≡ e = ap (λ (o : Option Action). unwrap_or o e) (sym some
              ∙ sym (pending_here steps s arrivals timeout a e.place same found) ∙ p) in
              subst (Has new.actions) is adds.here)
              (λ apart. adds.others e (λ same. apart (ap (λ (y : Action). y.place) same ∙ place))
              ∙ queued_still e apart p)
              (cases_eq e.place d.place);
        }

    pub held_after : (new : Calendar) (x : Option Action) → x ≡ left timeout a s → Joins mid new x
        → IsHeld arrivals timeout (steps ++ s ∷ []) (entries ++ told) new
    held_after new None is same =
        subst (IsHeld arrivals timeout (steps ++ s ∷ []) (entries ++ told)) (sym same)
        (held_without (sym is))
    held_after new (Some x) is adds = held_with x new (sym is) adds

-- one action more, the next one by a calendar: the course is one still, and the calendar has what
-- is pending then
module _ (limiter : Limiter) (arrivals : List Arrival) (timeout : ℕ) (c : Course)
    (before mid : Calendar) (course : IsCourse limiter arrivals timeout c)
    (held : IsHeld arrivals timeout c.steps c.entries before)
    (d : Action) (a : Arrival) (found : slice_get arrivals d.place ≡ Some a)
    (next : IsNext (Has before.actions) c.entries d) (takes : Takes before.actions mid.actions d)
    (kept : IsKept c.entries mid) where
  abbrev pub told : List Entry
  told = (limiter c.entries a d).told

  abbrev pub after : Course
  after = course_with c d (limiter c.entries a d)

  pub after_course : IsCourse limiter arrivals timeout after
  after_course =
      let then : IsCourse limiter arrivals timeout (with_action limiter arrivals timeout c d) =
      more c d course (next_same (Has before.actions) (IsPending arrivals timeout c.steps)
      c.entries d held.from held.to next) in
      subst (λ (o : Option Arrival). IsCourse limiter arrivals timeout
      (course_with c d (answered limiter c.entries o d))) found then

  pub after_held : (new : Calendar) (x : Option Action) → x
      ≡ left timeout a (step_of d c.entries told) → Joins mid new x
      → IsHeld arrivals timeout after.steps after.entries new
  after_held = held_after arrivals timeout c.steps c.entries before mid held d takes told a found
      kept
