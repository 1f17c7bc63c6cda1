-- A trace has one whole course at most.
use Rattle.std.proofs.Common.{◌≡◌, ℕ, ◌+◌, ◌<◌, List, [], ◌∷◌, length, Option, Some, slice_get}
use Rattle.std.proofs.Common.{unwrap_or, refl, sym, ap, ◌∙◌, subst, ⊎_elim, length-append, arith}
use Rattle.std.proofs.lemmas.Bool.{cases_eq, cases_lt}
use Rattle.trace.specs.declared.arrival.Arrival.{Arrival}
use Rattle.virtual_time.specs.declared.action.Action.{Action}
use Rattle.virtual_time.specs.Pending.{IsPending, pending_at}
use Rattle.virtual_time.specs.Next.{IsNext, IsFirst, IsLeast, follows, leads, promotes}
use Rattle.virtual_time.specs.Course.{Limiter, Course, IsCourse, IsWhole, begin, more, with_action}
use Rattle.virtual_time.specs.Course.{step_of, answered}
use Rattle.virtual_time.proofs.Orders.{one_place}
use Rattle.virtual_time.proofs.Numbers.{numbered}

module _ (limiter : Limiter) (arrivals : List Arrival) (timeout : ℕ) (c : Course)
    (course : IsCourse limiter arrivals timeout c) where
  abbrev Pending : Action → Type 0
  Pending = IsPending arrivals timeout c.steps

  -- the first promotion that is followed is one
  one_entry : (d e : Action) (f : IsFirst Pending c.entries d) (g : IsFirst Pending c.entries e)
      → f.place ≡ g.place
  one_entry d e f g = ⊎_elim
      (λ below. absurd (g.first f.place d below f.follows))
      (λ above. ⊎_elim (λ below. absurd (f.first g.place e below g.follows))
      (λ under. omega (arith, above, under)) (cases_lt g.place f.place))
      (cases_lt f.place g.place)

  one_follows : (d e : Action) → IsFirst Pending c.entries d → IsFirst Pending c.entries e → d ≡ e
  one_follows d e f g =
      let told : Some (d.number, d.moment) ≡ Some (e.number, e.moment) =
      sym f.follows.promoted ∙ ap (λ (k : ℕ). promotes (slice_get c.entries k))
      (one_entry d e f g) ∙ g.follows.promoted in
      let pair : (d.number, d.moment) ≡ (e.number, e.moment) =
      ap (λ (o : Option (ℕ × ℕ)). unwrap_or o (d.number, d.moment)) told in
      let number : d.number ≡ e.number = ap (λ (p : ℕ × ℕ). p.0) pair in
      let moment : d.moment ≡ e.moment = ap (λ (p : ℕ × ℕ). p.1) pair in
      let place : d.place ≡ e.place =
      (numbered arrivals timeout limiter c course).one (record d { moment = f.follows.late })
      (record e { moment = g.follows.late }) f.follows.waits g.follows.waits f.follows.gives_up
      g.follows.gives_up number in
      λ i. record {
        moment = moment i;
        kind =
            (f.follows.gives_up ∙ sym g.follows.gives_up) i;
        place = place i;
        number = number i;
      }

  one_least : (d e : Action) → IsLeast Pending d → IsLeast Pending e → d ≡ e
  one_least d e f g =
      let place : d.place ≡ e.place = one_place d e (g.least d f.pending) (f.least e g.pending) in
      ap (λ (o : Option Action). unwrap_or o d) (sym f.pending
      ∙ ap (pending_at arrivals timeout c.steps) place ∙ g.pending)

  -- THE NEXT ACTION is one
  pub one_next : (d e : Action) → IsNext Pending c.entries d → IsNext Pending c.entries e → d ≡ e
  one_next d e (follows f) (follows g) = one_follows d e f g
  one_next d e (follows f) (leads none g) = absurd (none f.place d f.follows)
  one_next d e (leads none f) (follows g) = absurd (none g.place e g.follows)
  one_next d e (leads none f) (leads none_too g) = one_least d e f g

  -- and an action is pending where there is a next one
  pub some_pending : (d : Action) → IsNext Pending c.entries d → ((e : Action) → Pending e → ⊥) → ⊥
  some_pending d (follows f) over = over (record d { moment = f.follows.late }) f.follows.waits
  some_pending d (leads none f) over = over d f.pending

module _ (limiter : Limiter) (arrivals : List Arrival) (timeout : ℕ) where
  abbrev after : Course → Action → Course
  after = with_action limiter arrivals timeout

  longer : (c : Course) (d : Action) → length (after c d).steps ≡ length c.steps + 1
  longer c d = length-append c.steps
      (step_of d c.entries (answered limiter c.entries (slice_get arrivals d.place) d).told ∷ [])

  -- courses of one length are one
  same_course : (c e : Course) → IsCourse limiter arrivals timeout c
      → IsCourse limiter arrivals timeout e → length c.steps ≡ length e.steps → c ≡ e
  same_course _ _ begin begin h = refl
  same_course _ _ begin (more e d course next) h = absurd (omega (arith, h, longer e d))
  same_course _ _ (more c d course next) begin h = absurd (omega (arith, h, longer c d))
  same_course _ _ (more c d course next) (more e f course_too next_too) h =
      let before : c ≡ e = same_course c e course course_too
      (omega (arith, h, longer c d, longer e f)) in
      let action : d ≡ f = one_next limiter arrivals timeout c course d f next
      (subst (λ (x : Course). IsNext (IsPending arrivals timeout x.steps) x.entries f)
      (sym before) next_too) in
      λ i. after (before i) (action i)

  -- a course that is shorter than another has a next action
  goes_on : (c e : Course) → IsCourse limiter arrivals timeout c
      → IsCourse limiter arrivals timeout e → length c.steps < length e.steps → (d : Action)
      × IsNext (IsPending arrivals timeout c.steps) c.entries d
  goes_on c _ course begin h = absurd (omega (arith, h))
  goes_on c _ course (more e d course_too next) h = ⊎_elim
      (λ same. (
        d,
        subst (λ (x : Course). IsNext (IsPending arrivals timeout x.steps) x.entries d)
            (sym (same_course c e course course_too same)) next,
      ))
      (λ apart. goes_on c e course course_too (omega (arith, h, longer e d, apart)))
      (cases_eq (length c.steps) (length e.steps))

  not_longer : (c e : Course) → IsWhole limiter arrivals timeout c
      → IsWhole limiter arrivals timeout e → length c.steps < length e.steps → ⊥
  not_longer c e whole whole_too h =
      let next : (d : Action) × IsNext (IsPending arrivals timeout c.steps) c.entries d =
      goes_on c e whole.course whole_too.course h in
      some_pending limiter arrivals timeout c whole.course next.0 next.1 whole.over

  pub one_course : (c e : Course) → IsWhole limiter arrivals timeout c
      → IsWhole limiter arrivals timeout e → c ≡ e
  one_course c e whole whole_too = same_course c e whole.course whole_too.course (⊎_elim
      (λ below. absurd (not_longer c e whole whole_too below))
      (λ above. ⊎_elim (λ below. absurd (not_longer e c whole_too whole below))
      (λ under. omega (arith, above, under)) (cases_lt (length e.steps) (length c.steps)))
      (cases_lt (length c.steps) (length e.steps)))
