use Rattle.std.proofs.Common.{◌≡◌, ◌<◌, ◌++◌, ◌∷◌, [], List, length, Some, get_or, slice_get, sym}
use Rattle.std.proofs.Common.{ap, ◌∙◌, subst, arith, string_bytes}
use Rattle.std.proofs.lemmas.Option.{slice_get-get_or}
use Rattle.limiter_core.specs.declared.event.Entry.{Entry}
use Rattle.gate_journal.specs.Journal.{Journal}
use Rattle.load_driver.specs.Stretches.{StandsFor}
use Rattle.trace.specs.declared.arrival.Arrival.{Arrival}
use Rattle.virtual_time.specs.declared.action.Step.{Step}
use Rattle.virtual_time.specs.declared.action.Action.{Action}
use Rattle.virtual_time.specs.Pending.{left}
use Rattle.virtual_time.specs.Next.{IsNext}
use Rattle.virtual_time.specs.Calendar.{Has, Takes, IsKept, IsHeld}
use Rattle.virtual_time.specs.Course.{Limiter, Course, IsCourse, begin, limiter_of, course_with}
use Rattle.virtual_time.specs.Course.{journal_with, step_of}
use Rattle.virtual_time.proofs.Pendings.{no_arrival}
use Rattle.virtual_time.proofs.Courses.{taken_within, told, after_course, after_held}
use Rattle.virtual_time.proofs.Measures.{fewer_left}
use Rattle.virtual_time.proofs.course.run.Goals as goal
use Rattle.virtual_time.proofs.course.run.Given.{Over}

pub loop-action-init : goal.loop-action-init
loop-action-init g c =
    let rules = g.L.Limit.rules in
    let start : ◌≡◌ {A = Course} (record { steps = []; entries = []; out = [] })
    (record {
      steps = [];
      entries = c.new-entries.result.items;
      out = string_bytes c.new-text.result;
    }) =
    λ i. record {
      steps = [];
      entries = sym c.new-entries.ensures.items i;
      out = sym c.new-text.ensures.bytes i;
    } in
    record {
      steps = [];
      course = subst (IsCourse (limiter_of rules c.args.session.now.journal) c.args.arrivals.now
          c.args.timeout) start begin;
      held = subst (λ (x : Course). IsHeld c.args.arrivals.now c.args.timeout x.steps x.entries
          c.in_ok-calendar.calendar) start (c.in_ok-calendar.ensures c.args.timeout);
      stands = subst (λ (es : List Entry). StandsFor rules
          (journal_with c.args.session.now.journal es) c.args.session.now)
          (c.requires.none ∙ sym c.new-entries.ensures.items) c.requires.own;
    }

pub bounds-arrivals-action : goal.bounds-arrivals-action
bounds-arrivals-action g c =
    taken_within c.args.arrivals.now c.args.timeout c.loop-action.invariant.steps
    c.loop-action.entries.items c.loop-action.calendar c.next.new.self c.loop-action.invariant.held
    c.in-Some.action c.in-Some.ensures.takes

pub offset_bounds-arrivals-action : goal.offset_bounds-arrivals-action
offset_bounds-arrivals-action g c =
    let within : c.in-Some.action.place < length c.args.arrivals.now =
    taken_within c.args.arrivals.now c.args.timeout c.loop-action.invariant.steps
    c.loop-action.entries.items c.loop-action.calendar c.next.new.self c.loop-action.invariant.held
    c.in-Some.action c.in-Some.ensures.takes in
    omega arith

-- what one turn of the loop does, by the limiter of the journal that was lent
module _ (g : Over) (c : goal.In_ok-join g) where
  abbrev limiter : Limiter
  limiter = limiter_of g.L.Limit.rules c.args.session.now.journal

  abbrev d : Action
  d = c.in-Some.action

  abbrev arrival : Arrival
  arrival = get_or c.args.arrivals.now c.in-Some.action.place no_arrival

  abbrev so_far : Course
  so_far = record {
    steps = c.loop-action.invariant.steps;
    entries = c.loop-action.entries.items;
    out = string_bytes c.loop-action.text;
  }

  found : slice_get c.args.arrivals.now c.in-Some.action.place ≡ Some arrival
  found =
      slice_get-get_or c.args.arrivals.now c.in-Some.action.place no_arrival
      (taken_within c.args.arrivals.now c.args.timeout c.loop-action.invariant.steps
      c.loop-action.entries.items c.loop-action.calendar c.next.new.self
      c.loop-action.invariant.held
      c.in-Some.action c.in-Some.ensures.takes)

  next : IsNext (Has c.loop-action.calendar.actions) c.loop-action.entries.items d
  next =
      subst (λ (es : List Entry). IsNext (Has c.loop-action.calendar.actions) es d)
      c.deref.ensures.value c.in-Some.ensures.next

  kept : IsKept c.loop-action.entries.items c.next.new.self
  kept =
      subst (λ (es : List Entry). IsKept es c.next.new.self) c.deref.ensures.value
      c.in-Some.ensures.kept

  abbrev added : List Entry
  added =
      told limiter c.args.arrivals.now c.args.timeout so_far c.loop-action.calendar c.next.new.self
      c.loop-action.invariant.course c.loop-action.invariant.held d arrival found next
      c.in-Some.ensures.takes kept

  abbrev j : Journal g.row.L.Denot
  j = c.args.session.now.journal

  stepped : c.in_ok-step.step ≡ step_of d c.loop-action.entries.items added
  stepped = c.in_ok-step.ensures.step j c.loop-action.invariant.stands

  abbrev grown : Course
  grown = record {
    steps = c.loop-action.invariant.steps ++ step_of d c.loop-action.entries.items added ∷ [];
    entries = c.carry_out.new.entries.items;
    out = string_bytes c.carry_out.new.text;
  }

  grows : course_with so_far d (limiter c.loop-action.entries.items arrival d) ≡ grown
  grows = λ i. record {
    steps = grown.steps;
    entries = sym (c.in_ok-step.ensures.entries j c.loop-action.invariant.stands) i;
    out = sym (c.in_ok-step.ensures.text j c.loop-action.invariant.stands) i;
  }

  taken : Takes c.loop-action.calendar.actions c.next.new.self.actions c.in_ok-step.step.action
  taken =
      subst (Takes c.loop-action.calendar.actions c.next.new.self.actions)
      (sym (ap (λ (s : Step). s.action) stepped)) c.in-Some.ensures.takes

pub loop-action-preserved : goal.loop-action-preserved
loop-action-preserved g c = record {
  steps = (grown g c).steps;
  course = subst (IsCourse (limiter g c) c.args.arrivals.now c.args.timeout) (grows g c)
      (after_course (limiter g c) c.args.arrivals.now c.args.timeout (so_far g c)
      c.loop-action.calendar c.next.new.self c.loop-action.invariant.course
      c.loop-action.invariant.held
      (d g c) (arrival g c) (found g c) (next g c) c.in-Some.ensures.takes
      (kept g c));
  held = subst (λ (x : Course). IsHeld c.args.arrivals.now c.args.timeout x.steps x.entries
      c.join.new.self) (grows g c)
      (after_held (limiter g c) c.args.arrivals.now c.args.timeout (so_far g c)
      c.loop-action.calendar c.next.new.self c.loop-action.invariant.course
      c.loop-action.invariant.held
      (d g c) (arrival g c) (found g c) (next g c) c.in-Some.ensures.takes
      (kept g c) c.join.new.self c.left.result
      (c.left.ensures ∙ ap (left c.args.timeout (arrival g c)) (stepped g c))
      c.in_ok-join.ensures);
  stands = c.in_ok-step.ensures.stands (j g c) c.loop-action.invariant.stands;
}

pub loop-action-smaller : goal.loop-action-smaller
loop-action-smaller g c =
    fewer_left c.args.timeout (arrival g c) c.in_ok-step.step c.loop-action.calendar c.next.new.self
    c.join.new.self (taken g c) c.left.result (sym c.left.ensures) c.in_ok-join.ensures
