use Rattle.std.proofs.Common.{true, refl, get_or, subst, arith, ◌<◌, length}
use Rattle.std.proofs.lemmas.Option.{slice_get-get_or}
use Rattle.std.specs.BTreeSet.{Updates}
use Rattle.virtual_time.specs.declared.action.Action.{Action}
use Rattle.virtual_time.proofs.Orders.{derived}
use Rattle.virtual_time.proofs.Pendings.{no_arrival}
use Rattle.virtual_time.proofs.Beginnings.{first_more, all_to_come}
use Rattle.virtual_time.proofs.calendar.Calendar.new.Goals as goal

pub loop-place-preserved : goal.loop-place-preserved
loop-place-preserved c =
    let arrivals = c.args.arrivals.now in
    let place = c.loop-place.place in
    let under : place < length arrivals = omega arith in
    first_more arrivals place (get_or arrivals place no_arrival)
    (slice_get-get_or arrivals place no_arrival under) c.loop-place.actions c.insert.new.self
    c.loop-place.invariant
    (subst (λ (d : Action). Updates derived c.loop-place.actions c.insert.new.self d true)
    c.arriving.ensures c.in_ok-insert.ensures.updates)

pub returns : goal.returns
returns c = all_to_come c.args.arrivals.now c.loop-place.place
    (record { actions = c.loop-place.actions; waiters = c.new.result; read = 0 }) (omega arith)
    c.loop-place.invariant c.new.ensures.empty refl
