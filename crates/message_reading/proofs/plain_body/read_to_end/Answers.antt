use Rattle.std.proofs.Common.{arith, rules, ◌≡◌, ◌∙◌, length, length-append}
use Rattle.std.proofs.KnownBytes.{Consumes-trans}
use Rattle.std.proofs.lemmas.Grind.{common_steps}
use Rattle.message_reading.proofs.Held.{held_on}
use Rattle.message_reading.proofs.PlainBodies.{all_read, too_many}
use Rattle.message_reading.proofs.plain_body.read_to_end.Goals as goal

pub loop-body-preserved : goal.loop-body-preserved
loop-body-preserved g c =
    let gave = c.in_ok-count.ensures.gave in
    let invariant = c.loop-body.invariant in
    let size = length-append c.loop-body.body.items gave.0 in
    record {
      consumed = rw gave.2 (Consumes-trans _ _ _ _ gave.0 invariant.consumed gave.3);
      fits = rw gave.2 (grind (arith, common_steps, size, gave.1, invariant.fits));
      failures = c.in_ok-count.ensures.within.unfailing ∙ invariant.failures;
      few = omega (arith, c.in_ok-count.ensures.within.few, invariant.few);
      goes_on = omega (arith, c.in_ok-count.ensures.goes_on, invariant.goes_on);
      holds = rw gave.2 (held_on _ _ _ (length c.loop-body.body.items) c.in_ok-count.count _
          invariant.holds c.in_ok-count.ensures.held.holds (omega (arith, size, gave.1)));
      accepted = c.in_ok-count.ensures.held.accepted (search rules) ∙ invariant.accepted;
    }

pub returns-then-count-eq0-clause-body : goal.returns-then-count-eq0-clause-body
returns-then-count-eq0-clause-body g c =
    let gave = c.in_ok-count.ensures.gave in
    let invariant = c.loop-body.invariant in
    let zero : c.in_ok-count.count ≡ 0 = search rules in
    all_read _ _ _ _ _ _ gave.0 invariant.consumed invariant.fits gave.2 (gave.1 ∙ zero) gave.3
    (c.in_ok-count.ensures.end zero)

pub returns-then-count-room-clause-body : goal.returns-then-count-room-clause-body
returns-then-count-room-clause-body g c =
    let gave = c.in_ok-count.ensures.gave in
    let invariant = c.loop-body.invariant in
    too_many _ _ _ _ _ gave.0 invariant.consumed gave.3
    (grind (arith, common_steps, gave.1, invariant.fits))

pub returns-in_err-count-clause-body : goal.returns-in_err-count-clause-body
returns-in_err-count-clause-body c = search rules

pub returns-in_err-count-clause-within : goal.returns-in_err-count-clause-within
returns-in_err-count-clause-within c = search rules

pub returns-in_err-count-clause-goes_on : goal.returns-in_err-count-clause-goes_on
returns-in_err-count-clause-goes_on c = search rules

pub returns-then-count-eq0-clause-within : goal.returns-then-count-eq0-clause-within
returns-then-count-eq0-clause-within c = search rules

pub returns-then-count-eq0-clause-goes_on : goal.returns-then-count-eq0-clause-goes_on
returns-then-count-eq0-clause-goes_on c = search rules

pub returns-then-count-room-clause-within : goal.returns-then-count-room-clause-within
returns-then-count-room-clause-within c = search rules

pub returns-then-count-room-clause-goes_on : goal.returns-then-count-room-clause-goes_on
returns-then-count-room-clause-goes_on c = search rules
