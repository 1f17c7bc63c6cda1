use Rattle.std.proofs.Common.{arith, rules, ◌<◌, ◌∙◌, length, drop, length-append}
use Rattle.std.proofs.KnownBytes.{Consumes-trans}
use Rattle.std.proofs.lemmas.Grind.{common_steps}
use Rattle.message_reading.proofs.Held.{held_on}
use Rattle.message_reading.proofs.PlainBodies.{longer, not_filled, stays}
use Rattle.message_reading.proofs.plain_body.fill.Goals as goal

pub loop-left-preserved : goal.loop-left-preserved
loop-left-preserved g c =
    let left = g.R.Read.remaining in
    let gave = c.in_ok-count.ensures.gave in
    let invariant = c.loop-left.invariant in
    let front = c.args.body.now.items in
    let more = longer front c.loop-left.body.items c.read_held.new.into.items gave.0 invariant.kept
    gave.2 in
    let got = drop (length front) c.loop-left.body.items in
    let size = length-append got gave.0 in
    record {
      consumed = rw more (Consumes-trans _ _ _ got gave.0 invariant.consumed gave.3);
      kept = stays front c.loop-left.body.items _ gave.0 invariant.kept gave.2;
      counted = rw more (omega (
        arith,
        size,
        gave.1,
        invariant.counted,
        c.in_ok-count.ensures.fits,
      ));
      failures = c.in_ok-count.ensures.within.unfailing ∙ invariant.failures;
      few = omega (arith, c.in_ok-count.ensures.within.few, invariant.few);
      goes_on = omega (arith, c.in_ok-count.ensures.goes_on, invariant.goes_on);
      holds = rw more (held_on _ _ _ (length got) c.in_ok-count.count _ invariant.holds
          c.in_ok-count.ensures.held.holds (omega (arith, size, gave.1)));
      accepted = c.in_ok-count.ensures.held.accepted (search rules) ∙ invariant.accepted;
    }

pub returns-then-count-eq0-clause-bytes : goal.returns-then-count-eq0-clause-bytes
returns-then-count-eq0-clause-bytes g c =
    let invariant = c.loop-left.invariant in
    let short : length (drop (length c.args.body.now.items) c.loop-left.body.items) < c.args.size =
    grind (arith, common_steps, invariant.counted) in
    not_filled _ c.args.size _ _ _ _ invariant.consumed short
    (c.in_ok-count.ensures.end (search rules))

pub returns-in_err-count-clause-bytes : goal.returns-in_err-count-clause-bytes
returns-in_err-count-clause-bytes c = search rules

pub returns-in_err-count-clause-kept : goal.returns-in_err-count-clause-kept
returns-in_err-count-clause-kept c = search rules

pub returns-in_err-count-clause-length : goal.returns-in_err-count-clause-length
returns-in_err-count-clause-length c = search rules

pub returns-in_err-count-clause-within : goal.returns-in_err-count-clause-within
returns-in_err-count-clause-within c = search rules

pub returns-in_err-count-clause-goes_on : goal.returns-in_err-count-clause-goes_on
returns-in_err-count-clause-goes_on c = search rules

pub returns-then-count-eq0-clause-kept : goal.returns-then-count-eq0-clause-kept
returns-then-count-eq0-clause-kept g c =
    let gave = c.in_ok-count.ensures.gave in
    stays c.args.body.now.items c.loop-left.body.items _ gave.0 c.loop-left.invariant.kept gave.2

pub returns-then-count-eq0-clause-length : goal.returns-then-count-eq0-clause-length
returns-then-count-eq0-clause-length c = search rules

pub returns-then-count-eq0-clause-within : goal.returns-then-count-eq0-clause-within
returns-then-count-eq0-clause-within c = search rules

pub returns-then-count-eq0-clause-goes_on : goal.returns-then-count-eq0-clause-goes_on
returns-then-count-eq0-clause-goes_on c = search rules

pub returns-clause-bytes : goal.returns-clause-bytes
returns-clause-bytes c = grind (arith, common_steps)

pub returns-clause-kept : goal.returns-clause-kept
returns-clause-kept c = search rules

pub returns-clause-length : goal.returns-clause-length
returns-clause-length c = grind (arith, common_steps)

pub returns-clause-within : goal.returns-clause-within
returns-clause-within c = search rules

pub returns-clause-goes_on : goal.returns-clause-goes_on
returns-clause-goes_on c = search rules
