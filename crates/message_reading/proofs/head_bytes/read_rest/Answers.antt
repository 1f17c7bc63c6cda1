use Rattle.std.proofs.Common.{rules, arith, ◌≡◌, ◌≤◌, ◌∙◌, false, length, length-append}
use Rattle.counted_io.specs.Counted.{inner_of}
use Rattle.message_reading.specs.HeadBytes.{ends_head}
use Rattle.message_reading.proofs.HeadEnds.{leads_more, too_many}
use Rattle.message_reading.proofs.head_bytes.read_rest.Goals as goal

pub loop-seen-preserved : goal.loop-seen-preserved
loop-seen-preserved g c =
    let left = g.R.Read.remaining in
    let gave = c.in_ok-read_on.ensures.gave in
    let invariant = c.loop-seen.invariant in
    let none : ends_head c.loop-seen.seen ≡ false = search rules in
    let leads = leads_more c.args.bytes.items (left (inner_of c.args.reader.now))
    (left (inner_of c.loop-seen.reader)) (left (inner_of c.read_on.new.reader)) c.loop-seen.seen
    gave.0 invariant.leads gave.4 gave.5 none in
    record {
      leads = rw gave.3 leads;
      fits = rw gave.3 (rw length-append (omega (arith, gave.2, invariant.fits)));
      failures = c.in_ok-read_on.ensures.within.unfailing ∙ invariant.failures;
      few = omega (arith, c.in_ok-read_on.ensures.within.few, invariant.few);
      goes_on = omega (arith, c.in_ok-read_on.ensures.reads, invariant.goes_on);
    }

pub returns-then-len-eq-MOST_HEAD-clause-head : goal.returns-then-len-eq-MOST_HEAD-clause-head
returns-then-len-eq-MOST_HEAD-clause-head g c =
    let left = g.R.Read.remaining in
    let none : ends_head c.loop-seen.seen ≡ false = search rules in
    let full : 65536 ≤ length c.loop-seen.seen = search rules in
    too_many c.args.bytes.items (left (inner_of c.args.reader.now))
    (left (inner_of c.loop-seen.reader)) c.loop-seen.seen c.loop-seen.invariant.leads none full
