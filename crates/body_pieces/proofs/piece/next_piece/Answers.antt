use Rattle.std.proofs.Common.{rules, arith}
use Rattle.counted_io.specs.Counted.{inner_of}
use Rattle.body_pieces.proofs.Gathered.{further, steps_more}
use Rattle.body_pieces.proofs.JoinedBeginnings.{ended_since}
use Rattle.body_pieces.proofs.piece.next_piece.Goals as goal

pub loop-preserved : goal.loop-preserved
loop-preserved g c =
    let left = g.R.Read.remaining in
    let old = left (inner_of c.args.reader.now) in
    let now = left (inner_of c.loop.reader) in
    let new = left (inner_of c.step_on.new.reader) in
    let next = c.in_ok-piece-2 in
    record {
      read = further c.args.rest c.loop.piece next.piece old now new c.loop.invariant.read
          next.ensures.more;
      step = steps_more c.args.rest c.loop.piece next.piece c.loop.invariant.step
          next.ensures.step;
      fits = next.ensures.fits;
      some = λ _. omega (arith, c.loop.invariant.some c.if-piece.false, next.ensures.kept);
      last = λ e. ended_since c.args.rest c.loop.piece.rest next.piece.rest old now new
          c.loop.piece.bytes.items c.loop.invariant.read (next.ensures.last e);
      prompt = next.ensures.prompt;
      unfailing = search rules;
      few = search rules;
      on = search rules;
    }
