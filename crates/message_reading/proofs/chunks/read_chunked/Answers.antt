use Rattle.std.proofs.Common.{rules, arith, subst, sym, ◌∙◌, ◌≡◌, ◌<◌, ◌≤◌, ◌+◌, length, drop, ℕ, Vec, Global, Ok, Err}
use Rattle.counted_io.specs.Counted.{inner_of}
use Rattle.message_reading.specs.Reading.{Gives}
use Rattle.message_reading.specs.ChunkSize.{IsSize}
use Rattle.message_reading.proofs.Held.{held_on}
use Rattle.message_reading.proofs.JoinedChunks.{chunks_more, end_fault, large_fault}
use Rattle.message_reading.proofs.chunks.read_chunked.Goals as goal

pub returns-in_err-read_trailers-clause-body : goal.returns-in_err-read_trailers-clause-body
returns-in_err-read_trailers-clause-body g c =
    let left = g.R.Read.remaining in
    let is : c.from_residual-in_err-read_trailers.result ≡ Err c.in_err-read_trailers.field-0.0 =
    search rules in
    let zero : c.in_ok-size.size ≡ 0 = search rules in
    let sized = subst (λ (n : ℕ). Gives {X = ℕ} {V = ℕ} (λ n. n) IsSize
    (left (inner_of c.loop-body.reader)) (left (inner_of c.read_size.new.reader)) (Ok n)) zero
    c.in_ok-size.ensures.size in
    let fault = end_fault (λ (body : Vec ℕ Global). body.items)
    (left (inner_of c.args.reader.now)) (left (inner_of c.loop-body.reader))
    (left (inner_of c.read_size.new.reader)) (left (inner_of c.read_trailers.new.reader))
    c.loop-body.body.items c.in_err-read_trailers.field-0.0 c.loop-body.invariant.on sized
    c.in_err-read_trailers.ensures.bytes in
    rw is fault

pub loop-body-preserved : goal.loop-body-preserved
loop-body-preserved g c =
    let left = g.R.Read.remaining in
    let some : 0 < c.in_ok-size.size = search rules in
    let fits : length c.loop-body.body.items + c.in_ok-size.size ≤ 8388608 = search rules in
    let on = chunks_more
    (λ (longer : Vec ℕ Global). drop (length c.loop-body.body.items) longer.items)
    (left (inner_of c.args.reader.now)) (left (inner_of c.loop-body.reader))
    (left (inner_of c.read_size.new.reader)) (left (inner_of c.read_piece.new.reader))
    c.loop-body.body.items c.in_ok-body.body.items c.in_ok-size.size c.in_ok-body.body
    c.loop-body.invariant.on c.in_ok-size.ensures.size some fits c.in_ok-body.ensures.piece
    c.in_ok-body.ensures.kept c.in_ok-body.ensures.length in
    record {
      on = on;
      fits = search rules;
      failures = search rules;
      few = omega (
        arith,
        c.in_ok-size.ensures.within.few,
        c.in_ok-body.ensures.within.few,
        c.loop-body.invariant.few,
      );
      goes_on = omega (
        arith,
        c.in_ok-size.ensures.goes_on,
        c.in_ok-body.ensures.goes_on,
        c.loop-body.invariant.goes_on,
      );
      holds = held_on _ _ _ (length c.loop-body.body.items) c.in_ok-size.size _
          c.loop-body.invariant.holds c.in_ok-body.ensures.held.holds
          (sym c.in_ok-body.ensures.length);
      accepted = c.in_ok-body.ensures.held.accepted (search rules) ∙ c.loop-body.invariant.accepted;
    }

pub returns-then-size-len-clause-body : goal.returns-then-size-len-clause-body
returns-then-size-len-clause-body g c =
    let left = g.R.Read.remaining in
    let some : 0 < c.in_ok-size.size = search rules in
    let large : 8388608 < length c.loop-body.body.items + c.in_ok-size.size = search rules in
    large_fault (λ (body : Vec ℕ Global). body.items)
    (left (inner_of c.args.reader.now)) (left (inner_of c.loop-body.reader))
    (left (inner_of c.read_size.new.reader)) c.loop-body.body.items c.in_ok-size.size
    c.loop-body.invariant.on c.in_ok-size.ensures.size some large

pub loop-body-init : goal.loop-body-init
loop-body-init g c = search rules

pub returns-in_err-size-clause-within : goal.returns-in_err-size-clause-within
returns-in_err-size-clause-within g c = search rules

pub returns-in_err-size-clause-goes_on : goal.returns-in_err-size-clause-goes_on
returns-in_err-size-clause-goes_on g c = search rules

pub returns-in_err-read_trailers-clause-within : goal.returns-in_err-read_trailers-clause-within
returns-in_err-read_trailers-clause-within g c = search rules

pub returns-in_err-read_trailers-clause-goes_on : goal.returns-in_err-read_trailers-clause-goes_on
returns-in_err-read_trailers-clause-goes_on g c = search rules

pub returns-then-size-eq0-clause-within : goal.returns-then-size-eq0-clause-within
returns-then-size-eq0-clause-within g c = search rules

pub returns-then-size-eq0-clause-goes_on : goal.returns-then-size-eq0-clause-goes_on
returns-then-size-eq0-clause-goes_on g c = search rules

pub returns-then-size-len-clause-within : goal.returns-then-size-len-clause-within
returns-then-size-len-clause-within g c = search rules

pub returns-then-size-len-clause-goes_on : goal.returns-then-size-len-clause-goes_on
returns-then-size-len-clause-goes_on g c = search rules

pub returns-in_err-body-clause-within : goal.returns-in_err-body-clause-within
returns-in_err-body-clause-within g c = search rules

pub returns-in_err-body-clause-goes_on : goal.returns-in_err-body-clause-goes_on
returns-in_err-body-clause-goes_on g c = search rules

pub loop-body-smaller : goal.loop-body-smaller
loop-body-smaller g c = search rules
