use Rattle.std.proofs.Common.{rules, refl, ◌≡◌, Err}
use Rattle.counted_io.specs.Counted.{inner_of}
use Rattle.message_reading.specs.Framing.{response_framing_within}
use Rattle.wire.specs.Fault.{of_bytes, of_read}
use Rattle.wire.proofs.BegunResponses.{no_framing, no_head}
use Rattle.wire.proofs.response_reading.begin_response.Goals as goal

pub returns-in_err-head-clause-begun : goal.returns-in_err-head-clause-begun
returns-in_err-head-clause-begun g c =
    let left = g.R.Read.remaining in
    let e = c.in_err-head.field-0.0 in
    let is : c.from_residual.result ≡ Err (of_read e) = search rules in
    rw is (no_head c.args.most c.args.method.now (left (inner_of c.args.reader.now))
    (left (inner_of c.read_final_head.new.reader)) e (of_read e) refl c.in_err-head.ensures.head)

pub returns-in_err-framing-clause-begun : goal.returns-in_err-framing-clause-begun
returns-in_err-framing-clause-begun g c =
    let left = g.R.Read.remaining in
    let f = c.in_err-framing.field-0.0 in
    let is : c.from_residual-in_err-framing.result ≡ Err (of_bytes f) = search rules in
    let framed : response_framing_within c.args.most c.args.method.now c.in_ok-head.head
    ≡ Err f = search rules in
    rw is (no_framing c.args.most c.args.method.now (left (inner_of c.args.reader.now))
    (left (inner_of c.read_final_head.new.reader)) c.in_ok-head.head f (of_bytes f) refl
    c.in_ok-head.ensures.head framed)
