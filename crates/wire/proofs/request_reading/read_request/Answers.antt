use Rattle.std.proofs.Common.{rules, refl, ◌≡◌, Err}
use Rattle.counted_io.specs.Counted.{inner_of}
use Rattle.message_parts.specs.declared.request.Request.{Request}
use Rattle.wire.specs.Fault.{of_read}
use Rattle.wire.proofs.MessagePhases.{request_body_cut, request_cut, request_whole}
use Rattle.wire.proofs.SaidTexts.{request_told, said_front, silent_head}
use Rattle.wire.proofs.request_reading.read_request.Goals as goal

pub returns-in_err-head-clause-request : goal.returns-in_err-head-clause-request
returns-in_err-head-clause-request g c =
    let left = g.R.Read.remaining in
    let e = c.in_err-head.field-0.0 in
    let is : c.from_residual.result ≡ Err (of_read e) = search rules in
    rw is (request_cut (left (inner_of c.args.reader.now))
    (left (inner_of c.read_checked_head.new.reader)) e (of_read e) refl c.in_err-head.ensures.head)

pub returns-in_err-head-clause-said : goal.returns-in_err-head-clause-said
returns-in_err-head-clause-said g c = λ other.
    let left = g.R.Read.remaining in
    let e = c.in_err-head.field-0.0 in
    let is : c.from_residual.result ≡ Err (of_read e) = search rules in
    rw is (silent_head Request (left (inner_of c.args.reader.now))
    (left (inner_of c.read_checked_head.new.reader))
    (g.W.Write.contents (inner_of c.args.writer.now)) e (of_read e) refl c.in_err-head.ensures.head)

pub returns-in_err-body-clause-request : goal.returns-in_err-body-clause-request
returns-in_err-body-clause-request g c =
    let left = g.R.Read.remaining in
    let e = c.in_err-body.field-0.0 in
    let is : c.from_residual-in_err-body.result ≡ Err (of_read e) = search rules in
    rw is (request_body_cut (left (inner_of c.args.reader.now))
    (left (inner_of c.read_checked_head.new.reader)) (left (inner_of c.read_body.new.reader))
    c.in_ok-head.head c.in_ok-head.framing e (of_read e) refl c.in_ok-head.ensures.head
    c.in_err-body.ensures.body)

pub returns-clause-request : goal.returns-clause-request
returns-clause-request g c =
    let left = g.R.Read.remaining in
    request_whole (left (inner_of c.args.reader.now))
    (left (inner_of c.read_checked_head.new.reader)) (left (inner_of c.read_body.new.reader))
    c.in_ok-head.head c.in_ok-head.framing c.in_ok-body.body c.request_of.result
    c.request_of.ensures c.in_ok-head.ensures.head c.in_ok-body.ensures.body

pub returns-in_err-head-clause-read : goal.returns-in_err-head-clause-read
returns-in_err-head-clause-read g c = search rules

pub returns-in_err-head-clause-turns : goal.returns-in_err-head-clause-turns
returns-in_err-head-clause-turns g c = search rules

pub returns-in_err-head-clause-few : goal.returns-in_err-head-clause-few
returns-in_err-head-clause-few g c = search rules

pub returns-in_err-head-clause-reads : goal.returns-in_err-head-clause-reads
returns-in_err-head-clause-reads g c = search rules

pub returns-in_err-head-clause-reads_well : goal.returns-in_err-head-clause-reads_well
returns-in_err-head-clause-reads_well g c = search rules

pub returns-in_err-path-clause-request : goal.returns-in_err-path-clause-request
returns-in_err-path-clause-request g c = search rules

pub returns-in_err-path-clause-read : goal.returns-in_err-path-clause-read
returns-in_err-path-clause-read g c = search rules

pub returns-in_err-path-clause-turns : goal.returns-in_err-path-clause-turns
returns-in_err-path-clause-turns g c = search rules

pub returns-in_err-path-clause-few : goal.returns-in_err-path-clause-few
returns-in_err-path-clause-few g c = search rules

pub returns-in_err-path-clause-reads : goal.returns-in_err-path-clause-reads
returns-in_err-path-clause-reads g c = search rules

pub returns-in_err-path-clause-reads_well : goal.returns-in_err-path-clause-reads_well
returns-in_err-path-clause-reads_well g c = search rules

pub returns-in_err-say_continue-clause-request : goal.returns-in_err-say_continue-clause-request
returns-in_err-say_continue-clause-request g c = search rules

pub returns-in_err-say_continue-clause-read : goal.returns-in_err-say_continue-clause-read
returns-in_err-say_continue-clause-read g c = search rules

pub returns-in_err-say_continue-clause-turns : goal.returns-in_err-say_continue-clause-turns
returns-in_err-say_continue-clause-turns g c = search rules

pub returns-in_err-say_continue-clause-few : goal.returns-in_err-say_continue-clause-few
returns-in_err-say_continue-clause-few g c = search rules

pub returns-in_err-say_continue-clause-reads : goal.returns-in_err-say_continue-clause-reads
returns-in_err-say_continue-clause-reads g c = search rules

pub returns-in_err-say_continue-clause-reads_well :
    goal.returns-in_err-say_continue-clause-reads_well
returns-in_err-say_continue-clause-reads_well g c = search rules

pub returns-in_err-body-clause-read : goal.returns-in_err-body-clause-read
returns-in_err-body-clause-read g c = search rules

pub returns-in_err-body-clause-turns : goal.returns-in_err-body-clause-turns
returns-in_err-body-clause-turns g c = search rules

pub returns-in_err-body-clause-few : goal.returns-in_err-body-clause-few
returns-in_err-body-clause-few g c = search rules

pub returns-in_err-body-clause-reads : goal.returns-in_err-body-clause-reads
returns-in_err-body-clause-reads g c = search rules

pub returns-in_err-body-clause-reads_well : goal.returns-in_err-body-clause-reads_well
returns-in_err-body-clause-reads_well g c = search rules

pub returns-clause-read : goal.returns-clause-read
returns-clause-read g c = search rules

pub returns-clause-turns : goal.returns-clause-turns
returns-clause-turns g c = search rules

pub returns-clause-few : goal.returns-clause-few
returns-clause-few g c = search rules

pub returns-clause-reads : goal.returns-clause-reads
returns-clause-reads g c = search rules

pub returns-clause-reads_well : goal.returns-clause-reads_well
returns-clause-reads_well g c = search rules

pub returns-in_err-head-clause-unfailing : goal.returns-in_err-head-clause-unfailing
returns-in_err-head-clause-unfailing g c = search rules

pub returns-in_err-head-clause-write : goal.returns-in_err-head-clause-write
returns-in_err-head-clause-write g c = search rules

pub returns-in_err-path-clause-said : goal.returns-in_err-path-clause-said
returns-in_err-path-clause-said g c = search (rules, request_told)

pub returns-in_err-path-clause-unfailing : goal.returns-in_err-path-clause-unfailing
returns-in_err-path-clause-unfailing g c = search rules

pub returns-in_err-path-clause-write : goal.returns-in_err-path-clause-write
returns-in_err-path-clause-write g c = search rules

pub returns-in_err-say_continue-clause-said : goal.returns-in_err-say_continue-clause-said
returns-in_err-say_continue-clause-said g c = search (rules, request_told)

pub returns-in_err-say_continue-clause-unfailing : goal.returns-in_err-say_continue-clause-unfailing
returns-in_err-say_continue-clause-unfailing g c = search rules

pub returns-in_err-say_continue-clause-write : goal.returns-in_err-say_continue-clause-write
returns-in_err-say_continue-clause-write g c = search rules

pub returns-in_err-body-clause-said : goal.returns-in_err-body-clause-said
returns-in_err-body-clause-said g c = search (rules, request_told)

pub returns-in_err-body-clause-unfailing : goal.returns-in_err-body-clause-unfailing
returns-in_err-body-clause-unfailing g c = search rules

pub returns-in_err-body-clause-write : goal.returns-in_err-body-clause-write
returns-in_err-body-clause-write g c = search rules

pub returns-clause-said : goal.returns-clause-said
returns-clause-said g c = search (rules, request_told)

pub returns-clause-unfailing : goal.returns-clause-unfailing
returns-clause-unfailing g c = search rules

pub returns-clause-write : goal.returns-clause-write
returns-clause-write g c = search rules

pub returns-in_err-head-clause-front : goal.returns-in_err-head-clause-front
returns-in_err-head-clause-front g c = search rules

pub returns-in_err-path-clause-front : goal.returns-in_err-path-clause-front
returns-in_err-path-clause-front g c = search rules

pub returns-in_err-body-clause-front : goal.returns-in_err-body-clause-front
returns-in_err-body-clause-front g c = search rules

pub returns-clause-front : goal.returns-clause-front
returns-clause-front g c = search rules

pub returns-in_err-say_continue-clause-front : goal.returns-in_err-say_continue-clause-front
returns-in_err-say_continue-clause-front g c = λ same.
    let left = g.R.Read.remaining in
    said_front (left (inner_of c.args.reader.now))
    (left (inner_of c.read_checked_head.new.reader))
    (g.W.Write.contents (inner_of c.args.writer.now))
    (g.W.Write.contents (inner_of c.say_continue.new.writer)) c.in_ok-head.head
    c.in_ok-head.framing c.in_ok-head.ensures.head c.in_err-say_continue.ensures.front
