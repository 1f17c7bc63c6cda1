use Rattle.std.proofs.Common.{arith, ◌≤◌, length}
use Rattle.message_reading.specs.WholeHeads.{AreRequestParts}
use Rattle.message_reading.proofs.FoundParts.{IsFront, request_front}
use Rattle.message_reading.proofs.request_head.RequestSpansHeadParts.find.Goals as goal
use Rattle.message_reading.proofs.request_head.RequestSpansHeadParts.find.Goals.{In-Ok-Complete}

front : (c : In-Ok-Complete)
    → IsFront AreRequestParts c.args.shown.now c.parse_request.new.headers
    c.in-Ok-Complete.found c.in-Ok-Complete.found.len
front c =
    let found = c.in-Ok-Complete in
    let few : length c.parse_request.new.headers ≤ 100 = omega arith in
    let complete = rw found.field-0-is at found.ensures.complete in
    let within = rw found.field-0-is at found.ensures.within in
    request_front c.args.shown.now c.parse_request.new.headers found.found c.requires.bytes few
    complete within

pub returns-in-Ok-Complete-clause-parts : goal.returns-in-Ok-Complete-clause-parts
returns-in-Ok-Complete-clause-parts c =
    (front (goal.at.returns-in-Ok-Complete-clause-parts c).In-Ok-Complete).are

pub returns-in-Ok-Complete-clause-head : goal.returns-in-Ok-Complete-clause-head
returns-in-Ok-Complete-clause-head c =
    (front (goal.at.returns-in-Ok-Complete-clause-head c).In-Ok-Complete).text

pub returns-in-Ok-Complete-clause-some : goal.returns-in-Ok-Complete-clause-some
returns-in-Ok-Complete-clause-some c =
    (front (goal.at.returns-in-Ok-Complete-clause-some c).In-Ok-Complete).some
