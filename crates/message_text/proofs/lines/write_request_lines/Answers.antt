use Rattle.std.proofs.Common.{arith, rules, ◌≡◌, get_or}
use Rattle.message_fields.specs.Passed.{is_passed_in_request}
use Rattle.message_fields.specs.Passing.{lines_of}
use Rattle.message_text.specs.Forwarded.{hosted, lent}
use Rattle.message_text.proofs.Kept.{front_kept, wrote_kept}
use Rattle.message_text.proofs.lines.write_request_lines.Goals as goal

pub returns-clause-all : goal.returns-clause-all
returns-clause-all g c =
    wrote_kept _ _ (is_passed_in_request c.args.lines.now)
    (hosted (lent c.args.authority))
    c.args.lines.now c.loop-line.line-index (omega arith) c.loop-line.invariant.written

pub returns-in_err-write_passed_in_request-clause-front
    : goal.returns-in_err-write_passed_in_request-clause-front
returns-in_err-write_passed_in_request-clause-front g c =
    let i = c.loop-line.line-index in
    let line = c.line-item.result in
    let here : get_or c.args.lines.now i line ≡ line = search rules in
    let same : lines_of c.new-passing.result ≡ c.args.lines.now = c.new-passing.ensures in
    front_kept _ _ _ c.args.lines.now i line c.loop-line-test.true c.from_residual.result
    (is_passed_in_request c.args.lines.now) (hosted (lent c.args.authority))
    c.loop-line.invariant.written
    (rw here (rw same at c.in_err-write_passed_in_request.ensures.front))
