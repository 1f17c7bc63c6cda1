use Rattle.std.proofs.Common.{◌+◌, arith}
use Rattle.message_fields.proofs.Digits.{one_digit_more, too_large}
use Rattle.message_fields.proofs.length.value_of.Goals as goal

pub returns-then-size-from : goal.returns-then-size-from
returns-then-size-from c =
    let next = one_digit_more c.args.digits.now _ _ c.requires c.loop-digit-test.true
    c.loop-digit.invariant.value in
    too_large c.args.most c.args.digits.now (c.loop-digit.digit-index + 1) (omega arith)

pub loop-digit-preserved : goal.loop-digit-preserved
loop-digit-preserved c =
    let next = one_digit_more c.args.digits.now _ _ c.requires c.loop-digit-test.true
    c.loop-digit.invariant.value in
    record {
      value = omega arith;
      within = omega arith;
    }
