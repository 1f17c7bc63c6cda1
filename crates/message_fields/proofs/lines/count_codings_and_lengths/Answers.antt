use Rattle.std.proofs.Common.{◌<◌, length, arith}
use Rattle.message_parts.specs.declared.field.Field.TheVariants as field
use Rattle.message_fields.proofs.Counts.{one_more, as_many}
use Rattle.message_fields.proofs.lines.count_codings_and_lengths.Goals as goal
use Rattle.message_fields.proofs.lines.count_codings_and_lengths.Goals.{in-TransferEncoding, in-ContentLength, in_default}

pub loop-line-preserved : goal.loop-line-preserved
loop-line-preserved c =
    let lines = c.args.lines.now in
    let i = c.loop-line.line-index in
    let line = c.line-item.result in
    let f = c.field.result in
    let inside : i < length lines = omega arith in
    let here = c.line-item.is in
    let told = c.field.ensures in
    let coding = one_more field.TransferEncoding f lines i line inside here (λ e. cc) told in
    let no_coding = as_many field.TransferEncoding f lines i line inside here (λ e. cc) told in
    let sized = one_more field.ContentLength f lines i line inside here (λ e. cc) told in
    let not_sized = as_many field.ContentLength f lines i line inside here (λ e. cc) told in
    let before = c.loop-line.invariant in
    elim c.match-field.branch [
      | in-TransferEncoding w ↦ record {
        codings = coding _ _ w.in-TransferEncoding.is before.codings w.codings-is;
        lengths = not_sized _ _ (λ e. cc) before.lengths w.lengths-is;
        few = (omega (arith, w.codings-is, before.few), omega (arith, w.lengths-is, before.few));
      }
      | in-ContentLength w ↦ record {
        codings = no_coding _ _ (λ e. cc) before.codings w.codings-is;
        lengths = sized _ _ w.in-ContentLength.is before.lengths w.lengths-is;
        few = (omega (arith, w.codings-is, before.few), omega (arith, w.lengths-is, before.few));
      }
      | in_default w ↦ record {
        codings = no_coding _ _ w.in_default.not-TransferEncoding before.codings w.codings-is;
        lengths = not_sized _ _ w.in_default.not-ContentLength before.lengths w.lengths-is;
        few = (omega (arith, w.codings-is, before.few), omega (arith, w.lengths-is, before.few));
      }
    ]
