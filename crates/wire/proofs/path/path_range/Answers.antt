use Rattle.std.proofs.Common.{◌==◌, ◌+◌, ◌-◌, ◌∙◌, ap, length, slice_range, take}
use Rattle.std.specs.List.{position_or_len}
use Rattle.message_fields.specs.Target.{local_part}
use Rattle.wire.proofs.Paths.{local_path_range}
use Rattle.wire.proofs.path.path_range.Goals as goal

pub returns-clause-value : goal.returns-clause-value
returns-clause-value c =
    let target = c.args.target.now in
    let q = c.query_at.result in
    let is = c.local_part-local.ensures in
    ap (λ l. slice_range target (length target - length l) (length target - length l + q)) is
    ∙ local_path_range target q
    ∙ ap (λ n. take n (local_part target))
    (c.query_at.ensures.value ∙ ap (position_or_len (λ byte. byte == 63)) is)
