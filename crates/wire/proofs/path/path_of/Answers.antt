use Rattle.std.proofs.Common.{rules, ◌≡◌, ◌==◌, ℕ, sym, subst, slice_range, IsUtf8}
use Rattle.std.specs.List.{before_first}
use Rattle.message_fields.specs.Target.{local_part}
use Rattle.wire.proofs.Paths.{local_path_is_text}
use Rattle.wire.proofs.path.path_of.Goals as goal

pub part-requires-clause-text : goal.part-requires-clause-text
part-requires-clause-text c =
    let target = c.args.target.now in
    let is : slice_range target c.path_range-start.result.0 c.path_range-start.result.1
    ≡ before_first (λ (byte : ℕ). byte == 63) (local_part target) = search rules in
    subst IsUtf8 (sym is) (local_path_is_text target c.as_bytes.ensures.text)
