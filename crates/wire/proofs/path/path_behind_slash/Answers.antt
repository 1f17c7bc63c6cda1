use Rattle.std.proofs.Common.{rules, ◌≡◌, ◌==◌, ◌∷◌, ℕ, sym, subst, IsUtf8}
use Rattle.std.specs.List.{before_first}
use Rattle.message_fields.specs.Target.{local_part}
use Rattle.wire.proofs.Paths.{slash_path_is_text}
use Rattle.wire.proofs.path.path_behind_slash.Goals as goal

pub from_bytes-requires : goal.from_bytes-requires
from_bytes-requires c =
    let target = c.args.target.now in
    let is : c.extend_from_slice.new.self.items
    ≡ 47 ∷ before_first (λ (byte : ℕ). byte == 63) (local_part target) = search rules in
    record { text = subst IsUtf8 (sym is) (slash_path_is_text target c.as_bytes.ensures.text) }
