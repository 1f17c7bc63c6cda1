-- Targets that are too short for a scheme.
use Rattle.std.proofs.Common.{◌≡◌, ℕ, ◌<◌, true, false, List, length, map, take, refl, ap, arith, length-take}
use Rattle.std.proofs.lemmas.List.{length-map}
use Rattle.std.specs.Prelude.{bytes_eq, codes}
use Rattle.std.specs.Char.{to_ascii_lowercase}
use Rattle.std.proofs.lemmas.Slice.Eq.{bytes_eq-Decides}
use Rattle.message_parts.specs.Names.{same_name}

-- fewer than seven bytes don't spell `http://`
pub short_target : (target : List ℕ) → length target < 7
    → same_name (take 7 target) (codes "http://") ≡ false
unfolding same_name
short_target target short =
    let one : List ℕ = map to_ascii_lowercase (take 7 target) in
    let other : List ℕ = map to_ascii_lowercase (codes "http://") in
    let decides = bytes_eq-Decides one other in
    elim (bytes_eq one other) as (λ b. bytes_eq one other ≡ b → b ≡ false) [
      | true ↦ λ e.
          absurd (omega (arith, simp (length-map, length-take) at (ap length (decides.0 e))))
      | false ↦ λ e. refl
    ] refl
