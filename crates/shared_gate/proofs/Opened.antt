-- The passes of a gate that is opened.
use Rattle.std.proofs.Common.{◌≡◌, ℕ, zero, suc, map, replicate, refl, ap, ◌∷◌, List}
use Rattle.shared_gate.specs.Calls.{Pass, pass_of}

-- passes by which no call was made are alike
pub made_alike : (count : ℕ) → map pass_of (replicate count 0) ≡ replicate count (pass_of 0)
made_alike zero = refl
made_alike (suc count) = ap (λ (rest : List Pass). pass_of 0 ∷ rest) (made_alike count)
