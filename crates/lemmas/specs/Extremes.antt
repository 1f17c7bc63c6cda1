-- The least and the greatest number that pass a test.
use Rattle.std.specs.Prelude.{ℕ, zero, suc, Bool, true, false, if◌then◌else◌}

-- the least number below the bound that passes the test, or the bound where none does
unfoldable pub least : (ℕ → Bool) → ℕ → ℕ
least test zero = zero
least test (suc bound) =
    elim (test zero) [ true ↦ zero | false ↦ suc (least (λ n. test (suc n)) bound) ]

-- the greatest number up to n that passes the test, or 0 where none does
unfoldable pub greatest : (ℕ → Bool) → ℕ → ℕ
greatest test zero = 0
greatest test (suc n) = if test (suc n) then suc n else greatest test n
