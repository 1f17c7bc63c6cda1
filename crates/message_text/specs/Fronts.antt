-- What was written where a writer failed.
use Rattle.std.specs.Prelude.{ℕ, List, Option, take}
use Rattle.counted_io.specs.declared.counted.Counted.{Counted}
use Rattle.counted_io.specs.Effects.{Wrote}

-- a front of these bytes was written, which may be none or all of them
abbrev pub WroteFront : {W : Type 0} → (W → Option (List ℕ)) → Counted W → Counted W → List ℕ
    → Type 0
WroteFront contents old new bytes = (count : ℕ) × Wrote contents old new (take count bytes)
