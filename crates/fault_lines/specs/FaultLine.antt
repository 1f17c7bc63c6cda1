-- Lines of faults.
use Rattle.std.specs.Prelude.{◌≡◌, ◌⊎◌, ℕ, true, List, ◌++◌, Option, codes}
use Rattle.counted_io.specs.declared.counted.Counted.{Counted}
use Rattle.counted_io.specs.Causes.{IsWriteCause}
use Rattle.counted_io.specs.Counted.{is_flushed}
use Rattle.counted_io.specs.Effects.{Wrote}

-- a text and the end of its line
abbrev pub line : List ℕ → List ℕ
line text = text ++ codes "\n"

-- the line of a fault that has this text
abbrev pub fault_line : List ℕ → List ℕ
fault_line text = codes "admission: " ++ line text

-- the line is written and flushed, or the writer failed
abbrev pub IsTold : {E : Type 0} → (E → Option (List ℕ)) → Counted E → Counted E → List ℕ → Type 0
IsTold contents old new text =
    (Wrote contents old new text × (is_flushed new ≡ true)) ⊎ IsWriteCause old new
