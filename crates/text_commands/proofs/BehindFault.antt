-- The line of a fault, and what is written behind it.
use Rattle.std.proofs.Common.{◌≡◌, ℕ, Bool, true, sym, subst, List, Option}
use Rattle.counted_io.specs.declared.counted.Counted.{Counted}
use Rattle.fault_lines.specs.FaultLine.{IsTold}
use Rattle.line_explain.specs.BehindFault.{IsToldAnd}

pub told_and_more : {E : Type 0} (explain : Bool) (contents : E → Option (List ℕ))
    (old between new : Counted E) (line : List ℕ) (More : Counted E → Counted E → Type 0)
    → explain ≡ true → IsTold contents old between line → More between new
    → IsToldAnd explain contents old new line More
told_and_more explain contents old between new line More is told more =
    subst (λ asked. IsToldAnd asked contents old new line More) (sym is) (between, told, more)
