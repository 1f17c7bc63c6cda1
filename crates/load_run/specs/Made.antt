-- The receipts and the refusals of one arrival as lists.
use Rattle.std.specs.Prelude.{List, [], ◌∷◌}
use Rattle.gate_ledgers.specs.Receipt.{Told}
use Rattle.gate_history.specs.Refusal.{Refusal}
use Rattle.load_run.specs.declared.calls.Made.{Made}
use Rattle.load_run.specs.declared.calls.Made.TheVariants.{Exhausted, One, Stuck, Two, Three}

abbrev pub made_of : {M : Type 0} → Made M → List Told
made_of (Exhausted spent) = []
made_of (One first) = first ∷ []
made_of (Stuck first spent) = first ∷ []
made_of (Two first second) = first ∷ second ∷ []
made_of (Three first second third) = first ∷ second ∷ third ∷ []

abbrev pub refused_of : {M : Type 0} → Made M → List Refusal
refused_of (Exhausted spent) = spent ∷ []
refused_of (One first) = []
refused_of (Stuck first spent) = spent ∷ []
refused_of (Two first second) = []
refused_of (Three first second third) = []
