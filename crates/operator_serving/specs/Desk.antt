-- What is seen and done at a desk.
use Rattle.std.specs.Prelude.{◌≡◌, ◌⊎◌, ℕ, Bool, Result}
use Rattle.gate_port.specs.declared.report.Report.{Report}
use Rattle.serve_reports.specs.declared.noted.GatewayStats.{GatewayStats}
use Rattle.operator_serving.specs.declared.desk.ChangeFault.{ChangeFault}

-- what is seen: what was noted; whether clients are accepted
pub data Sight : Type 0 where
  Notes : GatewayStats → Sight
  Accepts : Bool → Sight

-- what is done: the state of the gate was told; the limit was to be set to a number, and what came
-- of it; it was to begin anew; no further client comes; none comes after so many milliseconds
pub data Deed : Type 0 where
  Reported : Report → Deed
  SetTo : ℕ → Result (Unit {0}) ChangeFault → Deed
  Begun : Result (Unit {0}) ChangeFault → Deed
  Drained : Deed
  DrainedAfter : ℕ → Deed

-- A LOOK leaves the desk as it is, but that the state of the gate may have been told
abbrev pub HasLooked : {D : Type 0} → (D → D → Deed → Type 0) → D → D → Type 0
HasLooked does old new = (new ≡ old) ⊎ (report : Report) × does old new (Reported report)

-- ONE LOOK AFTER THE OTHER, and nothing else
pub data AreLooks {D : Type 0} (does : D → D → Deed → Type 0) : D → D → Type 0 where
  none : (desk : D) → AreLooks does desk desk
  one_more : (old mid new : D) → AreLooks does old mid → HasLooked does mid new
      → AreLooks does old new
