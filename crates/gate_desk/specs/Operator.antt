-- What is done by the thread of an operator.
use Rattle.std.specs.Prelude.{◌≡◌, Bool, false, ℕ, List, Option}
use Rattle.limit_laws.specs.declared.limit.Limit.{Ghosts as LimitGhosts}
use Rattle.shared_gate.specs.declared.naming.GateNaming.{Ghosts as NamingGhosts}
use Rattle.shared_gate.specs.Calls.{Pass}
use Rattle.operator_calls.specs.declared.audience.Audience.{Audience}
use Rattle.operator_calls.specs.declared.audience.Audience.TheVariants.{Anyone}
use Rattle.operator_serving.specs.declared.operating.Operating.{Operating}
use Rattle.operator_serving.specs.Attending.{AreServed}
use Rattle.operator_serving.specs.Desk.{AreLooks, Deed, Sight}
use Rattle.operator_serving.specs.Stands.{Stand, stand}
use Rattle.gate_desk.specs.declared.operator.Operator.{Operator}
use Rattle.gate_desk.specs.Desk.{ShownBy}
use Rattle.gate_desk.specs.State.{DeskState, state_of}

-- what is seen at a desk
abbrev pub IsSeen : {L : Type 0} → DeskState L → Sight → Type 0
IsSeen desk sight = ShownBy desk.shut sight

-- OPERATED, by what is done at a desk, who came to the listener, and how that was found: one after
-- the other, each client whom it gave was served, who came there, from a desk that stood so, until
-- the listener was found closed. Whatever changed at the desk, a call that was read changed it; and
-- at an address for anyone the state was told, and nothing changed
pub record HasOperated {L : Type 0} (does : DeskState L → DeskState L → Deed → Type 0)
    (came : Option (List ℕ) → Type 0) (found : Bool → Type 0) (audience : Audience)
    (page : List ℕ) (begin : DeskState L) (end : Stand (DeskState L)) : Type 0 where
  pub served : AreServed (λ desk. desk.rows) IsSeen does came audience page (stand begin 0 0 0) end
  pub looks : audience ≡ Anyone → AreLooks does begin end.desk
  pub ended : found false

-- LEFT: who came was served, and the pass that is left is the desk's as it stood then
abbrev pub HasLeft : {L : Type 0} → (DeskState L → DeskState L → Deed → Type 0)
    → (Option (List ℕ) → Type 0) → (Bool → Type 0) → Audience → List ℕ → DeskState L → Pass
    → Type 0
HasLeft {L} does came found audience page begin pass = (end : Stand (DeskState L))
    × HasOperated does came found audience page begin end × (end.desk.pass ≡ pass)

-- what stands at an operator's desk, and where and how those are served who come there
abbrev pub desk_of : {G M R L C W : Type 0} {g : LimitGhosts G} {m : NamingGhosts M}
    → Operator G M R L C W g m → DeskState L
desk_of operator = state_of operator.desk

abbrev pub serves_at : {G M R L C W : Type 0} {g : LimitGhosts G} {m : NamingGhosts M}
    → Operator G M R L C W g m → Operating L C
serves_at operator = operator.common.now
