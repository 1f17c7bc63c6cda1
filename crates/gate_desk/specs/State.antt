-- What stands at a desk.
use Rattle.std.specs.Prelude.{Bool, true, false, List}
use Rattle.limit_laws.specs.declared.limit.Limit.{Ghosts as LimitGhosts}
use Rattle.partitions.specs.Table.{Row}
use Rattle.shared_gate.specs.declared.naming.GateNaming.{Ghosts as NamingGhosts}
use Rattle.shared_gate.specs.Calls.{Pass, pass_of}
use Rattle.gate_desk.specs.declared.desk.GateDesk.{GateDesk}
use Rattle.gate_desk.specs.Listeners.{is_shut, listener_in}

-- the classes of callers, the desk's pass, where clients come from, and whether that was closed at
-- this desk
pub record DeskState (L : Type 0) : Type 0 where
  pub rows : List Row
  pub pass : Pass
  pub front : L
  pub shut : Bool

abbrev pub state_of : {G M R L C W : Type 0} {g : LimitGhosts G} {m : NamingGhosts M}
    → GateDesk G M R L C W g m → DeskState L
state_of desk = record {
  rows = desk.table;
  pass = desk.pass;
  front = listener_in desk.front;
  shut = is_shut desk.front;
}

-- a desk at which nothing was done: nobody has called by its pass, and clients come
abbrev pub new_desk : {L : Type 0} → List Row → L → DeskState L
new_desk rows front = record { rows = rows; pass = pass_of 0; front = front; shut = false }

-- the same desk with another pass
abbrev pub with_pass : {L : Type 0} → Pass → DeskState L → DeskState L
with_pass pass desk = record {
  rows = desk.rows;
  pass = pass;
  front = desk.front;
  shut = desk.shut;
}

-- the same desk, once it has closed where clients come from
abbrev pub once_shut : {L : Type 0} → DeskState L → DeskState L
once_shut desk = record {
  rows = desk.rows;
  pass = desk.pass;
  front = desk.front;
  shut = true;
}
