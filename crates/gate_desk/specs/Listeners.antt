-- A listener as a desk has it.
use Rattle.std.specs.Prelude.{Bool}
use Rattle.gate_desk.specs.declared.desk_listener.DeskListener.{DeskListener}

-- the listener itself
abbrev pub listener_in : {L : Type 0} → DeskListener L → L
listener_in own = own.listener.now

-- whether it was closed here
abbrev pub is_shut : {L : Type 0} → DeskListener L → Bool
is_shut own = own.is_shut
