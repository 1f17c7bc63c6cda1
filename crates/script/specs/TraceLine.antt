-- What a line of a trace says, by its words.
use Rattle.std.specs.Prelude.{ℕ, List, [], ◌∷◌, Option, None, Some, Result, Ok, if◌then◌else◌}
use Rattle.std.specs.Borrow.{Bor}
use Rattle.script.specs.declared.fault_kind.FaultKind.{FaultKind}
use Rattle.script.specs.declared.setting.Setting.{Setting as SettingLine}
use Rattle.script.specs.declared.trace_line.TraceLine.{TraceLine}
use Rattle.script.specs.declared.trace_line.TraceLine.TheVariants.{Setting, Arrival}
use Rattle.script.specs.Words.{result_map}
use Rattle.script.specs.Line.{is_comment}
use Rattle.script.specs.Setting.{setting_of, setting_bytes}
use Rattle.script.specs.Arrival.{Arrives, arrival_of, arrival_bytes}

-- what a line says: nothing, a setting or a call, or why it is at fault
abbrev pub Traced : Type 0
Traced = Result (Option (TraceLine (List ℕ))) FaultKind

-- a setting where the words make one, and else a call
abbrev pub setting_or_arrival : Option (SettingLine (List ℕ)) → Result Arrives FaultKind → Traced
setting_or_arrival (Some setting) call = Ok (Some (Setting setting))
setting_or_arrival None call = result_map (λ arrival. Some (Arrival arrival)) call

-- WHAT A LINE OF A TRACE SAYS by its words: nothing where it has none or is a comment
abbrev pub trace_line_of : List (List ℕ) → Traced
trace_line_of [] = Ok None
trace_line_of (first ∷ rest) =
    if is_comment first then Ok None
    else setting_or_arrival (setting_of first rest) (arrival_of first rest)

-- a line with the bytes of its class's name
abbrev pub trace_line_bytes : TraceLine (Bor (List ℕ)) → TraceLine (List ℕ)
trace_line_bytes (Setting setting) = Setting (setting_bytes setting)
trace_line_bytes (Arrival arrival) = Arrival (arrival_bytes arrival)
