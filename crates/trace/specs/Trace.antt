-- A whole trace: its settings first, and then its calls.
use Rattle.std.specs.Prelude.{ℕ, List, [], Option, None, Some}
use Rattle.script.specs.declared.line_fault.LineFault.{LineFault}
use Rattle.script.specs.Settings.{SettingFacts}
use Rattle.script.specs.Opening.{OpeningFacts, opening_of}
use Rattle.trace.specs.Calls.{Calls, calls_of}

-- the settings of a trace, and its calls up to its end or to the line at fault
pub record TraceFacts : Type 0 where
  pub settings : SettingFacts
  pub calls : Calls

-- no calls where a setting is at fault, and else those of the lines behind the settings
abbrev pub calls_unless : Option LineFault → Calls → Calls
calls_unless None calls = calls
calls_unless (Some fault) calls = record { arrivals = []; fault = Some fault }

-- the trace that is opened so
abbrev pub trace_after : OpeningFacts → TraceFacts
trace_after o = record {
  settings = o.settings;
  calls = calls_unless o.fault (calls_of o.settings.rows o.line o.rest);
}

-- THE TRACE of a whole text: its settings, and the calls of the lines behind them
abbrev pub trace_of : List ℕ → TraceFacts
trace_of text = trace_after (opening_of text)
