-- The text of a whole script: its settings first, and then its other lines.
use Rattle.std.specs.Prelude.{ℕ, List, [], Option, None, Some}
use Rattle.limit_kinds.specs.AnyKinds.{any_rules}
use Rattle.script.specs.declared.line_fault.LineFault.{LineFault}
use Rattle.script.specs.Opening.{OpeningFacts, opening_of}
use Rattle.script_gate.specs.Settings.{journal_of}
use Rattle.load_driver.specs.Replay.{Told, lines_text}

-- nothing is written where a setting is at fault, and else the text of the lines behind the
-- settings
abbrev pub told_unless : Option LineFault → Told → Told
told_unless None told = told
told_unless (Some fault) told = record { out = []; fault = Some fault }

-- the text of a script that is opened so
abbrev pub text_after : ℕ → ℕ → OpeningFacts → Told
text_after n kept o =
    told_unless o.fault (lines_text any_rules (journal_of n kept o.settings) o.line o.rest)

-- THE TEXT of a whole script: that of the lines behind its settings
abbrev pub replay_text : ℕ → ℕ → List ℕ → Told
replay_text n kept script = text_after n kept (opening_of script)
