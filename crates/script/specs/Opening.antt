-- The settings at the head of a text, and the lines behind them.
use Rattle.std.specs.Prelude.{ℕ, ◌+◌, List, [], ◌∷◌, Option, None, Some, option_map, Ok, Err, if◌then◌else◌}
use Rattle.std.specs.Str.Lines.{lines}
use Rattle.script.specs.declared.line_fault.LineFault.{LineFault}
use Rattle.script.specs.declared.setting.Setting.{Setting}
use Rattle.script.specs.Words.{words}
use Rattle.script.specs.Setting.{setting_of}
use Rattle.script.specs.Line.{is_comment}
use Rattle.script.specs.Settings.{SettingFacts, Set, no_settings, with_setting}

-- what a line says at the head, a setting or nothing, by its words; none where it says anything
-- else, with which the settings are over
abbrev pub head_of : List (List ℕ) → Option (Option (Setting (List ℕ)))
head_of [] = Some None
head_of (first ∷ rest) =
    if is_comment first then Some None else option_map Some (setting_of first rest)

-- the settings of a text, the lines that are left, the first of which has this number, and the
-- setting at fault that ended them, if one did
pub record OpeningFacts : Type 0 where
  pub settings : SettingFacts
  pub line : ℕ
  pub rest : List (List ℕ)
  pub fault : Option LineFault

-- what a setting leads to: what the lines after it give under the settings with it, or its fault
abbrev pub by_setting : OpeningFacts → Set → (SettingFacts → OpeningFacts) → OpeningFacts
by_setting here (Ok s) after = after s
by_setting here (Err why) after =
    record here { fault = Some (record { line = here.line; why = why }) }

-- by what a line says at the head: what the lines after it give, or that the settings end here
abbrev pub by_head : OpeningFacts → Option (Option (Setting (List ℕ)))
    → (SettingFacts → OpeningFacts) → OpeningFacts
by_head here (Some None) after = after here.settings
by_head here (Some (Some setting)) after =
    by_setting here (with_setting here.settings setting) after
by_head here None after = here

-- THE OPENING that these lines give under the settings so far: they end at the first line that is
-- neither skipped nor a setting, or at a setting at fault
abbrev pub opening_from : SettingFacts → ℕ → List (List ℕ) → OpeningFacts
opening_from s number [] = record { settings = s; line = number; rest = []; fault = None }
opening_from s number (line ∷ rest) =
    by_head (record { settings = s; line = number; rest = line ∷ rest; fault = None })
    (head_of (words line)) (λ t. opening_from t (number + 1) rest)

-- the opening of a whole text
abbrev pub opening_of : List ℕ → OpeningFacts
opening_of text = opening_from no_settings 1 (lines text)
