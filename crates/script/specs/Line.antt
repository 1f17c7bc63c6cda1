-- What a line says, by its words.
use Rattle.std.specs.Prelude.{ℕ, Bool, ◌==◌, List, [], ◌∷◌, slice_index, Option, None, Some, Result, Ok, if◌then◌else◌}
use Rattle.std.specs.Borrow.{Bor}
use Rattle.script.specs.declared.fault_kind.FaultKind.{FaultKind}
use Rattle.script.specs.declared.setting.Setting.{Setting as SettingLine}
use Rattle.script.specs.declared.line.Line.{Line}
use Rattle.script.specs.declared.line.Line.TheVariants.{Setting, Request}
use Rattle.script.specs.Words.{result_map}
use Rattle.script.specs.Setting.{setting_of, setting_bytes}
use Rattle.script.specs.Request.{Asks, request_of, request_bytes}

-- what a line says: nothing, a setting or a request, or why it is at fault
abbrev pub Said : Type 0
Said = Result (Option (Line (List ℕ))) FaultKind

-- a comment's first word begins with `#`
abbrev pub is_comment : List ℕ → Bool
is_comment first = slice_index first 0 == 35

-- a setting where the words make one, and else what they ask
abbrev pub setting_or : Option (SettingLine (List ℕ)) → Result Asks FaultKind → Said
setting_or (Some setting) asked = Ok (Some (Setting setting))
setting_or None asked = result_map (λ request. Some (Request request)) asked

-- WHAT A LINE SAYS by its words: nothing where it has none or is a comment
abbrev pub line_of : List (List ℕ) → Said
line_of [] = Ok None
line_of (first ∷ rest) =
    if is_comment first then Ok None
    else setting_or (setting_of first rest) (request_of first rest)

-- a line with the bytes of its class's name
abbrev pub line_bytes : Line (Bor (List ℕ)) → Line (List ℕ)
line_bytes (Setting setting) = Setting (setting_bytes setting)
line_bytes (Request request) = Request (request_bytes request)
