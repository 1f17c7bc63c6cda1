-- The settings that lines give, by their words.
use Rattle.std.specs.Prelude.{ℕ, Bool, true, false, List, [], ◌∷◌, Option, None, Some, option_map, bytes_eq, codes, if◌then◌else◌}
use Rattle.std.specs.Borrow.{Bor}
use Rattle.limiter_core.specs.declared.promote.Promote.{Promote}
use Rattle.limiter_core.specs.declared.promote.Promote.TheVariants.{Newest, All}
use Rattle.script.specs.declared.setting.Setting.{Setting}
use Rattle.script.specs.declared.setting.Setting.TheVariants.{Limit, Window, Class, Share, Places, Backlog, Keep, Timeout, Promotion}
use Rattle.script.specs.Words.{with_number, with_word, lone_number}
use Rattle.script.specs.LimitLine.{limit_line}
use Rattle.script.specs.WindowLine.{window_line}

-- what follows `class`: a name, and a number
abbrev pub class_line : List (List ℕ) → Option (Setting (List ℕ))
class_line ws = with_word (λ name rest. option_map (Class name) (lone_number rest)) ws

-- what follows `share` is the same
abbrev pub share_line : List (List ℕ) → Option (Setting (List ℕ))
share_line ws = with_word (λ name rest. option_map (Share name) (lone_number rest)) ws

-- and what follows `places`
abbrev pub places_line : List (List ℕ) → Option (Setting (List ℕ))
places_line ws = with_word (λ name rest. option_map (Places name) (lone_number rest)) ws

-- whether the rest of a line says `rolling`, where it says nothing else
abbrev pub rolling_of : List (List ℕ) → Option Bool
rolling_of [] = Some false
rolling_of (word ∷ []) = if bytes_eq word (codes "rolling") then Some true else None
rolling_of _ = None

-- what follows `keep`: a number, with `rolling` or without it
abbrev pub keep_line : List (List ℕ) → Option (Setting (List ℕ))
keep_line ws = with_number (λ entries rest. option_map (Keep entries) (rolling_of rest)) ws

-- the rule of promotion that the rest of a line names, where it says nothing else
abbrev pub rule_named : List ℕ → Option Promote
rule_named word =
    if bytes_eq word (codes "newest") then Some Newest
    else (if bytes_eq word (codes "all") then Some All else None)

abbrev pub rule_of : List (List ℕ) → Option Promote
rule_of (word ∷ []) = rule_named word
rule_of _ = None

-- the setting of a line by its first word and the others; nothing where it has no setting's format
abbrev pub setting_of : List ℕ → List (List ℕ) → Option (Setting (List ℕ))
setting_of first rest =
    if bytes_eq first (codes "limit") then option_map Limit (limit_line rest)
    else (if bytes_eq first (codes "window") then option_map Window (window_line rest)
    else (if bytes_eq first (codes "class") then class_line rest
    else (if bytes_eq first (codes "share") then share_line rest
    else (if bytes_eq first (codes "places") then places_line rest
    else (if bytes_eq first (codes "backlog") then option_map Backlog (lone_number rest)
    else (if bytes_eq first (codes "keep") then keep_line rest
    else (if bytes_eq first (codes "timeout") then option_map Timeout (lone_number rest)
    else (if bytes_eq first (codes "promote") then option_map Promotion (rule_of rest)
    else None))))))))

-- a setting with the bytes of its class's name
abbrev pub setting_bytes : Setting (Bor (List ℕ)) → Setting (List ℕ)
setting_bytes (Limit spec) = Limit spec
setting_bytes (Window numbers) = Window numbers
setting_bytes (Class name percent) = Class name.now percent
setting_bytes (Share name thousandths) = Share name.now thousandths
setting_bytes (Places name n) = Places name.now n
setting_bytes (Backlog room) = Backlog room
setting_bytes (Keep entries is_rolling) = Keep entries is_rolling
setting_bytes (Timeout nanos) = Timeout nanos
setting_bytes (Promotion rule) = Promotion rule
