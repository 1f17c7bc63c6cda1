-- The line of a configuration that is accepted.
use Rattle.std.specs.Prelude.{ℕ, List, [], ◌∷◌, Option, None, Some, length, codes, decimal}
use Rattle.std.specs.List.{concat}
use Rattle.gateway_settings.specs.declared.settings.Settings.{Settings}
use Rattle.limit_kinds.specs.AnyKinds.{any_kind, any_limit, any_rules}
use Rattle.limit_kinds.specs.Kinds.{kind_word}
use Rattle.fault_lines.specs.FaultLine.{line}

-- the number of exchanges that the settings were made for, and the greatest limit; nothing of
-- settings that were made for none
abbrev pub exchanges_pieces : Option ℕ → ℕ → List (List ℕ)
exchanges_pieces None greatest = []
exchanges_pieces (Some n) greatest =
    codes " exchanges " ∷ decimal n ∷ codes " max " ∷ decimal greatest ∷ []

-- the kind of the limit and the limit at the start, how many classes, resolvers and bypass rules
-- there are, how many callers may wait, and what is told of this number of exchanges
abbrev pub accepted_by : Settings → Option ℕ → List ℕ
accepted_by s exchanges = line (concat (
    codes "ok " ∷ kind_word (any_kind s.limit) ∷ codes " " ∷ decimal (any_limit s.limit)
    ∷ codes " classes " ∷ decimal (length s.table)
    ∷ codes " resolvers " ∷ decimal (length s.rules.resolvers)
    ∷ codes " bypass " ∷ decimal (length s.rules.bypass)
    ∷ codes " backlog " ∷ decimal s.backlog
    ∷ exchanges_pieces exchanges (any_rules.hi s.limit)))

-- with the number that the settings were made for
abbrev pub accepted_line : Settings → List ℕ
accepted_line s = accepted_by s s.exchanges
