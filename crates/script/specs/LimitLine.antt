-- The lines that give a limit: what follows `limit`, and their forms.
use Rattle.std.specs.Prelude.{ℕ, List, [], ◌∷◌, Option, Some, option_map, option_and_then, codes}
use Rattle.limit_laws.specs.Facts.{hour}
use Rattle.limit_laws.specs.Algorithm.{greatest_limit}
use Rattle.aimd.specs.AimdRules.{least_ratio, greatest_ratio}
use Rattle.vegas.specs.VegasRules.{most_queue, most_probe}
use Rattle.limit_kinds.specs.declared.kinds.LimitKind.{LimitKind}
use Rattle.limit_kinds.specs.declared.kinds.LimitKind.TheVariants as kind
use Rattle.limit_kinds.specs.declared.kinds.Limits.{Limits}
use Rattle.limit_kinds.specs.declared.kinds.LimitSpec.{LimitSpec}
use Rattle.limit_kinds.specs.declared.kinds.LimitSpec.TheVariants.{Fixed, Settable, Aimd, Vegas, Auto}
use Rattle.limit_kinds.specs.Kinds.{kind_named}
use Rattle.script.specs.declared.place.RangeEnd.TheVariants.{At, Of}
use Rattle.script.specs.Forms.{Wanted, one_of, number, word, from_to}
use Rattle.script.specs.Words.{with_count, with_word, alone, lone_number, in_32_bits}

-- the three limits in front, the least, the first and the greatest one, and the words behind them
abbrev pub first_limits : List (List ℕ) → Option (Limits × List (List ℕ))
first_limits ws =
    with_count (λ lo. with_count (λ first. with_count (λ hi rest.
    Some (record { lo = lo; first = first; hi = hi }, rest)))) ws

-- what is made of these and the words behind them
abbrev pub with_limits : (Limits → List (List ℕ) → Option LimitSpec) → List (List ℕ)
    → Option LimitSpec
with_limits f ws = option_and_then (λ cut. f cut.0 cut.1) (first_limits ws)

-- the numbers of each kind of limit
abbrev pub fixed_line : List (List ℕ) → Option LimitSpec
fixed_line ws = option_map (λ permits. Fixed (in_32_bits permits)) (lone_number ws)

abbrev pub limits_line : List (List ℕ) → Option Limits
limits_line ws = option_and_then (λ cut. alone cut.0 cut.1) (first_limits ws)

abbrev pub aimd_line : List (List ℕ) → Option LimitSpec
aimd_line ws =
    with_limits (λ limits. with_count (λ ratio rest. option_map (λ timeout. Aimd (record {
      lo = limits.lo;
      first = limits.first;
      hi = limits.hi;
      ratio_thousandths = ratio;
      timeout_ns = timeout;
    })) (lone_number rest))) ws

abbrev pub vegas_line : List (List ℕ) → Option LimitSpec
vegas_line ws =
    with_limits (λ limits. with_count (λ alpha. with_count (λ beta rest. option_map (λ probe.
    Vegas (record {
      lo = limits.lo;
      first = limits.first;
      hi = limits.hi;
      alpha = alpha;
      beta = beta;
      probe_every = in_32_bits probe;
    })) (lone_number rest)))) ws

abbrev pub line_of_kind : LimitKind → List (List ℕ) → Option LimitSpec
line_of_kind kind.Fixed ws = fixed_line ws
line_of_kind kind.Settable ws = option_map Settable (limits_line ws)
line_of_kind kind.Aimd ws = aimd_line ws
line_of_kind kind.Vegas ws = vegas_line ws
line_of_kind kind.Auto ws = option_map Auto (limits_line ws)

-- what follows `limit`: the word of a kind, and its numbers
abbrev pub limit_line : List (List ℕ) → Option LimitSpec
limit_line ws =
    with_word (λ word rest. option_and_then (λ kind. line_of_kind kind rest) (kind_named word)) ws

-- the least limit, the first and the greatest one, behind the words of the line
abbrev pub limits : List Wanted → List Wanted
limits behind =
    from_to 1 greatest_limit ∷ number (Of 2) (At greatest_limit)
    ∷ number (Of 3) (At greatest_limit) ∷ behind

-- the forms of these lines
abbrev pub limit_forms : List (List Wanted)
limit_forms =
    (word (codes "limit") ∷ word (codes "fixed") ∷ from_to 1 greatest_limit ∷ [])
    ∷ (word (codes "limit") ∷ one_of (codes "settable" ∷ codes "auto" ∷ []) ∷ limits [])
    ∷ (word (codes "limit") ∷ word (codes "aimd") ∷ limits
    (from_to least_ratio greatest_ratio ∷ from_to 1 hour ∷ []))
    ∷ (word (codes "limit") ∷ word (codes "vegas") ∷ limits
    (from_to 1 most_queue ∷ number (Of 5) (At most_queue)
    ∷ from_to 0 most_probe ∷ []))
    ∷ []
