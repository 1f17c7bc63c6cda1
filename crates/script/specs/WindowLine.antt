-- What follows `window`.
use Rattle.std.specs.Prelude.{ℕ, List, Option, option_map}
use Rattle.windowed.specs.declared.numbers.WindowNumbers.{WindowNumbers}
use Rattle.script.specs.Words.{with_count, with_number, number_pair}

-- what follows `window`: four numbers
abbrev pub window_line : List (List ℕ) → Option WindowNumbers
window_line ws =
    with_count (λ size. with_number (λ least rest. option_map (λ pair. record {
      size = size;
      min_window_ns = least;
      max_window_ns = pair.0;
      min_rtt_ns = pair.1;
    }) (number_pair rest))) ws
