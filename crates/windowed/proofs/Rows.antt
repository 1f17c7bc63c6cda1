-- Worked rows, by computation over the definitions.
use Rattle.std.specs.Prelude.{◌≡◌, ℕ, false, List, [], ◌∷◌, Some, Err, fold, refl}
use Rattle.limit_laws.specs.declared.limit.MakeFault.TheVariants.{Window}
use Rattle.limit_laws.specs.Facts.{SampleFacts}
use Rattle.limit_laws.specs.Algorithm.{IsLawful}
use Rattle.limit_laws.specs.FixedRules.{fixed_rules}
use Rattle.limit_laws.specs.FixedLaws.{IsLawful-fixed}
use Rattle.windowed.specs.Totals.{totals}
use Rattle.windowed.specs.WindowedRules.{WindowedState, numbers_from, windows_made, opened, windowed_rules}
use Rattle.windowed.specs.WindowedLaws.{IsLawful-windowed}
use Rattle.windowed.specs.declared.numbers.WindowNumbers.{WindowNumbers}

windows_of_size_0_are_refused : windows_made (numbers_from 0 1 1 0) ≡ Err Window
windows_of_size_0_are_refused = refl

windows_over_windows_are_lawful : IsLawful (windowed_rules (windowed_rules fixed_rules))
windows_over_windows_are_lawful =
    IsLawful-windowed (windowed_rules fixed_rules) (IsLawful-windowed fixed_rules IsLawful-fixed)

-- windows of at least two samples and of this length, in nanoseconds
abbrev lasting : ℕ → WindowNumbers
lasting length = numbers_from 2 length length 0

abbrev sample : ℕ → ℕ → SampleFacts
sample start rtt = record { start = start; rtt = rtt; inflight = 3; dropped = false }

-- Outer windows last 200 ns, and inner windows 300 ns. The first sample ends an outer window by
-- itself, which is too small to be handed on. The second and third end a window with a mean of
-- 200 ns, and this mean by itself ends an inner window. The next two end a window with a mean of
-- 10 ns at 407 ns. The last two end another one at 608 ns, and with it the inner window, which was
-- due at 506 ns.
abbrev samples : List SampleFacts
samples = sample 0 5 ∷ sample 5 200 ∷ sample 6 200 ∷ sample 396 10 ∷ sample 397 10 ∷ sample 597 10
    ∷ sample 598 10 ∷ []

abbrev first : WindowedState (WindowedState ℕ)
first = opened (lasting 200) (opened (lasting 300) 5)

windows_over_windows_gather_means :
    fold (windowed_rules (windowed_rules fixed_rules)).next first samples ≡ record {
      inner =
          record {
            inner = 5;
            totals = totals [];
            last = Some (record { mean_ns = 10; count = 2 });
            next_update = 908;
            settings = lasting 300;
          };
      totals = totals [];
      last = Some (record { mean_ns = 10; count = 2 });
      next_update = 808;
      settings = lasting 200;
    }
windows_over_windows_gather_means = refl
