use Rattle.std.proofs.Common.{◌≡◌, nat_le}
use Rattle.lemmas.specs.Extremes.{greatest}
use Rattle.gateway_settings.specs.Exchanges.{greatest_hi, wanted}
use Rattle.gateway_settings.proofs.settings.Settings.greatest_hi.Given as goal

abbrev pub invariant-loop-hi : goal.invariant-loop-hi
invariant-loop-hi l =
    greatest (λ hi. nat_le (wanted l.exchanges l.self hi) l.exchanges) l.hi
    ≡ greatest_hi l.exchanges l.self

abbrev pub decreases-loop-hi : goal.decreases-loop-hi
decreases-loop-hi l = l.hi
