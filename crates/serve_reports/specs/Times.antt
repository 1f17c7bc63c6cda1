-- How long exchanges took, and what they waited for.
use Rattle.std.specs.Prelude.{ℕ, List, map, option_to_list}
use Rattle.proxy.specs.declared.told.ExchangeSummary.{ExchangeSummary}

-- for how long an exchange waited for its permit, where it got one
abbrev pub waited_in : ExchangeSummary → List ℕ
waited_in x = map (λ permit. permit.waited) (option_to_list x.permit)

-- and for how long it held it: the round trip that the limit learned of
abbrev pub round_trip_in : ExchangeSummary → List ℕ
round_trip_in x = map (λ permit. permit.round_trip) (option_to_list x.permit)
