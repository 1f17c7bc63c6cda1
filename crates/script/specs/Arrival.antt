-- What a trace says of one call, by its words.
use Rattle.std.specs.Prelude.{ℕ, nat_le, List, bytes_eq, codes, Option, None, Some, option_map}
use Rattle.std.specs.Prelude.{option_and_then, Result, Ok, Err, if◌then◌else◌}
use Rattle.std.specs.Borrow.{Bor}
use Rattle.limit_laws.specs.Facts.{hour}
use Rattle.script.specs.declared.fault_kind.FaultKind.{FaultKind}
use Rattle.script.specs.declared.fault_kind.FaultKind.TheVariants.{Words, Value}
use Rattle.script.specs.declared.arrival.ArrivalLine.{ArrivalLine}
use Rattle.script.specs.declared.arrival.ArrivalLine.TheVariants.{Arrive, Bypass}
use Rattle.script.specs.Words.{with_number, with_word, lone_number}
use Rattle.script.specs.Request.{outcome_of, wait_of}

-- a call of a class by its name
abbrev pub Arrives : Type 0
Arrives = ArrivalLine (List ℕ)

-- an outcome, and `wait` or nothing behind it
abbrev pub arrive_with : List ℕ → ℕ → ℕ → List (List ℕ) → Option Arrives
arrive_with class at duration ws =
    with_word (λ word rest. option_and_then (λ outcome.
    option_map (λ wait. Arrive class at duration outcome wait) (wait_of rest))
    (outcome_of word)) ws

-- `arrive CLASS AT DURATION OUTCOME`, with `wait` or without it
abbrev pub arrive_of : List (List ℕ) → Option Arrives
arrive_of ws =
    with_word (λ class. with_number (λ at. with_number (λ duration.
    arrive_with class at duration))) ws

-- `arrive ..` and `bypass AT`
abbrev pub arrival_words : List ℕ → List (List ℕ) → Option Arrives
arrival_words first rest =
    if bytes_eq first (codes "arrive") then arrive_of rest
    else (if bytes_eq first (codes "bypass") then option_map Bypass (lone_number rest)
    else None)

-- a permit is held for an hour at most
abbrev pub within_an_hour : Arrives → Result Arrives FaultKind
within_an_hour (Arrive class at duration outcome wait) =
    if nat_le duration hour then Ok (Arrive class at duration outcome wait) else Err Value
within_an_hour (Bypass at) = Ok (Bypass at)

-- what is made of the words, where they have the format
abbrev pub arrival_from : Option Arrives → Result Arrives FaultKind
arrival_from None = Err Words
arrival_from (Some arrival) = within_an_hour arrival

-- WHAT A LINE SAYS OF A CALL, by its first word and the others
abbrev pub arrival_of : List ℕ → List (List ℕ) → Result Arrives FaultKind
arrival_of first rest = arrival_from (arrival_words first rest)

-- a call with the bytes of its class's name
abbrev pub arrival_bytes : ArrivalLine (Bor (List ℕ)) → Arrives
arrival_bytes (Arrive class at duration outcome wait) = Arrive class.now at duration outcome wait
arrival_bytes (Bypass at) = Bypass at
