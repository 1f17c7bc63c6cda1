-- What lines ask of a limiter, by their words.
use Rattle.std.specs.Prelude.{ℕ, ◌^◌, Bool, true, false, List, [], ◌∷◌, nat_lt, bytes_eq, codes, Option, None, Some, option_map, option_and_then, ok_or, Result, Ok, Err, if◌then◌else◌}
use Rattle.std.specs.Borrow.{Bor}
use Rattle.limiter_core.specs.declared.event.Outcome.{Outcome}
use Rattle.limiter_core.specs.declared.event.Outcome.TheVariants.{Success, Ignored, Dropped}
use Rattle.script.specs.declared.fault_kind.FaultKind.{FaultKind}
use Rattle.script.specs.declared.fault_kind.FaultKind.TheVariants.{Words, Value}
use Rattle.script.specs.declared.request.Request.{Request}
use Rattle.script.specs.declared.request.Request.TheVariants.{Acquire, Bypass, End, Claim, GiveUp, SetLimit, Reset, Look}
use Rattle.script.specs.Words.{with_number, with_word, alone, lone_number, number_pair}

-- what a line asks, of a class by its name
abbrev pub Asks : Type 0
Asks = Request (List ℕ)

-- the outcome of a word
abbrev pub outcome_of : List ℕ → Option Outcome
outcome_of word =
    if bytes_eq word (codes "success") then Some Success
    else (if bytes_eq word (codes "ignored") then Some Ignored
    else (if bytes_eq word (codes "dropped") then Some Dropped
    else None))

-- whether the rest of a line says `wait`, where it says nothing else
abbrev pub wait_of : List (List ℕ) → Option Bool
wait_of [] = Some false
wait_of (word ∷ []) = if bytes_eq word (codes "wait") then Some true else None
wait_of _ = None

-- `acquire CLASS NOW`, with `wait` or without it
abbrev pub acquire_of : List (List ℕ) → Option Asks
acquire_of ws =
    with_word (λ class. with_number (λ now rest.
    option_map (λ wait. Acquire class wait now) (wait_of rest))) ws

-- `end N OUTCOME NOW`
abbrev pub end_of : List (List ℕ) → Option Asks
end_of ws =
    with_number (λ number. with_word (λ word rest.
    option_and_then (λ outcome. option_map (End number outcome) (lone_number rest))
    (outcome_of word))) ws

-- `look CLASS`
abbrev pub look_of : List (List ℕ) → Option Asks
look_of ws = with_word (λ class. alone (Look class)) ws

-- a limit by hand, which is 32 bits long
abbrev pub set_to : Option (ℕ × ℕ) → Result Asks FaultKind
set_to None = Err Words
set_to (Some pair) = if nat_lt pair.0 (2 ^ 32) then Ok (SetLimit pair.0 pair.1) else Err Value

-- `set N NOW`
abbrev pub set_of : List (List ℕ) → Result Asks FaultKind
set_of ws = set_to (number_pair ws)

-- `bypass NOW`, `claim N`, `giveup N` and `reset NOW`: one number
abbrev pub short_of : List ℕ → List (List ℕ) → Option Asks
short_of first rest =
    if bytes_eq first (codes "bypass") then option_map Bypass (lone_number rest)
    else (if bytes_eq first (codes "claim") then option_map Claim (lone_number rest)
    else (if bytes_eq first (codes "giveup") then option_map GiveUp (lone_number rest)
    else (if bytes_eq first (codes "reset") then option_map Reset (lone_number rest)
    else None)))

-- what a line asks, by its first word and the others
abbrev pub request_of : List ℕ → List (List ℕ) → Result Asks FaultKind
request_of first rest =
    if bytes_eq first (codes "acquire") then ok_or (acquire_of rest) Words
    else (if bytes_eq first (codes "end") then ok_or (end_of rest) Words
    else (if bytes_eq first (codes "set") then set_of rest
    else (if bytes_eq first (codes "look") then ok_or (look_of rest) Words
    else ok_or (short_of first rest) Words)))

-- a request with the bytes of its class's name
abbrev pub request_bytes : Request (Bor (List ℕ)) → Asks
request_bytes (Acquire class wait now) = Acquire class.now wait now
request_bytes (Bypass now) = Bypass now
request_bytes (End number outcome now) = End number outcome now
request_bytes (Claim number) = Claim number
request_bytes (GiveUp number) = GiveUp number
request_bytes (SetLimit n now) = SetLimit n now
request_bytes (Reset now) = Reset now
request_bytes (Look class) = Look class.now
