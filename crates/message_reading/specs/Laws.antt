-- Laws of readings.
use Rattle.std.specs.Prelude.{◌≡◌, ℕ, List}
use Rattle.message_reading.specs.Reading.{Reading}
use Rattle.message_reading.specs.WholeHeads.{IsRequestIn, IsResponseIn}

-- bytes have one reading
abbrev pub IsOne : {V : Type 0} → (List ℕ → Reading V → Type 0) → Type 0
IsOne {V} Is = (bytes : List ℕ) (r q : Reading V) → Is bytes r → Is bytes q → r ≡ q

-- bytes are one request head at most
abbrev pub RequestsAreOne : Type 0
RequestsAreOne = (text : List ℕ) → IsOne (IsRequestIn text)

-- bytes are one response head at most
abbrev pub ResponsesAreOne : Type 0
ResponsesAreOne = (text : List ℕ) → IsOne (IsResponseIn text)
