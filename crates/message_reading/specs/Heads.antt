-- The heads of messages.
use Rattle.std.specs.Prelude.{◌≡◌, ◌⊎◌, ◌+◌, ◌-◌, ℕ, Bool, true, false, ◌&&◌, ◌||◌, ◌==◌, nat_le, nat_lt, List, Result, Ok, Err}
use Rattle.message_reading.specs.declared.fault.Fault.{Fault}
use Rattle.message_reading.specs.declared.fault.Fault.TheVariants.{Malformed}
use Rattle.message_reading.specs.Reading.{By, Reading, Then, checked}
use Rattle.message_reading.specs.HeadBytes.{head_of}
use Rattle.message_reading.specs.declared.request_head.RequestHead.{RequestHead}
use Rattle.message_reading.specs.declared.response_head.ResponseHead.{ResponseHead}
use Rattle.message_reading.specs.WholeHeads.{IsRequestIn, IsResponseIn}
use Rattle.message_reading.specs.declared.framing.Framing.{Framing}
use Rattle.message_reading.specs.Framing.{request_framing}

-- the bytes of a head, and the request head that they are
abbrev pub IsRequestHead : List ℕ → Reading RequestHead → Type 0
IsRequestHead = Then (By head_of) IsRequestIn

-- a head with how its body is delimited, or the fault of its checks
abbrev pub framed : RequestHead → Result Framing Fault → Result (RequestHead × Framing) Fault
framed head (Ok framing) = Ok (head, framing)
framed head (Err f) = Err f

-- the head of a request, and then its checks, which read nothing
abbrev pub IsCheckedHead : List ℕ → Reading (RequestHead × Framing) → Type 0
IsCheckedHead = Then IsRequestHead (λ head. By (checked (framed head (request_framing head))))

-- the bytes of a head, and the response head that they are
abbrev pub IsResponseHead : List ℕ → Reading ResponseHead → Type 0
IsResponseHead = Then (By head_of) IsResponseIn

-- a status that others follow: 100, and 102 to 199
abbrev pub is_interim : ℕ → Bool
is_interim status = (status == 100) || (nat_le 102 status && nat_lt status 200)

-- a status that no other follows: 200 and above
abbrev pub is_final : ℕ → Bool
is_final status = nat_le 200 status

-- the head behind so many interim ones
abbrev pub behind : ℕ → ResponseHead → ResponseHead
behind interim head = record {
  status = head.status;
  minor = head.minor;
  interim = interim;
  lines = head.lines;
}

-- the head of the final response, where so many interim ones may still come of the 16 that may
pub data IsFinalHead : ℕ → List ℕ → Reading ResponseHead → Type 0 where
  head_fails : (left : ℕ) (bytes : List ℕ) (f : Fault) → IsResponseHead bytes (Err f)
      → IsFinalHead left bytes (Err f)
  final : (left : ℕ) (bytes rest : List ℕ) (head : ResponseHead)
      → IsResponseHead bytes (Ok (head, rest)) → is_final head.status ≡ true
      → IsFinalHead left bytes (Ok (behind (16 - left) head, rest))
  refused : (left : ℕ) (bytes rest : List ℕ) (head : ResponseHead)
      → IsResponseHead bytes (Ok (head, rest)) → is_final head.status ≡ false
      → (left ≡ 0) ⊎ (is_interim head.status ≡ false) → IsFinalHead left bytes (Err Malformed)
  interim : (left fewer : ℕ) (bytes rest : List ℕ) (head : ResponseHead)
      (r : Reading ResponseHead) → left ≡ fewer + 1
      → IsResponseHead bytes (Ok (head, rest)) → is_final head.status ≡ false
      → is_interim head.status ≡ true → IsFinalHead fewer rest r → IsFinalHead left bytes r
