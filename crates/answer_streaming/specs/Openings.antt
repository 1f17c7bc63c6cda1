-- What a backend was given and what it gave that hands out answers which have begun.
use Rattle.std.specs.Prelude.{◌≡◌, ℕ, ⊤, List, [], ◌∷◌, ◌++◌, Option, Some, None, IfSome}
use Rattle.std.specs.Io.KnownBytes.{Appends}
use Rattle.counted_io.specs.Counted.{inner_of}
use Rattle.message_parts.specs.declared.request.Request.{Request}
use Rattle.message_text.specs.declared.persistence.Persistence.{Persistence}
use Rattle.wire.specs.declared.answer.BackendAnswer.{BackendAnswer}
use Rattle.wire.specs.Forwards as whole
use Rattle.wire.specs.Response.{BegunValue}
use Rattle.wire.specs.Written.{request_text}
use Rattle.answer_streaming.specs.declared.backend.BodyEnd.{BodyEnd}
use Rattle.answer_streaming.specs.declared.backend.Opened.{Opened}
use Rattle.answer_streaming.specs.declared.backend.Opened.TheVariants as opened

-- an answer that was read whole, or one that has begun, with the bytes that its reader has left, if
-- they are known
pub data Opening : Type 0 where
  whole_answer : BackendAnswer → Opening
  begun_answer : BegunValue → Option (List ℕ) → Opening

-- what is seen of what a backend gave
abbrev pub seen : {B L : Type 0} → (B → Option (List ℕ)) → Opened B L → Opening
seen remaining (opened.Whole answer) = Opening.whole_answer answer
seen remaining (opened.Begun begun) =
    Opening.begun_answer begun.head (remaining (inner_of begun.body))

-- A DEED: a request and what was given for it, or how far a body was read that was given back
pub data Deed : Type 0 where
  asked : Request → Opening → Deed
  closed : BodyEnd → Deed

-- a backend that shows what it did shows one deed more
abbrev pub Logs : Option (List Deed) → Option (List Deed) → Deed → Type 0
Logs None new deed = ⊤
Logs (Some old) None deed = ⊥
Logs (Some old) (Some new) deed = new ≡ old ++ deed ∷ []

abbrev pub LogsOpening : Option (List Deed) → Option (List Deed) → Request → Opening → Type 0
LogsOpening old new request opening = Logs old new (Deed.asked request opening)

abbrev pub LogsClosing : Option (List Deed) → Option (List Deed) → BodyEnd → Type 0
LogsClosing old new end = Logs old new (Deed.closed end)

-- WRITTEN for a request: as ever, if its answer was read whole or there is none; and if one has
-- begun, its call has the text of the request, and nothing else was written
abbrev pub Sends : {B L : Type 0} → (L → Option (List ℕ)) → List ℕ → Option (List ℕ)
    → Option (List ℕ) → Request → Opened B L → Type 0
Sends sent host old new request (opened.Whole answer) = whole.Sends host old new request answer
Sends sent host None new request (opened.Begun begun) = ⊤
Sends sent host (Some old) new request (opened.Begun begun) =
    (new ≡ Some old) × IfSome (sent begun.call) (λ text.
    (persistence : Persistence) × (text ≡ request_text persistence host request))

-- what was written over a connection that is given back stands behind what was written before
abbrev pub Closes : Option (List ℕ) → Option (List ℕ) → Option (List ℕ) → Type 0
Closes old None new = ⊤
Closes old (Some text) new = Appends old new text
