-- Laws of reading in pieces, and of chunks that are written.
use Rattle.std.specs.Prelude.{◌≡◌, ◌<◌, ◌^◌, ℕ, List, ◌++◌, length, All, Option, Some, Ok, Err}
use Rattle.std.specs.List.{concat}
use Rattle.message_reading.specs.declared.fault.Fault.TheVariants.{BodyTooLarge, Early}
use Rattle.message_reading.specs.declared.framing.Framing.{Framing}
use Rattle.message_reading.specs.Body.{IsBody, some_body}
use Rattle.message_reading.specs.Reading.{Reading}
use Rattle.body_pieces.specs.declared.rest.Rest.{Rest}
use Rattle.body_pieces.specs.declared.rest.Rest.TheVariants.{Size}
use Rattle.body_pieces.specs.ChunkTexts.{chunks_text, last_chunk}
use Rattle.body_pieces.specs.Rests.{IsRest, rest_of}

-- AS WHOLE: what reading a body whole gives, but for its limit on the size, reading it in pieces
-- gives
abbrev pub AsWhole : Type 0
AsWhole = (framing : Framing) (rest : Rest) (bytes : List ℕ) (r : Reading (Option (List ℕ)))
    → rest_of framing ≡ Some rest → IsBody framing bytes r → (r ≡ Err BodyTooLarge → ⊥)
    → (body : Reading (List ℕ)) × IsRest rest bytes body × (r ≡ some_body body)

-- pieces that memory can hold
abbrev pub Fit : List (List ℕ) → Type 0
Fit pieces = All (λ piece. length piece < 2 ^ 64) pieces

-- READ BACK: chunks and the last one are read as the payload that they were written of, and what
-- follows is left
abbrev pub AreReadBack : Type 0
AreReadBack = (pieces : List (List ℕ)) (more : List ℕ) → Fit pieces
    → IsRest Size ((chunks_text pieces ++ last_chunk) ++ more) (Ok (concat pieces, more))

-- CUT: chunks without the last one are read as cut
abbrev pub AreFoundCut : Type 0
AreFoundCut = (pieces : List (List ℕ)) → Fit pieces
    → IsRest Size (chunks_text pieces) (Err Early)
