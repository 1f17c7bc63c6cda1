-- What reading the rest of a body gives.
use Rattle.std.specs.Prelude.{◌≡◌, ◌<◌, ℕ, zero, Bool, true, false, Option, Some, None, List, [], Ok, Err}
use Rattle.message_reading.specs.declared.fault.Fault.{Fault}
use Rattle.message_reading.specs.declared.framing.Framing.{Framing}
use Rattle.message_reading.specs.declared.framing.Framing.TheVariants as framing
use Rattle.message_reading.specs.Reading.{Reading}
use Rattle.message_reading.specs.PlainBody.{sized_of}
use Rattle.message_reading.specs.ChunkLines.{trailers_of}
use Rattle.message_reading.specs.ChunkSize.{IsSize}
use Rattle.message_reading.specs.Chunks.{in_front, piece_of}
use Rattle.body_pieces.specs.declared.rest.Rest.{Rest}
use Rattle.body_pieces.specs.declared.rest.Rest.TheVariants.{Sized, ToEnd, Size, Chunk}

-- nothing is left
abbrev pub is_ended : Rest → Bool
is_ended (Sized zero) = true
is_ended _ = false

-- what is to be read of a body that is delimited so, if there is one
abbrev pub rest_of : Framing → Option Rest
rest_of framing.Bodiless = None
rest_of (framing.Sized size) = Some (Sized size)
rest_of framing.Chunked = Some Size
rest_of framing.ToEnd = Some ToEnd

-- CHUNKS: what reading them to their end gives, from the next size on (`None`), or in a chunk of
-- which so many bytes are left. It is whole reading without a limit on the sum
pub data IsChunked : Option ℕ → List ℕ → Reading (List ℕ) → Type 0 where
  size_fails : (bytes : List ℕ) (f : Fault) → IsSize bytes (Err f) → IsChunked None bytes (Err f)
  last_chunk : (bytes rest : List ℕ) (r : Reading (List ℕ)) → IsSize bytes (Ok (0, rest))
      → r ≡ trailers_of rest → IsChunked None bytes r
  next_chunk : (size : ℕ) (bytes rest : List ℕ) (r : Reading (List ℕ))
      → IsSize bytes (Ok (size, rest)) → 0 < size → IsChunked (Some size) rest r
      → IsChunked None bytes r
  chunk_fails : (left : ℕ) (bytes : List ℕ) (f : Fault) → Err f ≡ piece_of left bytes
      → IsChunked (Some left) bytes (Err f)
  chunk_read : (left : ℕ) (bytes piece after : List ℕ) (r all : Reading (List ℕ))
      → Ok (piece, after) ≡ piece_of left bytes → IsChunked None after r
      → all ≡ in_front piece r → IsChunked (Some left) bytes all

-- THE REST: what reading the rest of a body to its end gives
abbrev pub IsRest : Rest → List ℕ → Reading (List ℕ) → Type 0
IsRest (Sized left) bytes r = r ≡ sized_of left bytes
IsRest ToEnd bytes r = r ≡ Ok (bytes, [])
IsRest Size bytes r = IsChunked None bytes r
IsRest (Chunk left) bytes r = IsChunked (Some left) bytes r
