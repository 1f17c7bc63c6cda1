-- The body of a message.
use Rattle.std.specs.Prelude.{◌≡◌, ℕ, List, Option, Some, None, Ok, Err, length}
use Rattle.message_reading.specs.declared.fault.Fault.{Fault}
use Rattle.message_reading.specs.Reading.{Reading, ◌>>=◌}
use Rattle.message_reading.specs.PlainBody.{all_of, sized_of}
use Rattle.message_reading.specs.Chunks.{IsChunks}
use Rattle.message_reading.specs.declared.framing.Framing.{Framing}
use Rattle.message_reading.specs.declared.framing.Framing.TheVariants.{Bodiless, Sized, Chunked, ToEnd}

-- there is a body
abbrev pub some_body : Reading (List ℕ) → Reading (Option (List ℕ))
some_body r = r >>= λ p. Ok (Some p.0, p.1)

-- how many bytes a body has: none where there is no body
abbrev pub size_of : Option (List ℕ) → ℕ
size_of None = 0
size_of (Some body) = length body

-- what reading a body gives that is delimited so
abbrev pub IsBody : Framing → List ℕ → Reading (Option (List ℕ)) → Type 0
IsBody Bodiless bytes r = r ≡ Ok (None, bytes)
IsBody (Sized size) bytes r = r ≡ some_body (sized_of size bytes)
IsBody Chunked bytes r = (body : Reading (List ℕ)) × IsChunks 0 bytes body × (r ≡ some_body body)
IsBody ToEnd bytes r = r ≡ some_body (all_of bytes)

-- what is made of the body that is delimited so
pub data IsWithBody {V : Type 0} (make : Option (List ℕ) → V) (framing : Framing)
    : List ℕ → Reading V → Type 0 where
  body_read : (bytes rest : List ℕ) (body : Option (List ℕ))
      → IsBody framing bytes (Ok (body, rest))
      → IsWithBody make framing bytes (Ok (make body, rest))
  body_fails : (bytes : List ℕ) (f : Fault) → IsBody framing bytes (Err f)
      → IsWithBody make framing bytes (Err f)
