-- Pieces of a payload as they are written in chunks.
use Rattle.std.specs.Prelude.{ℕ, List, [], ◌∷◌, ◌++◌, codes, length}
use Rattle.std.specs.List.{flat_map}
use Rattle.http1.specs.Text.{numeral}

-- a chunk: its size in hexadecimal digits and CR LF, and its bytes and CR LF
unfoldable pub chunk_text : List ℕ → List ℕ
chunk_text bytes = (numeral 16 (length bytes) ++ codes "\r\n") ++ bytes ++ codes "\r\n"

-- a piece is a chunk, unless it is empty: an empty chunk would be the last one
abbrev pub piece_in_chunks : List ℕ → List ℕ
piece_in_chunks [] = []
piece_in_chunks (b ∷ bytes) = chunk_text (b ∷ bytes)

-- the last chunk, with no lines behind it
abbrev pub last_chunk : List ℕ
last_chunk = codes "0\r\n\r\n"

-- pieces in chunks
abbrev pub chunks_text : List (List ℕ) → List ℕ
chunks_text pieces = flat_map piece_in_chunks pieces
