-- What is written of a streamed answer.
use Rattle.std.specs.Prelude.{◌≡◌, ◌≤◌, ◌-◌, ℕ, ⊤, List, [], ◌++◌, codes, decimal, Bool, if◌then◌else◌}
use Rattle.std.specs.List.{flat_map}
use Rattle.message_text.specs.declared.persistence.Persistence.{Persistence}
use Rattle.message_text.specs.declared.persistence.Persistence.TheVariants.{Close, Keep}
use Rattle.body_pieces.specs.declared.rest.Rest.{Rest}
use Rattle.body_pieces.specs.declared.rest.Rest.TheVariants.{Sized}
use Rattle.body_pieces.specs.ChunkTexts.{last_chunk, piece_in_chunks}
use Rattle.answer_streaming.specs.declared.delimiting.Delimiting.{Delimiting}
use Rattle.answer_streaming.specs.declared.delimiting.Delimiting.TheVariants.{Length, Chunks, ToEnd}

-- HOW A BODY ENDS for a client, by what is to be read of it: by its length if it has one, else by
-- chunks, or by the end of the connection if the client is an old one, which speaks HTTP/1.0
abbrev pub delimited : Rest → Bool → Delimiting
delimited (Sized left) is_old = Length left
delimited _ is_old = if is_old then ToEnd else Chunks

-- if a length is written, the body that is read has it
abbrev pub Agrees : Rest → Delimiting → Type 0
Agrees rest (Length left) = rest ≡ Sized left
Agrees rest _ = ⊤

-- the end of a line, the line that ends the connection if it ends, and the empty line
abbrev pub last_lines : Persistence → List ℕ
last_lines Close = codes "\r\nConnection: close\r\n\r\n"
last_lines Keep = codes "\r\n\r\n"

-- the line of a length, and the lines behind it
unfoldable pub length_text : ℕ → Persistence → List ℕ
length_text n persistence = (codes "Content-Length: " ++ decimal n) ++ last_lines persistence

-- the last lines of a head: at most one line says how the body ends
abbrev pub told_text : Delimiting → Persistence → List ℕ
told_text (Length n) persistence = length_text n persistence
told_text Chunks persistence = codes "Transfer-Encoding: chunked" ++ last_lines persistence
told_text ToEnd persistence = codes "Connection: close\r\n\r\n"

-- THE HEAD
abbrev pub head_text : Delimiting → Persistence → List ℕ → List ℕ
head_text d persistence front = front ++ told_text d persistence

-- a piece of the payload as it is written
abbrev pub piece_text : Delimiting → List ℕ → List ℕ
piece_text Chunks piece = piece_in_chunks piece
piece_text (Length left) piece = piece
piece_text ToEnd piece = piece

-- what is written behind the last piece
abbrev pub end_text : Delimiting → List ℕ
end_text Chunks = last_chunk
end_text (Length left) = []
end_text ToEnd = []

-- the last piece, and what is written behind it
abbrev pub last_text : Delimiting → List ℕ → List ℕ
last_text d piece = piece_text d piece ++ end_text d

-- so many more bytes may be written
abbrev pub Takes : Delimiting → ℕ → Type 0
Takes (Length left) count = count ≤ left
Takes _ count = ⊤

-- what is to be written behind them
abbrev pub behind : Delimiting → ℕ → Delimiting
behind (Length left) count = Length (left - count)
behind Chunks count = Chunks
behind ToEnd count = ToEnd

-- no more of the payload has to be written
abbrev pub IsDone : Delimiting → Type 0
IsDone (Length left) = left ≡ 0
IsDone _ = ⊤

-- the head, and the first piece of the payload
abbrev pub opening_text : Delimiting → Persistence → List ℕ → List ℕ → List ℕ
opening_text d persistence front first = head_text d persistence front ++ piece_text d first

-- A BEGINNING of an answer: its head, and some pieces of its payload
abbrev pub begun_text : Delimiting → List ℕ → List (List ℕ) → List ℕ
begun_text d head pieces = head ++ flat_map (piece_text d) pieces

-- AN ANSWER: its head, the pieces of its payload, and what ends them
abbrev pub whole_text : Delimiting → List ℕ → List (List ℕ) → List ℕ
whole_text d head pieces = begun_text d head pieces ++ end_text d
