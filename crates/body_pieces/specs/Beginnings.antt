-- Beginnings of bodies, and what a piece is.
use Rattle.std.specs.Prelude.{◌≡◌, ◌≤◌, ◌+◌, ◌-◌, ℕ, zero, suc, ⊤, Option, Some, None, List, [], ◌++◌, length, Result, Ok, Err, IfSome}
use Rattle.message_reading.specs.declared.fault.MessageFault.{MessageFault}
use Rattle.message_reading.specs.Chunks.{in_front}
use Rattle.message_reading.specs.Reading.{Fails, Reading}
use Rattle.body_pieces.specs.declared.piece.Piece.{Piece}
use Rattle.body_pieces.specs.declared.rest.Rest.{Rest}
use Rattle.body_pieces.specs.declared.rest.Rest.TheVariants.{Sized, Chunk}
use Rattle.body_pieces.specs.Rests.{IsRest, is_ended}

-- A BEGINNING: the bytes begin the rest of a body, with this payload, and what follows them is read
-- in the state `after`: whatever it is, and whatever reading it gives, reading both gives the same
-- behind the payload
abbrev pub Begins : Rest → List ℕ → List ℕ → Rest → Type 0
Begins rest bytes payload after =
    (more : List ℕ) (r : Reading (List ℕ)) → IsRest after more r
    → IsRest rest (bytes ++ more) (in_front payload r)

-- a reader gave such a beginning, if its bytes are known
abbrev pub GaveBeginning : Rest → Option (List ℕ) → Option (List ℕ) → List ℕ → Rest → Type 0
GaveBeginning rest None new payload after = ⊤
GaveBeginning rest (Some xs) None payload after = ⊥
GaveBeginning rest (Some xs) (Some ys) payload after =
    (bytes : List ℕ) × (xs ≡ bytes ++ ys) × Begins rest bytes payload after

-- nothing is left of the body, and the reader is behind it, if its bytes were known
abbrev pub IsAtItsEnd : Rest → Option (List ℕ) → Option (List ℕ) → Type 0
IsAtItsEnd rest None new = ⊤
IsAtItsEnd rest (Some xs) new = IfSome new (λ ys. IsRest rest ys (Ok ([], ys)))

-- the fault is the one that reading the rest to its end gives, if it is one of the bytes
abbrev pub GaveFault : Rest → Option (List ℕ) → MessageFault → Type 0
GaveFault rest None f = ⊤
GaveFault rest (Some xs) f = Fails (IsRest rest) xs f

-- A PIECE: what a call gives of the rest of a body
abbrev pub GivesPiece : Rest → Option (List ℕ) → Option (List ℕ) → Result Piece MessageFault
    → Type 0
GivesPiece rest old new (Ok piece) = GaveBeginning rest old new piece.bytes.items piece.rest
GivesPiece rest old new (Err f) = GaveFault rest old f

-- MORE of a body behind these bytes of a piece
abbrev pub GivesMore : List ℕ → Rest → Option (List ℕ) → Option (List ℕ)
    → Result Piece MessageFault → Type 0
GivesMore before rest old new (Ok piece) =
    (more : List ℕ) × (piece.bytes.items ≡ before ++ more)
    × GaveBeginning rest old new more piece.rest
GivesMore before rest old new (Err f) = GaveFault rest old f

-- what follows a size: a chunk, or nothing after 0
abbrev pub opened : ℕ → Rest
opened zero = Sized 0
opened (suc n) = Chunk (suc n)

-- A STEP through a body with a length: a piece is no longer than what is left, so much less is left
-- behind it, and it is the last piece if that is nothing
abbrev pub Steps : Rest → Piece → Type 0
Steps (Sized left) piece =
    (length piece.bytes.items ≤ left)
    × (piece.rest ≡ Sized (left - length piece.bytes.items))
    × (piece.is_last ≡ is_ended piece.rest)
Steps _ piece = ⊤

-- and a step behind these bytes of a piece
abbrev pub StepsOn : List ℕ → Rest → Piece → Type 0
StepsOn before (Sized left) piece =
    (length piece.bytes.items ≤ length before + left)
    × (piece.rest ≡ Sized ((length before + left) - length piece.bytes.items))
    × (piece.is_last ≡ is_ended piece.rest)
StepsOn before _ piece = ⊤
