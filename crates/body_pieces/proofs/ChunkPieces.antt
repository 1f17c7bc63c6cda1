-- Pieces of chunked bodies.
use Rattle.std.proofs.Common.{rules, arith, ◌≡◌, ◌≢◌, ◌≤◌, ◌<◌, ◌-◌, ◌∙◌, ◌++◌, zero, suc, sym, ap, append_assoc, refl, ℕ, true, List, [], ◌∷◌, length, nat_lt, subst}
use Rattle.std.specs.Prelude.{⊤, Option, Some, None, Result, Ok, Err, IfSome}
use Rattle.std.specs.Io.KnownBytes.{Consumes}
use Rattle.std.proofs.lemmas.List.{append-nil}
use Rattle.message_reading.specs.declared.fault.Fault.{Fault}
use Rattle.message_reading.specs.declared.fault.Fault.TheVariants.{Early}
use Rattle.message_reading.specs.declared.fault.MessageFault.{MessageFault}
use Rattle.message_reading.specs.declared.fault.MessageFault.TheVariants.{Memory, Read, TurnLimit, Bodies, Bytes}
use Rattle.message_reading.specs.Reading.{Reading, By, Gives, ◌>>=◌}
use Rattle.message_reading.specs.PlainBody.{crlf_of, sized_of}
use Rattle.message_reading.specs.ChunkLines.{trailers_of}
use Rattle.message_reading.specs.ChunkSize.{IsSize}
use Rattle.message_reading.specs.Chunks.{in_front, piece_of}
use Rattle.body_pieces.specs.declared.piece.Piece.{Piece}
use Rattle.body_pieces.specs.declared.rest.Rest.{Rest}
use Rattle.body_pieces.specs.declared.rest.Rest.TheVariants.{Sized, Size, Chunk}
use Rattle.body_pieces.specs.Beginnings.{Begins, GaveBeginning, GaveFault, GivesMore, opened}
use Rattle.body_pieces.specs.Rests.{IsChunked}
use Rattle.body_pieces.proofs.JoinedBeginnings.{ended_since, gave, gave_fault, gave_more, in_front-append, in_front-nil}
use Rattle.body_pieces.proofs.Locality.{crlf_local, dropped_local, size_local}
use Rattle.body_pieces.proofs.PlainPieces.{ended, nothing, sized_of_more}

abbrev GivesSize : Option (List ℕ) → Option (List ℕ) → Result ℕ MessageFault → Type 0
GivesSize = Gives {X = ℕ} {V = ℕ} (λ n. n) IsSize

abbrev GivesTrailers : Option (List ℕ) → Option (List ℕ) → Result ⊤ MessageFault → Type 0
GivesTrailers = Gives {X = ⊤} (λ _. []) (By trailers_of)

abbrev GivesEnd : Option (List ℕ) → Option (List ℕ) → Result ⊤ MessageFault → Type 0
GivesEnd = Gives {X = ⊤} {V = ⊤} (λ u. u) (By crlf_of)

pub size_opened : (old new : Option (List ℕ)) (size : ℕ) → GivesSize old new (Ok size)
    → size ≢ 0 → GaveBeginning Size old new [] (opened size)
size_opened None new size sized some = tt
size_opened (Some xs) None size sized some = absurd sized
size_opened (Some xs) (Some ys) zero sized some = absurd (some refl)
size_opened (Some xs) (Some ys) (suc n) sized some =
    let local = size_local xs ys (suc n) sized in (
      local.bytes,
      local.split,
      λ more r is. subst (IsChunked None (local.bytes ++ more)) (in_front-nil r)
          (IsChunked.next_chunk (suc n) (local.bytes ++ more) more r (local.anywhere more)
          (omega arith) is),
    )

ended_with : (line lines more : List ℕ) (r : Reading (List ℕ))
    → ((rest : List ℕ) → IsSize (line ++ rest) (Ok (0, rest)))
    → ((rest : List ℕ) → trailers_of (lines ++ rest) ≡ Ok ([], rest))
    → r ≡ sized_of 0 more → IsChunked None ((line ++ lines) ++ more) (in_front [] r)
ended_with line lines more r size last is =
    let bytes : List ℕ = (line ++ lines) ++ more in
    let end : Ok ([], more) ≡ r = nothing more ∙ sym is in
    let sized : IsSize bytes (Ok (0, lines ++ more)) =
    subst (λ (l : List ℕ). IsSize l (Ok (0, lines ++ more))) (sym (append_assoc line lines more))
    (size (lines ++ more)) in
    subst (IsChunked None bytes) (end ∙ in_front-nil r)
    (IsChunked.last_chunk bytes (lines ++ more) (Ok ([], more)) sized (sym (last more)))

pub size_ended : (old mid new : Option (List ℕ)) (size : ℕ) (u : ⊤) → GivesSize old mid (Ok size)
    → size ≡ 0 → GivesTrailers mid new (Ok u) → GaveBeginning Size old new [] (opened size)
size_ended None mid new size u sized none lines = tt
size_ended (Some xs) None new size u sized none lines = absurd sized
size_ended (Some xs) (Some ys) None size u sized none lines = absurd lines
size_ended (Some xs) (Some ys) (Some zs) (suc n) u sized none lines = absurd (omega (arith, none))
size_ended (Some xs) (Some ys) (Some zs) zero u sized none lines =
    let size = size_local xs ys 0 sized in
    let last = dropped_local ys zs _ refl lines in
    let all : xs ≡ (size.bytes ++ last.bytes) ++ zs = size.split
    ∙ ap (λ (l : List ℕ). size.bytes ++ l) last.split
    ∙ sym (append_assoc size.bytes last.bytes zs) in (
      size.bytes ++ last.bytes,
      all,
      λ more r is. ended_with size.bytes last.bytes more r size.anywhere last.anywhere is,
    )

pub size_fault : (old new : Option (List ℕ)) (f : MessageFault) → GivesSize old new (Err f)
    → GaveFault Size old f
size_fault None new f sized = tt
size_fault (Some xs) new Memory sized = tt
size_fault (Some xs) new Read sized = tt
size_fault (Some xs) new TurnLimit sized = tt
size_fault (Some xs) new Bodies sized = tt
size_fault (Some xs) new (Bytes f) sized = IsChunked.size_fails xs f sized

pub lines_fault : (old mid new : Option (List ℕ)) (size : ℕ) (f : MessageFault)
    → GivesSize old mid (Ok size) → size ≡ 0 → GivesTrailers mid new (Err f) → GaveFault Size old f
lines_fault None mid new size f sized none lines = tt
lines_fault (Some xs) None new size f sized none lines = absurd sized
lines_fault (Some xs) (Some ys) new size Memory sized none lines = tt
lines_fault (Some xs) (Some ys) new size Read sized none lines = tt
lines_fault (Some xs) (Some ys) new size TurnLimit sized none lines = tt
lines_fault (Some xs) (Some ys) new size Bodies sized none lines = tt
lines_fault (Some xs) (Some ys) new (suc n) (Bytes f) sized none lines =
    absurd (omega (arith, none))
lines_fault (Some xs) (Some ys) new zero (Bytes f) sized none lines =
    IsChunked.last_chunk xs ys (Err f) sized lines

pub ruleset size_steps = (size_opened, size_ended, size_fault, lines_fault)

through_end : (part front : List ℕ) (c : Reading ⊤)
    → ◌≡◌ {A = Reading (List ℕ)} (c >>= λ q. Ok (part ++ front, q.1))
    (in_front part (c >>= λ q. Ok (front, q.1)))
through_end part front (Ok q) = refl
through_end part front (Err f) = refl

through : (part : List ℕ) (r : Reading (List ℕ))
    → (in_front part r >>= λ p. crlf_of p.1 >>= λ q. Ok (p.0, q.1))
    ≡ in_front part (r >>= λ p. crlf_of p.1 >>= λ q. Ok (p.0, q.1))
through part (Err f) = refl
through part (Ok p) = through_end part p.0 (crlf_of p.1)

-- a chunk, a piece further
piece_more : (left : ℕ) (part more : List ℕ) → length part ≤ left
    → piece_of left (part ++ more) ≡ in_front part (piece_of (left - length part) more)
piece_more left part more fits =
    rw (sized_of_more left part more fits)
    (through part (sized_of (left - length part) more))

chunk_more : (left : ℕ) (part more : List ℕ) (r : Reading (List ℕ)) → length part ≤ left
    → IsChunked (Some (left - length part)) more r
    → IsChunked (Some left) (part ++ more) (in_front part r)
chunk_more left part more r fits (IsChunked.chunk_fails _ _ f is) =
    IsChunked.chunk_fails left (part ++ more) f
    (ap (in_front part) is ∙ sym (piece_more left part more fits))
chunk_more left part more r fits (IsChunked.chunk_read _ _ piece after s _ is on all) =
    IsChunked.chunk_read left (part ++ more) (part ++ piece) after s (in_front part r)
    (ap (in_front part) is ∙ sym (piece_more left part more fits)) on
    (ap (in_front part) all ∙ in_front-append part piece s)

pub begun_chunk : (left : ℕ) (part : List ℕ) → length part ≤ left
    → Begins (Chunk left) part part (Chunk (left - length part))
begun_chunk left part fits = λ more r is. chunk_more left part more r fits is

-- some of the bytes that are left of a chunk, behind those of a piece
pub inner_more : (left after : ℕ) (old new : Option (List ℕ)) (before part all : List ℕ)
    → Consumes old new part → length part ≤ left → all ≡ before ++ part
    → after ≡ left - length part
    → (more : List ℕ) × (all ≡ before ++ more)
    × GaveBeginning (Chunk left) old new more (Chunk after)
inner_more left after old new before part all given fits same is = (
  part,
  same,
  rw is (gave (Chunk left) (Chunk (left - length part)) old new part part given
      (begun_chunk left part fits)),
)

pub inner_cut : (left : ℕ) (old : Option (List ℕ)) → 0 < left → IfSome old (λ all. all ≡ [])
    → GaveFault (Chunk left) old (Bytes Early)
inner_cut left None some end = tt
inner_cut left (Some xs) some end =
    let few : nat_lt 0 left ≡ true = search rules in
    rw end (IsChunked.chunk_fails left [] Early (rw few refl))

pub ruleset inner_steps = (inner_more, inner_cut)

abbrev none_before : Reading ⊤ → Reading (List ℕ)
none_before c = c >>= λ q. Ok ([], q.1)

abbrev then_end : Reading (List ℕ) → Reading (List ℕ)
then_end r = r >>= λ p. crlf_of p.1 >>= λ q. Ok (p.0, q.1)

piece_none : (bytes : List ℕ) → none_before (crlf_of bytes) ≡ piece_of 0 bytes
piece_none bytes = ap then_end (nothing bytes)

pub begun_end : Begins (Chunk 0) (13 ∷ 10 ∷ []) [] Size
begun_end = λ more r is.
    IsChunked.chunk_read 0 (13 ∷ 10 ∷ more) [] more r (in_front [] r)
    (piece_none (13 ∷ 10 ∷ more)) is refl

pub begun_size : (line : List ℕ) (n : ℕ) → 0 < n
    → ((more : List ℕ) → IsSize (line ++ more) (Ok (n, more))) → Begins Size line [] (Chunk n)
begun_size line n some size = λ more r is.
    subst (IsChunked None (line ++ more)) (in_front-nil r)
    (IsChunked.next_chunk n (line ++ more) more r (size more) some is)

-- behind all bytes of a chunk
pub chunk_ended : (old new : Option (List ℕ)) (u : ⊤) → GivesEnd old new (Ok u)
    → GaveBeginning (Chunk 0) old new [] Size
chunk_ended None new u ended = tt
chunk_ended (Some xs) None u ended = absurd ended
chunk_ended (Some xs) (Some ys) u ended = (
  13 ∷ 10 ∷ [],
  crlf_local xs ys ended,
  λ more r is.
      IsChunked.chunk_read 0 (13 ∷ 10 ∷ more) [] more r (in_front [] r)
      (piece_none (13 ∷ 10 ∷ more)) is refl,
)

not_ended : (xs : List ℕ) (f : Fault) → Err f ≡ crlf_of xs → Err f ≡ piece_of 0 xs
not_ended xs f is = ap none_before is ∙ piece_none xs

pub chunk_unended : (old new : Option (List ℕ)) (f : MessageFault) → GivesEnd old new (Err f)
    → GaveFault (Chunk 0) old f
chunk_unended None new f ended = tt
chunk_unended (Some xs) new Memory ended = tt
chunk_unended (Some xs) new Read ended = tt
chunk_unended (Some xs) new TurnLimit ended = tt
chunk_unended (Some xs) new Bodies ended = tt
chunk_unended (Some xs) new (Bytes f) ended =
    IsChunked.chunk_fails 0 xs f (not_ended xs f ended)

-- no bytes, behind those of a piece
pub empty_more : (rest mid : Rest) (old new : Option (List ℕ)) (before : List ℕ)
    → GaveBeginning rest old new [] mid
    → (more : List ℕ) × (before ≡ before ++ more) × GaveBeginning rest old new more mid
empty_more rest mid old new before gave = ([], sym (append-nil before), gave)

-- more, behind what is no payload
pub more_behind : (rest mid : Rest) (old now new : Option (List ℕ)) (before : List ℕ)
    (result : Result Piece MessageFault) → GaveBeginning rest old now [] mid
    → GivesMore before mid now new result → GivesMore before rest old new result
more_behind rest mid old now new before (Ok piece) begun given =
    (given.0, given.1, gave_more rest mid piece.rest old now new [] given.0 begun given.2)
more_behind rest mid old now new before (Err f) begun given =
    gave_fault rest mid old now [] f begun given

pub opened_chunk : (old new : Option (List ℕ)) (size : ℕ) → 0 < size
    → GaveBeginning Size old new [] (opened size) → GaveBeginning Size old new [] (Chunk size)
opened_chunk old new zero some begun = absurd (omega (arith, some))
opened_chunk old new (suc n) some begun = begun

pub opened_end : (old new : Option (List ℕ)) (size : ℕ) → size ≡ 0
    → GaveBeginning Size old new [] (opened size) → GaveBeginning Size old new [] (Sized 0)
opened_end old new size none begun =
    subst (λ n. GaveBeginning Size old new [] (opened n)) none begun

pub ruleset end_steps = (chunk_ended, chunk_unended)

pub ruleset empty_steps = (empty_more, opened_chunk, opened_end, ended)

pub ruleset chunk_steps = (empty_more, opened_end, ended, more_behind, ended_since)
