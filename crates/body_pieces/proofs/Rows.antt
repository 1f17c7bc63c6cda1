-- Worked rows of bodies that are read in pieces, and of chunks that are written.
use Rattle.std.proofs.Common.{arith, ◌≡◌, ◌<◌, ◌^◌, ◌++◌, refl, [], ◌∷◌, length}
use Rattle.std.specs.Prelude.{Ok, Err, codes}
use Rattle.std.proofs.lemmas.List.Elements.{All-cons, All-nil}
use Rattle.http1.specs.Text.{numeral}
use Rattle.message_reading.specs.declared.fault.Fault.TheVariants.{Early}
use Rattle.body_pieces.specs.declared.rest.Rest.TheVariants.{Sized, ToEnd, Size, Chunk}
use Rattle.body_pieces.specs.Beginnings.{Begins}
use Rattle.body_pieces.specs.ChunkTexts.{chunk_text, chunks_text, last_chunk}
use Rattle.body_pieces.specs.Laws.{Fit}
use Rattle.body_pieces.specs.Rests.{IsRest}
use Rattle.body_pieces.proofs.ChunkPieces.{begun_chunk}
use Rattle.body_pieces.proofs.PlainPieces.{begun_sized}
use Rattle.body_pieces.proofs.ReadBack.{found_cut, read_back}

a_length_leaves_what_follows : IsRest (Sized 5) (codes "hello!") (Ok (codes "hello", codes "!"))
a_length_leaves_what_follows = refl

a_length_may_be_cut : IsRest (Sized 5) (codes "he") (Err Early)
a_length_may_be_cut = refl

the_end_takes_all : IsRest ToEnd (codes "hello!") (Ok (codes "hello!", []))
the_end_takes_all = refl

a_piece_of_a_length : Begins (Sized 5) (codes "he") (codes "he") (Sized 3)
a_piece_of_a_length = begun_sized 5 (codes "he") (omega arith)

a_piece_of_a_chunk : Begins (Chunk 5) (codes "he") (codes "he") (Chunk 3)
a_piece_of_a_chunk = begun_chunk 5 (codes "he") (omega arith)

a_size_is_hexadecimal : chunk_text (codes "twenty-six characters long")
    ≡ codes "1a\r\ntwenty-six characters long\r\n"
unfolding chunk_text numeral
a_size_is_hexadecimal = refl

an_empty_piece_is_no_chunk : chunks_text (codes "hello" ∷ [] ∷ codes ", world" ∷ []) ++ last_chunk
    ≡ codes "5\r\nhello\r\n7\r\n, world\r\n0\r\n\r\n"
unfolding chunk_text numeral
an_empty_piece_is_no_chunk = refl

two_fit : Fit (codes "hello" ∷ codes ", world" ∷ [])
two_fit =
    All-cons (λ piece. length piece < 2 ^ 64) (codes "hello") (codes ", world" ∷ []) (omega arith)
    (All-cons (λ piece. length piece < 2 ^ 64) (codes ", world") [] (omega arith)
    (All-nil (λ piece. length piece < 2 ^ 64)))

chunks_leave_what_follows : IsRest Size
    (codes "5\r\nhello\r\n7\r\n, world\r\n0\r\n\r\nnext") (Ok (codes "hello, world", codes "next"))
unfolding chunk_text numeral
chunks_leave_what_follows = read_back (codes "hello" ∷ codes ", world" ∷ []) (codes "next") two_fit

chunks_may_be_cut : IsRest Size (codes "5\r\nhello\r\n7\r\n, world\r\n") (Err Early)
unfolding chunk_text numeral
chunks_may_be_cut = found_cut (codes "hello" ∷ codes ", world" ∷ []) two_fit
