-- Chunks that were written are read back.
use Rattle.std.proofs.Common.{rules, arith, ◌≡◌, ◌≢◌, ◌≤◌, ◌<◌, ◌+◌, ◌-◌, ◌^◌, ◌∙◌, ◌++◌, ◌==◌, sym, ap, append_assoc, refl, ℕ, Bool, true, false, List, [], ◌∷◌, length, map, All, nat_le, subst}
use Rattle.std.specs.Prelude.{None, Ok, Err, IsTrue, codes, if◌then◌else◌}
use Rattle.std.specs.List.{concat, flat_map}
use Rattle.std.specs.Char.{digit_char, digit_value, is_ascii_hexdigit}
use Rattle.std.specs.Str.Parse.{AllDigits, digits_value}
use Rattle.std.specs.Int.Digits.{digits_of}
use Rattle.std.proofs.lemmas.Bool.{ne_eqb}
use Rattle.std.proofs.lemmas.Bool.Decides.{nat_tests}
use Rattle.std.proofs.lemmas.Int.Digits.{length-digits_of-le}
use Rattle.std.proofs.lemmas.List.{append-nil, length-append, length-map}
use Rattle.std.proofs.lemmas.List.Elements.{All-cons, All-head, All-nil, All-tail}
use Rattle.httparse.specs.Grammar.{AllPass, ChunkLine, IsChunkLine, is_ows, print_chunk_line}
use Rattle.http1.specs.Text.{numeral}
use Rattle.http1.proofs.NumeralLemmas.{numeral_reads_back}
use Rattle.message_reading.specs.declared.fault.Fault.TheVariants.{Early, Malformed}
use Rattle.message_reading.specs.ChunkLines.{ends_in_empty, ends_line, is_empty_end, last_three, size_line_of, trailers_of}
use Rattle.message_reading.specs.ChunkSize.{IsSize}
use Rattle.message_reading.specs.Gather.{gather}
use Rattle.body_pieces.specs.declared.rest.Rest.TheVariants.{Size, Chunk}
use Rattle.body_pieces.specs.Beginnings.{Begins}
use Rattle.body_pieces.specs.ChunkTexts.{chunk_text, piece_in_chunks}
use Rattle.body_pieces.specs.Rests.{IsChunked, IsRest}
use Rattle.body_pieces.proofs.ChunkPieces.{begun_chunk, begun_end, begun_size}
use Rattle.body_pieces.proofs.JoinedBeginnings.{begun, begun_more}
use Rattle.body_pieces.proofs.Locality.{at_done, at_more}

-- a size and CR
abbrev front_of : List ℕ → List ℕ
front_of digits = digits ++ 13 ∷ []

last_byte : (three : ℕ × ℕ × ℕ) (b : ℕ) (text : List ℕ) → (last_three three (text ++ b ∷ [])).2 ≡ b
last_byte three b [] = refl
last_byte three b (x ∷ text) = last_byte (three.1, three.2, x) b text

ends_by : (seen : List ℕ) (b : ℕ) → ends_line (seen ++ b ∷ []) ≡ (b == 10)
unfolding ends_line
ends_by seen b = ap (λ n. n == 10) (last_byte (0, 0, 0) b seen)

-- a line ends at its LF, and not before
through_feed : (seen front more : List ℕ) → All (λ x. x ≢ 10) front
    → length seen + length front < 4096
    → gather ends_line 4096 Malformed seen (front ++ 10 ∷ more)
    ≡ Ok ((seen ++ front) ++ 10 ∷ [], more)
through_feed seen [] more others few =
    let room : nat_le 4096 (length seen) ≡ false = search rules in
    at_done ends_line 4096 Malformed seen more 10 room (ends_by seen 10)
    ∙ ap (λ (l : List ℕ). Ok (l ++ 10 ∷ [], more)) (sym (append-nil seen))
through_feed seen (b ∷ front) more others few =
    let room : nat_le 4096 (length seen) ≡ false = search rules in
    let other = ends_by seen b ∙ ne_eqb b 10 (All-head (λ x. x ≢ 10) b front others) in
    at_more ends_line 4096 Malformed seen (front ++ 10 ∷ more) b room other
    ∙ through_feed (seen ++ b ∷ []) front more (All-tail (λ x. x ≢ 10) b front others)
    (omega (arith, few, length-append seen (b ∷ [])))
    ∙ ap (λ (l : List ℕ). Ok (l ++ 10 ∷ [], more)) (append_assoc seen (b ∷ []) front)

hex_digit : (c : ℕ) → digit_value c < 16 → is_ascii_hexdigit c ≡ true
hex_digit c small = grind (arith, nat_tests)

hex_digits : (ds : List ℕ) → AllDigits 16 ds → AllPass is_ascii_hexdigit ds
hex_digits [] all = All-nil (λ b. IsTrue (is_ascii_hexdigit b))
hex_digits (c ∷ ds) all =
    All-cons (λ b. IsTrue (is_ascii_hexdigit b)) c ds (hex_digit c all.0) (hex_digits ds all.1)

feed : digit_value 10 < 16 → ⊥
feed small = absurd (omega (arith, small))

no_feed : (c : ℕ) → digit_value c < 16 → c ≢ 10
no_feed c small = λ e. absurd (feed (subst (λ k. digit_value k < 16) e small))

no_feeds : (ds : List ℕ) → AllDigits 16 ds → All (λ x. x ≢ 10) (front_of ds)
no_feeds [] all =
    All-cons (λ x. x ≢ 10) 13 [] (λ e. absurd (omega (arith, e))) (All-nil (λ x. x ≢ 10))
no_feeds (c ∷ ds) all =
    All-cons (λ x. x ≢ 10) c (front_of ds) (no_feed c all.0) (no_feeds ds all.1)

module _ (digits : List ℕ) (all : AllDigits 16 digits) (some : 0 < length digits)
    (few : length digits ≤ 16) where
  abbrev line : List ℕ
  line = digits ++ codes "\r\n"

  line_parts : front_of digits ++ 10 ∷ [] ≡ line
  line_parts = append_assoc digits (13 ∷ []) (10 ∷ [])

  line_read : (more : List ℕ) → size_line_of (line ++ more) ≡ Ok (line, more)
  line_read more =
      let size = length-append digits (13 ∷ []) in
      ap size_line_of (append_assoc digits (codes "\r\n") more
      ∙ sym (append_assoc digits (13 ∷ []) (10 ∷ more)))
      ∙ through_feed [] (front_of digits) more (no_feeds digits all)
      (omega (arith, size, few))
      ∙ ap (λ (l : List ℕ). Ok (l, more)) line_parts

  abbrev whole : ChunkLine
  whole = record { digits = digits; pad = []; extension = None }

  printed : line ≡ print_chunk_line whole ++ []
  unfolding print_chunk_line
  printed =
      ap (λ (l : List ℕ). l ++ codes "\r\n")
      (sym (append-nil digits) ∙ sym (append-nil (digits ++ [])))
      ∙ sym (append-nil (((digits ++ []) ++ []) ++ codes "\r\n"))

  form : IsChunkLine whole
  form = record {
    digits = (some, few, hex_digits digits all);
    pad = All-nil (λ b. IsTrue (is_ows b));
    extension = tt;
  }

  pub size_read : (more : List ℕ) → IsSize (line ++ more) (Ok (digits_value 16 digits, more))
  size_read more =
      IsSize.size_read (line ++ more) line more (digits_value 16 digits) (line_read more)
      (whole, (form, printed), refl)

numeral_few : (n : ℕ) → n < 2 ^ 64 → length (numeral 16 n) ≤ 16
unfolding numeral
numeral_few n fits = by_test (n == 0)
  where
    by_test : (t : Bool) → length (if t then 48 ∷ [] else map digit_char (digits_of 16 n)) ≤ 16
    by_test true = omega arith
    by_test false =
        let few = length-digits_of-le 16 16 n (omega arith) fits in
        omega (arith, length-map (digits_of 16 n) digit_char, few)

numeral_size : (n : ℕ) → n < 2 ^ 64 → (more : List ℕ)
    → IsSize ((numeral 16 n ++ codes "\r\n") ++ more) (Ok (n, more))
numeral_size n fits more =
    let back = numeral_reads_back 16 n (omega arith) (omega arith) in
    subst (λ k. IsSize ((numeral 16 n ++ codes "\r\n") ++ more) (Ok (k, more))) back.value
    (size_read (numeral 16 n) back.digits back.not_empty (numeral_few n fits) more)

chunk_begins : (piece : List ℕ) → 0 < length piece → length piece < 2 ^ 64
    → Begins Size (chunk_text piece) piece Size
unfolding chunk_text
chunk_begins piece some fits =
    let n : ℕ = length piece in
    let size : List ℕ = numeral 16 n ++ codes "\r\n" in
    let none : n - n ≡ 0 = omega arith in
    let body : Begins (Chunk n) piece piece (Chunk 0) =
    subst (λ k. Begins (Chunk n) piece piece (Chunk k)) none (begun_chunk n piece (omega arith)) in
    let front = begun_more Size (Chunk n) (Chunk 0) size piece [] piece
    (begun_size size n some (numeral_size n fits)) body in
    let all = begun_more Size (Chunk 0) Size (size ++ piece) (codes "\r\n") piece [] front
    begun_end in
    subst (λ (p : List ℕ). Begins Size ((size ++ piece) ++ codes "\r\n") p Size)
    (append-nil piece) all

piece_begins : (piece : List ℕ) → length piece < 2 ^ 64
    → Begins Size (piece_in_chunks piece) piece Size
piece_begins [] fits = begun Size
piece_begins (b ∷ piece) fits = chunk_begins (b ∷ piece) (omega arith) fits

pub pieces_begin : (pieces : List (List ℕ)) → All (λ piece. length piece < 2 ^ 64) pieces
    → Begins Size (flat_map (piece_in_chunks) pieces) (concat pieces) Size
pieces_begin [] fits = begun Size
pieces_begin (piece ∷ pieces) fits =
    begun_more Size Size Size (piece_in_chunks piece) (flat_map (piece_in_chunks) pieces) piece
    (concat pieces) (piece_begins piece (All-head (λ p. length p < 2 ^ 64) piece pieces fits))
    (pieces_begin pieces (All-tail (λ p. length p < 2 ^ 64) piece pieces fits))

no_lines : (more : List ℕ) → Ok ([], more) ≡ trailers_of (13 ∷ 10 ∷ more)
unfolding ends_in_empty is_empty_end
no_lines more = refl

last_read : (more : List ℕ) → IsChunked None (codes "0\r\n\r\n" ++ more) (Ok ([], more))
last_read more =
    IsChunked.last_chunk (codes "0\r\n\r\n" ++ more) (13 ∷ 10 ∷ more) (Ok ([], more))
    (size_read (48 ∷ []) (omega arith, tt) (omega arith) (omega arith) (13 ∷ 10 ∷ more))
    (no_lines more)

-- READ BACK: chunks and their end give the pieces that they were written of, and leave what follows
pub read_back : (pieces : List (List ℕ)) (more : List ℕ)
    → All (λ piece. length piece < 2 ^ 64) pieces
    → IsRest Size ((flat_map (piece_in_chunks) pieces ++ codes "0\r\n\r\n") ++ more)
    (Ok (concat pieces, more))
read_back pieces more fits =
    let text : List ℕ = flat_map (piece_in_chunks) pieces in
    subst (λ (l : List ℕ). IsChunked None l (Ok (concat pieces, more)))
    (sym (append_assoc text (codes "0\r\n\r\n") more))
    (subst (λ (p : List ℕ). IsChunked None (text ++ (codes "0\r\n\r\n" ++ more)) (Ok (p, more)))
    (append-nil (concat pieces))
    (pieces_begin pieces fits (codes "0\r\n\r\n" ++ more) (Ok ([], more)) (last_read more)))

-- CUT: chunks without their end are found to be cut
pub found_cut : (pieces : List (List ℕ)) → All (λ piece. length piece < 2 ^ 64) pieces
    → IsRest Size (flat_map (piece_in_chunks) pieces) (Err Early)
found_cut pieces fits =
    let text : List ℕ = flat_map (piece_in_chunks) pieces in
    subst (λ (l : List ℕ). IsChunked None l (Err Early)) (append-nil text)
    (pieces_begin pieces fits [] (Err Early)
    (IsChunked.size_fails [] Early (IsSize.line_cut [] Early refl)))
