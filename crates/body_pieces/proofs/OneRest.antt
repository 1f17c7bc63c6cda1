-- The rest of a body has one reading.
use Rattle.std.proofs.Common.{rules, arith, ◌≡◌, ◌+◌, ◌∙◌, sym, ap, ap₂, subst, refl, ℕ, List, []}
use Rattle.std.specs.Prelude.{Option, Some, None, Ok, Err}
use Rattle.httparse.specs.Grammar.{chunk_size}
use Rattle.httparse.proofs.ChunkLemmas.{chunk_line_unique}
use Rattle.message_reading.specs.declared.fault.Fault.{Fault}
use Rattle.message_reading.specs.declared.fault.Fault.TheVariants.{BodyTooLarge}
use Rattle.body_pieces.specs.declared.rest.Rest.{Rest}
use Rattle.body_pieces.specs.declared.rest.Rest.TheVariants.{Sized, ToEnd, Size, Chunk}
use Rattle.message_reading.specs.Reading.{Reading}
use Rattle.message_reading.specs.ChunkLines.{trailers_of}
use Rattle.message_reading.specs.ChunkSize.{IsSize, IsWholeSize}
use Rattle.message_reading.specs.Chunks.{IsChunks, in_front, piece_of}
use Rattle.message_reading.specs.Laws.{IsOne}
use Rattle.body_pieces.specs.Rests.{IsChunked, IsRest}

one_value : {A : Type 0} (a b : A) (rest after : List ℕ)
    → ◌≡◌ {A = Reading A} (Ok (a, rest)) (Ok (b, after)) → (a ≡ b) × (rest ≡ after)
one_value a b rest after is = search rules

whole_size_one : (line : List ℕ) (m n : ℕ) → IsWholeSize line m → IsWholeSize line n → m ≡ n
whole_size_one line m n x y =
    x.2 ∙ ap chunk_size (chunk_line_unique line x.0 y.0 [] [] x.1 y.1).0 ∙ sym y.2

pub size_one : IsOne IsSize
size_one bytes r q (IsSize.line_cut _ f x) (IsSize.line_cut _ g y) =
    let same = sym x ∙ y in search rules
size_one bytes r q (IsSize.line_cut _ f x) (IsSize.size_bad _ line rest y none) =
    let no = sym x ∙ y in search rules
size_one bytes r q (IsSize.line_cut _ f x) (IsSize.size_read _ line rest n y whole) =
    let no = sym x ∙ y in search rules
size_one bytes r q (IsSize.size_bad _ line rest x none) (IsSize.line_cut _ f y) =
    let no = sym x ∙ y in search rules
size_one bytes r q (IsSize.size_bad _ line rest x none) (IsSize.size_bad _ other after y also) =
    refl
size_one bytes r q (IsSize.size_bad _ line rest x none)
    (IsSize.size_read _ other after n y whole) =
    let same = one_value line other rest after (sym x ∙ y) in
    absurd (none n (subst (λ l. IsWholeSize l n) (sym same.0) whole))
size_one bytes r q (IsSize.size_read _ line rest n x whole) (IsSize.line_cut _ f y) =
    let no = sym x ∙ y in search rules
size_one bytes r q (IsSize.size_read _ line rest n x whole)
    (IsSize.size_bad _ other after y none) =
    let same = one_value line other rest after (sym x ∙ y) in
    absurd (none n (subst (λ l. IsWholeSize l n) same.0 whole))
size_one bytes r q (IsSize.size_read _ line rest n x whole)
    (IsSize.size_read _ other after m y also) =
    let same = one_value line other rest after (sym x ∙ y) in
    let size = whole_size_one other n m (subst (λ l. IsWholeSize l n) same.0 whole) also in
    ap₂ (λ a b. Ok (a, b)) size same.1

-- a size is read or not
not_both : (bytes rest : List ℕ) (n : ℕ) (f : Fault) → IsSize bytes (Err f)
    → IsSize bytes (Ok (n, rest)) → ⊥
not_both bytes rest n f x y =
    let same = size_one bytes (Err f) (Ok (n, rest)) x y in search rules

same_size : (bytes rest after : List ℕ) (m n : ℕ) → IsSize bytes (Ok (m, rest))
    → IsSize bytes (Ok (n, after)) → (m ≡ n) × (rest ≡ after)
same_size bytes rest after m n x y =
    one_value m n rest after (size_one bytes (Ok (m, rest)) (Ok (n, after)) x y)

same_fault : (bytes : List ℕ) (f g : Fault) → IsSize bytes (Err f) → IsSize bytes (Err g)
    → ◌≡◌ {A = Reading (List ℕ)} (Err f) (Err g)
same_fault bytes f g x y =
    let same = size_one bytes (Err f) (Err g) x y in search rules

same_piece : (m n : ℕ) (rest after : List ℕ) → (m ≡ n) × (rest ≡ after)
    → piece_of m rest ≡ piece_of n after
same_piece m n rest after same = ap₂ piece_of same.0 same.1

no_piece : (f : Fault) (p : List ℕ × List ℕ)
    → ◌≡◌ {A = Reading (List ℕ)} (Err f) (Ok p) → ⊥
no_piece f p is = search rules

chunked_one : (at : Option ℕ) (bytes : List ℕ) (r q : Reading (List ℕ)) → IsChunked at bytes r
    → IsChunked at bytes q → r ≡ q
chunked_one _ bytes r q (IsChunked.size_fails _ f x) (IsChunked.size_fails _ g y) =
    same_fault bytes f g x y
chunked_one _ bytes r q (IsChunked.size_fails _ f x) (IsChunked.last_chunk _ after _ y end_y) =
    absurd (not_both bytes after 0 f x y)
chunked_one _ bytes r q (IsChunked.size_fails _ f x)
    (IsChunked.next_chunk n _ after _ y some_y all_y) =
    absurd (not_both bytes after n f x y)
chunked_one _ bytes r q (IsChunked.last_chunk _ rest _ x end_x) (IsChunked.size_fails _ g y) =
    absurd (not_both bytes rest 0 g y x)
chunked_one _ bytes r q (IsChunked.last_chunk _ rest _ x end_x)
    (IsChunked.last_chunk _ after _ y end_y) =
    let same = same_size bytes rest after 0 0 x y in
    end_x ∙ ap trailers_of same.1 ∙ sym end_y
chunked_one _ bytes r q (IsChunked.last_chunk _ rest _ x end_x)
    (IsChunked.next_chunk n _ after _ y some_y all_y) =
    let same = same_size bytes rest after 0 n x y in
    absurd (omega (arith, same.0, some_y))
chunked_one _ bytes r q (IsChunked.next_chunk m _ rest _ x some_x all_x)
    (IsChunked.size_fails _ g y) =
    absurd (not_both bytes rest m g y x)
chunked_one _ bytes r q (IsChunked.next_chunk m _ rest _ x some_x all_x)
    (IsChunked.last_chunk _ after _ y end_y) =
    let same = same_size bytes rest after m 0 x y in
    absurd (omega (arith, same.0, some_x))
chunked_one _ bytes r q (IsChunked.next_chunk m _ rest _ x some_x all_x)
    (IsChunked.next_chunk n _ after _ y some_y all_y) =
    let same = same_size bytes rest after m n x y in
    let other : IsChunked (Some m) rest q =
    subst (λ k. IsChunked (Some k) rest q) (sym same.0)
    (subst (λ (l : List ℕ). IsChunked (Some n) l q) (sym same.1) all_y) in
    chunked_one (Some m) rest r q all_x other
chunked_one _ bytes r q (IsChunked.chunk_fails left _ f x) (IsChunked.chunk_fails _ _ g y) =
    x ∙ sym y
chunked_one _ bytes r q (IsChunked.chunk_fails left _ f x)
    (IsChunked.chunk_read _ _ part later v _ y all_y is_y) =
    absurd (no_piece f (part, later) (x ∙ sym y))
chunked_one _ bytes r q (IsChunked.chunk_read left _ piece then u _ x all_x is_x)
    (IsChunked.chunk_fails _ _ g y) =
    absurd (no_piece g (piece, then) (y ∙ sym x))
chunked_one _ bytes r q (IsChunked.chunk_read left _ piece then u _ x all_x is_x)
    (IsChunked.chunk_read _ _ part later v _ y all_y is_y) =
    let both = one_value piece part then later (x ∙ sym y) in
    let more : IsChunked None then v =
    subst (λ (l : List ℕ). IsChunked None l v) (sym both.1) all_y in
    is_x ∙ ap₂ in_front both.0 (chunked_one None then u v all_x more) ∙ sym is_y

pub rest_one : (rest : Rest) → IsOne (IsRest rest)
rest_one (Sized left) bytes r q x y = x ∙ sym y
rest_one ToEnd bytes r q x y = x ∙ sym y
rest_one Size bytes r q x y = chunked_one None bytes r q x y
rest_one (Chunk left) bytes r q x y = chunked_one (Some left) bytes r q x y

-- what whole reading gives, but that there is too much of it, reading in pieces gives
pub chunks_as_whole : (sum : ℕ) (bytes : List ℕ) (r : Reading (List ℕ)) → IsChunks sum bytes r
    → (r ≡ Err BodyTooLarge → ⊥) → IsRest Size bytes r
chunks_as_whole sum bytes r (IsChunks.size_fails _ _ f x) other = IsChunked.size_fails bytes f x
chunks_as_whole sum bytes r (IsChunks.passes_most _ m _ rest x some large) other =
    absurd (other refl)
chunks_as_whole sum bytes r (IsChunks.last_chunk _ _ rest _ x last) other =
    IsChunked.last_chunk bytes rest r x last
chunks_as_whole sum bytes r (IsChunks.piece_fails _ m _ rest f x some fits cut) other =
    IsChunked.next_chunk m bytes rest (Err f) x some (IsChunked.chunk_fails m rest f cut)
chunks_as_whole sum bytes r (IsChunks.one_chunk _ m _ rest piece after u _ x some fits given all is)
    other =
    IsChunked.next_chunk m bytes rest r x some (IsChunked.chunk_read m rest piece after u r given
    (chunks_as_whole (sum + m) after u all (λ e. other (is ∙ ap (in_front piece) e))) is)
