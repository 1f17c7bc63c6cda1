-- Bytes are one chunked body at most.
use Rattle.std.proofs.Common.{rules, arith, ◌≡◌, ◌+◌, ◌∙◌, sym, ap, ap₂, subst, refl, ℕ, List, []}
use Rattle.std.specs.Prelude.{Ok, Err}
use Rattle.httparse.specs.Grammar.{chunk_size}
use Rattle.httparse.proofs.ChunkLemmas.{chunk_line_unique}
use Rattle.message_reading.specs.declared.fault.Fault.{Fault}
use Rattle.message_reading.specs.Laws.{IsOne}
use Rattle.message_reading.specs.Reading.{Reading}
use Rattle.message_reading.specs.ChunkLines.{trailers_of}
use Rattle.message_reading.specs.ChunkSize.{IsSize, IsWholeSize}
use Rattle.message_reading.specs.Chunks.{IsChunks, in_front, piece_of}

one_value : {A : Type 0} (a b : A) (rest after : List ℕ)
    → ◌≡◌ {A = Reading A} (Ok (a, rest)) (Ok (b, after)) → (a ≡ b) × (rest ≡ after)
one_value a b rest after is = search rules

whole_size_one : (line : List ℕ) (m n : ℕ) → IsWholeSize line m → IsWholeSize line n → m ≡ n
whole_size_one line m n x y =
    x.2 ∙ ap chunk_size (chunk_line_unique line x.0 y.0 [] [] x.1 y.1).0 ∙ sym y.2

pub size_one : IsOne IsSize
size_one bytes r q (IsSize.line_cut _ f x) (IsSize.line_cut _ g y) =
    let same = sym x ∙ y in search rules
size_one bytes r q (IsSize.line_cut _ f x) (IsSize.size_bad _ line rest y none) =
    let no = sym x ∙ y in search rules
size_one bytes r q (IsSize.line_cut _ f x) (IsSize.size_read _ line rest n y whole) =
    let no = sym x ∙ y in search rules
size_one bytes r q (IsSize.size_bad _ line rest x none) (IsSize.line_cut _ f y) =
    let no = sym x ∙ y in search rules
size_one bytes r q (IsSize.size_bad _ line rest x none) (IsSize.size_bad _ other after y also) =
    refl
size_one bytes r q (IsSize.size_bad _ line rest x none)
    (IsSize.size_read _ other after n y whole) =
    let same = one_value line other rest after (sym x ∙ y) in
    absurd (none n (subst (λ l. IsWholeSize l n) (sym same.0) whole))
size_one bytes r q (IsSize.size_read _ line rest n x whole) (IsSize.line_cut _ f y) =
    let no = sym x ∙ y in search rules
size_one bytes r q (IsSize.size_read _ line rest n x whole)
    (IsSize.size_bad _ other after y none) =
    let same = one_value line other rest after (sym x ∙ y) in
    absurd (none n (subst (λ l. IsWholeSize l n) same.0 whole))
size_one bytes r q (IsSize.size_read _ line rest n x whole)
    (IsSize.size_read _ other after m y also) =
    let same = one_value line other rest after (sym x ∙ y) in
    let size = whole_size_one other n m (subst (λ l. IsWholeSize l n) same.0 whole) also in
    ap₂ (λ a b. Ok (a, b)) size same.1

-- a size is read or not
not_both : (bytes rest : List ℕ) (n : ℕ) (f : Fault) → IsSize bytes (Err f)
    → IsSize bytes (Ok (n, rest)) → ⊥
not_both bytes rest n f x y =
    let same = size_one bytes (Err f) (Ok (n, rest)) x y in search rules

same_size : (bytes rest after : List ℕ) (m n : ℕ) → IsSize bytes (Ok (m, rest))
    → IsSize bytes (Ok (n, after)) → (m ≡ n) × (rest ≡ after)
same_size bytes rest after m n x y =
    one_value m n rest after (size_one bytes (Ok (m, rest)) (Ok (n, after)) x y)

same_fault : (bytes : List ℕ) (f g : Fault) → IsSize bytes (Err f) → IsSize bytes (Err g)
    → ◌≡◌ {A = Reading (List ℕ)} (Err f) (Err g)
same_fault bytes f g x y =
    let same = size_one bytes (Err f) (Err g) x y in search rules

same_piece : (m n : ℕ) (rest after : List ℕ) → (m ≡ n) × (rest ≡ after)
    → piece_of m rest ≡ piece_of n after
same_piece m n rest after same = ap₂ piece_of same.0 same.1

no_piece : (f : Fault) (p : List ℕ × List ℕ)
    → ◌≡◌ {A = Reading (List ℕ)} (Err f) (Ok p) → ⊥
no_piece f p is = search rules

pub chunks_one : (sum : ℕ) → IsOne (IsChunks sum)
chunks_one sum bytes r q (IsChunks.size_fails _ _ f x)
    (IsChunks.size_fails _ _ g y) =
    same_fault bytes f g x y
chunks_one sum bytes r q (IsChunks.size_fails _ _ f x)
    (IsChunks.passes_most _ n _ after y some_y large_y) =
    absurd (not_both bytes after n f x y)
chunks_one sum bytes r q (IsChunks.size_fails _ _ f x)
    (IsChunks.last_chunk _ _ after _ y end_y) =
    absurd (not_both bytes after 0 f x y)
chunks_one sum bytes r q (IsChunks.size_fails _ _ f x)
    (IsChunks.piece_fails _ n _ after g y some_y fits_y cut_y) =
    absurd (not_both bytes after n f x y)
chunks_one sum bytes r q (IsChunks.size_fails _ _ f x)
    (IsChunks.one_chunk _ n _ after part later v _ y some_y fits_y piece_y all_y is_y) =
    absurd (not_both bytes after n f x y)
chunks_one sum bytes r q (IsChunks.passes_most _ m _ rest x some_x large_x)
    (IsChunks.size_fails _ _ g y) =
    absurd (not_both bytes rest m g y x)
chunks_one sum bytes r q (IsChunks.passes_most _ m _ rest x some_x large_x)
    (IsChunks.passes_most _ n _ after y some_y large_y) =
    refl
chunks_one sum bytes r q (IsChunks.passes_most _ m _ rest x some_x large_x)
    (IsChunks.last_chunk _ _ after _ y end_y) =
    let same = same_size bytes rest after m 0 x y in
    absurd (omega (arith, same.0))
chunks_one sum bytes r q (IsChunks.passes_most _ m _ rest x some_x large_x)
    (IsChunks.piece_fails _ n _ after g y some_y fits_y cut_y) =
    let same = same_size bytes rest after m n x y in
    absurd (omega (arith, same.0))
chunks_one sum bytes r q (IsChunks.passes_most _ m _ rest x some_x large_x)
    (IsChunks.one_chunk _ n _ after part later v _ y some_y fits_y piece_y all_y is_y) =
    let same = same_size bytes rest after m n x y in
    absurd (omega (arith, same.0))
chunks_one sum bytes r q (IsChunks.last_chunk _ _ rest _ x end_x)
    (IsChunks.size_fails _ _ g y) =
    absurd (not_both bytes rest 0 g y x)
chunks_one sum bytes r q (IsChunks.last_chunk _ _ rest _ x end_x)
    (IsChunks.passes_most _ n _ after y some_y large_y) =
    let same = same_size bytes rest after 0 n x y in
    absurd (omega (arith, same.0))
chunks_one sum bytes r q (IsChunks.last_chunk _ _ rest _ x end_x)
    (IsChunks.last_chunk _ _ after _ y end_y) =
    let same = same_size bytes rest after 0 0 x y in
    end_x ∙ ap trailers_of same.1 ∙ sym end_y
chunks_one sum bytes r q (IsChunks.last_chunk _ _ rest _ x end_x)
    (IsChunks.piece_fails _ n _ after g y some_y fits_y cut_y) =
    let same = same_size bytes rest after 0 n x y in
    absurd (omega (arith, same.0))
chunks_one sum bytes r q (IsChunks.last_chunk _ _ rest _ x end_x)
    (IsChunks.one_chunk _ n _ after part later v _ y some_y fits_y piece_y all_y is_y) =
    let same = same_size bytes rest after 0 n x y in
    absurd (omega (arith, same.0))
chunks_one sum bytes r q (IsChunks.piece_fails _ m _ rest f x some_x fits_x cut_x)
    (IsChunks.size_fails _ _ g y) =
    absurd (not_both bytes rest m g y x)
chunks_one sum bytes r q (IsChunks.piece_fails _ m _ rest f x some_x fits_x cut_x)
    (IsChunks.passes_most _ n _ after y some_y large_y) =
    let same = same_size bytes rest after m n x y in
    absurd (omega (arith, same.0))
chunks_one sum bytes r q (IsChunks.piece_fails _ m _ rest f x some_x fits_x cut_x)
    (IsChunks.last_chunk _ _ after _ y end_y) =
    let same = same_size bytes rest after m 0 x y in
    absurd (omega (arith, same.0))
chunks_one sum bytes r q (IsChunks.piece_fails _ m _ rest f x some_x fits_x cut_x)
    (IsChunks.piece_fails _ n _ after g y some_y fits_y cut_y) =
    let same = same_size bytes rest after m n x y in
    cut_x ∙ same_piece m n rest after same ∙ sym cut_y
chunks_one sum bytes r q (IsChunks.piece_fails _ m _ rest f x some_x fits_x cut_x)
    (IsChunks.one_chunk _ n _ after part later v _ y some_y fits_y piece_y all_y is_y) =
    let same = same_size bytes rest after m n x y in
    absurd (no_piece f (part, later) (cut_x ∙ same_piece m n rest after same ∙ sym piece_y))
chunks_one sum bytes r q (IsChunks.one_chunk _ m _ rest piece then u _ x some_x fits_x piece_x
    all_x is_x)
    (IsChunks.size_fails _ _ g y) =
    absurd (not_both bytes rest m g y x)
chunks_one sum bytes r q (IsChunks.one_chunk _ m _ rest piece then u _ x some_x fits_x piece_x
    all_x is_x)
    (IsChunks.passes_most _ n _ after y some_y large_y) =
    let same = same_size bytes rest after m n x y in
    absurd (omega (arith, same.0))
chunks_one sum bytes r q (IsChunks.one_chunk _ m _ rest piece then u _ x some_x fits_x piece_x
    all_x is_x)
    (IsChunks.last_chunk _ _ after _ y end_y) =
    let same = same_size bytes rest after m 0 x y in
    absurd (omega (arith, same.0))
chunks_one sum bytes r q (IsChunks.one_chunk _ m _ rest piece then u _ x some_x fits_x piece_x
    all_x is_x)
    (IsChunks.piece_fails _ n _ after g y some_y fits_y cut_y) =
    let same = same_size bytes rest after m n x y in
    absurd (no_piece g (piece, then)
    (cut_y ∙ sym (same_piece m n rest after same) ∙ sym piece_x))
chunks_one sum bytes r q (IsChunks.one_chunk _ m _ rest piece then u _ x some_x fits_x piece_x
    all_x is_x)
    (IsChunks.one_chunk _ n _ after part later v _ y some_y fits_y piece_y all_y is_y) =
    let same = same_size bytes rest after m n x y in
    let both = one_value piece part then later
    (piece_x ∙ same_piece m n rest after same ∙ sym piece_y) in
    let more : IsChunks (sum + m) then v =
    subst (λ s. IsChunks (sum + s) then v) (sym same.0)
    (subst (λ l. IsChunks (sum + n) l v) (sym both.1) all_y) in
    is_x ∙ ap₂ in_front both.0 (chunks_one (sum + m) then u v all_x more) ∙ sym is_y
