-- Sizes, lines and CR LF are read in the same way, whatever follows them.
use Rattle.std.proofs.Common.{rules, ◌≡◌, ◌∙◌, ◌++◌, ◌==◌, sym, ap, refl, ℕ, Bool, true, false, List, [], ◌∷◌, length, nat_le}
use Rattle.std.specs.Prelude.{⊤, Ok, Err}
use Rattle.message_reading.specs.declared.fault.Fault.{Fault}
use Rattle.message_reading.specs.declared.fault.Fault.TheVariants.{Early, HeadTooLarge, Malformed}
use Rattle.message_reading.specs.Reading.{Reading, ◌>>=◌}
use Rattle.message_reading.specs.PlainBody.{byte_is, crlf_of}
use Rattle.message_reading.specs.Gather.{gather}
use Rattle.message_reading.specs.ChunkLines.{ends_in_empty, ends_line, trailers_of}
use Rattle.message_reading.specs.ChunkSize.{IsSize}

-- LOCAL: the bytes that a reading takes give it whatever follows them
pub record IsLocal {V : Type 0} (f : List ℕ → Reading V) (xs ys : List ℕ) (v : V) : Type 0 where
  pub bytes : List ℕ
  pub split : xs ≡ bytes ++ ys
  pub anywhere : (more : List ℕ) → f (bytes ++ more) ≡ Ok (v, more)

one_value : {A : Type 0} (a b : A) (rest after : List ℕ)
    → ◌≡◌ {A = Reading A} (Ok (a, rest)) (Ok (b, after)) → (a ≡ b) × (rest ≡ after)
one_value a b rest after is = search rules

no_value : {A : Type 0} (a : A) (rest : List ℕ) (f : Fault)
    → ◌≡◌ {A = Reading A} (Err f) (Ok (a, rest)) → ⊥
no_value a rest f is = search rules

module _ (ends : List ℕ → Bool) (most : ℕ) (over : Fault) where
  abbrev all_from : List ℕ → List ℕ → Reading (List ℕ)
  all_from = gather ends most over

  at_full : (seen xs : List ℕ) → nat_le most (length seen) ≡ true → all_from seen xs ≡ Err over
  at_full seen [] e = rw e refl
  at_full seen (b ∷ xs) e = rw e refl

  at_none : (seen : List ℕ) → nat_le most (length seen) ≡ false → all_from seen [] ≡ Err Early
  at_none seen e = rw e refl

  pub at_done : (seen xs : List ℕ) (b : ℕ) → nat_le most (length seen) ≡ false
      → ends (seen ++ b ∷ []) ≡ true → all_from seen (b ∷ xs) ≡ Ok (seen ++ b ∷ [], xs)
  at_done seen xs b e d = rw (e, d) refl

  pub at_more : (seen xs : List ℕ) (b : ℕ) → nat_le most (length seen) ≡ false
      → ends (seen ++ b ∷ []) ≡ false
      → all_from seen (b ∷ xs) ≡ all_from (seen ++ b ∷ []) xs
  at_more seen xs b e d = rw (e, d) refl

  one_further : (seen xs ys text : List ℕ) (b : ℕ) (full done : Bool)
      → nat_le most (length seen) ≡ full → ends (seen ++ b ∷ []) ≡ done
      → (all_from (seen ++ b ∷ []) xs ≡ Ok (text, ys)
      → IsLocal (all_from (seen ++ b ∷ [])) xs ys text)
      → all_from seen (b ∷ xs) ≡ Ok (text, ys) → IsLocal (all_from seen) (b ∷ xs) ys text
  one_further seen xs ys text b true done e d on is =
      absurd (no_value text ys over (sym (at_full seen (b ∷ xs) e) ∙ is))
  one_further seen xs ys text b false true e d on is =
      let same = one_value (seen ++ b ∷ []) text xs ys (sym (at_done seen xs b e d) ∙ is) in
      record {
        bytes = b ∷ [];
        split = ap (λ (l : List ℕ). b ∷ l) same.1;
        anywhere = λ more. at_done seen more b e d
            ∙ ap (λ (l : List ℕ). Ok (l, more)) same.0;
      }
  one_further seen xs ys text b false false e d on is =
      let further = on (sym (at_more seen xs b e d) ∙ is) in
      record {
        bytes = b ∷ further.bytes;
        split = ap (λ (l : List ℕ). b ∷ l) further.split;
        anywhere = λ more. at_more seen (further.bytes ++ more) b e d ∙ further.anywhere more;
      }

  none_there : (seen ys text : List ℕ) (full : Bool) → nat_le most (length seen) ≡ full
      → all_from seen [] ≡ Ok (text, ys) → ⊥
  none_there seen ys text true e is = no_value text ys over (sym (at_full seen [] e) ∙ is)
  none_there seen ys text false e is = no_value text ys Early (sym (at_none seen e) ∙ is)

  gather_local : (seen xs ys text : List ℕ) → all_from seen xs ≡ Ok (text, ys)
      → IsLocal (all_from seen) xs ys text
  gather_local seen [] ys text is =
      absurd (none_there seen ys text (nat_le most (length seen)) refl is)
  gather_local seen (b ∷ xs) ys text is =
      one_further seen xs ys text b (nat_le most (length seen)) (ends (seen ++ b ∷ [])) refl refl
      (gather_local (seen ++ b ∷ []) xs ys text) is

-- the size of a chunk
pub record IsLocalSize (xs ys : List ℕ) (n : ℕ) : Type 0 where
  pub bytes : List ℕ
  pub split : xs ≡ bytes ++ ys
  pub anywhere : (more : List ℕ) → IsSize (bytes ++ more) (Ok (n, more))

pub size_local : (xs ys : List ℕ) (n : ℕ) → IsSize xs (Ok (n, ys)) → IsLocalSize xs ys n
size_local xs ys n (IsSize.size_read _ line rest m is whole) =
    let local = gather_local ends_line 4096 Malformed [] xs ys line is in
    record {
      bytes = local.bytes;
      split = local.split;
      anywhere = λ more. IsSize.size_read (local.bytes ++ more) line more n (local.anywhere more)
          whole;
    }

-- the lines behind the last one
abbrev dropped : Reading (List ℕ) → Reading (List ℕ)
dropped r = r >>= λ p. Ok ([], p.1)

pub dropped_local : (xs ys : List ℕ) (r : Reading (List ℕ))
    → gather ends_in_empty 65536 HeadTooLarge [] xs ≡ r
    → Ok ([], ys) ≡ trailers_of xs → IsLocal trailers_of xs ys []
dropped_local xs ys (Err f) e is = absurd (no_value [] ys f (sym (is ∙ ap dropped e)))
dropped_local xs ys (Ok p) e is =
    let same = one_value [] [] ys p.1 (is ∙ ap dropped e) in
    let local = gather_local ends_in_empty 65536 HeadTooLarge [] xs p.1 p.0 e in
    record {
      bytes = local.bytes;
      split = local.split ∙ ap (λ (l : List ℕ). local.bytes ++ l) (sym same.1);
      anywhere = λ more. ap dropped (local.anywhere more);
    }

-- CR LF
abbrev next_is : ℕ → Reading ⊤ → Reading ⊤
next_is b r = r >>= λ p. byte_is b p.1

this_one : (a b : ℕ) (xs : List ℕ) → (a == b) ≡ true → byte_is b (a ∷ xs) ≡ Ok (tt, xs)
this_one a b xs e = rw e refl

other_one : (a b : ℕ) (xs : List ℕ) → (a == b) ≡ false → byte_is b (a ∷ xs) ≡ Err Malformed
other_one a b xs e = rw e refl

is_byte : (a b : ℕ) → (a == b) ≡ true → a ≡ b
is_byte a b e = search rules

byte_by : (a b : ℕ) (xs ys : List ℕ) (same : Bool) → (a == b) ≡ same
    → Ok (tt, ys) ≡ byte_is b (a ∷ xs) → a ∷ xs ≡ b ∷ ys
byte_by a b xs ys false e is =
    absurd (no_value tt ys Malformed (sym (is ∙ other_one a b xs e)))
byte_by a b xs ys true e is =
    let rest = one_value tt tt ys xs (is ∙ this_one a b xs e) in
    let first : a ≡ b = is_byte a b e in
    ap (λ (n : ℕ). n ∷ xs) first ∙ ap (λ (l : List ℕ). b ∷ l) (sym rest.1)

byte_there : (b : ℕ) (xs ys : List ℕ) → Ok (tt, ys) ≡ byte_is b xs → xs ≡ b ∷ ys
byte_there b [] ys is = absurd (no_value tt ys Early (sym is))
byte_there b (a ∷ xs) ys is = byte_by a b xs ys (a == b) refl is

crlf_by : (xs ys : List ℕ) (r : Reading ⊤) → byte_is 13 xs ≡ r → Ok (tt, ys) ≡ crlf_of xs
    → xs ≡ 13 ∷ 10 ∷ ys
crlf_by xs ys (Err f) e is = absurd (no_value tt ys f (sym (is ∙ ap (next_is 10) e)))
crlf_by xs ys (Ok p) e is =
    let first = byte_there 13 xs p.1 (sym e) in
    let second = byte_there 10 p.1 ys (is ∙ ap (next_is 10) e) in
    first ∙ ap (λ (l : List ℕ). 13 ∷ l) second

pub crlf_local : (xs ys : List ℕ) → Ok (tt, ys) ≡ crlf_of xs → xs ≡ 13 ∷ 10 ∷ ys
crlf_local xs ys is = crlf_by xs ys (byte_is 13 xs) refl is
