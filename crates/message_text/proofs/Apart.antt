-- Names that differ, and fields that are never kept.
use Rattle.std.proofs.Common.{◌≡◌, ℕ, Bool, true, false, not, ◌||◌, ◌&&◌, List, [], ◌∷◌, map, filter, refl, ap, sym, ◌∙◌, cond}
use Rattle.std.specs.Prelude.{bytes_eq, codes, Option, Some, None}
use Rattle.std.specs.Char.{to_ascii_lowercase}
use Rattle.std.proofs.lemmas.Bool.{false≢true}
use Rattle.std.proofs.lemmas.Slice.Eq.{bytes_eq-Decides}
use Rattle.message_parts.specs.Header.{Header}
use Rattle.message_parts.specs.Names.{same_name}
use Rattle.message_fields.specs.Lines.{is_named}
use Rattle.message_fields.specs.Passed.{is_of_connection, is_of_coding, is_own, is_connection_option, is_passed}
use Rattle.message_text.specs.Forwarded.{hosted}

-- a name that is one of two names which differ isn't the other
pub names_apart : (name one other : List ℕ) → same_name name one ≡ true
    → same_name one other ≡ false → same_name name other ≡ false
unfolding same_name
names_apart name one other same apart =
    let equal : map to_ascii_lowercase name ≡ map to_ascii_lowercase one =
    (bytes_eq-Decides (map to_ascii_lowercase name) (map to_ascii_lowercase one)).0 same in
    ap (λ (text : List ℕ). bytes_eq text (map to_ascii_lowercase other)) equal ∙ apart

-- names of the definitions differ
pub host_length : same_name (codes "host") (codes "content-length") ≡ false
unfolding same_name
host_length = refl

pub host_coding : same_name (codes "host") (codes "transfer-encoding") ≡ false
unfolding same_name
host_coding = refl

pub host_expect : same_name (codes "host") (codes "expect") ≡ false
unfolding same_name
host_expect = refl

-- where none of four holds, the last two don't
last_two : (a b c d : Bool) → (a || (b || (c || (d || false)))) ≡ false
    → (c ≡ false) × (d ≡ false)
last_two true b c d none = absurd (false≢true (sym none))
last_two false true c d none = absurd (false≢true (sym none))
last_two false false true d none = absurd (false≢true (sym none))
last_two false false false true none = absurd (false≢true (sym none))
last_two false false false false none = (refl, refl)

-- where neither of two holds, the second doesn't
second : (a b : Bool) → (a || b) ≡ false → b ≡ false
second true b none = absurd (false≢true (sym none))
second false b none = none

-- a line that is passed on and isn't Host is of no field of one connection
not_own : (host own option : Bool) → (host || (not own && not option)) ≡ true → host ≡ false
    → own ≡ false
not_own true own option passed other = absurd (false≢true (sym other))
not_own false true option passed other = absurd (false≢true passed)
not_own false false option passed other = refl

-- no line that is passed on tells a length or a coding
pub passed_apart : (lines : List Header) (line : Header) → is_passed lines line ≡ true
    → (is_named (codes "transfer-encoding") line ≡ false)
    × (is_named (codes "content-length") line ≡ false)
passed_apart lines line passed =
    elim (is_named (codes "host") line) as
    (λ b. is_named (codes "host") line ≡ b
    → (is_named (codes "transfer-encoding") line ≡ false)
    × (is_named (codes "content-length") line ≡ false)) [
      | true ↦ λ e. (
        names_apart line.name (codes "host") (codes "transfer-encoding") e host_coding,
        names_apart line.name (codes "host") (codes "content-length") e host_length,
      )
      | false ↦ λ e.
          let none = not_own (is_named (codes "host") line) (is_own line.name)
          (is_connection_option lines line.name) passed e in
          last_two (same_name line.name (codes "te")) (same_name line.name (codes "trailer"))
          (same_name line.name (codes "transfer-encoding"))
          (same_name line.name (codes "content-length"))
          (second (is_of_connection line.name) (is_of_coding line.name) none)
    ] refl

-- of two that hold the first does
pub first_holds : (a b : Bool) → (a && b) ≡ true → a ≡ true
first_holds true b both = refl
first_holds false b both = absurd (false≢true both)

-- a line keeps its name
pub hosted_name : (authority : Option (List ℕ)) (line : Header) (name : List ℕ)
    → is_named name (hosted authority line) ≡ is_named name line
hosted_name None line name = refl
hosted_name (Some authority) line name =
    elim (is_named (codes "host") line) as
    (λ b. is_named name (cond b (record { name = line.name; value = authority }) line)
    ≡ is_named name line) [ true ↦ refl | false ↦ refl ]

-- no line of a name is kept
pub none_kept : (name : List ℕ) (kept : Header → Bool) (f : Header → Header)
    → ((line : Header) → is_named name (f line) ≡ is_named name line)
    → ((line : Header) → kept line ≡ true → is_named name line ≡ false)
    → (lines : List Header) → filter (is_named name) (map f (filter kept lines)) ≡ []
none_kept name kept f named apart [] = refl
none_kept name kept f named apart (line ∷ lines) =
    let rest = none_kept name kept f named apart lines in
    elim (kept line) as
    (λ b. kept line ≡ b
    → filter (is_named name) (map f (cond b (line ∷ filter kept lines) (filter kept lines)))
    ≡ []) [
      | true ↦ λ e. let other = named line ∙ apart line e in
          ap (λ b. cond b (f line ∷ filter (is_named name) (map f (filter kept lines)))
          (filter (is_named name) (map f (filter kept lines)))) other ∙ rest
      | false ↦ λ e. rest
    ] refl
