-- The field of a name.
use Rattle.std.proofs.Common.{rules, ◌≡◌, ◌==◌, ℕ, true, false, List, [], ◌∷◌, All, length, nat_lt, refl, ◌∙◌, sym}
use Rattle.std.specs.List.{filter, list_all}
use Rattle.std.specs.Prelude.{if◌then◌else◌}
use Rattle.std.proofs.lemmas.Bool.{eq-eqb, false≢true}
use Rattle.std.proofs.lemmas.List.Elements.{All-cons, All-head, All-nil, All-tail}
use Rattle.message_parts.specs.declared.field.Field.{Field}
use Rattle.message_parts.specs.declared.field.Field.TheVariants as field
use Rattle.message_parts.specs.Field.{IsFieldOf, TellsAmong, coding_names, connection_names, name_of, request_names}
use Rattle.message_parts.specs.Names.{same_name}
use Rattle.message_parts.proofs.SameName.{other_length, same_as}

-- it is the field whose name it has
pub is_field : (field : Field) (name : List ℕ) → same_name name (name_of field) ≡ true
    → IsFieldOf field name
is_field field name same = record {
  of_request = λ k d within. same_as name (name_of field) _ same;
  of_connection = λ k d within. same_as name (name_of field) _ same;
  of_coding = λ k d within. same_as name (name_of field) _ same;
}

-- the name isn't this one
abbrev pub Differs : List ℕ → List ℕ → Type 0
Differs name known = same_name name known ≡ false

-- those of the names that have this length
abbrev pub as_long : ℕ → List (List ℕ) → List (List ℕ)
as_long n names = filter (λ known. n == length known) names

abbrev Tells : List ℕ → List ℕ → Type 0
Tells name known = same_name name known ≡ same_name [] known

-- of names that aren't empty it is none, where it is none of those of its length
pub none_of : (names : List (List ℕ)) (name : List ℕ)
    → list_all (λ known. nat_lt 0 (length known)) names ≡ true
    → All (Differs name) (as_long (length name) names) → TellsAmong names field.Other name
none_of [] name some others = All-nil (Tells name)
none_of (known ∷ names) name some others =
    let filled : nat_lt 0 (length known) ≡ true = search rules in
    let rest : list_all (λ known. nat_lt 0 (length known)) names ≡ true = search rules in
    let parted = elim (length name == length known)
    as (λ t. (length name == length known) ≡ t
    → All (Differs name) (if t then known ∷ as_long (length name) names
    else as_long (length name) names)
    → Differs name known × All (Differs name) (as_long (length name) names)) [
      | true ↦ λ same all. (
        All-head (Differs name) known _ all,
        All-tail (Differs name) known _ all,
      )
      | false ↦ λ other all. (
        other_length name known
            (λ is. false≢true (sym other ∙ eq-eqb (length name) (length known) is)),
        all,
      )
    ] refl others in
    let empty : same_name [] known ≡ false = other_length [] known (search rules) in
    All-cons (Tells name) known names (parted.0 ∙ sym empty) (none_of names name rest parted.1)

-- it is no field, where it is none of those whose names have its length
pub is_other : (name : List ℕ) → All (Differs name) (as_long (length name) request_names)
    → All (Differs name) (as_long (length name) connection_names)
    → All (Differs name) (as_long (length name) coding_names) → IsFieldOf field.Other name
is_other name request connection coding = record {
  of_request = none_of request_names name refl request;
  of_connection = none_of connection_names name refl connection;
  of_coding = none_of coding_names name refl coding;
}
