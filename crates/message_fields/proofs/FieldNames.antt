-- The fields of lines, by their names.
use Rattle.std.proofs.Common.{rules, ◌≡◌, ◌≢◌, ◌⊎◌, ⊎_elim, ℕ, Bool, true, false, ◌||◌, List, [], ◌∷◌, All, map, get_or, eqb, eq-eqb, refl, sym, ap, ap₂, ◌∙◌, arith}
use Rattle.std.specs.List.{list_any}
use Rattle.std.proofs.lemmas.Bool.Decides.{nat_tests}
use Rattle.std.proofs.lemmas.List.Elements.{All-head, All-tail}
use Rattle.message_parts.specs.declared.field.Field.{Field}
use Rattle.message_parts.specs.declared.field.Field.TheVariants as field
use Rattle.message_parts.specs.Field.{IsFieldOf, coding_names, connection_names, name_of}
use Rattle.message_parts.specs.Names.{same_name}
use Rattle.message_fields.specs.Passed.{is_own}

-- all fields, and the place of each
abbrev fields : List Field
fields =
    field.Host ∷ field.Expect ∷ field.Connection ∷ field.ProxyConnection ∷ field.KeepAlive
    ∷ field.Upgrade ∷ field.Te ∷ field.Trailer ∷ field.TransferEncoding ∷ field.ContentLength
    ∷ field.Other ∷ []

abbrev place : Field → ℕ
place field.Host = 0
place field.Expect = 1
place field.Connection = 2
place field.ProxyConnection = 3
place field.KeepAlive = 4
place field.Upgrade = 5
place field.Te = 6
place field.Trailer = 7
place field.TransferEncoding = 8
place field.ContentLength = 9
place field.Other = 10

-- what a list that is made of all fields has of one
at : {X : Type 0} (f : Field → X) (one : Field) (d : X)
    → get_or (map f fields) (place one) d ≡ f one
at f field.Host d = refl
at f field.Expect d = refl
at f field.Connection d = refl
at f field.ProxyConnection d = refl
at f field.KeepAlive d = refl
at f field.Upgrade d = refl
at f field.Te d = refl
at f field.Trailer d = refl
at f field.TransferEncoding d = refl
at f field.ContentLength d = refl
at f field.Other d = refl

-- whether a field's name is that of another, and whether it stands at its place
abbrev same_names : Field → List Bool
same_names one = map (λ other. same_name (name_of other) (name_of one)) fields

abbrev same_places : Field → List Bool
same_places one = map (λ other. eqb (place other) (place one)) fields

-- each field has a name of its own
all_apart : map same_names fields ≡ map same_places fields
unfolding same_name
all_apart = refl

names_apart : (one other : Field)
    → same_name (name_of other) (name_of one) ≡ eqb (place other) (place one)
names_apart one other =
    let rows : same_names one ≡ same_places one =
    sym (at same_names one [])
    ∙ ap (λ (rows : List (List Bool)). get_or rows (place one) []) all_apart
    ∙ at same_places one [] in
    sym (at (λ x. same_name (name_of x) (name_of one)) other true)
    ∙ ap (λ (row : List Bool). get_or row (place other) true) rows
    ∙ at (λ x. eqb (place x) (place one)) other true

-- fields of one place are one
same_place : (one other : Field) → place other ≡ place one → other ≡ one
same_place one other same =
    sym (at (λ x. x) other field.Other)
    ∙ ap (λ n. get_or (map (λ x. x) fields) n field.Other) same ∙ at (λ x. x) one field.Other

-- a name is told apart from a field's as the name of its own field is
told : (one found : Field) (name : List ℕ) → one ≢ field.Other → IsFieldOf found name
    → same_name name (name_of one) ≡ same_name (name_of found) (name_of one)
told field.Host found name known is = is.of_request 0 [] (search rules)
told field.Expect found name known is = is.of_request 1 [] (search rules)
told field.Connection found name known is = is.of_connection 0 [] (search rules)
told field.ProxyConnection found name known is = is.of_connection 1 [] (search rules)
told field.KeepAlive found name known is = is.of_connection 2 [] (search rules)
told field.Upgrade found name known is = is.of_connection 3 [] (search rules)
told field.Te found name known is = is.of_coding 0 [] (search rules)
told field.Trailer found name known is = is.of_coding 1 [] (search rules)
told field.TransferEncoding found name known is = is.of_coding 2 [] (search rules)
told field.ContentLength found name known is = is.of_coding 3 [] (search rules)
told field.Other found name known is = absurd (known refl)

-- a name has the name of its field
pub has_name : (one found : Field) (name : List ℕ) → one ≢ field.Other → IsFieldOf found name
    → found ≡ one → true ≡ same_name name (name_of one)
has_name one found name known is that =
    sym (told one found name known is ∙ names_apart one found
    ∙ eq-eqb (place found) (place one) (ap place that))

-- and that of no other
pub has_other_name : (one found : Field) (name : List ℕ) → one ≢ field.Other
    → IsFieldOf found name → found ≢ one → false ≡ same_name name (name_of one)
has_other_name one found name known is apart =
    let differ : place found ≢ place one = λ same. apart (same_place one found same) in
    let no : eqb (place found) (place one) ≡ false = grind (arith, nat_tests) in
    sym (told one found name known is ∙ names_apart one found ∙ no)

-- some name is told apart as another
any_told : (one other : List ℕ) (names : List (List ℕ))
    → All (λ known. same_name one known ≡ same_name other known) names
    → list_any (same_name one) names ≡ list_any (same_name other) names
any_told one other [] all = refl
any_told one other (known ∷ names) all =
    ap₂ (λ a b. a || b) (All-head (λ k. same_name one k ≡ same_name other k) known names all)
    (any_told one other names
    (All-tail (λ k. same_name one k ≡ same_name other k) known names all))

-- a name is of one connection alone as its field's is
pub own_told : (found : Field) (name : List ℕ) → IsFieldOf found name
    → is_own name ≡ is_own (name_of found)
own_told found name is =
    ap₂ (λ a b. a || b) (any_told name (name_of found) connection_names is.of_connection)
    (any_told name (name_of found) coding_names is.of_coding)

own_fields : (other : Field) → other ≢ field.Host → other ≢ field.Expect → other ≢ field.Other
    → is_own (name_of other) ≡ true
unfolding same_name
own_fields field.Host host expect any = absurd (host refl)
own_fields field.Expect host expect any = absurd (expect refl)
own_fields field.Connection host expect any = refl
own_fields field.ProxyConnection host expect any = refl
own_fields field.KeepAlive host expect any = refl
own_fields field.Upgrade host expect any = refl
own_fields field.Te host expect any = refl
own_fields field.Trailer host expect any = refl
own_fields field.TransferEncoding host expect any = refl
own_fields field.ContentLength host expect any = refl
own_fields field.Other host expect any = absurd (any refl)

free_fields : (found : Field)
    → (found ≡ field.Host) ⊎ (found ≡ field.Expect) ⊎ (found ≡ field.Other)
    → is_own (name_of found) ≡ false
unfolding same_name
free_fields found which =
    ⊎_elim (λ is. ap (λ f. is_own (name_of f)) is ∙ refl)
    (λ rest. ⊎_elim (λ is. ap (λ f. is_own (name_of f)) is ∙ refl)
    (λ is. ap (λ f. is_own (name_of f)) is ∙ refl) rest) which

pub own_is : (found : Field) (name : List ℕ) → IsFieldOf found name → found ≢ field.Host
    → found ≢ field.Expect → found ≢ field.Other → true ≡ is_own name
own_is found name is host expect any =
    sym (own_told found name is
    ∙ own_fields found host expect any)

pub own_is_not : (found : Field) (name : List ℕ) → IsFieldOf found name
    → (found ≡ field.Host) ⊎ (found ≡ field.Expect) ⊎ (found ≡ field.Other) → false ≡ is_own name
own_is_not found name is which = sym (own_told found name is ∙ free_fields found which)
