-- The keys of a section, read one after the other in the order of its rows.
use Rattle.std.specs.Prelude.{ℕ, ◌/◌, Bool, true, ◌||◌, List, [], ◌∷◌, ◌++◌, length, map, filter, find, fold, Option, Some, option_map, Result, Ok, bytes_eq, ◌==◌, codes, if◌then◌else◌}
use Rattle.toml.specs.Data.{Data, Members, get_member}
use Rattle.partitions.specs.Table.{Row as ClassRow}
use Rattle.gate_config.specs.declared.fault.ConfigFault.{ConfigFault}
use Rattle.gate_config.specs.declared.key.Key.{Key}
use Rattle.gateway_settings.specs.Address.{is_address}
use Rattle.gate_config.specs.Rows.{name_of}
use Rattle.gate_config.specs.Number.{flag_from, number_from}
use Rattle.gate_config.specs.Outcomes.{result_map, ◌>>=◌}
use Rattle.gate_config.specs.Text.{begins_path, choice_from, is_among, is_token, text_from}
use Rattle.gate_config.specs.ClassRows.{is_class, is_new_name, left_by, places_left}
use Rattle.gate_config.specs.Routes.{routes_from}
use Rattle.gate_config.specs.Rows.{Bound, Holds, Row, address, at, choice, class_name, flag, left_of_hundred, left_of_places, left_of_thousand, new_name, number, of, prefix, routes, text, token, word}

-- what was read at a key
pub data Given : Type 0 where
  number_is : ℕ → Given
  flag_is : Bool → Given
  text_is : List ℕ → Given
  routes_are : List (List ℕ × List ℕ) → Given

-- what was read in a section, by the names of its keys, in their order
abbrev pub Values : Type 0
Values = List (List ℕ × Given)

-- what was read under a name
abbrev pub given_at : List ℕ → Values → Option Given
given_at name values = option_map (λ value. value.1) (find (λ value. bytes_eq value.0 name) values)

abbrev pub as_number : Option Given → ℕ
as_number (Some (number_is n)) = n
as_number _ = 0

abbrev pub as_flag : Option Given → Bool
as_flag (Some (flag_is b)) = b
as_flag _ = true

abbrev pub as_text : Option Given → List ℕ
as_text (Some (text_is s)) = s
as_text _ = []

abbrev pub as_routes : Option Given → List (List ℕ × List ℕ)
as_routes (Some (routes_are rows)) = rows
as_routes _ = []

abbrev pub number_at : List ℕ → Values → ℕ
number_at name values = as_number (given_at name values)

abbrev pub flag_at : List ℕ → Values → Bool
flag_at name values = as_flag (given_at name values)

abbrev pub text_at : List ℕ → Values → List ℕ
text_at name values = as_text (given_at name values)

abbrev pub routes_at : List ℕ → Values → List (List ℕ × List ℕ)
routes_at name values = as_routes (given_at name values)

-- the number that an end of a range is, after these classes and these values of the section
abbrev pub bound_of : List ClassRow → Values → Bound → ℕ
bound_of classes values (at n) = n
bound_of classes values (of name) = number_at name values
bound_of classes values left_of_hundred = left_by classes / 10
bound_of classes values left_of_thousand = left_by classes
bound_of classes values left_of_places = places_left (number_at (codes "backlog") values) classes

-- what a key holds, where it is of the key's kind and in its range, or its default
abbrev pub read_key : List ClassRow → Values → Key → Holds → Option Data → Result Given ConfigFault
read_key classes values key (number low high default) d =
    result_map number_is (number_from key
    (bound_of classes values low) (bound_of classes values high) default d)
read_key classes values key (flag default) d = result_map flag_is (flag_from key default d)
read_key classes values key (choice words default) d =
    result_map text_is (choice_from key words default d)
read_key classes values key address d = result_map text_is (text_from key is_address d)
read_key classes values key (word words) d = result_map text_is (text_from key (is_among words) d)
read_key classes values key new_name d =
    result_map text_is (text_from key (is_new_name classes) d)
read_key classes values key class_name d = result_map text_is (text_from key (is_class classes) d)
read_key classes values key token d = result_map text_is (text_from key is_token d)
read_key classes values key prefix d = result_map text_is (text_from key begins_path d)
read_key classes values key text d = result_map text_is (text_from key (λ s. true) d)
read_key classes values key routes d = result_map routes_are (routes_from key classes d)

-- the section's kind, which its values begin with, has the key
abbrev pub has_key : Values → Row → Bool
has_key values row =
    (length row.kinds == 0) || is_among row.kinds (text_at (codes "kind") values)

-- the values read so far, and the next key's
abbrev pub read_row : List ClassRow → Members → Result Values ConfigFault → Row →
    Result Values ConfigFault
read_row classes t so_far row =
    so_far >>= λ values.
    if has_key values row
    then (read_key classes values row.key row.holds (get_member (name_of row.key) t)
    >>= λ given. Ok (values ++ (name_of row.key, given) ∷ []))
    else Ok values

-- the values of a section, read key by key in the order of the rows
abbrev pub section_values : List ClassRow → List Row → Members → Result Values ConfigFault
section_values classes rows t = fold (read_row classes t) (Ok []) rows

-- the names of the keys that a section with these values may have
abbrev pub names_of : List Row → Values → List (List ℕ)
names_of rows values = map (λ row. name_of row.key) (filter (has_key values) rows)

-- what is read one after the other, each given what was read before it
abbrev pub read_each : {T A : Type 0} → (List A → T → Result A ConfigFault) → List A → List T →
    Result (List A) ConfigFault
read_each read done [] = Ok done
read_each read done (t ∷ more) = read done t >>= λ a. read_each read (done ++ a ∷ []) more
