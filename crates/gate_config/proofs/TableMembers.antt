-- The members of tables, and the items of arrays.
use Rattle.std.specs.BTreeMap.{keys, values}
use Rattle.std.specs.List.{list_all}
use Rattle.std.proofs.Common.{◌≡◌, refl, ap, ℕ, Bool, List, [], ◌∷◌, map, String}
use Rattle.std.proofs.Common.{Global, BTreeMap, string_bytes, length, sym, ◌∙◌}
use Rattle.std.proofs.lemmas.List.{length-map}
use Rattle.toml.specs.declared.value.Value.{Value}
use Rattle.toml.specs.Data.{Data}
use Rattle.toml.specs.View.{items_of, members_view, table_view, view}
use Rattle.gate_config.specs.Table.{items_in, pairs_of}
use Rattle.gate_config.specs.Text.{string_of}
use Rattle.gate_config.specs.Routes.{routes_of}
use Rattle.gate_config.proofs.MappedLists.{list_all_map, map_twice}

-- the items of an array are the list that they were made of
pub items_back : (ds : List Data) → items_in (items_of ds) ≡ ds
items_back [] = refl
items_back (d ∷ ds) = ap (λ (rest : List Data). d ∷ rest) (items_back ds)

-- the members of a table, by the entries of its map
pairs_view : (es : List (String Global × Value)) →
    pairs_of (members_view es) ≡ map (λ e. (string_bytes e.0, view e.1)) es
pairs_view [] = refl
pairs_view (e ∷ es) = ap (λ rest. (string_bytes e.0, view e.1) ∷ rest) (pairs_view es)

-- the names of a table's members, by the keys of its map
pub names_view : (t : BTreeMap (String Global) Value) →
    map (λ pair. pair.0) (pairs_of (table_view t)) ≡ map string_bytes (keys t)
names_view t =
    rw pairs_view (map_twice (λ pair. pair.0) (λ e. (string_bytes e.0, view e.1)) t.entries)
    ∙ sym (map_twice string_bytes (λ e. e.0) t.entries)

-- each value of a table passes a test
pub all_values : (test : Data → Bool) (t : BTreeMap (String Global) Value) →
    list_all (λ pair. test pair.1) (pairs_of (table_view t))
    ≡ list_all (λ value. test (view value)) (values t)
all_values test t =
    rw pairs_view (list_all_map (λ pair. test pair.1) (λ e. (string_bytes e.0, view e.1)) t.entries)
    ∙ sym (list_all_map (λ value. test (view value)) (λ e. e.1) t.entries)

-- how many members a table has
pub length_pairs : (t : BTreeMap (String Global) Value) →
    length (pairs_of (table_view t)) ≡ length t.entries
length_pairs t = rw (pairs_view, length-map)

-- a pattern with its text, by its member of the table, and by that member's entry of the map
members_routes : (es : List (String Global × Value)) →
    map {B = List ℕ × List ℕ} (λ pair. (pair.0, string_of pair.1)) (pairs_of (members_view es))
    ≡ map (λ e. (string_bytes e.0, string_of (view e.1))) es
members_routes [] = refl
members_routes (e ∷ es) =
    ap (λ rest. (string_bytes e.0, string_of (view e.1)) ∷ rest) (members_routes es)

pub routes_view : (t : BTreeMap (String Global) Value) →
    routes_of (table_view t) ≡ map (λ e. (string_bytes e.0, string_of (view e.1))) t.entries
routes_view t = members_routes t.entries
