-- The names of the keys that are allowed in a section.
use Rattle.std.specs.List.{list_any}
use Rattle.std.proofs.Common.{◌≡◌, refl, sym, ap, ◌∙◌, ℕ, Bool, true, false, ◌||◌, ◌&&◌, List, [], ◌∷◌, map, filter, cond, bytes_eq}
use Rattle.gate_config.specs.declared.allowed.AllowedKeys.{AllowedKeys}
use Rattle.gate_config.specs.declared.allowed.AllowedKeys.TheVariants.{Listed, Top}
use Rattle.gate_config.specs.declared.key.Key.{Key}
use Rattle.gate_config.specs.Allowed.{allowed_keys, allows, is_top_key, listed_keys, top_keys}
use Rattle.gate_config.specs.Rows.{name_of}
use Rattle.gate_config.specs.Text.{is_among}
use Rattle.gate_config.proofs.MappedLists.{list_any_map}

module _ {X : Type 0} (test keep : X → Bool) where
  one_kept : (x : X) (xs : List X) (b : Bool) → (b && test x || list_any test (filter keep xs))
      ≡ list_any test (cond b (x ∷ filter keep xs) (filter keep xs))
  one_kept x xs true = refl
  one_kept x xs false = refl

  -- an item that is kept passes the test
  pub any_kept : (xs : List X)
      → list_any (λ x. keep x && test x) xs ≡ list_any test (filter keep xs)
  any_kept [] = refl
  any_kept (x ∷ xs) =
      ap (λ (b : Bool). keep x && test x || b) (any_kept xs) ∙ one_kept x xs (keep x)

-- a key of this name is allowed
pub named : (keys : AllowedKeys) (name : List ℕ)
    → list_any (λ key. allows keys key && bytes_eq name (name_of key)) (listed_keys keys)
    ≡ is_among (map name_of (allowed_keys keys)) name
named (Listed keys) name =
    sym (list_any_map (λ word. bytes_eq name word) name_of keys.now)
named (Top version windows) name =
    any_kept (λ key. bytes_eq name (name_of key)) (is_top_key version windows) top_keys
    ∙ sym (list_any_map (λ word. bytes_eq name word) name_of
    (filter (is_top_key version windows) top_keys))
