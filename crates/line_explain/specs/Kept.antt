-- What a clause reads of a reader that keeps what it hands on.
use Rattle.std.specs.Prelude.{◌≡◌, ◌⊎◌, ℕ, List, ◌++◌, Option, None, option_map}
use Rattle.line_explain.specs.declared.kept.Kept.{Kept}

-- the reader inside
abbrev pub reader_in : {R : Type 0} → Kept R → R
reader_in kept = kept.inner

-- what was handed on, if it was kept
abbrev pub kept_of : {R : Type 0} → Kept R → Option (List ℕ)
kept_of kept = option_map (λ bytes. bytes.items) kept.bytes

-- its bytes are those of the reader inside
abbrev pub remaining_of : {R : Type 0} → (R → Option (List ℕ)) → Kept R → Option (List ℕ)
remaining_of remaining kept = remaining (reader_in kept)

-- these bytes are kept behind those before, or nothing is any more
abbrev pub KeepsMore : {R : Type 0} → Kept R → Kept R → List ℕ → Type 0
KeepsMore old new part =
    (kept_of new ≡ option_map (λ before. before ++ part) (kept_of old)) ⊎ (kept_of new ≡ None)
