-- Texts that are told in pieces.
use Rattle.std.proofs.Common.{◌≡◌, ◌++◌, ◌∙◌, ap, ℕ, List, [], ◌∷◌, append-nil}
use Rattle.std.specs.List.{concat}

-- a word and a text that is told in three pieces
pub word_and_three : (word a b c text : List ℕ) → a ++ (b ++ c) ≡ text
    → concat (word ∷ a ∷ b ∷ c ∷ []) ≡ word ++ text
word_and_three word a b c text e =
    ap (λ rest. word ++ (a ++ (b ++ rest))) (append-nil c) ∙ ap (λ rest. word ++ rest) e
