-- Clients of whom no bytes are known, counted.
use Rattle.std.proofs.Common.{◌≡◌, ◌∙◌, ℕ, ◌+◌, List, ◌++◌, ◌∷◌, [], sym, ap, replicate}
use Rattle.std.proofs.lemmas.List.{replicate-append-replicate}
use Rattle.client_tokens.specs.Roll.{Roll, Seen}
use Rattle.client_tokens.specs.Tokens.{unseen}

-- one more
pub one_more : (n m : ℕ) → m ≡ n + 1 → replicate m unseen ≡ replicate n unseen ++ unseen ∷ []
one_more n m same =
    ap (λ (k : ℕ). replicate k unseen) same ∙ sym (replicate-append-replicate n 1 unseen)

-- so many more
pub many_more : (n k m : ℕ) → m ≡ n + k
    → replicate m unseen ≡ replicate n unseen ++ replicate k unseen
many_more n k m same =
    ap (λ (i : ℕ). replicate i unseen) same ∙ sym (replicate-append-replicate n k unseen)

abbrev roll_with : List Seen → List Seen → Roll
roll_with came left = record { came = came; left = left }

-- two rolls of such clients, one behind the other
pub both_more : (n k m n' k' m' : ℕ) → m ≡ n + k → m' ≡ n' + k'
    → roll_with (replicate m unseen) (replicate m' unseen)
    ≡ roll_with (replicate n unseen ++ replicate k unseen)
    (replicate n' unseen ++ replicate k' unseen)
both_more n k m n' k' m' came left =
    ap (λ (xs : List Seen). roll_with xs (replicate m' unseen)) (many_more n k m came)
    ∙ ap (λ (xs : List Seen). roll_with (replicate n unseen ++ replicate k unseen) xs)
    (many_more n' k' m' left)

pub ruleset counted = (one_more, both_more)
