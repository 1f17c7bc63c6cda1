-- Texts that grow piece by piece.
use Rattle.std.proofs.Common.{◌≡◌, ℕ, List, ◌++◌, Result, Ok, Err, OnOk, append_assoc, ap, ◌∙◌}

-- a text that grew by a piece, and then by another
pub joined : (old mid new a b : List ℕ) → mid ≡ old ++ a → new ≡ mid ++ b
    → new ≡ old ++ (a ++ b)
joined old mid new a b first second =
    second ∙ ap (λ (text : List ℕ). text ++ b) first ∙ append_assoc old a b

-- where it can fail to grow by the other
pub grown : {A E : Type 0} (r : Result A E) (old mid new a b : List ℕ) → mid ≡ old ++ a
    → OnOk r (new ≡ mid ++ b) → OnOk r (new ≡ old ++ (a ++ b))
grown (Ok x) old mid new a b first second = joined old mid new a b first second
grown (Err e) old mid new a b first second = tt
