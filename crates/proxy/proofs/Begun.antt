-- What was begun to be written.
use Rattle.std.proofs.Common.{ℕ, List, [], take, sym, Option, None, Some, IfSome}
use Rattle.std.specs.Io.KnownBytes.{Appends}
use Rattle.std.proofs.lemmas.List.{append-nil}

same : (a : Option (List ℕ)) → Appends a a []
same None = tt
same (Some xs) = sym (append-nil xs)

-- nothing was written: that is a beginning of any text
pub nothing_begun : {X : Type 0} (found : Option X) (a : Option (List ℕ)) (text : List ℕ)
    → IfSome found (λ f. (count : ℕ) × Appends a a (take count text))
nothing_begun None a text = tt
nothing_begun (Some f) a text = (0, same a)
