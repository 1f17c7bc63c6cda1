-- What a client has left to send, where nothing of it lies in a buffer.
use Rattle.std.proofs.Common.{◌≡◌, ℕ, List, [], Option, None, Some, length, refl, subst, sym}
use Rattle.std.proofs.lemmas.List.{nil_from_length}
use Rattle.std.specs.Io.KnownBytes.{prepend_known}

behind_nothing : (known : Option (List ℕ)) → prepend_known [] known ≡ known
behind_nothing None = refl
behind_nothing (Some bytes) = refl

pub behind_none : (held : List ℕ) (known : Option (List ℕ)) → length held ≡ 0
    → prepend_known held known ≡ known
behind_none held known none =
    subst (λ (bytes : List ℕ). prepend_known bytes known ≡ known)
    (sym (nil_from_length held none)) (behind_nothing known)
