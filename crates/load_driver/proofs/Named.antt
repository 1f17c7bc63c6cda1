-- An ending that is asked names an open permit.
use Rattle.std.proofs.Common.{◌≡◌, ℕ, ◌==◌, List, [], ◌∷◌, find, Option, Some, IfSome, arith, sym, subst, ◌∙◌}
use Rattle.limiter_core.specs.declared.event.PermitFacts.{PermitFacts}
use Rattle.limiter_core.specs.declared.event.Entry.{Entry}
use Rattle.limiter_core.specs.Open.{open_permit}

-- the permit that is found by a number has it
found_number : (xs : List PermitFacts) (number : ℕ) (found : PermitFacts)
    → find (λ permit. permit.number == number) xs ≡ Some found → found.number ≡ number
found_number [] number found e = cc
found_number (x ∷ xs) number found e = grind (arith, e, found_number xs number found)

-- so an open permit has its number
pub open_by_number : (first : ℕ) (entries : List Entry) (number : ℕ) (permit : PermitFacts)
    → open_permit first entries number ≡ Some permit → permit.number ≡ number
open_by_number first entries number permit e = found_number _ number permit e

-- and is found under its own number
pub open_own : (first : ℕ) (entries : List Entry) (number : ℕ) (permit : PermitFacts)
    → open_permit first entries number ≡ Some permit
    → open_permit first entries permit.number ≡ Some permit
open_own first entries number permit e =
    subst (λ (n : ℕ). open_permit first entries n ≡ Some permit)
    (sym (found_number _ number permit e)) e

-- what is found by a number stands under its own number too
pub own_found : (found : ℕ → Option PermitFacts) (number : ℕ) (result : Option PermitFacts)
    (permit : PermitFacts) → result ≡ found number → result ≡ Some permit
    → IfSome result (λ told. told.number ≡ number) → found permit.number ≡ Some permit
own_found found number result permit is some own =
    let same : permit.number ≡ number =
    subst (λ (o : Option PermitFacts). IfSome o (λ told. told.number ≡ number)) some own in
    subst (λ (n : ℕ). found n ≡ Some permit) (sym same) (sym is ∙ some)
