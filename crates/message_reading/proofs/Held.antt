-- Bytes that are held piece by piece.
use Rattle.std.proofs.Common.{◌≡◌, ℕ, ◌+◌, refl, ap, ◌∙◌, arith, Option, Some, None}
use Rattle.body_memory.specs.Memory.{more}

pub none_more : (h : Option ℕ) → h ≡ more 0 h
none_more None = refl
none_more (Some n) = ap Some (omega arith)

pub more_more : (a b : ℕ) (h : Option ℕ) → more b (more a h) ≡ more (a + b) h
more_more a b None = refl
more_more a b (Some n) = ap Some (omega arith)

-- so many, and then more
pub held_on : (first mid last : Option ℕ) (a b n : ℕ) → mid ≡ more a first → last ≡ more b mid
    → a + b ≡ n → last ≡ more n first
held_on first mid last a b n one two sum =
    two ∙ (ap (more b) one ∙ (more_more a b first ∙ ap (λ (k : ℕ). more k first) sum))
