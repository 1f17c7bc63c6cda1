-- A write behind calls that left the known bytes as they were.
use Rattle.std.proofs.Common.{ℕ, List, Option, Some, None, Result, Ok, Err, ap, ◌∙◌, ◌++◌}
use Rattle.std.specs.Io.KnownBytes.{Appends, Keeps, WriteAppends}
use Rattle.std.proofs.KnownBytes.{Keeps-trans}

appends_behind : (a b c : Option (List ℕ)) (bs : List ℕ) → Keeps a b → Appends b c bs
    → Appends a c bs
appends_behind None b c bs kept given = tt
appends_behind (Some xs) None c bs kept given = absurd kept
appends_behind (Some xs) (Some ys) None bs kept given = absurd given
appends_behind (Some xs) (Some ys) (Some zs) bs kept given = given ∙ ap (λ l. l ++ bs) kept

pub write_behind : {E : Type 0} (r : Result ℕ E) (a b c : Option (List ℕ)) (buf : List ℕ)
    → Keeps a b → WriteAppends b c r buf → WriteAppends a c r buf
write_behind (Ok n) a b c buf kept given = appends_behind a b c _ kept given
write_behind (Err e) a b c buf kept given = Keeps-trans a b c kept given
