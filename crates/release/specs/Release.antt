-- The release of the product.
use Rattle.std.specs.Prelude.{ℕ, List, codes}

-- its version
abbrev pub version : List ℕ
version = codes "2.0.0-dev"
