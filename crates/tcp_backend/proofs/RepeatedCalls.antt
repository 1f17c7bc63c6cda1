-- Writes that follow others which left the known bytes as they were.
use Rattle.std.proofs.Common.{ℕ, List, Option, Some, None, Result, Ok, Err, ap, subst, ◌∙◌, ◌++◌}
use Rattle.std.specs.Io.KnownBytes.{Appends, Keeps, ReadConsumes, WriteAppends}
use Rattle.std.proofs.KnownBytes.{Keeps-trans}
use Rattle.lemmas.proofs.Writes.{write_behind}
use Rattle.tcp_backend.specs.CallTime.{Stands}

-- a read of which no bytes are known
pub read_untold : {E : Type 0} (r : Result ℕ E) (buf : List ℕ) → ReadConsumes None None r buf
read_untold (Ok n) buf = (tt, λ _ _. tt)
read_untold (Err e) buf = tt

-- a deadline that stood before and after
pub stands_on : (a b c : Option ℕ) → Stands a b → Stands b c → Stands a c
stands_on None b c before behind = tt
stands_on (Some deadline) b c before behind = subst (λ (it : Option ℕ). Stands it c) before behind

-- What reading and writing anew can cite, by the name of the set.
pub ruleset anew = (write_behind, Keeps-trans, read_untold, stands_on)
