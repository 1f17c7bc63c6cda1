-- A fault that is handed on.
use Rattle.std.proofs.Common.{◌≡◌, Result, Ok, Err, IfErr, IsErrAnd, sym, subst}

-- `?` hands a fault on
pub handed_on : {T E : Type 0} (r : Result T E) (e : E) (P : E → Type 0)
    → IsErrAnd r (λ y. y ≡ e) → P e → IfErr r P
handed_on (Ok x) e P is p = tt
handed_on (Err y) e P is p = subst P (sym is) p
