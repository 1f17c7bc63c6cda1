-- Which numbers the receipts so far name.
use Rattle.std.proofs.Common.{◌≡◌, ℕ, ◌+◌, ◌<◌, ◌++◌, ◌∷◌, [], Bool, List, length, take, get_or, sym, ap, ◌∙◌, subst, append_assoc}
use Rattle.std.specs.Prelude.{Vec}
use Rattle.std.specs.declared.alloc.Global.{Global}
use Rattle.std.proofs.lemmas.List.{take_more, flat_map_more}
use Rattle.gate_ledgers.specs.Receipt.{Told}
use Rattle.audit.specs.Receipts.{all_kept}
use Rattle.audit.specs.Marks.{AreNamed}
use Rattle.audit.proofs.FirstPlaces.{IsRead}

-- one receipt more of a list
pub AreNamed-more : (size : ℕ) (earlier receipts : List Told) (place : ℕ) (d : Told)
    (marks : List Bool) → place < length receipts
    → AreNamed size ((earlier ++ take place receipts) ++ get_or receipts place d ∷ []) marks
    → AreNamed size (earlier ++ take (place + 1) receipts) marks
AreNamed-more size earlier receipts place d marks within named =
    let same : (earlier ++ take place receipts) ++ get_or receipts place d ∷ []
    ≡ earlier ++ take (place + 1) receipts =
    append_assoc earlier (take place receipts) (get_or receipts place d ∷ [])
    ∙ ap (λ (rs : List Told). earlier ++ rs) (sym (take_more receipts place d within)) in
    subst (λ (rs : List Told). AreNamed size rs marks) same named

-- one list more
pub AreNamed-list : (size : ℕ) (kept : List (Vec Told Global)) (n : ℕ) (list : Vec Told Global)
    (receipts : List Told) (marks : List Bool)
    → IsRead kept n list receipts → AreNamed size (all_kept (take n kept) ++ receipts) marks
    → AreNamed size (all_kept (take (n + 1) kept)) marks
AreNamed-list size kept n list receipts marks read named =
    let items : Vec Told Global → List Told = λ v. v.items in
    let same : all_kept (take n kept) ++ receipts ≡ all_kept (take (n + 1) kept) =
    ap (λ (rs : List Told). all_kept (take n kept) ++ rs) read.shown
    ∙ flat_map_more items [] (take n kept) list
    ∙ ap (λ (v : Vec Told Global). all_kept (take n kept ++ v ∷ [])) read.here
    ∙ ap all_kept (sym (take_more kept n list read.within)) in
    subst (λ (rs : List Told). AreNamed size rs marks) same named
