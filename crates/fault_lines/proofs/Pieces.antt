-- Texts that are written a piece at a time.
use Rattle.std.proofs.Common.{◌≡◌, ◌<◌, ◌+◌, ◌++◌, ◌⊎◌, ◌∙◌, inl, inr, ap, sym, subst, true, ℕ, List, [], ◌∷◌, Option, Result, Ok, Err, OnOk, OnErr, length, map, take, get_or, append-nil}
use Rattle.std.specs.List.{concat}
use Rattle.std.specs.Io.KnownBytes.{Appends}
use Rattle.std.proofs.KnownBytes.{Appends-trans}
use Rattle.std.proofs.lemmas.List.{map_more}
use Rattle.std.proofs.lemmas.List.Folds.{concat-append}
use Rattle.counted_io.specs.declared.counted.Counted.{Counted}
use Rattle.counted_io.specs.Causes.{IsWriteCause}
use Rattle.counted_io.specs.Count.{count_end}
use Rattle.counted_io.specs.Counted.{failures_of, is_flushed}
use Rattle.counted_io.specs.Effects.{Wrote}
use Rattle.fault_lines.specs.FaultLine.{IsTold}

-- one more piece was written
pub appends_piece : {X : Type 0} (text : X → List ℕ) (a b c : Option (List ℕ)) (pieces : List X)
    (i : ℕ) (d : X) → i < length pieces → Appends a b (concat (map text (take i pieces)))
    → Appends b c (text (get_or pieces i d)) → Appends a c (concat (map text (take (i + 1) pieces)))
appends_piece text a b c pieces i d below before written =
    let front = map text (take i pieces) in
    let piece = text (get_or pieces i d) in
    let more : concat (map text (take (i + 1) pieces)) ≡ concat front ++ piece =
    ap concat (map_more text pieces i d below) ∙ concat-append front (piece ∷ [])
    ∙ ap (λ rest. concat front ++ rest) (append-nil piece) in
    subst (Appends a c) (sym more) (Appends-trans a b c (concat front) piece before written)

-- the front of a line was written, and then its rest, or the writer failed
pub told_after : {E T F : Type 0} (contents : E → Option (List ℕ)) (a b c : Counted E)
    (r : Result T F) (front rest : List ℕ)
    → Wrote contents a b front → failures_of b ≡ failures_of a
    → OnOk r (Wrote contents b c rest) → OnOk r (is_flushed c ≡ true)
    → OnErr r (IsWriteCause b c) → IsTold contents a c (front ++ rest)
told_after contents a b c (Ok v) front rest begun same all flushed failed =
    inl (Appends-trans _ _ _ front rest begun all, flushed)
told_after contents a b c (Err e) front rest begun same all flushed failed =
    inr (subst (λ n. (n < failures_of c) ⊎ (failures_of c ≡ count_end)) same failed)
