-- What holds of a step by its tests, whichever fact it is of: where a window ends, and what a dip
-- that begins leaves.
use Rattle.std.proofs.Common.{◌≡◌, refl, sym, ℕ, ◌+◌, Bool, true, false, if◌then◌else◌}
use Rattle.std.proofs.lemmas.Bool.{false≢true}
use Rattle.auto.specs.declared.learned.Learned.{Learned}

-- an answer that isn't dropped or skipped, and behind which a window doesn't go on, ends it
pub ends_by : (dropped skips goes_on : Bool) (a b c d : Learned) → dropped ≡ false →
    skips ≡ false → goes_on ≡ false →
    (if dropped then a else (if skips then b else (if goes_on then c else d))) ≡ d
ends_by true skips goes_on a b c d e f g = absurd (false≢true (sym e))
ends_by false true goes_on a b c d e f g = absurd (false≢true (sym f))
ends_by false false true a b c d e f g = absurd (false≢true (sym g))
ends_by false false false a b c d e f g = refl

-- a dip that begins leaves the limit outside it
pub dip_by : (calm enough : Bool) (l : Learned) (skip : ℕ) →
    (if calm then (if enough then record l { calm = 0; in_dip = true; skip = skip }
    else record l { calm = l.calm + 1 }) else l).limit ≡ l.limit
dip_by true true l skip = refl
dip_by true false l skip = refl
dip_by false enough l skip = refl
