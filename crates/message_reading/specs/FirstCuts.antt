-- What the first bytes of a head that a reader shows give.
use Rattle.std.specs.Prelude.{◌<◌, ℕ, List, [], length, ⊤}
use Rattle.httparse.specs.declared.spans.HeaderSpan.{HeaderSpan}
use Rattle.message_reading.specs.declared.head_cut.FirstCut.{FirstCut}
use Rattle.message_reading.specs.declared.head_cut.Kept.{Kept}
use Rattle.message_reading.specs.declared.head_cut.Kept.TheVariants.{Begun, Whole}
use Rattle.message_reading.specs.declared.progress.Progress.{Progress}
use Rattle.message_reading.specs.HeadTexts.{IsHeadText}
use Rattle.message_reading.specs.Progress.{HeadPasses, IsProgress}

-- what was kept of them
abbrev pub kept_of : {P : Type 0} → FirstCut P → Kept P
kept_of first = first.kept

-- the spans beside the parts
abbrev pub spans_of : {P : Type 0} → FirstCut P → List HeaderSpan
spans_of first = first.spans

-- no head ends within the piece, but perhaps with it, and this is kept of it
abbrev pub HasBegun : List ℕ → Progress → Type 0
HasBegun piece progress =
    IsProgress piece progress × (0 < length piece → HeadPasses [] piece)

module _ {P : Type 0} (AreOf : P → List HeaderSpan → List ℕ → Type 0) where
  -- the parts that were kept are those of the head that the bytes are
  abbrev pub AreParts : Kept P → List HeaderSpan → List ℕ → Type 0
  AreParts (Whole parts) spans text = AreOf parts spans text
  AreParts (Begun progress) spans text = ⊤

  -- what is kept of the piece that was taken
  abbrev pub IsKept : Kept P → List HeaderSpan → List ℕ → Type 0
  IsKept (Whole parts) spans piece = AreOf parts spans piece × IsHeadText piece
  IsKept (Begun progress) spans piece = HasBegun piece progress
