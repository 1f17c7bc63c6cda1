-- What is kept beside the bytes of a head so far.
use Rattle.std.specs.Prelude.{◌≡◌, ◌≤◌, ◌<◌, ◌+◌, ◌++◌, ℕ, List, length}
use Rattle.message_reading.specs.declared.fault.Fault.TheVariants.{HeadTooLarge}
use Rattle.message_reading.specs.declared.head_cut.HeadCut.{HeadCut}
use Rattle.message_reading.specs.declared.progress.Progress.{Progress}
use Rattle.message_reading.specs.Gather.{Passes}
use Rattle.message_reading.specs.HeadBytes.{ends_head, is_blank, line_ends}
use Rattle.message_reading.specs.ChunkLines.{last_three}

-- how many lines ended
abbrev pub lines_of : Progress → ℕ
lines_of p = p.lines

-- what is kept is that of these bytes
pub record IsProgress (text : List ℕ) (p : Progress) : Type 0 where
  pub blank_is : p.blank ≡ is_blank 10 text
  pub third_is : p.third ≡ (last_three (0, 0, 10) text).0
  pub second_is : p.second ≡ (last_three (0, 0, 10) text).1
  pub last_is : p.last ≡ (last_three (0, 0, 10) text).2
  pub lines_is : p.lines ≡ line_ends text
  pub lines_fit : p.lines ≤ length text

-- no head ends within the piece behind some bytes, but perhaps with it
abbrev pub HeadPasses : List ℕ → List ℕ → Type 0
HeadPasses = Passes ends_head 65536 HeadTooLarge

-- behind bytes of which this is kept, no head ends within the piece, and that is kept then
abbrev pub IsCut : Progress → Progress → List ℕ → Type 0
IsCut old new piece =
    (text : List ℕ) → IsProgress text old → length text + length piece ≤ 65536
    → IsProgress (text ++ piece) new × (0 < length piece → HeadPasses text piece)

-- what a cut keeps
abbrev pub progress_of : HeadCut → Progress
progress_of cut = cut.progress

-- how many more bytes a head may have
abbrev pub room_of : HeadCut → ℕ
room_of cut = cut.room
