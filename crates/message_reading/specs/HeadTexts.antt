-- Bytes that are one head and no more.
use Rattle.std.specs.Prelude.{◌≡◌, ◌≤◌, ℕ, true, List, []}
use Rattle.message_reading.specs.HeadBytes.{ends_head, line_ends}
use Rattle.message_reading.specs.Progress.{HeadPasses}

-- a head ends with these bytes and not among them, and its lines are within the limit
pub record IsHeadText (text : List ℕ) : Type 0 where
  pub passes : HeadPasses [] text
  pub ends : ends_head text ≡ true
  pub few : line_ends text ≤ 102
