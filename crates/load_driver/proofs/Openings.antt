-- The text after the settings, from a session that they begin.
use Rattle.std.proofs.Common.{◌≡◌, ℕ, List, [], false, Option, None, Some, is_some, true≢false}
use Rattle.std.specs.Str.Lines.{lines}
use Rattle.limit_kinds.specs.declared.kinds.AnyLimit.{AnyLimit}
use Rattle.script.specs.declared.line_fault.LineFault.{LineFault}
use Rattle.limit_kinds.specs.AnyKinds.{any_rules}
use Rattle.gate_journal.specs.Journal.{Journal}
use Rattle.script.specs.Settings.{SettingFacts}
use Rattle.load_driver.specs.Replay.{after_text, lines_text}
use Rattle.script_gate.specs.Settings.{journal_of}
use Rattle.load_driver.specs.Opening.{told_unless}

pub text_of_session : (n kept : ℕ) (s : SettingFacts) (line : ℕ) (rest : List ℕ)
    (fault : Option LineFault) (j : Journal AnyLimit) (bytes : List ℕ)
    → bytes ≡ [] → j ≡ journal_of n kept s → is_some fault ≡ false
    → after_text bytes (lines_text any_rules j line (lines rest))
    ≡ told_unless fault (lines_text any_rules (journal_of n kept s) line (lines rest))
text_of_session n kept s line rest (Some fault) j bytes empty opens none = absurd (true≢false none)
text_of_session n kept s line rest None j bytes empty opens none =
    λ k. after_text (empty k) (lines_text any_rules (opens k) line (lines rest))
