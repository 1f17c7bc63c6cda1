use Rattle.std.proofs.Common.{◌≡◌, ℕ, ◌<◌, get_or, true}
use Rattle.message_fields.specs.Parts.{is_blank}
use Rattle.message_fields.proofs.parts.blanks_before.Given as goal

-- blanks so far
abbrev pub invariant-loop-at : goal.invariant-loop-at
invariant-loop-at l = (k : ℕ) → k < l.at → is_blank (get_or l.text k 0) ≡ true
