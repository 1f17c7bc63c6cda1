-- The text of a cause.
use Rattle.std.specs.Prelude.{ℕ, List, codes}
use Rattle.audit.specs.declared.cause.Cause.{Cause}
use Rattle.audit.specs.declared.cause.Cause.TheVariants.{Memory, PassesMissing, Rolled, Strange, Order, Uncovered, Unmatched}

-- the word of each cause, without its numbers
abbrev pub cause_text : Cause → List ℕ
cause_text Memory = codes "memory"
cause_text (PassesMissing book sum) = codes "passes missing"
cause_text (Rolled base) = codes "rolled"
cause_text (Strange list place) = codes "strange"
cause_text (Order list place) = codes "order"
cause_text (Uncovered number) = codes "uncovered"
cause_text (Unmatched number) = codes "unmatched"
