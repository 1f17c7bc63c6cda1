use Rattle.std.proofs.Common.{◌≡◌, take}
use Rattle.message_parts.proofs.names.is_word.Given as goal

abbrev pub invariant-loop-at : goal.invariant-loop-at
invariant-loop-at l = take l.at l.name ≡ take l.at l.word
