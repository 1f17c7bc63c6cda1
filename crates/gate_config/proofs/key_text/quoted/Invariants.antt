use Rattle.std.proofs.Common.{◌≡◌, ◌++◌, codes, flat_map, string_bytes}
use Rattle.gate_config.specs.KeyText.{escaped}
use Rattle.gate_config.proofs.key_text.quoted.Given as goal

-- the quote, and the characters so far
abbrev pub invariant-loop-c : goal.invariant-loop-c
invariant-loop-c l = string_bytes l.text ≡ codes "\"" ++ flat_map escaped l.yielded
