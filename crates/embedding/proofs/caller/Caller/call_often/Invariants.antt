use Rattle.std.proofs.Common.{◌≡◌}
use Rattle.std.specs.Prelude.{vec_len}
use Rattle.embedding.proofs.caller.Caller.call_often.Given as goal

-- a receipt of each call so far is kept
abbrev pub invariant-loop : goal.invariant-loop
invariant-loop g l = l.self.pass.count ≡ vec_len l.self.kept
