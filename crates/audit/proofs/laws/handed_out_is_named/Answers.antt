use Rattle.std.proofs.Common.{arith, ◌≤◌}
use Rattle.audit.proofs.laws.handed_out_is_named.Goals as goal

pub returns : goal.returns
returns c = λ entries named number permit handed once.
    let early : permit.number ≤ handed.place =
    named handed.place handed.entry permit handed.here handed.hands in
    record { named = omega (arith, early, handed.before); handed = handed; once = once }
