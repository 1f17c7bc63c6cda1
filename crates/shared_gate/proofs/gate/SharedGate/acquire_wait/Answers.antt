use Rattle.std.proofs.Common.{rules}
use Rattle.shared_gate.proofs.gate.SharedGate.acquire_wait.Goals as goal

pub returns-in-Admitted : goal.returns-in-Admitted
returns-in-Admitted g c = search rules

pub returns-in-BacklogFull : goal.returns-in-BacklogFull
returns-in-BacklogFull g c = search rules

pub returns-in-Exhausted : goal.returns-in-Exhausted
returns-in-Exhausted g c = search rules

pub returns-in-Granted : goal.returns-in-Granted
returns-in-Granted g c = (c.acquire.new.pass, search rules, search rules, search rules)

pub returns-in-TimedOut : goal.returns-in-TimedOut
returns-in-TimedOut g c =
    (c.acquire.new.pass, search rules, search rules, search rules, search rules, c.rest.ensures)

pub returns-in-Lost : goal.returns-in-Lost
returns-in-Lost g c = (c.acquire.new.pass, search rules, search rules, search rules)

pub returns-in-Exhausted-give_up : goal.returns-in-Exhausted-give_up
returns-in-Exhausted-give_up g c = (c.acquire.new.pass, search rules, search rules)
