use Rattle.std.proofs.Common.{◌≤◌, subst}
use Rattle.gate_history.specs.Refusal.{Refusal, exhausted_from}
use Rattle.gate_history.proofs.Exhausting.{exhausted_behind}
use Rattle.gate_history.proofs.spent.Spent.invariant.Goals as goal

pub returns : goal.returns
returns g c =
    subst (λ (r : Refusal). exhausted_from g.N.Naming.making ≤ r.next) c.self.view_is
    (exhausted_behind g.N.Naming.making _ _ _ _ c.self.invariant.0 c.self.invariant.1
    c.self.invariant.2 c.self.invariant.3)
