use Rattle.gate_laws.proofs.Recovery.{recovers}
use Rattle.gate_laws.proofs.laws.limits_recover_at_the_base.Goals as goal

pub returns : goal.returns
returns c =
    recovers c.learns_from_windows_with_enough.ensures.each c.rises_at_the_base.ensures
