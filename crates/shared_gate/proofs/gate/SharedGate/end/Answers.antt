use Rattle.shared_gate.proofs.Getting.{ends}
use Rattle.shared_gate.proofs.gate.SharedGate.end.Goals as goal

pub into_receipt-requires : goal.into_receipt-requires
into_receipt-requires g c =
    (ends _ _ c.args.permit c.args.outcome c.args.now _ c.step-step.ensures).0
