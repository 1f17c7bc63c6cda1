use Rattle.audit.proofs.Handings.{whole_is_matched_plainly}
use Rattle.audit.proofs.laws.legal_histories_are_matched_plainly.Goals as goal

pub returns : goal.returns
returns g c = λ gate. whole_is_matched_plainly gate (c.soundness_is_kept.ensures.sound gate)
