use Rattle.audit.proofs.Handings.{whole_hands_out_named}
use Rattle.audit.proofs.laws.legal_histories_hand_out_named.Goals as goal

pub returns : goal.returns
returns g c = λ gate. whole_hands_out_named gate (c.soundness_is_kept.ensures.sound gate)
