use Rattle.std.proofs.Common.{refl}
use Rattle.serving.proofs.ServedClient.{keeps_told}
use Rattle.serving.proofs.exchanging.DoorKeeperKeeper.may_keep.Goals as goal

pub returns-then-self-eq0 : goal.returns-then-self-eq0
returns-then-self-eq0 g c = keeps_told _ _ (λ none. refl)

pub returns-then-not-self : goal.returns-then-not-self
returns-then-not-self g c = keeps_told _ _ (λ none. absurd (c.if-self-eq0.false none))

pub returns-else-not-self : goal.returns-else-not-self
returns-else-not-self g c = keeps_told _ _ (λ none. absurd (c.if-self-eq0.false none))
