use Rattle.limiter_core.proofs.OwnPlaces.{waits_by_places, keeps_own_places}
use Rattle.limiter_core.proofs.laws.own_places_are_kept.Goals as goal

pub returns-clause-waits : goal.returns-clause-waits
returns-clause-waits g c = λ gate. waits_by_places gate

pub returns-clause-own : goal.returns-clause-own
returns-clause-own g c = λ gate. keeps_own_places gate
