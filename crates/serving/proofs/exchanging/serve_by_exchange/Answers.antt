use Rattle.serving.proofs.ServedClient.{served}
use Rattle.serving.proofs.exchanging.serve_by_exchange.Goals as goal

pub returns : goal.returns
returns g c = served _ _ _ _ _ _ c.serve_client.ensures
