use Rattle.gate_laws.proofs.Balance.{balances}
use Rattle.gate_laws.proofs.laws.reports_balance.Goals as goal

pub returns : goal.returns
returns g c = balances
