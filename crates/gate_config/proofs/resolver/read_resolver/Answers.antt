use Rattle.std.proofs.Common.{rules}
use Rattle.gate_config.proofs.resolver.read_resolver.Goals as goal

pub returns-in_err-resolver_kind : goal.returns-in_err-resolver_kind
returns-in_err-resolver_kind c = search rules

pub returns-in_err-read_token-in-Header : goal.returns-in_err-read_token-in-Header
returns-in_err-read_token-in-Header c = search rules

pub returns-in_err-routes_at-in-Route : goal.returns-in_err-routes_at-in-Route
returns-in_err-routes_at-in-Route c = search rules

pub returns-in_ok-read_token-in-Header : goal.returns-in_ok-read_token-in-Header
returns-in_ok-read_token-in-Header c = search rules

pub returns-in-Method : goal.returns-in-Method
returns-in-Method c = search rules

pub returns-in_ok-routes_at-in-Route : goal.returns-in_ok-routes_at-in-Route
returns-in_ok-routes_at-in-Route c = search rules
