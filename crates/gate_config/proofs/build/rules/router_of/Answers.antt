use Rattle.std.proofs.Common.{rules}
use Rattle.gate_config.proofs.TableMembers.{routes_view}
use Rattle.gate_config.proofs.build.rules.router_of.Goals as goal

pub loop-pattern-init : goal.loop-pattern-init
loop-pattern-init c = rw (routes_view c.args.routes.now) (search rules)

pub loop-pattern-preserved : goal.loop-pattern-preserved
loop-pattern-preserved c = search rules
