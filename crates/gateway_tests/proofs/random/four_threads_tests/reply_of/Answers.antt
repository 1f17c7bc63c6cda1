use Rattle.std.proofs.Common.{arith}
use Rattle.limiter_core.specs.Limiter.{gate_of, stands}
use Rattle.gateway_tests.proofs.Comings.{other_may_come, numbered_below}
use Rattle.gateway_tests.proofs.random.four_threads_tests.reply_of.Goals as goal

pub apply-requires : goal.apply-requires
apply-requires g c = record {
  may =
      other_may_come (gate_of g.L.Limit.rules c.args.core.now) (stands c.args.core.now) c.args.event
      c.in_default.not-End;
  number =
      numbered_below (gate_of g.L.Limit.rules c.args.core.now) (stands c.args.core.now) c.args.event
      (omega arith);
}
