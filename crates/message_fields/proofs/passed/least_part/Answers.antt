use Rattle.std.proofs.Common.{rules, ◌≡◌}
use Rattle.std.specs.Prelude.{codes}
use Rattle.message_fields.proofs.PartLengths.{close_is_longer, keep_alive_is_longer}
use Rattle.message_fields.proofs.passed.least_part.Goals as goal

pub returns-then-eq : goal.returns-then-eq
returns-then-eq c = λ name shorter.
    let is : c.args.value.now ≡ codes "close" = search rules in
    close_is_longer c.args.value.now name is shorter

pub returns-then-eq-2 : goal.returns-then-eq-2
returns-then-eq-2 c = λ name shorter.
    let is : c.args.value.now ≡ codes "keep-alive" = search rules in
    keep_alive_is_longer c.args.value.now name is shorter
