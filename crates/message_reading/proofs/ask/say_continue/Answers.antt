use Rattle.std.proofs.Common.{rules, ◌≡◌}
use Rattle.std.specs.Prelude.{codes}
use Rattle.message_reading.specs.Continue.{continue_of}
use Rattle.message_reading.proofs.ask.say_continue.Goals as goal

pub returns-then-is_awaited-clause-front : goal.returns-then-is_awaited-clause-front
returns-then-is_awaited-clause-front g c =
    let is : continue_of c.args.head.now c.args.framing ≡ codes "HTTP/1.1 100 Continue\r\n\r\n" =
    search rules in
    rw is c.write_and_flush.ensures.front
