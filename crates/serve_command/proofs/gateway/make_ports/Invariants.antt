use Rattle.std.proofs.Common.{◌≡◌, map}
use Rattle.ports.specs.declared.asked.Receipts.TheVariants.{Nothing}
use Rattle.ports.specs.Asked.{port_in}
use Rattle.serve_command.proofs.gateway.make_ports.Given as goal

-- a port for each pass so far
abbrev pub invariant-loop-pass : goal.invariant-loop-pass
invariant-loop-pass g l = l.ports.items ≡ map (λ pass. port_in pass Nothing 0) l.yielded
