use Rattle.std.proofs.Common.{◌≤◌, ◌+◌, length, vec_capacity}
use Rattle.std.specs.Prelude.{vec_len}
use Rattle.std.specs.List.{AllZip}
use Rattle.std.specs.Vec.Iter.{into_iter_items}
use Rattle.serving.specs.Workers.{Begins}
use Rattle.serving.proofs.workers.make_workers.Given as goal

-- a worker for each port so far, and there is room for the others
abbrev pub invariant-loop-port : goal.invariant-loop-port
invariant-loop-port g l = record {
  all : AllZip (Begins l.fn.common.listener.now g.L.Listener.roll l.fn.common.backend_timeout_ns
      l.fn.common.settings.now.backend) l.yielded l.workers.items;
  room : vec_len l.workers + length (into_iter_items l.port-iterator) ≤ vec_capacity l.workers;
}
