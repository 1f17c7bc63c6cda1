use Rattle.std.proofs.Common.{◌≡◌, length}
use Rattle.std.specs.Prelude.{vec_len}
use Rattle.audit.specs.Firsts.{EachHas}
use Rattle.load_run.specs.Gathered.{IsKeptAt}
use Rattle.load_run.proofs.workers.gather.Given as goal

-- the lists so far are those of the workers so far
abbrev pub invariant-loop-worker : goal.invariant-loop-worker
invariant-loop-worker g l =
    (length l.worked.kept.items ≡ length l.yielded)
    × (length l.worked.spent.items ≡ length l.yielded)
    × EachHas (IsKeptAt l.worked.kept.items l.worked.spent.items) l.yielded
    × (vec_len l.worked.passes ≡ length l.yielded)
