use Rattle.std.proofs.Common.{◌≡◌, ◌==◌, count_by, take}
use Rattle.partitions.specs.Table.{place_of}
use Rattle.gateway_tests.proofs.random.four_threads_tests.lying_at.Given as goal

-- of the permits so far as many are of the place
abbrev pub invariant-loop-permit : goal.invariant-loop-permit
invariant-loop-permit g l =
    l.found
    ≡ count_by (λ permit. place_of l.core.rows permit.part == l.place)
    (take l.permit-index l.permit-items)
