use Rattle.std.proofs.Common.{◌≡◌, ◌++◌, flat_map, string_bytes, take}
use Rattle.metrics.specs.Families.{bucket_text}
use Rattle.metrics.proofs.families.push_buckets.Given as goal

-- the buckets so far
abbrev pub invariant-loop-bound : goal.invariant-loop-bound
invariant-loop-bound l = string_bytes l.text ≡ string_bytes l.fn.text
    ++ flat_map (λ bucket. bucket_text l.name bucket.0.now bucket.1)
    (take l.bound-index l.buckets)
