use Rattle.std.proofs.Common.{ltb, ltb-true, ltb-false, rules, arith}
use Rattle.std.proofs.lemmas.List.Sorted.{IsPartitionPoint-from_clause, IsPartitionedBy-ltb}
use Rattle.seats.proofs.Numbers.{numbers_rise}
use Rattle.seats.proofs.row.first_from.Goals as goal

pub returns : goal.returns
returns g c =
    let parted = IsPartitionedBy-ltb (λ one. one.0) _ c.args.number
    (numbers_rise _ c.requires.row.in_order) in
    let point = IsPartitionPoint-from_clause (λ one. ltb (one.0) c.args.number) _ _
    c.partition_point.ensures.partitioned parted (λ a r q k. search rules) in
    record {
      within = omega (arith, c.partition_point.ensures.bound, c.requires.row.counted);
      below = λ k d low. ltb-true _ _ (point.0 k d (omega arith) low);
      others = λ k d low high. ltb-false _ _ (point.1 k d low high);
    }
