-- Shares of a limit, as a quotient and as the least number.
use Rattle.std.proofs.Common.{◌≡◌, ℕ, ◌+◌, ◌*◌, ◌/◌, ◌≤◌, max, Bool, true, nat_le, ap, arith}
use Rattle.std.proofs.lemmas.Bool.{leb-true, le-leb}
use Rattle.lemmas.specs.Extremes.{least}
use Rattle.lemmas.proofs.Extremes.{least_passes, least-le}
use Rattle.partitions.specs.Table.{thousandths_share, IsShare}

-- the least number whose thousandfold is n or more, by division
least-thousandths : (n : ℕ) → least (λ m. nat_le n (1000 * m)) n ≡ (n + 999) / 1000
least-thousandths n =
    let test : ℕ → Bool = λ m. nat_le n (1000 * m) in
    let quotient : ℕ = (n + 999) / 1000 in
    let passes : test (least test n) ≡ true =
    least_passes test n (le-leb n (1000 * n) (omega arith)) in
    let enough : n ≤ 1000 * least test n = leb-true n (1000 * least test n) passes in
    let below : least test n ≤ quotient =
    least-le test n quotient (le-leb n (1000 * quotient) (omega arith)) in
    omega (arith, enough, below)

-- a share, by division
pub thousandths_share-divides : (thousandths limit : ℕ) →
    thousandths_share thousandths limit ≡ max 1 ((limit * thousandths + 999) / 1000)
unfolding thousandths_share
thousandths_share-divides thousandths limit = ap (max 1) (least-thousandths (limit * thousandths))

-- it is at least 1, enough, and the least such number
pub thousandths_share_is : (thousandths limit : ℕ) →
    IsShare thousandths limit (thousandths_share thousandths limit)
thousandths_share_is thousandths limit =
    let divides = thousandths_share-divides thousandths limit in
    record {
      at_least_one = omega (arith, divides);
      enough = omega (arith, divides);
      least = λ m some enough. omega (arith, divides);
    }
