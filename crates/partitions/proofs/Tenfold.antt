-- Shares in percent and in thousandths.
use Rattle.std.proofs.Common.{◌≡◌, ℕ, ◌*◌, ◌≤◌, max, nat_le, Bool, ◌∙◌, ap, arith}
use Rattle.std.proofs.lemmas.Bool.{leb-true, le-leb}
use Rattle.lemmas.specs.Extremes.{least}
use Rattle.lemmas.proofs.Extremes.{least_passes, least-le}
use Rattle.partitions.specs.Table.{thousandths_share}
use Rattle.partitions.specs.Percent.{percent_share}

-- the least number whose thousandfold is ten times n or more is the least whose hundredfold is n
-- or more
tenfold : (n : ℕ) →
    least (λ m. nat_le (10 * n) (1000 * m)) (10 * n) ≡ least (λ m. nat_le n (100 * m)) n
tenfold n =
    let by_thousands : ℕ → Bool = λ m. nat_le (10 * n) (1000 * m) in
    let by_hundreds : ℕ → Bool = λ m. nat_le n (100 * m) in
    let one : ℕ = least by_thousands (10 * n) in
    let other : ℕ = least by_hundreds n in
    let one_passes : 10 * n ≤ 1000 * one =
    leb-true (10 * n) (1000 * one)
    (least_passes by_thousands (10 * n) (le-leb (10 * n) (1000 * (10 * n)) (omega arith))) in
    let other_passes : n ≤ 100 * other =
    leb-true n (100 * other) (least_passes by_hundreds n (le-leb n (100 * n) (omega arith))) in
    let one_least : one ≤ other =
    least-le by_thousands (10 * n) other
    (le-leb (10 * n) (1000 * other) (omega (arith, other_passes))) in
    let other_least : other ≤ one =
    least-le by_hundreds n one (le-leb n (100 * one) (omega (arith, one_passes))) in
    omega (arith, one_least, other_least)

-- ten times a percentage, in thousandths, gives the share of the percentage
pub percent_shares_stay : (percent limit : ℕ) →
    thousandths_share (10 * percent) limit ≡ percent_share percent limit
unfolding thousandths_share percent_share
percent_shares_stay percent limit =
    let tens : limit * (10 * percent) ≡ 10 * (limit * percent) = omega arith in
    ap (λ (n : ℕ). max 1 (least (λ m. nat_le n (1000 * m)) n)) tens
    ∙ ap (max 1) (tenfold (limit * percent))
