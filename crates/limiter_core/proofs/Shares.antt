-- A greater limit gives no smaller share.
use Rattle.std.proofs.Common.{◌≡◌, ℕ, ◌*◌, ◌≤◌, true, false, nat_le, List, Option, None, Some, slice_get, cond, ◌==◌, arith}
use Rattle.std.proofs.lemmas.Bool.{leb-true, le-leb}
use Rattle.std.proofs.lemmas.Nat.{mul-le}
use Rattle.lemmas.specs.Extremes.{least}
use Rattle.lemmas.proofs.Extremes.{least_passes, least-le}
use Rattle.partitions.specs.Table.{Row, thousandths_share, row_share, share}

-- what is enough for a number is enough for a lesser one
least-mono : (low high : ℕ) → low ≤ high →
    least (λ n. nat_le low (1000 * n)) low ≤ least (λ n. nat_le high (1000 * n)) high
least-mono low high below =
    let enough : ℕ = least (λ n. nat_le high (1000 * n)) high in
    let passes : nat_le high (1000 * enough) ≡ true =
    least_passes (λ n. nat_le high (1000 * n)) high (le-leb high (1000 * high) (omega arith)) in
    let fits : high ≤ 1000 * enough = leb-true high (1000 * enough) passes in
    least-le (λ n. nat_le low (1000 * n)) low enough
    (le-leb low (1000 * enough) (omega (arith, below, fits)))

thousandths_share-mono : (thousandths low high : ℕ) → low ≤ high →
    thousandths_share thousandths low ≤ thousandths_share thousandths high
unfolding thousandths_share
thousandths_share-mono thousandths low high below =
    let products : low * thousandths ≤ high * thousandths =
    mul-le low thousandths high thousandths below (omega arith) in
    omega (arith, least-mono (low * thousandths) (high * thousandths) products)

row_share-mono : (row : Option Row) (low high : ℕ) → low ≤ high →
    row_share row low ≤ row_share row high
row_share-mono None low high below = omega arith
row_share-mono (Some row) low high below = thousandths_share-mono row.thousandths low high below

pub share-mono : (rows : List Row) (place low high : ℕ) → low ≤ high →
    share rows place low ≤ share rows place high
share-mono rows place low high below =
    let at : ℕ → ℕ = row_share (slice_get rows place) in
    elim (place == 4) as (λ b. cond b 0 (at low) ≤ cond b 0 (at high)) [
      | true ↦ omega arith
      | false ↦ row_share-mono (slice_get rows place) low high below
    ]
