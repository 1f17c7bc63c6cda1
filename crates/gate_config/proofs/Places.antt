-- The places of the classes: those of all come to a sum, and one class more adds its own.
use Rattle.std.proofs.Common.{◌≡◌, refl, ap, ◌∙◌, ℕ, zero, suc, ◌+◌, ◌≤◌, ◌<◌, true, nat_lt, if◌then◌else◌, List, [], ◌∷◌, ◌++◌, length, map, take, drop, get_or, sum_by, arith}
use Rattle.std.proofs.lemmas.Bool.{lt-ltb}
use Rattle.std.proofs.lemmas.List.Sums.{sum_by_push}
use Rattle.partitions.specs.Table.{Row, placed, unplaced, with_places}
use Rattle.gate_config.specs.declared.class.ClassKeys.{ClassKeys}
use Rattle.gate_config.specs.ClassRows.{class_row, places_left}

abbrev pub places_sum : List Row → ℕ
places_sum rows = sum_by (λ (row : Row). row.places) rows

-- the places of a table of at most four rows are those of all rows
pub placed-sum : (rows : List Row) → length rows ≤ 4 → placed rows ≡ places_sum rows
placed-sum [] few = refl
placed-sum (a ∷ []) few = omega arith
placed-sum (a ∷ b ∷ []) few = omega arith
placed-sum (a ∷ b ∷ c ∷ []) few = omega arith
placed-sum (a ∷ b ∷ c ∷ d ∷ []) few = omega arith
placed-sum (a ∷ b ∷ c ∷ d ∷ e ∷ rows) few = absurd (omega (arith, few))

-- a class that takes no more than is left stays within what there may be
pub next_within : (backlog : ℕ) (rows : List Row) (row : Row) → backlog + places_sum rows ≤ 10000
    → row.places ≤ places_left backlog rows → backlog + places_sum (rows ++ row ∷ []) ≤ 10000
next_within backlog rows row within left =
    let more = sum_by_push (λ (row : Row). row.places) rows row in
    omega (arith, within, left, more)

-- the rows of classes, of which so many have their places
abbrev pub rows_placed : List ClassKeys → ℕ → List Row
rows_placed classes k = take k (map class_row classes) ++ unplaced (drop k (map class_row classes))

same_many : (classes : List ClassKeys) (k : ℕ) → length (rows_placed classes k) ≡ length classes
same_many [] zero = refl
same_many [] (suc k) = refl
same_many (class ∷ classes) zero = ap suc (same_many classes zero)
same_many (class ∷ classes) (suc k) = ap suc (same_many classes k)

next_placed : (classes : List ClassKeys) (k : ℕ) (d : ClassKeys) → k < length classes
    → with_places (rows_placed classes k) k (get_or classes k d).places
    ≡ rows_placed classes (suc k)
next_placed [] k d below = absurd (omega (arith, below))
next_placed (class ∷ classes) zero d below = refl
next_placed (class ∷ classes) (suc k) d below =
    ap (λ (more : List Row). class_row class ∷ more)
    (next_placed classes k d (omega (arith, below)))

-- one class more that has its places in a table
pub next_class : (classes : List ClassKeys) (table : List Row) (k : ℕ) (d : ClassKeys)
    → k < length classes → table ≡ rows_placed classes k
    → with_places table (if nat_lt k (length table) then k else 4) (get_or classes k d).places
    ≡ rows_placed classes (k + 1)
next_class classes table k d below is =
    let many = same_many classes k in
    let next : suc k ≡ k + 1 = omega arith in
    let within : nat_lt k (length (rows_placed classes k)) ≡ true =
    lt-ltb k (length (rows_placed classes k)) (omega (arith, below, many)) in
    rw (is, within) (next_placed classes k d below ∙ ap (rows_placed classes) next)
