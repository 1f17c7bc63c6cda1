-- Rows of which one gets places: names and shares stay, and so does the table.
use Rattle.std.proofs.Common.{◌≡◌, ℕ, zero, suc, ◌+◌, ◌≤◌, IsTrue, List, [], ◌∷◌, length, map, set, get_or, fold, refl, sym, ap, ◌∙◌, subst, arith, ◌++◌, take, drop, slice_get, ◌<◌}
use Rattle.partitions.specs.Table.{Row, is_name, is_thousandths, with_places, IsTable, row_places, unplaced}
use Rattle.partitions.specs.Stored.{row_of}
use Rattle.partitions.specs.declared.named_share.NamedShare.{NamedShare}

same_length : (rows : List Row) (p n : ℕ) → length (with_places rows p n) ≡ length rows
same_length [] p n = refl
same_length (row ∷ rows) zero n = refl
same_length (row ∷ rows) (suc p) n = ap suc (same_length rows p n)

same_name : (rows : List Row) (p n k : ℕ) (d : Row)
    → (get_or (with_places rows p n) k d).name ≡ (get_or rows k d).name
same_name [] p n k d = refl
same_name (row ∷ rows) zero n zero d = refl
same_name (row ∷ rows) zero n (suc k) d = refl
same_name (row ∷ rows) (suc p) n zero d = refl
same_name (row ∷ rows) (suc p) n (suc k) d = same_name rows p n k d

same_share : (rows : List Row) (p n k : ℕ) (d : Row)
    → (get_or (with_places rows p n) k d).thousandths ≡ (get_or rows k d).thousandths
same_share [] p n k d = refl
same_share (row ∷ rows) zero n zero d = refl
same_share (row ∷ rows) zero n (suc k) d = refl
same_share (row ∷ rows) (suc p) n zero d = refl
same_share (row ∷ rows) (suc p) n (suc k) d = same_share rows p n k d

abbrev added_up : ℕ → List Row → ℕ
added_up start rows = fold (λ (sum : ℕ) (row : Row). sum + row.thousandths) start rows

same_sum : (rows : List Row) (p n start : ℕ)
    → added_up start (with_places rows p n) ≡ added_up start rows
same_sum [] p n start = refl
same_sum (row ∷ rows) zero n start = refl
same_sum (row ∷ rows) (suc p) n start = same_sum rows p n (start + row.thousandths)

pub table_stays : (rows : List Row) (p n : ℕ) → IsTable rows → IsTable (with_places rows p n)
table_stays rows p n table = record {
  at_most_four = omega (arith, same_length rows p n, table.at_most_four);
  named = λ k d below. subst (λ (name : List ℕ). IsTrue (is_name name))
      (sym (same_name rows p n k d)) (table.named k d (omega (arith, same_length rows p n, below)));
  different = λ i j d before below same.
      table.different i j d before (omega (arith, same_length rows p n, below))
      (sym (same_name rows p n i d) ∙ same ∙ same_name rows p n j d);
  shares = λ k d below. subst (λ (share : ℕ). IsTrue (is_thousandths share))
      (sym (same_share rows p n k d))
      (table.shares k d (omega (arith, same_length rows p n, below)));
  within_whole = omega (arith, same_sum rows p n 0, table.within_whole);
}

-- a kept row that is replaced by itself with other places
pub row_placed : (kept : List NamedShare) (k n : ℕ) (one d : NamedShare)
    → row_of one ≡ record (row_of (get_or kept k d)) { places = n }
    → map row_of (set kept k one) ≡ with_places (map row_of kept) k n
row_placed [] k n one d is = refl
row_placed (first ∷ kept) zero n one d is = ap (λ (row : Row). row ∷ map row_of kept) is
row_placed (first ∷ kept) (suc k) n one d is =
    ap (λ (rows : List Row). row_of first ∷ rows) (row_placed kept k n one d is)

-- no place beyond the rows is changed
pub none_placed : (rows : List Row) (k n : ℕ) → length rows ≤ k → with_places rows k n ≡ rows
none_placed [] k n beyond = refl
none_placed (row ∷ rows) zero n beyond = absurd (omega (arith, beyond))
none_placed (row ∷ rows) (suc k) n beyond =
    ap (λ (rest : List Row). row ∷ rest) (none_placed rows k n (omega (arith, beyond)))

-- one row more that takes over its places
pub next_placed : (rows rest : List Row) (k n : ℕ) → k < length rows
    → n ≡ row_places (slice_get rows k)
    → with_places (take k rows ++ unplaced (drop k rows) ++ rest) k n
    ≡ take (suc k) rows ++ unplaced (drop (suc k) rows) ++ rest
next_placed [] rest k n below is = absurd (omega (arith, below))
next_placed (row ∷ rows) rest zero n below is =
    ap (λ (places : ℕ). record row { places = places } ∷ (unplaced rows ++ rest)) is
next_placed (row ∷ rows) rest (suc k) n below is =
    ap (λ (more : List Row). row ∷ more) (next_placed rows rest k n (omega (arith, below)) is)
