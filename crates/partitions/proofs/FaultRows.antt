-- Worked rows of the faults of a table and of its shares, by computation over the definitions.
use Rattle.std.specs.Prelude.{◌≡◌, ℕ, List, [], ◌∷◌, Some, None, codes, refl}
use Rattle.lemmas.specs.Extremes.{least}
use Rattle.partitions.specs.Table.{Row, share, thousandths_share}
use Rattle.partitions.specs.Faults.{fault_of}
use Rattle.partitions.specs.declared.fault.TableFault.TheVariants.{Empty, Name, Twice, Percent, Over100, TooMany}

abbrev row : List ℕ → ℕ → Row
row name thousandths = record { name = name; thousandths = thousandths; places = 0 }

no_row_is_refused : fault_of [] ≡ Some Empty
no_row_is_refused = refl

-- five rows are too many, whatever is wrong with each of them
abbrev nameless : Row
nameless = row [] 0

five_rows_are_too_many :
    fault_of (nameless ∷ nameless ∷ nameless ∷ nameless ∷ nameless ∷ []) ≡ Some TooMany
five_rows_are_too_many = refl

unknown_is_no_name : fault_of (row (codes "unknown") 10 ∷ []) ≡ Some Name
unknown_is_no_name = refl

a_wrong_name_comes_before_a_wrong_share : fault_of (row (codes "unknown") 0 ∷ []) ≡ Some Name
a_wrong_name_comes_before_a_wrong_share = refl

a_name_twice_is_refused : fault_of (row (codes "a") 600 ∷ row (codes "a") 100 ∷ []) ≡ Some Twice
a_name_twice_is_refused = refl

a_name_twice_comes_before_a_wrong_share :
    fault_of (row (codes "a") 600 ∷ row (codes "a") 0 ∷ []) ≡ Some Twice
a_name_twice_comes_before_a_wrong_share = refl

a_share_of_nothing_is_refused : fault_of (row (codes "a") 0 ∷ []) ≡ Some Percent
a_share_of_nothing_is_refused = refl

a_wrong_share_comes_before_the_sum :
    fault_of (row (codes "a") 600 ∷ row (codes "b") 1001 ∷ []) ≡ Some Percent
a_wrong_share_comes_before_the_sum = refl

shares_above_the_whole_are_refused :
    fault_of (row (codes "a") 600 ∷ row (codes "b") 410 ∷ []) ≡ Some Over100
shares_above_the_whole_are_refused = refl

-- of two rows at fault the first is named
the_first_row_comes_first :
    fault_of (row (codes "a") 1001 ∷ row (codes "A") 100 ∷ []) ≡ Some Percent
the_first_row_comes_first = refl

shares_of_the_whole_are_taken : fault_of (row (codes "a") 600 ∷ row (codes "b") 400 ∷ []) ≡ None
shares_of_the_whole_are_taken = refl

-- 300 thousandths of a limit, rounded up
abbrev of_limit : ℕ → ℕ
of_limit limit = share (row (codes "a") 300 ∷ []) 0 limit

a_share_is_at_least_one : of_limit 1 ≡ 1
unfolding thousandths_share least
a_share_is_at_least_one = refl

a_share_of_three : of_limit 3 ≡ 1
unfolding thousandths_share least
a_share_of_three = refl

a_share_is_rounded_up : of_limit 4 ≡ 2
unfolding thousandths_share least
a_share_is_rounded_up = refl

a_share_of_the_greatest_limit : of_limit 10000 ≡ 3000
unfolding thousandths_share least
a_share_of_the_greatest_limit = refl
