-- How the room of a backlog is divided: each partition has places of its own, and all others are
-- everybody's.
use Rattle.std.specs.Prelude.{ℕ, ◌-◌, ◌==◌, Bool, ◌||◌, nat_lt, List, count_by, sum_by}
use Rattle.partitions.specs.Table.{Row, place_of, places, own_places, placed}
use Rattle.lifo_backlog.specs.declared.waiter.Waiter.{Waiter}

-- how many of those who wait are of a partition's place among the five
abbrev pub waiting_at : List Row → List Waiter → ℕ → ℕ
waiting_at rows waiting p = count_by (λ (w : Waiter). place_of rows w.part == p) waiting

-- how many wait in everybody's places, where so many of each partition wait: those past its own
-- places. So its own are taken first, and who is of no partition has everybody's alone
abbrev pub in_everybodys : List Row → (ℕ → ℕ) → ℕ
in_everybodys rows waiting = sum_by (λ p. waiting p - own_places rows p) places

-- how many places are everybody's: the room that is no partition's own
abbrev pub everybodys : List Row → ℕ → ℕ
everybodys rows room = room - placed rows

-- A PLACE IS FREE for one of a partition: fewer of it wait than its own places, or fewer wait in
-- everybody's places than there are
abbrev pub has_place : List Row → ℕ → (ℕ → ℕ) → ℕ → Bool
has_place rows room waiting p =
    nat_lt (waiting p) (own_places rows p)
    || nat_lt (in_everybodys rows waiting) (everybodys rows room)
