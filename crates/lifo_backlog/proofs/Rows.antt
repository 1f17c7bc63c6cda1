-- Worked rows, by computation over the definitions.
use Rattle.std.proofs.Common.{◌≡◌, ℕ, ◌<◌, ◌==◌, not, [], ◌∷◌, Some, length, find, filter, refl, arith}
use Rattle.partitions.specs.declared.part.Part.TheVariants.{Unknown}
use Rattle.lifo_backlog.specs.declared.waiter.Waiter.{Waiter}
use Rattle.lifo_backlog.specs.Waiters.{Waiters, most_waiters, newest_of}

room_for_10001_is_too_much : most_waiters < 10001
room_for_10001_is_too_much = omega arith

abbrev waiter : ℕ → Waiter
waiter number = record { number = number; part = Unknown }

-- room for two, in which 4 and 7 wait
abbrev both : Waiters
both = record { waiting = waiter 4 ∷ waiter 7 ∷ []; room = 2 }

-- so 9 is refused
two_fill_room_for_two : length both.waiting ≡ both.room
two_fill_room_for_two = refl

four_is_taken : find (λ one. one.number == 4) both.waiting ≡ Some (waiter 4)
four_is_taken = refl

seven_is_left :
    newest_of (filter (λ one. not (one.number == 4)) both.waiting) ≡ Some (waiter 7)
seven_is_left = refl
