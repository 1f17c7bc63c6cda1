-- What is wanted at a place of a line.
use Rattle.std.specs.Prelude.{ℕ, ◌^◌, ◌-◌, Bool, true, List, [], ◌∷◌, map, bytes_eq}
use Rattle.std.specs.List.{list_any}
use Rattle.std.specs.Borrow.{Bor}
use Rattle.script.specs.Words.{is_number}
use Rattle.script.specs.declared.place.RangeEnd.{RangeEnd}
use Rattle.script.specs.declared.place.RangeEnd.TheVariants.{At}
use Rattle.script.specs.declared.place.WordPlace.{WordPlace}
use Rattle.script.specs.declared.place.WordPlace.TheVariants.{Words, Number, Name, Class}

-- what is wanted at a place of a line: one of some words, a number in a range, of which an end may
-- be the number at an earlier place, the name of a class that the line brings, or that of a class
-- that is known
pub data Wanted : Type 0 where
  one_of : List (List ℕ) → Wanted
  number : RangeEnd → RangeEnd → Wanted
  name : Wanted
  class : Wanted

-- this word
abbrev pub word : List ℕ → Wanted
word w = one_of (w ∷ [])

-- a number from low to high, and any number
abbrev pub from_to : ℕ → ℕ → Wanted
from_to low high = number (At low) (At high)

abbrev pub any_number : Wanted
any_number = from_to 0 (2 ^ 64 - 1)

-- what a place of the code's forms wants, and what all places of one do
abbrev pub wanted_at : WordPlace → Wanted
wanted_at (Words ws) = one_of (map (λ w. w.now) ws.now)
wanted_at (Number n) = number n.low n.high
wanted_at Name = name
wanted_at Class = class

abbrev pub form_of : Bor (List WordPlace) → List Wanted
form_of form = map wanted_at form.now

-- a word may stand where this is wanted, whichever number it spells
abbrev pub fits : Wanted → List ℕ → Bool
fits (one_of ws) w = list_any (bytes_eq w) ws
fits (number low high) w = is_number w
fits name w = true
fits class w = true
