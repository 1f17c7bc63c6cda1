-- The same text, from the last stretch of a journal that rolls and the permits that are open.
use Rattle.std.specs.Prelude.{◌≡◌, ℕ, ◌+◌, false, List, [], ◌∷◌, length, drop, Option, None, Some}
use Rattle.std.specs.Prelude.{if◌then◌else◌}
use Rattle.limit_laws.specs.Algorithm.{Algorithm}
use Rattle.limiter_core.specs.declared.event.Event.{Event}
use Rattle.limiter_core.specs.declared.event.Event.TheVariants.{End}
use Rattle.limiter_core.specs.declared.event.Entry.{Entry}
use Rattle.limiter_core.specs.Bound.{IsSound}
use Rattle.limiter_core.specs.Handed.{IsHanded, open_after}
use Rattle.gate_journal.specs.Image.{Standing, image_of}
use Rattle.gate_journal.specs.Journal.{Journal, gate, next_number, is_over, answered}
use Rattle.gate_journal.specs.Rolling.{IsLastStretch, after}
use Rattle.script.specs.Words.{words}
use Rattle.script.specs.Line.{line_of}
use Rattle.load_driver.specs.declared.asked.SessionCall.{SessionCall}
use Rattle.load_driver.specs.declared.session.Added.{Added}
use Rattle.load_driver.specs.declared.asked.SessionCall.TheVariants as asked
use Rattle.load_driver.specs.Replay.{Told, Open, open_of, line_asks, by_asks}
use Rattle.load_driver.specs.Session.{Session, open_in}

-- o: a first opening, t: all entries since, j: the last stretch of them
pub record Holds {S : Type 0}
    (rules : Algorithm S) (o : Standing S) (t : List Entry) (j : Journal S) : Type 0 where
  pub stretch : IsLastStretch rules (image_of o) t j
  pub handed : IsHanded (gate rules j) (image_of o) t
  pub sound : IsSound (gate rules j) (image_of o)
  pub short : j.is_rolling ≡ false → length t ≡ length j.entries

-- A SESSION STANDS FOR a journal that never rolled: its own journal is the last stretch of that
-- one, and the same permits are open
pub record StandsFor {S : Type 0} (rules : Algorithm S) (whole : Journal S) (s : Session S)
    : Type 0 where
  pub holds : Holds rules whole.opening whole.entries s.journal
  pub opens : (n : ℕ) → open_in s n ≡ open_of whole n
  pub same : whole ≡ record s.journal { opening = whole.opening; entries = whole.entries }

-- the entries that an answer added, by their place among those that are held
abbrev pub told_at : List Entry → Option Added → List Entry
told_at entries None = []
told_at entries (Some added) = drop added.place entries

-- an ending names an open permit
abbrev pub IsOpen : Open → Event → Type 0
IsOpen by_number (End permit outcome now) = by_number permit.number ≡ Some permit
IsOpen by_number _ = Unit {0}

-- the open permits after an answer, whose call has this number
abbrev pub opened_by : Open → ℕ → List Entry → Open
opened_by by_number number [] = by_number
opened_by by_number number (call ∷ told) = open_after by_number number call

-- and after an event: an exhausted one opens and ends nothing
abbrev pub open_then : {S : Type 0} → Algorithm S → Journal S → Open → Event → Open
open_then rules j by_number e =
    if is_over rules j e then by_number
    else opened_by by_number (next_number j) (answered rules j e)

-- the last stretch, and the open permits, after what is asked
abbrev pub stretch_after : {S : Type 0} → Algorithm S → Journal S → SessionCall → Journal S
stretch_after rules j asked.Nothing = j
stretch_after rules j asked.NotOpen = j
stretch_after rules j (asked.Event e) = after rules j e

abbrev pub open_asked : {S : Type 0} → Algorithm S → Journal S → Open → SessionCall → Open
open_asked rules j by_number asked.Nothing = by_number
open_asked rules j by_number asked.NotOpen = by_number
open_asked rules j by_number (asked.Event e) = open_then rules j by_number e

-- the text of these lines, the first of which has this number
abbrev pub stretch_text : {S : Type 0}
    → Algorithm S → Journal S → Open → ℕ → List (List ℕ) → Told
stretch_text rules j by_number number [] = record { out = []; fault = None }
stretch_text rules j by_number number (line ∷ rest) =
    by_asks rules j number (line_asks j.rows by_number (line_of (words line)))
    (λ a. stretch_text rules (stretch_after rules j a) (open_asked rules j by_number a)
    (number + 1) rest)
