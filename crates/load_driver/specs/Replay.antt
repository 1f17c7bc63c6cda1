-- The text of a script once its settings are over: line by line, each answered after all entries so
-- far, however often the history rolled since.
use Rattle.std.specs.Prelude.{ℕ, ◌+◌, true, false, List, [], ◌∷◌, ◌++◌, codes, Option, None, Some, ok_or, Result, Ok, Err, if◌then◌else◌}
use Rattle.limit_laws.specs.Algorithm.{Algorithm}
use Rattle.partitions.specs.declared.part.Part.{Part}
use Rattle.partitions.specs.declared.part.Part.TheVariants.{Unknown}
use Rattle.partitions.specs.Table.{Row}
use Rattle.limiter_core.specs.declared.event.Outcome.{Outcome}
use Rattle.limiter_core.specs.declared.event.PermitFacts.{PermitFacts}
use Rattle.limiter_core.specs.declared.event.Event.{Event}
use Rattle.limiter_core.specs.declared.event.Event.TheVariants as event
use Rattle.limiter_core.specs.declared.event.Entry.{Entry}
use Rattle.limiter_core.specs.Open.{open_permit}
use Rattle.gate_journal.specs.Journal.{Journal, next_number, is_over, answered}
use Rattle.script.specs.declared.fault_kind.FaultKind.{FaultKind}
use Rattle.script.specs.declared.fault_kind.FaultKind.TheVariants.{Late, Class}
use Rattle.script.specs.declared.line_fault.LineFault.{LineFault}
use Rattle.script.specs.declared.line.Line.TheVariants as line
use Rattle.script.specs.declared.request.Request.{Request}
use Rattle.script.specs.declared.request.Request.TheVariants.{Acquire, Bypass, End, Claim, GiveUp, SetLimit, Reset, Look}
use Rattle.script.specs.Words.{words, result_map}
use Rattle.script.specs.Classes.{part_of}
use Rattle.script.specs.Line.{Said, line_of}
use Rattle.load_driver.specs.declared.asked.SessionCall.{SessionCall}
use Rattle.load_driver.specs.declared.asked.SessionCall.TheVariants as asked
use Rattle.load_driver.specs.Text.{entry_text}

-- what a script is answered: a text, and the line at fault that ended it, if one did
pub record Told : Type 0 where
  pub out : List ℕ
  pub fault : Option LineFault

-- a text before what is told
abbrev pub after_text : List ℕ → Told → Told
after_text text told = record { out = text ++ told.out; fault = told.fault }

-- the lines of entries, the first of which has this number
abbrev pub entries_text : List Row → ℕ → List Entry → List ℕ
entries_text rows number [] = []
entries_text rows number (e ∷ es) = entry_text rows number e ++ entries_text rows (number + 1) es

-- what a line asks, or why it is at fault
abbrev pub Asks : Type 0
Asks = Result SessionCall FaultKind

-- what is asked about the part of a class
abbrev pub about : List Row → List ℕ → (Part → Event) → Asks
about rows class make =
    result_map (λ part. asked.Event (make part)) (ok_or (part_of rows class) Class)

-- an ending is an event only where its number names an open permit
abbrev pub ending_of : Option PermitFacts → Outcome → ℕ → SessionCall
ending_of None outcome now = asked.NotOpen
ending_of (Some permit) outcome now = asked.Event (event.End permit outcome now)

-- the open permit of each number; and those after all entries of a journal
abbrev pub Open : Type 0
Open = ℕ → Option PermitFacts

abbrev pub open_of : {S : Type 0} → Journal S → Open
open_of j = open_permit j.opening.next j.entries

-- what a request asks
abbrev pub request_asks : List Row → Open → Request (List ℕ) → Asks
request_asks rows by_number (Acquire class wait now) =
    about rows class (λ part. event.Acquire part false wait now)
request_asks rows by_number (Bypass now) = Ok (asked.Event (event.Acquire Unknown true false now))
request_asks rows by_number (End number outcome now) = Ok (ending_of (by_number number) outcome now)
request_asks rows by_number (Claim number) = Ok (asked.Event (event.Claim number))
request_asks rows by_number (GiveUp number) = Ok (asked.Event (event.GiveUp number))
request_asks rows by_number (SetLimit n now) = Ok (asked.Event (event.SetLimit n now))
request_asks rows by_number (Reset now) = Ok (asked.Event (event.Reset now))
request_asks rows by_number (Look class) = about rows class event.Look

-- what a line asks by what it says: a setting comes too late here
abbrev pub line_asks : List Row → Open → Said → Asks
line_asks rows by_number (Ok None) = Ok asked.Nothing
line_asks rows by_number (Ok (Some (line.Setting setting))) = Err Late
line_asks rows by_number (Ok (Some (line.Request request))) = request_asks rows by_number request
line_asks rows by_number (Err why) = Err why

-- a fact of the event that is asked, if one is
abbrev pub IfEvent : SessionCall → (Event → Type 0) → Type 0
IfEvent asked.Nothing P = Unit {0}
IfEvent asked.NotOpen P = Unit {0}
IfEvent (asked.Event e) P = P e

-- the entries that an event adds to a journal: none where it is exhausted
abbrev pub added : {S : Type 0} → Algorithm S → Journal S → Event → List Entry
added rules j e = if is_over rules j e then [] else answered rules j e

-- the journal after what is asked
abbrev pub after_asked : {S : Type 0} → Algorithm S → Journal S → SessionCall → Journal S
after_asked rules j asked.Nothing = j
after_asked rules j asked.NotOpen = j
after_asked rules j (asked.Event e) = record j { entries = j.entries ++ added rules j e }

-- the entries that what is asked adds
abbrev pub told_of : {S : Type 0} → Algorithm S → Journal S → SessionCall → List Entry
told_of rules j asked.Nothing = []
told_of rules j asked.NotOpen = []
told_of rules j (asked.Event e) = added rules j e

-- what is written of it
abbrev pub asked_text : {S : Type 0} → Algorithm S → Journal S → SessionCall → List ℕ
asked_text rules j asked.Nothing = []
asked_text rules j asked.NotOpen = codes "- not open\n"
asked_text rules j (asked.Event e) =
    if is_over rules j e then codes "- exhausted\n"
    else entries_text j.rows (next_number j) (answered rules j e)

-- by what a line asks: the text of it and of the lines after it, or its fault
abbrev pub by_asks : {S : Type 0} → Algorithm S → Journal S → ℕ → Asks → (SessionCall → Told) → Told
by_asks rules j number (Ok a) after = after_text (asked_text rules j a) (after a)
by_asks rules j number (Err why) after =
    record { out = []; fault = Some (record { line = number; why = why }) }

-- THE TEXT of these lines, the first of which has this number: a line at fault ends it
abbrev pub lines_text : {S : Type 0} → Algorithm S → Journal S → ℕ → List (List ℕ) → Told
lines_text rules j number [] = record { out = []; fault = None }
lines_text rules j number (line ∷ rest) =
    by_asks rules j number (line_asks j.rows (open_of j) (line_of (words line)))
    (λ a. lines_text rules (after_asked rules j a) (number + 1) rest)
