-- The log of a gate: all entries of its book from the first on, however often that rolled.
use Rattle.std.specs.Prelude.{◌≡◌, ℕ, List, ◌++◌, length}
use Rattle.limit_laws.specs.Algorithm.{Algorithm}
use Rattle.limiter_core.specs.declared.event.Entry.{Entry}
use Rattle.limiter_core.specs.History.{Gate, Image}
use Rattle.limiter_core.specs.Counting.{counters_after}
use Rattle.limiter_core.specs.Legal.{IsLegal}
use Rattle.gate_journal.specs.Image.{Standing, image_of}
use Rattle.gate_journal.specs.Journal.{Journal, gate, opening}
use Rattle.gate_journal.specs.Rolling.{IsLastStretch}
use Rattle.gate_ledgers.specs.Course.{Change}
use Rattle.gate_history.specs.Book.{Book, IsUnasked, calls_of}

-- what a gate calls legal: at least what is legal from an image,
abbrev pub MeansAtLeast : {S : Type 0} → Gate S → Image S → (List Entry → Type 0) → Type 0
MeansAtLeast g o legal = (h : List Entry) → IsLegal g o h → legal h

-- and at most that
abbrev pub MeansAtMost : {S : Type 0} → Gate S → Image S → (List Entry → Type 0) → Type 0
MeansAtMost g o legal = (h : List Entry) → legal h → IsLegal g o h

-- what is legal from a journal's opening, of a gate whose book begins with that journal
abbrev pub IsLegalFrom : {S : Type 0} → Algorithm S → Journal S → List Entry → Type 0
IsLegalFrom rules j h = IsLegal (gate rules j) (opening j) h

-- such a gate calls legal at least what is
abbrev pub CallsLegal : {S : Type 0} → Algorithm S → Journal S → (List Entry → Type 0) → Type 0
CallsLegal rules j legal = (h : List Entry) → IsLegalFrom rules j h → legal h

-- every log: for gates of whose log nothing is asked
abbrev pub CallsAllLegal : (List Entry → Type 0) → Type 0
CallsAllLegal legal = (h : List Entry) → legal h

-- THE BOOK BEHIND A LOG: its entries are the last of the log, and its last stretch, from where
-- nothing was asked and from where the gate calls legal what is; its calls are those of the log,
-- and so is what it has counted
pub record IsBehind {S : Type 0} (rules : Algorithm S) (limit : List Change → ℕ)
    (legal : List Entry → Type 0) (log : List Entry) (b : Book S) : Type 0 where
  pub origin : Standing S
  pub unasked : IsUnasked rules limit origin
  pub means : MeansAtLeast (gate rules b.journal) (image_of origin) legal
  pub stretch : IsLastStretch rules (image_of origin) log b.journal
  pub earlier : List Entry
  pub ends : log ≡ earlier ++ b.journal.entries
  pub first : b.journal.opening.next ≡ length earlier
  pub calls : b.tally.calls ≡ calls_of log
  pub counted : counters_after b.journal.opening.counters b.journal.entries
      ≡ counters_after origin.counters log
