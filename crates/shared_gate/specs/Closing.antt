-- What a gate tells as it is closed.
use Rattle.std.specs.Prelude.{◌≡◌, ℕ, ◌+◌, ◌≤◌, Bool, true, false, List, Vec, All, drop, length}
use Rattle.std.specs.Prelude.{sum_by}
use mathlib.Core.List.{IsPrefix}
use Rattle.std.specs.declared.alloc.Global.{Global}
use Rattle.limit_laws.specs.Algorithm.{Algorithm}
use Rattle.limiter_core.specs.declared.event.Entry.{Entry}
use Rattle.limiter_core.specs.History.{Gate}
use Rattle.limiter_core.specs.Legal.{IsLegal}
use Rattle.limiter_core.specs.Bound.{IsSound}
use Rattle.gate_journal.specs.Image.{Standing, image_of}
use Rattle.gate_ledgers.specs.Making.{Making}
use Rattle.gate_ledgers.specs.Receipt.{Told}
use Rattle.gate_history.specs.Book.{IsUnasked, calls_of}
use Rattle.audit.specs.declared.cause.Cause.{Cause}
use Rattle.audit.specs.declared.cause.Cause.TheVariants.{PassesMissing}
use Rattle.audit.specs.Verdict.{audited, IsFirstCause}
use Rattle.gate_word.specs.Rule.{times}
use Rattle.shared_gate.specs.Calls.{Pass}

-- the limiter of a gate that is made so
abbrev pub limiter_of : {S : Type 0} → Algorithm S → Making → Gate S
limiter_of rules m =
    record { rules = rules; rows = m.rows; room = m.room; promote = m.promote }

-- the calls that were made by these passes
abbrev pub calls_by : List Pass → ℕ
calls_by passes = sum_by (λ pass. pass.count) passes

-- how many of them have this number
abbrev pub times_by : ℕ → List Pass → ℕ
times_by number passes = sum_by (λ pass. times number pass.own) passes

-- EACH CALL IS ONE PASS'S: no two calls by these passes have the same number
abbrev pub HaveOwnCalls : List Pass → Type 0
HaveOwnCalls passes = (number : ℕ) → times_by number passes ≤ 1

-- a history that a gate kept which was made so: its first entry has the opening's next number, and
-- the entries are legal, from an opening that is sound. It begins with number 0 where the gate
-- doesn't roll, and before number 0 nothing was asked
pub record IsKept {S : Type 0} (rules : Algorithm S) (m : Making) (o : Standing S) (base : ℕ)
    (entries : List Entry) : Type 0 where
  pub first : base ≡ o.next
  pub whole : m.is_rolling ≡ false → base ≡ 0
  pub unasked : base ≡ 0 → IsUnasked rules m.limit o
  pub sound : IsSound (limiter_of rules m) (image_of o)
  pub legal : IsLegal (limiter_of rules m) (image_of o) entries

-- the history is the end of a gate's log, from the number of its first entry on: all entries since
-- nothing was asked, which are legal
pub record IsEndOf {S : Type 0} (rules : Algorithm S) (m : Making) (log : List Entry) (base : ℕ)
    (entries : List Entry) : Type 0 where
  pub origin : Standing S
  pub unasked : IsUnasked rules m.limit origin
  pub legal : IsLegal (limiter_of rules m) (image_of origin) log
  pub long : length log ≡ base + length entries
  pub ends : drop base log ≡ entries

-- why an audit fails, where these passes were handed in: the cause is the first that applies to the
-- history and the lists, by the calls of the gate's log. Of that each pass knew a beginning, the
-- history is its end, and it has no fewer calls than were made by the passes
pub record FailsBy {S : Type 0} (rules : Algorithm S) (m : Making) (passes : List Pass) (base : ℕ)
    (entries : List Entry) (kept : List (Vec Told Global)) (cause : Cause) : Type 0 where
  pub log : List Entry
  pub end : IsEndOf rules m log base entries
  pub begun : All (λ pass. IsPrefix pass.log log) passes
  pub enough : calls_by passes ≤ calls_of log
  pub first : IsFirstCause
      (audited (record { book = calls_of log; sum = calls_by passes }) base entries kept) cause

-- passes are missing by this cause
abbrev pub is_missing : Cause → Bool
is_missing (PassesMissing book sum) = true
is_missing _ = false
