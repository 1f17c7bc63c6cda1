-- What the marks of the entries say.
use Rattle.std.specs.Prelude.{◌≡◌, ◌↔◌, ℕ, ◌<◌, Bool, true, false, List, [], Some, take, slice_get, slice_index_or, slice_index, length}
use Rattle.std.specs.List.{list_any, position_or_len}
use Rattle.limiter_core.specs.declared.event.PermitFacts.{PermitFacts}
use Rattle.limiter_core.specs.declared.event.Entry.{Entry}
use Rattle.gate_ledgers.specs.Receipt.{Told}
use Rattle.audit.specs.Receipts.{is_named}
use Rattle.audit.specs.Permits.{ends, ended, IsHandedBefore}

-- at each number stands whether one of these receipts is of it
pub record AreNamed (size : ℕ) (receipts : List Told) (named : List Bool) : Type 0 where
  pub at : (number : ℕ) → number < size
      → slice_index_or named number false ≡ is_named receipts number

-- at each number stands the first ending that names it, or the entries' length where none does
pub record AreFirstEndings (entries : List Entry) (endings : List ℕ) : Type 0 where
  pub long : length endings ≡ length entries
  pub at : (number : ℕ) → number < length entries
      → slice_index endings number ≡ position_or_len (ends number) entries

-- the entry of this number ends the permit, which has the number of an entry, and no earlier one
-- names that number
pub record IsFirstEnding (entries : List Entry) (number : ℕ) (permit : PermitFacts) : Type 0 where
  pub entry : Entry
  pub here : slice_get entries number ≡ Some entry
  pub own : ended entry ≡ Some permit
  pub named : permit.number < length entries
  pub once : list_any (ends permit.number) (take number entries) ≡ false

-- and the permit is handed out before this number
pub record IsOwed (entries : List Entry) (number ending : ℕ) : Type 0 where
  pub permit : PermitFacts
  pub first : IsFirstEnding entries ending permit
  pub handed : IsHandedBefore entries number permit

-- those endings are marked
pub record AreOwed (entries : List Entry) (number : ℕ) (owed : List Bool) : Type 0 where
  pub long : length owed ≡ length entries
  pub at : (ending : ℕ) → (slice_index_or owed ending false ≡ true) ↔ IsOwed entries number ending

-- the marks before anything is looked at
pub record AreFresh (entries : List Entry)
    (named owed : List Bool) (endings : List ℕ) : Type 0 where
  pub long : length named ≡ length entries
  pub unnamed : AreNamed (length entries) [] named
  pub unowed : AreOwed entries 0 owed
  pub first : AreFirstEndings entries endings
