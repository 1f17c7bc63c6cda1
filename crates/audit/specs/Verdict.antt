-- The causes why an audit fails, in their order.
use Rattle.std.specs.Prelude.{◌≡◌, ◌≢◌, ℕ, Bool, true, false, List, Vec}
use Rattle.std.specs.declared.alloc.Global.{Global}
use Rattle.limiter_core.specs.declared.event.Entry.{Entry}
use Rattle.gate_ledgers.specs.Receipt.{Told}
use Rattle.audit.specs.declared.cause.Cause.{Cause}
use Rattle.audit.specs.declared.cause.Cause.TheVariants.{Memory, PassesMissing, Rolled, Strange, Order, Uncovered, Unmatched}
use Rattle.audit.specs.declared.judge.Calls.{Calls}
use Rattle.audit.specs.Firsts.{EachHas, IsFirstWithout, AllPlacesHave, IsFirstPlaceWithout}
use Rattle.audit.specs.Receipts.{StandsIn, IsInOrderIn, IsCovered, all_kept}
use Rattle.audit.specs.Permits.{IsMatched}

-- what is audited
pub record Audit : Type 0 where
  pub calls : Calls
  pub base : ℕ
  pub entries : List Entry
  pub kept : List (Vec Told Global)

abbrev pub audited : Calls → ℕ → List Entry → List (Vec Told Global) → Audit
audited calls base entries kept = record {
  calls = calls;
  base = base;
  entries = entries;
  kept = kept;
}

-- what is asked of it: all passes are there, it began with the first entry, each receipt stands and
-- is in order, and each entry is covered and matched
abbrev pub HasAllPasses : Audit → Type 0
HasAllPasses a = a.calls.book ≡ a.calls.sum

abbrev pub IsWhole : Audit → Type 0
IsWhole a = a.base ≡ 0

abbrev pub AllStand : Audit → Type 0
AllStand a = AllPlacesHave (StandsIn a.entries a.kept) a.kept

abbrev pub AllAreInOrder : Audit → Type 0
AllAreInOrder a = AllPlacesHave IsInOrderIn a.kept

abbrev pub AllAreCovered : Audit → Type 0
AllAreCovered a = EachHas (IsCovered (all_kept a.kept)) a.entries

abbrev pub AllAreMatched : Audit → Type 0
AllAreMatched a = EachHas (IsMatched a.entries) a.entries

-- no cause applies
pub record NoneApplies (a : Audit) : Type 0 where
  pub passes : HasAllPasses a
  pub whole : IsWhole a
  pub stand : AllStand a
  pub ordered : AllAreInOrder a
  pub covered : AllAreCovered a
  pub matched : AllAreMatched a

-- the cause applies, at the least list, place or number, and none before it does; of memory nothing
-- is said
abbrev pub IsFirstCause : Audit → Cause → Type 0
IsFirstCause a Memory = Unit {0}
IsFirstCause a (PassesMissing book sum) = (book ≡ a.calls.book) × (sum ≡ a.calls.sum) × (book ≢ sum)
IsFirstCause a (Rolled base) = HasAllPasses a × (base ≡ a.base) × (base ≢ 0)
IsFirstCause a (Strange list place) =
    HasAllPasses a × IsWhole a × IsFirstPlaceWithout (StandsIn a.entries a.kept) a.kept list place
IsFirstCause a (Order list place) =
    HasAllPasses a × IsWhole a × AllStand a × IsFirstPlaceWithout IsInOrderIn a.kept list place
IsFirstCause a (Uncovered number) =
    HasAllPasses a × IsWhole a × AllStand a × AllAreInOrder a
    × IsFirstWithout (IsCovered (all_kept a.kept)) a.entries number
IsFirstCause a (Unmatched number) =
    HasAllPasses a × IsWhole a × AllStand a × AllAreInOrder a × AllAreCovered a
    × IsFirstWithout (IsMatched a.entries) a.entries number

abbrev pub is_memory : Cause → Bool
is_memory Memory = true
is_memory _ = false

-- out of memory aside, an audit has one verdict at most
pub record HasOneVerdict (a : Audit) : Type 0 where
  pub cause : (one other : Cause) → is_memory one ≡ false → is_memory other ≡ false
      → IsFirstCause a one → IsFirstCause a other → one ≡ other
  pub none : (cause : Cause) → is_memory cause ≡ false → NoneApplies a → ¬ IsFirstCause a cause
