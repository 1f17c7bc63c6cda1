-- What an accepted audit means.
use Rattle.std.specs.Prelude.{◌≡◌, ℕ, ◌<◌, ◌==◌, true, false, List, Some, slice_get, count_by, Vec}
use Rattle.std.specs.declared.alloc.Global.{Global}
use Rattle.limiter_core.specs.declared.event.PermitFacts.{PermitFacts}
use Rattle.limiter_core.specs.declared.event.Entry.{Entry}
use Rattle.gate_ledgers.specs.Receipt.{Told}
use Rattle.audit.specs.Firsts.{EachHas}
use Rattle.limiter_core.specs.History.{is_call}
use Rattle.audit.specs.Receipts.{IsOfCall, all_kept}
use Rattle.audit.specs.Permits.{ended, is_lost, IsHandedBefore}

-- the numbers of these receipts rise, from each to each later one
abbrev pub NumbersRise : List Told → Type 0
NumbersRise receipts =
    (place later : ℕ) (one other : Told) → place < later → slice_get receipts place ≡ Some one
    → slice_get receipts later ≡ Some other → one.number < other.number

-- a number is that of just one of these receipts
abbrev pub IsNamedOnce : List Told → ℕ → Type 0
IsNamedOnce receipts number = count_by (λ receipt. receipt.number == number) receipts ≡ 1

-- each ending ends a permit that an earlier entry handed out just so, no two endings name the same
-- number, and no number is lost
pub record IsMatchedHistory (entries : List Entry) : Type 0 where
  pub handed : (number : ℕ) (entry : Entry) (permit : PermitFacts)
      → slice_get entries number ≡ Some entry → ended entry ≡ Some permit
      → IsHandedBefore entries number permit
  pub once : (number later : ℕ) (one other : Entry) (permit named : PermitFacts)
      → slice_get entries number ≡ Some one → slice_get entries later ≡ Some other
      → ended one ≡ Some permit → ended other ≡ Some named → permit.number ≡ named.number
      → number ≡ later
  pub found : EachHas (λ number entry. is_lost entry ≡ false) entries

-- the receipts are those of the calls of this history, each call's once; the numbers of each list
-- rise; and the history is matched
pub record IsHistoryOf (entries : List Entry) (kept : List (Vec Told Global)) : Type 0 where
  pub receipts : EachHas (λ place receipt. IsOfCall entries receipt) (all_kept kept)
  pub calls : (number : ℕ) (entry : Entry) → slice_get entries number ≡ Some entry
      → is_call entry ≡ true → IsNamedOnce (all_kept kept) number
  pub rising : EachHas (λ list receipts. NumbersRise receipts.items) kept
  pub matched : IsMatchedHistory entries
