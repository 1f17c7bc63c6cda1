-- What it means that no cause applies.
use Rattle.std.proofs.Common.{◌≡◌, ℕ, zero, suc, ◌<◌, ◌≤◌, [], ◌∷◌, ◌++◌, true, List, length, take, get_or, sym, ap, ◌∙◌, subst, refl, arith, inl, inr}
use Rattle.std.specs.Prelude.{slice_get, Vec, Option, None, Some, MatchOption, IfNone}
use Rattle.std.specs.declared.alloc.Global.{Global}
use Rattle.std.proofs.lemmas.Bool.{cases_lt, cases_order, false≢true}
use Rattle.std.proofs.lemmas.Option.{slice_get_within, get_or_from_slice_get, same_Some, none-some}
use Rattle.std.proofs.lemmas.List.{length-take-le, get_or-take}
use Rattle.limiter_core.specs.declared.event.PermitFacts.{PermitFacts}
use Rattle.limiter_core.specs.declared.event.Entry.{Entry}
use Rattle.gate_ledgers.specs.Receipt.{Told}
use Rattle.audit.specs.Firsts.{EachHas}
use Rattle.audit.specs.Receipts.{IsInOrder, IsOfCall, all_kept}
use Rattle.audit.specs.Permits.{ends, ended, IsMatched}
use Rattle.audit.specs.Accepted.{NumbersRise, IsMatchedHistory, IsHistoryOf}
use Rattle.audit.specs.declared.cause.Cause.{Cause}
use Rattle.audit.specs.Verdict.{Audit, NoneApplies, IsFirstCause}
use Rattle.audit.proofs.FirstPlaces.{item_at}
use Rattle.audit.proofs.Counted.{times, times-named, times-lists}
use Rattle.audit.proofs.Endings.{list_any-false, ends-own}

-- numbers that rise from each to the next rise from each to each later one
pub NumbersRise-each : (receipts : List Told) → EachHas (IsInOrder receipts) receipts
    → NumbersRise receipts
NumbersRise-each receipts ordered place zero one other before here there = absurd (omega arith)
NumbersRise-each receipts ordered place (suc n) one other before here there =
    let within : suc n < length receipts = slice_get_within receipts (suc n) other there in
    let last = item_at receipts n (omega arith) in
    let step : last.0.number < other.number =
    ordered (suc n) other there n last.0 (omega arith) last.1 in
    elim (cases_lt place n) [
      | inl earlier ↦
          omega (
            arith,
            step,
            NumbersRise-each receipts ordered place n one last.0 earlier here last.1,
          )
      | inr late ↦
          let equal : place ≡ n = omega (arith, late, before) in
          let same : one ≡ last.0 =
          same_Some one last.0 (sym here ∙ ap (slice_get receipts) equal ∙ last.1) in
          subst (λ (r : Told). r.number < other.number) (sym same) step
    ]

-- two endings of one number are one
module _ (entries : List Entry) (matched : EachHas (IsMatched entries) entries) where
  once-before : (number later : ℕ) (one other : Entry) (permit named : PermitFacts) → number < later
      → slice_get entries number ≡ Some one → slice_get entries later ≡ Some other
      → ended one ≡ Some permit → ended other ≡ Some named → permit.number ≡ named.number → ⊥
  once-before number later one other permit named before here there ends_one ends_other same =
      let within : later < length entries = slice_get_within entries later other there in
      let long : length (take later entries) ≡ later = length-take-le later entries (omega arith) in
      let none =
      list_any-false (ends named.number) (take later entries) number one
      ((matched later other there).right named ends_other).once (omega arith) in
      let read : get_or (take later entries) number one ≡ one =
      get_or-take later entries number one before
      ∙ get_or_from_slice_get entries number one one here in
      let own : ends named.number one ≡ true =
      ap (λ (n : ℕ). ends n one) (sym same) ∙ ends-own one permit ends_one in
      false≢true (sym none ∙ ap (ends named.number) read ∙ own)

  pub IsMatchedHistory-each : IsMatchedHistory entries
  IsMatchedHistory-each = record {
    handed = λ number entry permit here own. ((matched number entry here).right permit own).handed;
    once =
        λ number later one other permit named here there ends_one ends_other same.
        elim (cases_order number later) [
          | inl equal ↦ equal
          | inr apart ↦ elim apart [
            | inl before ↦
                absurd
                (once-before number later one other permit named before here there
                ends_one ends_other same)
            | inr after ↦
                absurd
                (once-before later number other one named permit after there here
                ends_other ends_one (sym same))
          ]
        ];
    found = λ number entry here. (matched number entry here).found;
  }

-- what holds of each receipt of each list holds of all
EachHas-append : (P : Told → Type 0) (xs ys : List Told) → EachHas (λ n x. P x) xs
    → EachHas (λ n x. P x) ys → EachHas (λ n x. P x) (xs ++ ys)
EachHas-append P [] ys own rest n x here = rest n x here
EachHas-append P (y ∷ xs) ys own rest zero x here = own 0 x here
EachHas-append P (y ∷ xs) ys own rest (suc n) x here =
    EachHas-append P xs ys (λ m z there. own (suc m) z there) rest n x here

pub EachHas-all_kept : (P : Told → Type 0) (kept : List (Vec Told Global))
    → EachHas (λ n list. EachHas (λ place receipt. P receipt) list.items) kept
    → EachHas (λ place receipt. P receipt) (all_kept kept)
EachHas-all_kept P [] each n x here = absurd (none-some x here)
EachHas-all_kept P (v ∷ vs) each n x here =
    EachHas-append P v.items (all_kept vs) (each 0 v refl)
    (EachHas-all_kept P vs (λ m list there. each (suc m) list there)) n x here

-- so where no cause applies, the receipts are those of the history
pub IsHistoryOf-accepted : (a : Audit) → NoneApplies a → IsHistoryOf a.entries a.kept
IsHistoryOf-accepted a none = record {
  receipts =
      EachHas-all_kept (IsOfCall a.entries) a.kept
      (λ n list here place receipt there. (none.stand n list here place receipt there).call);
  calls = λ number entry here call.
      let some : 1 ≤ times number (all_kept a.kept) =
      times-named number (all_kept a.kept) (none.covered number entry here call) in
      let few : times number (all_kept a.kept) ≤ 1 =
      times-lists number [] a.kept (omega arith)
      (λ n list there place receipt at. (none.stand n list there place receipt at).anew) in
      omega (arith, some, few);
  rising = λ n list here. NumbersRise-each list.items (none.ordered n list here);
  matched = IsMatchedHistory-each a.entries none.matched;
}

pub accepted : (a : Audit) (answer : Option Cause)
    → MatchOption answer (NoneApplies a) (IsFirstCause a)
    → IfNone answer (IsHistoryOf a.entries a.kept)
accepted a None none = IsHistoryOf-accepted a none
accepted a (Some cause) first = tt
