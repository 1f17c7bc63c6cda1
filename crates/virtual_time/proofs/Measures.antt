-- Each action that is done lowers the number of those that can still come.
use Rattle.std.proofs.Common.{◌≡◌, ℕ, ◌+◌, ◌<◌, ◌≤◌, true, List, [], ◌∷◌, Option, None, Some}
use Rattle.std.proofs.Common.{ap, arith}
use Rattle.std.proofs.Common.{Less, Equal, Greater}
use Rattle.std.specs.Prelude.{cond}
use Rattle.std.specs.declared.cmp.Ordering.{Ordering}
use Rattle.std.specs.Ordering.{match_ordering}
use Rattle.std.specs.List.{sum_by}
use Rattle.std.specs.BTreeMap.{is_at}
use Rattle.std.specs.BTreeSet as tree
use Rattle.std.specs.Set.{remove_key}
use Rattle.std.proofs.lemmas.List.Sorted.{IsPermutation-refl}
use Rattle.std.proofs.lemmas.List.Sums.{sum_by-cons}
use Rattle.std.proofs.lemmas.Map.Made.{sum_by-remove_same}
use Rattle.trace.specs.declared.arrival.Arrival.{Arrival}
use Rattle.virtual_time.specs.declared.action.Action.{Action}
use Rattle.virtual_time.specs.declared.action.Step.{Step}
use Rattle.virtual_time.specs.declared.calendar.Calendar.{Calendar}
use Rattle.virtual_time.specs.Pending.{left}
use Rattle.virtual_time.specs.Calendar.{weight, actions_left, Takes, Joins}
use Rattle.virtual_time.proofs.Orders.{derived, actions_decide}
use Rattle.virtual_time.proofs.Pendings.{left_lighter}

-- an action that joins adds its weight at most
pub joined_weight : (order : Action → Action → Ordering) (ks : List Action) (d : Action)
    → sum_by weight (tree.insert_key order ks d) ≤ weight d + sum_by weight ks
joined_weight order [] d = omega arith
joined_weight order (k ∷ ks) d = by (order d k) (joined_weight order ks d)
  where
    by : (o : Ordering) → sum_by weight (tree.insert_key order ks d)
        ≤ weight d + sum_by weight ks
        → sum_by weight (match_ordering o (d ∷ k ∷ ks) (k ∷ ks) (k ∷ tree.insert_key order ks d))
        ≤ weight d + sum_by weight (k ∷ ks)
    by Less h = omega (arith, sum_by-cons weight d (k ∷ ks))
    by Equal h = omega arith
    by Greater h = omega (
      arith,
      h,
      sum_by-cons weight k ks,
      sum_by-cons weight k
          (tree.insert_key order ks d),
    )

-- an action that leaves takes its weight away
pub left_weight : (old new : tree.BTreeSet Action) (d : Action) → true ≡ tree.contains derived old d
    → remove_key (is_at (derived d)) old.keys ≡ new.keys
    → actions_left old ≡ weight d + actions_left new
left_weight old new d had gone =
    let left = sum_by-remove_same weight actions_decide d old.keys
    (remove_key (is_at (derived d)) old.keys) (IsPermutation-refl _) in
    omega (arith, left, ap (λ b. cond b (weight d) 0) had, ap (sum_by weight) gone)

-- what a step leaves weighs less than the action that was taken for it
pub fewer_left : (timeout : ℕ) (a : Arrival) (s : Step) (old mid new : Calendar)
    → Takes old.actions mid.actions s.action → (o : Option Action) → left timeout a s ≡ o
    → Joins mid new o
    → actions_left new.actions < actions_left old.actions
fewer_left timeout a s old mid new takes None is same =
    omega (arith, takes.loses.left, ap (λ (c : Calendar). actions_left c.actions) same)
fewer_left timeout a s old mid new takes (Some x) is adds = omega (
  arith,
  takes.loses.left,
  adds.left,
  left_lighter timeout a s s.action.kind s.reply x is,
)
