-- A calendar holds what is pending.
use Rattle.std.specs.Prelude.{◌≡◌, ◌≢◌, ℕ, ◌+◌, ◌<◌, ◌≤◌, Bool, true, false, IsTrue, List}
use Rattle.std.specs.Prelude.{Option, None, Some, length, nat_eq}
use Rattle.std.specs.List.{sum_by}
use Rattle.std.specs.declared.cmp.Ordering.{Ordering}
use Rattle.std.specs.Ordering.{nat_cmp, ordering_then}
use Rattle.std.specs.BTreeSet as tree
use Rattle.std.specs.HashMap as hash
use Rattle.limiter_core.specs.declared.event.Entry.{Entry}
use Rattle.virtual_time.specs.declared.action.Kind.TheVariants.{GivingUp}
use Rattle.trace.specs.declared.arrival.Arrival.{Arrival}
use Rattle.virtual_time.specs.declared.action.Action.{Action}
use Rattle.virtual_time.specs.declared.action.Step.{Step}
use Rattle.virtual_time.specs.declared.calendar.Calendar.{Calendar}
use Rattle.virtual_time.specs.Order.{kind_rank}
use Rattle.virtual_time.specs.Pending.{IsPending}
use Rattle.virtual_time.specs.Next.{Follows}

-- the order of the queue: where actions tie, by number
abbrev pub queue_order : Action → Action → Ordering
queue_order a b = ordering_then (nat_cmp a.moment b.moment)
    (ordering_then (nat_cmp (kind_rank a.kind) (kind_rank b.kind))
    (ordering_then (nat_cmp a.place b.place) (nat_cmp a.number b.number)))

-- whether an action is queued
abbrev pub has : tree.BTreeSet Action → Action → Bool
has actions d = tree.contains queue_order actions d

abbrev pub Has : tree.BTreeSet Action → Action → Type 0
Has actions d = IsTrue (has actions d)

-- how many actions one stands for at most: an arrival three, a giving up two, an ending one
abbrev pub weight : Action → ℕ
weight d = kind_rank d.kind + 1

-- how many actions can still come of those that are queued
abbrev pub actions_left : tree.BTreeSet Action → ℕ
actions_left actions = sum_by weight actions.keys

-- what a calendar keeps beside its queue: each queued giving up is found by its number, under which
-- nothing else is found, and that number was given out; and no promotion among the entries that
-- were read is followed by a giving up any more
pub record IsKept (entries : List Entry) (c : Calendar) : Type 0 where
  pub found : (d : Action) → Has c.actions d → d.kind ≡ GivingUp
      → hash.get nat_eq c.waiters d.number
      ≡ Some d
  pub gives_up : (n : ℕ) (d : Action) → hash.get nat_eq c.waiters n ≡ Some d → d.kind ≡ GivingUp
  pub named : (n : ℕ) (d : Action) → hash.get nat_eq c.waiters n ≡ Some d → d.number ≡ n
  pub numbered : (d : Action) → Has c.actions d → d.kind ≡ GivingUp → d.number < length entries
  pub read : (k : ℕ) (d : Action) → k < c.read → Follows (Has c.actions) entries k d → ⊥
  pub within : c.read ≤ length entries

-- an action left the queue, and the others stayed
pub record Loses (old new : tree.BTreeSet Action) (d : Action) : Type 0 where
  pub had : Has old d
  pub gone : has new d ≡ false
  pub others : (e : Action) → e ≢ d → has new e ≡ has old e
  pub left : actions_left old ≡ weight d + actions_left new

-- the action that was queued for this one left: it itself, or a later giving up
pub record Takes (old new : tree.BTreeSet Action) (d : Action) : Type 0 where
  pub late : ℕ
  pub loses : Loses old new (record d { moment = late })

-- an action joined the queue, and where it is a giving up it is found by its number
pub record Adds (old new : Calendar) (d : Action) : Type 0 where
  pub here : has new.actions d ≡ true
  pub others : (e : Action) → e ≢ d → has new.actions e ≡ has old.actions e
  pub waits : d.kind ≡ GivingUp → hash.get nat_eq new.waiters d.number ≡ Some d
  pub apart : (n : ℕ) → n ≢ d.number → hash.get nat_eq new.waiters n ≡ hash.get nat_eq old.waiters n
  pub same : d.kind ≢ GivingUp → (n : ℕ) → hash.get nat_eq new.waiters n
      ≡ hash.get nat_eq old.waiters n
  pub read : new.read ≡ old.read
  pub left : actions_left new.actions ≤ weight d + actions_left old.actions

-- the same of an action, if there is one
abbrev pub Joins : Calendar → Calendar → Option Action → Type 0
Joins old new None = new ≡ old
Joins old new (Some d) = Adds old new d

-- A CALENDAR HOLDS the pending actions of a trace after these steps: those and no others are queued
pub record IsHeld (arrivals : List Arrival) (timeout : ℕ) (steps : List Step)
    (entries : List Entry) (c : Calendar) : Type 0 where
  pub kept : IsKept entries c
  pub from : (d : Action) → Has c.actions d → IsPending arrivals timeout steps d
  pub to : (d : Action) → IsPending arrivals timeout steps d → Has c.actions d
