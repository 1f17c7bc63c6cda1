-- Which action is next, by what is pending and the entries so far.
use Rattle.std.specs.Prelude.{◌≡◌, ℕ, ◌<◌, false, List, Option, None, Some, slice_get}
use Rattle.limiter_core.specs.declared.event.Entry.{Entry}
use Rattle.limiter_core.specs.declared.event.Entry.TheVariants.{Call, Promotion}
use Rattle.virtual_time.specs.declared.action.Kind.TheVariants.{GivingUp}
use Rattle.virtual_time.specs.declared.action.Action.{Action}
use Rattle.virtual_time.specs.Order.{is_before}

-- whom an entry promotes, and when
abbrev pub promotes : Option Entry → Option (ℕ × ℕ)
promotes (Some (Promotion waiter part start inflight)) = Some (waiter, start)
promotes (Some (Call event reply)) = None
promotes None = None

-- the least pending action
pub record IsLeast (IsPending : Action → Type 0) (d : Action) : Type 0 where
  pub pending : IsPending d
  pub least : (e : Action) → IsPending e → is_before e d ≡ false

module _ (IsPending : Action → Type 0) (entries : List Entry) where
  -- THE GIVING UP THAT FOLLOWS a promotion, the entry k: that of a waiter who came before it and
  -- still waits, at the moment of the promotion
  pub record Follows (k : ℕ) (d : Action) : Type 0 where
    pub gives_up : d.kind ≡ GivingUp
    pub promoted : promotes (slice_get entries k) ≡ Some (d.number, d.moment)
    pub earlier : d.number < k
    pub late : ℕ
    pub waits : IsPending (record d { moment = late })

  -- the giving up that follows the first promotion that has one
  pub record IsFirst (d : Action) : Type 0 where
    pub place : ℕ
    pub follows : Follows place d
    pub first : (k : ℕ) (e : Action) → k < place → Follows k e → ⊥

  -- the next action: the giving up that follows the first promotion that has one; else the
  -- least pending action
  pub data IsNext (d : Action) : Type 0 where
    follows : IsFirst d → IsNext d
    leads : ((k : ℕ) (e : Action) → Follows k e → ⊥) → IsLeast IsPending d → IsNext d
