-- What the steps of one asking add together.
use Rattle.std.proofs.Common.{◌≡◌, ℕ, ◌≤◌, List, [], ◌∷◌, ◌++◌, Some, Bool, true, false, sym}
use Rattle.std.proofs.Common.{refl, ap, ◌∙◌, subst, append_assoc, arith, rules}
use Rattle.limiter_core.specs.declared.event.Event.{Event}
use Rattle.limiter_core.specs.declared.event.Event.TheVariants.{Acquire, GiveUp}
use Rattle.limiter_core.specs.declared.event.Reply.{Reply}
use Rattle.limiter_core.specs.declared.event.Reply.TheVariants as reply
use Rattle.limiter_core.specs.declared.event.Entry.{Entry}
use Rattle.limiter_core.specs.declared.event.Entry.TheVariants.{Call}
use Rattle.limiter_core.specs.declared.event.PermitFacts.{PermitFacts}
use Rattle.gate_port.specs.declared.port.Admission.{Admission}
use Rattle.gate_port.specs.declared.port.Admission.TheVariants.{Refused}
use Rattle.gate_port.specs.declared.port.Why.TheVariants.{Exhausted}
use Rattle.gate_port.specs.Asking.{Ask, IsAsked, acquire, answered, gave_up, says, spent}
use Rattle.gate_port.specs.Shown.{Adds, Shown, is_exhausted, next_of}
use Rattle.ports.specs.Solo.{Records}

module _ (ask : Ask) (now : ℕ) where
  -- the acquire, with what the code found of whether it waits
  pub same_event : (wait : Bool) → wait ≡ ask.wait
      → Acquire ask.part ask.bypass wait now ≡ acquire ask now
  same_event wait same = ap (λ (w : Bool). Acquire ask.part ask.bypass w now) same

  -- nothing was added
  pub asked_in_vain : (old new : Shown) → is_exhausted old ≡ true → new ≡ old
      → Adds (Some old) (Some new)
      (λ before added. IsAsked ask before now added (Refused Exhausted))
  asked_in_vain old new over same =
      subst (λ (s : Shown). Adds (Some old) (Some s)
      (λ before added. IsAsked ask before now added (Refused Exhausted))) (sym same)
      (omega arith, λ is. ([], search rules, spent over), refl, refl)

  -- one step was made
  pub asked_once : (number : ℕ) (old new : Shown) (e : Event) (r : Reply)
      (told : Admission PermitFacts) → e ≡ acquire ask now
      → Adds (Some old) (Some new) (λ s added. (number ≡ next_of s) × Records e r added)
      → is_exhausted old ≡ false → says ask number now r ≡ Some told
      → Adds (Some old) (Some new) (λ s added. IsAsked ask s now added told)
  asked_once number old new e r told event adds served says_so = (
    adds.0,
    λ (same : new.base ≡ old.base).
        let one = adds.1 same in
        let records : Records (acquire ask now) r one.0 =
        subst (λ (x : Event). Records x r one.0) event one.2.1 in (
          one.0,
          one.1,
          subst (λ (xs : List Entry). IsAsked ask old now xs told) (sym records)
              (answered served r told
              (subst (λ (m : ℕ). says ask m now r ≡ Some told) one.2.0 says_so)),
        ),
    adds.2,
    adds.3,
  )

  -- an acquire that waits, and its giving up
  pub asked_twice : (number waiter second : ℕ) (old mid new : Shown) (e : Event) (first r : Reply)
      (told : Admission PermitFacts) → e ≡ acquire ask now → first ≡ reply.Waiting
      → Adds (Some old) (Some mid) (λ s added. (number ≡ next_of s) × Records e first added)
      → Adds (Some mid) (Some new)
      (λ s added. (second ≡ next_of s) × Records (GiveUp waiter) r added)
      → waiter ≡ number → is_exhausted old ≡ false → says ask number now r ≡ Some told
      → Adds (Some old) (Some new) (λ s added. IsAsked ask s now added told)
  asked_twice number waiter second old mid new e first r told event waiting adds more named
      served says_so =
      let low : old.base ≤ mid.base = adds.0 in
      let high : mid.base ≤ new.base = more.0 in (
        omega arith,
        λ (same : new.base ≡ old.base).
            let before : mid.base ≡ old.base = omega arith in
            let after : new.base ≡ mid.base = omega arith in
            let one = adds.1 before in
            let two = more.1 after in
            let asks : Records (acquire ask now) reply.Waiting one.0 =
            subst (λ (x : Reply). Records (acquire ask now) x one.0) waiting
            (subst (λ (x : Event). Records x first one.0) event one.2.1) in
            let both : one.0 ++ two.0
            ≡ Call (acquire ask now) reply.Waiting ∷ Call (GiveUp (next_of old)) r ∷ [] =
            ap (λ (xs : List Entry). xs ++ two.0) asks
            ∙ ap (λ (xs : List Entry). Call (acquire ask now) reply.Waiting ∷ xs)
            (two.2.1 ∙ ap (λ (w : ℕ). Call (GiveUp w) r ∷ []) (named ∙ one.2.0)) in (
              one.0 ++ two.0,
              two.1 ∙ ap (λ (xs : List Entry). xs ++ two.0) one.1
                  ∙ append_assoc old.entries one.0 two.0,
              subst (λ (xs : List Entry). IsAsked ask old now xs told) (sym both)
                  (gave_up served r told
                  (subst (λ (m : ℕ). says ask m now r ≡ Some told) one.2.0 says_so)),
            ),
        more.2 ∙ adds.2,
        more.3 ∙ adds.3,
      )
