-- What a journal adds to the entries that it shows, whether it rolls or not.
use Rattle.std.proofs.Common.{◌≡◌, ℕ, ◌+◌, ◌≤◌, Bool, true, false, ◌&&◌, cond, leb, leb-true, List}
use Rattle.std.proofs.Common.{[], ◌++◌, length, Some, refl, sym, subst, arith}
use Rattle.limit_laws.specs.Algorithm.{Algorithm}
use Rattle.limiter_core.specs.declared.event.Event.{Event}
use Rattle.limiter_core.specs.declared.event.Entry.{Entry}
use Rattle.gate_journal.specs.Journal.{Journal, answered}
use Rattle.gate_journal.specs.Rolling.{continued, ready, rolls, standing}
use Rattle.gate_port.specs.Shown.{Adds, Shown, next_of}
use Rattle.ports.specs.Solo.{shown_of}

and_right : (a b : Bool) → (a && b) ≡ true → b ≡ true
and_right true b is = is
and_right false true is = refl
and_right false false is = is

pub adds_map : (old new : Shown) (P R : Shown → List Entry → Type 0)
    → Adds (Some old) (Some new) P
    → ((s : Shown) (added : List Entry) → P s added → R s added) → Adds (Some old) (Some new) R
adds_map old new P R p f = (
  p.0,
  λ (same : new.base ≡ old.base).
      let one = p.1 same in
      (one.0, one.1, f old one.0 one.2),
  p.2,
  p.3,
)

module _ {S : Type 0} (rules : Algorithm S) (j : Journal S) where
  -- ready for a step, by whether it rolls
  abbrev ready_when : Bool → Journal S
  ready_when b = record j {
    opening = cond b (standing rules j) j.opening;
    entries = cond b [] j.entries;
  }

  pub next_ready : j.opening.next + length j.entries
      ≡ (ready rules j).opening.next + length (ready rules j).entries
  next_ready = go (rolls j)
    where
      go : (b : Bool) → j.opening.next + length j.entries
          ≡ (ready_when b).opening.next + length (ready_when b).entries
      go true = omega arith
      go false = refl

  module _ (number : ℕ) (is : number ≡ j.opening.next + length j.entries) (some : 1 ≤ j.kept)
      (added : List Entry) where
    grown : (b : Bool) → rolls j ≡ b → Adds (Some (shown_of j))
        (Some (record {
          base = (ready_when b).opening.next;
          entries = (ready_when b).entries ++ added;
          kept = j.kept;
          is_rolling = j.is_rolling;
        }))
        (λ s more. (number ≡ next_of s) × (more ≡ added))
    grown true due =
        let full : j.kept ≤ length j.entries =
        leb-true j.kept (length j.entries)
        (and_right j.is_rolling (leb j.kept (length j.entries)) due) in
        (omega arith, λ same. absurd (omega (arith, full, some, same)), refl, refl)
    grown false early = (omega arith, λ same. (added, refl, (is, refl)), refl, refl)

  -- the answer to an event is added, under this number
  pub grows : (new : Journal S) (e : Event) (number : ℕ) → new ≡ continued rules j e
      → answered rules (ready rules j) e ≡ answered rules j e
      → number ≡ j.opening.next + length j.entries → 1 ≤ j.kept
      → Adds (Some (shown_of j)) (Some (shown_of new))
      (λ s more. (number ≡ next_of s) × (more ≡ answered rules j e))
  grows new e number goes same is some =
      let Holds : Shown → Type 0 =
      λ (s : Shown). Adds (Some (shown_of j)) (Some s)
      (λ before more. (number ≡ next_of before) × (more ≡ answered rules j e)) in
      subst (λ (k : Journal S). Holds (shown_of k)) (sym goes)
      (subst (λ (xs : List Entry). Holds (record {
        base = (ready rules j).opening.next;
        entries = (ready rules j).entries ++ xs;
        kept = j.kept;
        is_rolling = j.is_rolling;
      })) (sym same) (grown number is some (answered rules j e) (rolls j) refl))
