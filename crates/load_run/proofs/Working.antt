-- One arrival more of a worker.
use Rattle.std.proofs.Common.{◌≡◌, ◌≢◌, ℕ, ◌+◌, ◌<◌, ◌%◌, [], ◌∷◌, ◌++◌, List, length, take, get_or, false, refl, sym, ap, Result, Ok, Err, ◌∙◌, subst, arith}
use Rattle.std.specs.Prelude.{OnOk}
use Rattle.std.proofs.lemmas.List.{length-take-le, take_more}
use Rattle.partitions.specs.declared.part.Part.TheVariants.{Unknown}
use Rattle.limiter_core.specs.declared.event.Outcome.TheVariants.{Success}
use Rattle.gate_ledgers.specs.Receipt.{Told}
use Rattle.gate_history.specs.Refusal.{Refusal}
use Rattle.trace.specs.declared.arrival.Arrival.{Arrival}
use Rattle.load_run.specs.Worker.{IsWork, LieBetween, Makes}
use Rattle.load_run.specs.Worker.IsWork.{begins, leaves, takes}

-- some arrival: what a list is said to have where it has none
nobody : Arrival
nobody = record {
  part = Unknown;
  bypass = false;
  wait = false;
  at = 0;
  duration = 0;
  outcome = Success;
}

module _ (workers worker : ℕ) (arrivals : List Arrival) (place : ℕ)
    (within : place < length arrivals) where
  long : length (take place arrivals) ≡ place
  long = length-take-le place arrivals (omega (arith, within))

  longer : (a d : Arrival) → a ≡ get_or arrivals place d
      → take place arrivals ++ a ∷ [] ≡ take (place + 1) arrivals
  longer a d is =
      ap (λ (x : Arrival). take place arrivals ++ x ∷ []) is
      ∙ sym (take_more arrivals place d within)

  pub leaves_one : (told : List Told) (refused : List Refusal) (seen : ℕ)
      → IsWork workers worker (take place arrivals) told refused seen → place % workers ≢ worker
      → IsWork workers worker (take (place + 1) arrivals) told refused seen
  leaves_one told refused seen work other =
      subst (λ (xs : List Arrival). IsWork workers worker xs told refused seen)
      (longer (get_or arrivals place nobody) nobody refl)
      (leaves (take place arrivals) told refused seen (get_or arrivals place nobody) work
      (λ same. other (ap (λ (n : ℕ). n % workers) (sym long) ∙ same)))

  pub takes_one : (a d : Arrival) → a ≡ get_or arrivals place d → (told all own : List Told)
      (refused every spent : List Refusal) (seen until : ℕ)
      → IsWork workers worker (take place arrivals) told refused seen
      → place % workers ≡ worker → Makes a own spent → LieBetween seen until own spent
      → all ≡ told ++ own → every ≡ refused ++ spent
      → IsWork workers worker (take (place + 1) arrivals) all every until
  takes_one a d is told all own refused every spent seen until work same makes lie joined added =
      subst (λ (ts : List Told). IsWork workers worker (take (place + 1) arrivals) ts every until)
      (sym joined)
      (subst (λ (rs : List Refusal).
      IsWork workers worker (take (place + 1) arrivals) (told ++ own) rs until) (sym added)
      (subst (λ (xs : List Arrival).
      IsWork workers worker xs (told ++ own) (refused ++ spent) until) (longer a d is)
      (takes (take place arrivals) told own refused spent seen until a work
      (ap (λ (n : ℕ). n % workers) long ∙ same) makes lie)))

-- no arrivals yet
pub begins_with : (workers worker : ℕ) (told : List Told) (refused : List Refusal) (seen : ℕ)
    → told ≡ [] → refused ≡ [] → IsWork workers worker [] told refused seen
begins_with workers worker told refused seen none nothing =
    subst (λ (ts : List Told). IsWork workers worker [] ts refused seen) (sym none)
    (subst (λ (rs : List Refusal). IsWork workers worker [] [] rs seen) (sym nothing)
    (begins seen))

-- a fact that follows from two clauses of a call that returned
pub from_both : {T E P Q R : Type 0} (r : Result T E) → (P → Q → R) → OnOk r P → OnOk r Q
    → OnOk r R
from_both (Ok x) both p q = both p q
from_both (Err e) both p q = p
