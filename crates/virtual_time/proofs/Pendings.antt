-- What is pending after one step more: at its own place what it leaves, elsewhere what was pending.
use Rattle.std.proofs.Common.{◌≡◌, ◌≢◌, ℕ, ◌<◌, ◌≤◌, ◌==◌, Bool, true, false, cond, List, [], ◌∷◌}
use Rattle.std.proofs.Common.{◌++◌, length, Option, None, Some, is_some, unwrap_or, slice_get}
use Rattle.std.proofs.Common.{filter, refl, sym, ap, ◌∙◌, arith}
use Rattle.std.specs.List.{last_or}
use Rattle.std.specs.Prelude.{option_and_then}
use Rattle.std.proofs.lemmas.Bool.{eq-eqb, ne_eqb}
use Rattle.std.proofs.lemmas.List.{append-nil}
use Rattle.std.proofs.lemmas.Option.{slice_get_within}
use Rattle.std.proofs.lemmas.List.Elements.{filter-append}
use Rattle.partitions.specs.declared.part.Part.TheVariants.{Unknown}
use Rattle.limiter_core.specs.declared.event.Outcome.TheVariants.{Success}
use Rattle.limiter_core.specs.declared.event.Reply.{Reply}
use Rattle.limiter_core.specs.declared.event.Reply.TheVariants.{Admitted, Waiting, Granted}
use Rattle.trace.specs.declared.arrival.Arrival.{Arrival}
use Rattle.virtual_time.specs.declared.action.Kind.{Kind}
use Rattle.virtual_time.specs.declared.action.Kind.TheVariants.{Ending, GivingUp, Arriving}
use Rattle.virtual_time.specs.declared.action.Action.{Action}
use Rattle.virtual_time.specs.declared.action.Step.{Step}
use Rattle.virtual_time.specs.Order.{kind_rank}
use Rattle.virtual_time.specs.Pending.{left_by, left, last_step, pending_after, pending_at}
use Rattle.virtual_time.specs.Pending.{IsPending}
use Rattle.virtual_time.specs.Calendar.{weight}

last_appended : {X : Type 0} (o : Option X) (xs : List X) (x : X) → last_or o (xs ++ x ∷ [])
    ≡ Some x
last_appended o [] x = refl
last_appended o (y ∷ xs) x = last_appended (Some y) xs x

module _ (steps : List Step) (s : Step) where
  last_here : last_step (steps ++ s ∷ []) s.action.place ≡ Some s
  last_here =
      let here : Step → Bool = λ t. t.action.place == s.action.place in
      let one : filter here (s ∷ []) ≡ s ∷ [] =
      ap (λ (b : Bool). cond b (s ∷ []) []) (eq-eqb s.action.place s.action.place refl) in
      ap (last_or None) (filter-append here steps (s ∷ [])
      ∙ ap (λ (ts : List Step). filter here steps ++ ts) one)
      ∙ last_appended None (filter here steps) s

  pub last_elsewhere : (place : ℕ) → place ≢ s.action.place → last_step (steps ++ s ∷ []) place
      ≡ last_step steps place
  last_elsewhere place apart =
      let there : Step → Bool = λ t. t.action.place == place in
      let none : filter there (s ∷ []) ≡ [] =
      ap (λ (b : Bool). cond b (s ∷ []) [])
      (ne_eqb s.action.place place (λ same. apart (sym same))) in
      ap (last_or None) (filter-append there steps (s ∷ [])
      ∙ ap (λ (ts : List Step). filter there steps ++ ts) none
      ∙ append-nil (filter there steps))

  module _ (arrivals : List Arrival) (timeout : ℕ) where
    pub after_here : (a : Arrival) (place : ℕ) → place ≡ s.action.place
        → pending_after timeout a place (last_step (steps ++ s ∷ []) place) ≡ left timeout a s
    after_here a place same =
        ap (λ (p : ℕ). pending_after timeout a p (last_step (steps ++ s ∷ []) p)) same
        ∙ ap (pending_after timeout a s.action.place) last_here

    pub pending_here : (a : Arrival) (place : ℕ) → place ≡ s.action.place
        → slice_get arrivals s.action.place ≡ Some a
        → pending_at arrivals timeout (steps ++ s ∷ []) place ≡ left timeout a s
    pending_here a place same found =
        ap (pending_at arrivals timeout (steps ++ s ∷ [])) same
        ∙ ap (option_and_then (λ (b : Arrival). pending_after timeout b s.action.place
        (last_step (steps ++ s ∷ []) s.action.place))) found
        ∙ after_here a s.action.place refl

    pub pending_by_arrival : (place : ℕ) → place ≡ s.action.place
        → pending_at arrivals timeout (steps ++ s ∷ []) place
        ≡ option_and_then (λ (a : Arrival). left timeout a s) (slice_get arrivals s.action.place)
    pending_by_arrival place same =
        ap (pending_at arrivals timeout (steps ++ s ∷ [])) same
        ∙ ap (λ (o : Option Step). option_and_then
        (λ (a : Arrival). pending_after timeout a s.action.place o)
        (slice_get arrivals s.action.place)) last_here

    pub pending_elsewhere : (place : ℕ) → place ≢ s.action.place
        → pending_at arrivals timeout (steps ++ s ∷ []) place
        ≡ pending_at arrivals timeout steps place
    pending_elsewhere place apart =
        ap (λ (o : Option Step). option_and_then (λ (a : Arrival). pending_after timeout a place o)
        (slice_get arrivals place)) (last_elsewhere place apart)

-- what is pending has its arrival
within : (arrivals : List Arrival) (timeout : ℕ) (steps : List Step) (d : Action)
    (o : Option Arrival) → slice_get arrivals d.place ≡ o
    → option_and_then (λ (a : Arrival). pending_after timeout a d.place (last_step steps d.place))
    o ≡ Some d → d.place < length arrivals
within arrivals timeout steps d None found h = cc
within arrivals timeout steps d (Some a) found h = slice_get_within arrivals d.place a found

pub pending_within : (arrivals : List Arrival) (timeout : ℕ) (steps : List Step) (d : Action)
    → IsPending arrivals timeout steps d → d.place < length arrivals
pending_within arrivals timeout steps d h =
    within arrivals timeout steps d (slice_get arrivals d.place) refl h

-- what a step leaves is of its own place
pub left_place : (timeout : ℕ) (a : Arrival) (s : Step) (k : Kind) (r : Option Reply) (e : Action)
    → left_by timeout a s k r ≡ Some e → e.place ≡ s.action.place
left_place timeout a s Arriving (Some (Admitted inflight)) e h =
    ap (λ (o : Option Action). (unwrap_or o e).place) (sym h)
left_place timeout a s Arriving (Some Waiting) e h =
    ap (λ (o : Option Action). (unwrap_or o e).place) (sym h)
left_place timeout a s GivingUp (Some (Granted part start inflight)) e h =
    ap (λ (o : Option Action). (unwrap_or o e).place) (sym h)
left_place timeout a s k r e h = cc

-- a giving up that is left has the step's number
pub left_number : (timeout : ℕ) (a : Arrival) (s : Step) (k : Kind) (r : Option Reply) (e : Action)
    → left_by timeout a s k r ≡ Some e → e.kind ≡ GivingUp → e.number ≡ s.first
left_number timeout a s Arriving (Some (Admitted inflight)) e h waits = cc
left_number timeout a s Arriving (Some Waiting) e h waits =
    ap (λ (o : Option Action). (unwrap_or o e).number) (sym h)
left_number timeout a s GivingUp (Some (Granted part start inflight)) e h waits = cc
left_number timeout a s k r e h waits = cc

-- something is left only by an answer
pub left_answered : (timeout : ℕ) (a : Arrival) (s : Step) (k : Kind) (r : Option Reply)
    (e : Action)
    → left_by timeout a s k r ≡ Some e → is_some r ≡ true
left_answered timeout a s k (Some r) e h = refl
left_answered timeout a s Arriving None e h = cc
left_answered timeout a s GivingUp None e h = cc
left_answered timeout a s Ending None e h = cc

-- what is left stands for fewer actions
pub left_lighter : (timeout : ℕ) (a : Arrival) (s : Step) (k : Kind) (r : Option Reply) (e : Action)
    → left_by timeout a s k r ≡ Some e → weight e ≤ kind_rank k
left_lighter timeout a s Arriving (Some (Admitted inflight)) e h =
    omega (arith, ap (λ (o : Option Action). kind_rank (unwrap_or o e).kind) h)
left_lighter timeout a s Arriving (Some Waiting) e h =
    omega (arith, ap (λ (o : Option Action). kind_rank (unwrap_or o e).kind) h)
left_lighter timeout a s GivingUp (Some (Granted part start inflight)) e h =
    omega (arith, ap (λ (o : Option Action). kind_rank (unwrap_or o e).kind) h)
left_lighter timeout a s k r e h = cc

-- what stands past the end of a list of arrivals
abbrev pub no_arrival : Arrival
no_arrival = record {
  part = Unknown;
  bypass = false;
  wait = false;
  at = 0;
  duration = 0;
  outcome =
      Success;
}
