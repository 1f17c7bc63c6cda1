-- A legal history hands out no permit of a later number.
use Rattle.std.proofs.Common.{◌≡◌, ℕ, zero, suc, ◌+◌, ◌<◌, ◌≤◌, ◌==◌, [], ◌∷◌, ◌++◌, Bool, true, false, cond, List, Option, Some, None, length, map, option_to_list, sym, ap, ◌∙◌, refl, arith, inl, inr}
use Rattle.std.specs.Prelude.{slice_get, count_by, find, is_some}
use Rattle.std.proofs.lemmas.Bool.{cases_Bool, cases_lt, false≢true}
use Rattle.std.proofs.lemmas.Option.{same_Some, none-some}
use Rattle.std.proofs.lemmas.List.Sums.{sum_by-cons}
use Rattle.lemmas.proofs.Lists.{slice_get-append}
use Rattle.limit_laws.specs.Algorithm.{IsLawful}
use Rattle.partitions.specs.declared.part.Part.{Part}
use Rattle.lifo_backlog.specs.declared.waiter.Waiter.{Waiter}
use Rattle.limiter_core.specs.declared.event.PermitFacts.{PermitFacts}
use Rattle.limiter_core.specs.declared.event.Event.{Event}
use Rattle.limiter_core.specs.declared.event.Event.TheVariants.{Acquire, Claim, GiveUp}
use Rattle.limiter_core.specs.declared.event.Reply.{Reply}
use Rattle.limiter_core.specs.declared.event.Reply.TheVariants.{Admitted, Granted, StillWaiting, TimedOut, Lost}
use Rattle.limiter_core.specs.declared.event.Entry.{Entry}
use Rattle.limiter_core.specs.declared.event.Entry.TheVariants.{Call}
use Rattle.limiter_core.specs.History.{Gate, Image, image_after}
use Rattle.limiter_core.specs.Answer.{answer, reply_to, counting, granted_of, granted_or, waits, promoted, promotion, promotions, promotions_at, promotion_then, next_waiter, moment_of}
use Rattle.limiter_core.specs.Legal.{IsLegal}
use Rattle.limiter_core.specs.Legal.IsLegal.{nothing, more}
use Rattle.limiter_core.specs.Bound.{IsSound, named}
use Rattle.limiter_core.specs.Open.{handed_out}
use Rattle.limiter_core.specs.Laws.{StaysSound}
use Rattle.audit.specs.Permits.{HandsOutNamed}
use Rattle.audit.specs.Histories.{WholeHandsOutNamed, WholeIsMatchedPlainly}
use Rattle.audit.proofs.Accepting.{IsMatchedHistory-each}
use Rattle.audit.proofs.Plainly.{IsMatched-plain}

abbrev number_of : Option PermitFacts → ℕ
number_of (Some permit) = permit.number
number_of None = 0

-- an acquire hands out its own number, a claim or a giving up the one that it names
acquired : (number : ℕ) (part : Part) (bypass wait : Bool) (now : ℕ) (reply : Reply)
    (permit : PermitFacts)
    → handed_out number (Call (Acquire part bypass wait now) reply) ≡ Some permit
    → permit.number ≡ number
acquired number part bypass wait now (Admitted n) permit hands = ap number_of (sym hands)
acquired number part bypass wait now reply permit hands = absurd (none-some permit hands)

claimed : (number named : ℕ) (reply : Reply) (permit : PermitFacts)
    → handed_out number (Call (Claim named) reply) ≡ Some permit → permit.number ≡ named
claimed number named (Granted part start inflight) permit hands = ap number_of (sym hands)
claimed number named reply permit hands = absurd (none-some permit hands)

given_up : (number named : ℕ) (reply : Reply) (permit : PermitFacts)
    → handed_out number (Call (GiveUp named) reply) ≡ Some permit → permit.number ≡ named
given_up number named (Granted part start inflight) permit hands = ap number_of (sym hands)
given_up number named reply permit hands = absurd (none-some permit hands)

-- and that is granted
claim_finds : (number named n : ℕ) (lies : Option PermitFacts) (waiting : Bool)
    (permit : PermitFacts)
    → handed_out number
    (Call (Claim named) (counting n (granted_or lies (cond waiting StillWaiting Lost))))
    ≡ Some permit → is_some lies ≡ true
claim_finds number named n (Some p) waiting permit hands = refl
claim_finds number named n None true permit hands = absurd (none-some permit hands)
claim_finds number named n None false permit hands = absurd (none-some permit hands)

give_up_finds : (number named n : ℕ) (lies : Option PermitFacts) (waiting : Bool)
    (permit : PermitFacts)
    → handed_out number
    (Call (GiveUp named) (counting n (granted_or lies (cond waiting TimedOut Lost))))
    ≡ Some permit → is_some lies ≡ true
give_up_finds number named n (Some p) waiting permit hands = refl
give_up_finds number named n None true permit hands = absurd (none-some permit hands)
give_up_finds number named n None false permit hands = absurd (none-some permit hands)

-- what is found is counted
abbrev one_if : Bool → ℕ
one_if b = cond b 1 0

found_counted : {X : Type 0} (p : X → Bool) (xs : List X) → is_some (find p xs) ≡ true
    → 0 < count_by p xs
found_counted p [] found = absurd (false≢true found)
found_counted {X} p (x ∷ xs) found = elim (cases_Bool (p x)) [
  | inl passes ↦
      let one : one_if (p x) ≡ 1 = ap one_if passes in
      omega (arith, sum_by-cons (λ (y : X). one_if (p y)) x xs, one)
  | inr fails ↦
      let rest : find p (x ∷ xs) ≡ find p xs =
      ap (λ (b : Bool). cond b (Some x) (find p xs)) fails in
      omega (
        arith,
        sum_by-cons (λ (y : X). one_if (p y)) x xs,
        found_counted p xs (sym (ap (λ (o : Option X). is_some o) rest) ∙ found),
      )
]

-- a promotion hands out nothing
module _ {S : Type 0} (g : Gate S) where
  then_hand_nothing : (i : Image S) (start : ℕ) (rest : Image S → List Entry)
      → ((j : Image S) (k number : ℕ) (entry : Entry) → slice_get (rest j) k ≡ Some entry
      → handed_out number entry ≡ None)
      → (w : Option Waiter) (k number : ℕ) (entry : Entry)
      → slice_get (promotion_then g i start rest w) k ≡ Some entry
      → handed_out number entry ≡ None
  then_hand_nothing i start rest hands None k number entry here = absurd (none-some entry here)
  then_hand_nothing i start rest hands (Some w) zero number entry here =
      ap (handed_out number) (sym (same_Some (promotion i start w) entry here))
  then_hand_nothing i start rest hands (Some w) (suc k) number entry here =
      hands (image_after g i (promotion i start w ∷ [])) k number entry here

  promotions_hand_nothing : (start turns : ℕ) (i : Image S) (k number : ℕ) (entry : Entry)
      → slice_get (promotions g start turns i) k ≡ Some entry → handed_out number entry ≡ None
  promotions_hand_nothing start zero i k number entry here = absurd (none-some entry here)
  promotions_hand_nothing start (suc turns) i k number entry here =
      then_hand_nothing i start (promotions g start turns) (promotions_hand_nothing start turns)
      (next_waiter g i) k number entry here

  promoted_hand_nothing : (i : Image S) (at : Option ℕ) (k number : ℕ) (entry : Entry)
      → slice_get (promotions_at g i at) k ≡ Some entry → handed_out number entry ≡ None
  promoted_hand_nothing i None k number entry here = absurd (none-some entry here)
  promoted_hand_nothing i (Some start) k number entry here =
      promotions_hand_nothing start _ i k number entry here

module _ {S : Type 0} (g : Gate S) where
  -- a number that is granted was given out before
  granted_before : (i : Image S) (n : ℕ) → IsSound g i → is_some (granted_of i n) ≡ true
      → n < i.next
  granted_before i n sound lies = elim (cases_lt n i.next) [
    | inl earlier ↦ earlier
    | inr late ↦
        let counted : 0 < count_by (λ permit. permit.number == n) i.granted =
        found_counted (λ (permit : PermitFacts). permit.number == n) i.granted lies in
        absurd (omega (arith, sound.below n late, counted))
  ]

  called : (i : Image S) (n : ℕ) (event : Event) (permit : PermitFacts) → IsSound g i
      → handed_out i.next (Call event (counting n (reply_to g i event))) ≡ Some permit
      → permit.number ≤ i.next
  called i n (Acquire part bypass wait now) permit sound hands =
      omega (
        arith,
        acquired i.next part bypass wait now
            (counting n (reply_to g i (Acquire part bypass wait now))) permit hands,
      )
  called i n (Claim number) permit sound hands =
      let lies : is_some (granted_of i number) ≡ true =
      claim_finds i.next number n (granted_of i number) (waits i number) permit hands in
      omega (
        arith,
        claimed i.next number (counting n (reply_to g i (Claim number))) permit hands,
        granted_before i number sound lies,
      )
  called i n (GiveUp number) permit sound hands =
      let lies : is_some (granted_of i number) ≡ true =
      give_up_finds i.next number n (granted_of i number) (waits i number) permit hands in
      omega (
        arith,
        given_up i.next number (counting n (reply_to g i (GiveUp number))) permit hands,
        granted_before i number sound lies,
      )
  called i n event permit sound hands = absurd (none-some permit hands)

  module _ (stays : StaysSound g) (o : Image S)
      (lawful : IsLawful g.rules) (start : o.next ≡ 0) (sound : IsSound g o) where
    answered : (h : List Entry) (e : Event) → IsLegal g o h
        → (k : ℕ) (entry : Entry) (permit : PermitFacts) → slice_get (answer g o h e) k ≡ Some entry
        → handed_out (length h + k) entry ≡ Some permit → permit.number ≤ length h + k
    answered h e legal zero entry permit here hands =
        let i : Image S = image_after g o h in
        let n : ℕ = length (promoted g o h e) in
        let call : Entry = Call e (counting n (reply_to g i e)) in
        let same : call ≡ entry = same_Some call entry here in
        let at : i.next ≡ length h + 0 = omega (arith, start) in
        let own : handed_out i.next call ≡ Some permit =
        ap (λ (m : ℕ). handed_out m call) at ∙ ap (handed_out (length h + 0)) same ∙ hands in
        omega (arith, at, called i n e permit (stays o h lawful sound legal) own)
    answered h e legal (suc k) entry permit here hands =
        let called_before = h ++ Call e (reply_to g (image_after g o h) e) ∷ [] in
        let nothing_given : handed_out (length h + suc k) entry ≡ None =
        promoted_hand_nothing g (image_after g o called_before)
        (moment_of g.promote e (reply_to g (image_after g o h) e)) k
        (length h + suc k) entry here in
        absurd (none-some permit (sym nothing_given ∙ hands))

    legal : (h : List Entry) → IsLegal g o h → HandsOutNamed h
    legal [] nothing number entry permit here hands = absurd (none-some entry here)
    legal _ (more h e before may) number entry permit here hands =
        elim (slice_get-append h (answer g o h e) number entry here) [
          | inl earlier ↦ legal h before number entry permit earlier hands
          | inr after ↦
              let there : handed_out (length h + after.0) entry ≡ Some permit =
              ap (λ (n : ℕ). handed_out n entry) (sym after.1) ∙ hands in
              omega (arith, after.1, answered h e before after.0 entry permit after.2 there)
        ]

pub whole_hands_out_named : {S : Type 0} (g : Gate S) → StaysSound g → WholeHandsOutNamed g
whole_hands_out_named g stays o entries whole =
    legal g stays o whole.lawful whole.first whole.sound entries whole.legal

-- so its endings are matched by either words
pub whole_is_matched_plainly : {S : Type 0} (g : Gate S) → StaysSound g → WholeIsMatchedPlainly g
whole_is_matched_plainly g stays o entries whole = (
  λ matched. IsMatchedHistory-each entries matched,
  λ plain. IsMatched-plain entries plain (whole_hands_out_named g stays o entries whole),
)
