-- A session after one answer more.
use Rattle.std.proofs.Common.{◌≡◌, ℕ, ◌+◌, ◌-◌, ◌^◌, ◌<◌, ◌≤◌, List, [], ◌∷◌, ◌++◌}
use Rattle.std.proofs.Common.{drop, length, Bool, true, false, cond, Option, None, Some, slice_get}
use Rattle.std.proofs.Common.{unwrap_or, nat_eq, IfSome, refl, sym, ap, ◌∙◌, subst, arith}
use Rattle.std.proofs.Common.{length-append}
use Rattle.std.specs.HashMap.{get}
use Rattle.limit_laws.specs.Algorithm.{Algorithm}
use Rattle.limiter_core.specs.declared.event.PermitFacts.{PermitFacts}
use Rattle.limiter_core.specs.declared.event.Event.{Event}
use Rattle.limiter_core.specs.declared.event.Event.TheVariants as event
use Rattle.limiter_core.specs.declared.event.Reply.{Reply}
use Rattle.limiter_core.specs.declared.event.Entry.{Entry}
use Rattle.limiter_core.specs.declared.event.Entry.TheVariants.{Call}
use Rattle.limiter_core.specs.History.{Gate, Image, image_after}
use Rattle.limiter_core.specs.Answer.{answer}
use Rattle.limiter_core.specs.Bound.{IsSound}
use Rattle.limiter_core.specs.Legal.{MayCome}
use Rattle.limiter_core.specs.Open.{open_permit}
use Rattle.limiter_core.specs.Handed.{IsHanded, NamesOpen, open_after}
use Rattle.limiter_core.specs.Laws.{MayEndOpen, AnswersHanded, OpensByItsCall}
use Rattle.gate_journal.specs.Journal.{Journal, gate, image, next_number, is_over, answered}
use Rattle.gate_journal.specs.Rolling.{StretchesJoin, after, continued, ready}
use Rattle.load_driver.specs.Replay.{Open}
use Rattle.load_driver.specs.Session.{Session, Permits, IsSession, open_in}
use Rattle.load_driver.specs.Stretches.{IsOpen, open_then, opened_by}
use Rattle.load_driver.proofs.Named.{open_by_number}

-- an ending that names an open permit by its number
pub names_open : {S : Type 0} (first : Image S) (t : List Entry) (by_number : Open)
    → ((n : ℕ) → by_number n ≡ open_permit first.next t n) → (e : Event) → IsOpen by_number e
    → NamesOpen first t e
names_open first t by_number found (event.End permit outcome now) is =
    sym (found permit.number) ∙ is
names_open first t by_number found (event.Acquire part bypass wait now) is = tt
names_open first t by_number found (event.Claim number) is = tt
names_open first t by_number found (event.GiveUp number) is = tt
names_open first t by_number found (event.SetLimit n now) is = tt
names_open first t by_number found (event.Reset now) is = tt
names_open first t by_number found (event.Look part) is = tt

-- a session as contracts see it
abbrev seen : {S : Type 0} → Journal S → Permits → Session S
seen j permits = record { journal = j; permits = permits.entries }

-- j and permits: what a session has, v: the same as contracts see it
module _ {S : Type 0} (rules : Algorithm S) (j : Journal S) (permits : Permits) (v : Session S)
    (view : seen j permits ≡ v) (held : IsSession rules j permits) (e : Event)
    (asked : IsOpen (open_in v) e) where
  abbrev g : Gate S
  g = gate rules j

  is : IsOpen (get nat_eq permits) e
  is = subst (λ (w : Session S). IsOpen (open_in w) e) (sym view) asked

  named : NamesOpen held.first held.all e
  named = names_open held.first held.all (get nat_eq permits) held.found e is

  pub may : ((g : Gate S) → MayEndOpen g) → MayCome g (image rules j) e
  may ends =
      subst (λ (i : Image S). MayCome g i e) (sym held.stretch.leads)
      (ends g held.first held.all e held.handed named)

  -- the journal after an event that isn't exhausted
  pub journal_then : (next : Journal S) → false ≡ is_over rules j e → next ≡ continued rules j e
      → next ≡ after rules v.journal e
  journal_then next goes moved =
      moved ∙ ap (λ (b : Bool). cond b j (continued rules j e)) goes
      ∙ ap (λ (w : Session S). after rules w.journal e) view

  -- the open permits after an exhausted one
  pub opens_still : (between : Permits) (next : Journal S) → true ≡ is_over rules j e
      → ((q : ℕ) → get nat_eq between q ≡ get nat_eq permits q)
      → open_in (seen next between) ≡ open_then rules v.journal (open_in v) e
  opens_still between next over same =
      (λ k q. same q k)
      ∙ ap (λ (b : Bool). cond b (get nat_eq permits)
      (opened_by (get nat_eq permits) (next_number j) (answered rules j e))) over
      ∙ ap (λ (w : Session S). open_then rules w.journal (open_in w) e) view

  module _ (between later : Permits) (number : ℕ) (r : Reply)
      (here : number ≡ next_number j)
      (replied : Some (Call e r) ≡ slice_get (answered rules j e) 0)
      (same : (q : ℕ) → get nat_eq between q ≡ get nat_eq permits q)
      (noted : (q : ℕ)
      → get nat_eq later q ≡ open_after (get nat_eq between) number (Call e r) q) where
    called : answered rules j e ≡ Call e r ∷ drop 1 (answered rules j e)
    called =
        ap (λ (o : Option Entry). unwrap_or o (Call e r) ∷ drop 1 (answered rules j e))
        (sym replied)

    -- the open permits are those that the answer leaves
    opened : get nat_eq later
        ≡ opened_by (get nat_eq permits) (next_number j) (answered rules j e)
    opened =
        (λ k q. noted q k)
        ∙ (λ k q. open_after (λ p. same p k) (here k) (Call e r) q)
        ∙ (λ k. opened_by (get nat_eq permits) (next_number j) (sym called k))

    pub opens_then : (next : Journal S) → false ≡ is_over rules j e
        → open_in (seen next later) ≡ open_then rules v.journal (open_in v) e
    opens_then next goes =
        opened
        ∙ ap (λ (b : Bool). cond b (get nat_eq permits)
        (opened_by (get nat_eq permits) (next_number j) (answered rules j e))) goes
        ∙ ap (λ (w : Session S). open_then rules w.journal (open_in w) e) view

    -- the permits of the answer's call are noted by its number
    pub goes_on : StretchesJoin rules → IsSound g (image rules j)
        → ((g : Gate S) → MayEndOpen g) → ((g : Gate S) → AnswersHanded g)
        → ((g : Gate S) → OpensByItsCall g)
        → (next : Journal S) → next ≡ continued rules j e → IsSession rules next later
    goes_on join sound ends hand opens next moved =
        let o : Image S = held.first in
        let t : List Entry = held.all in
        let joined = join o t j e held.stretch (may ends) in
        let told : answered rules j e ≡ answer g o t e = joined.0 in
        let now : IsSound g (image_after g o t) =
        subst (λ (i : Image S). IsSound g i) held.stretch.leads sound in
        let number_there : next_number j ≡ o.next + length t =
        ap (λ (i : Image S). i.next) held.stretch.leads in
        let found_then : get nat_eq later ≡ open_permit o.next (t ++ answered rules j e) =
        opened
        ∙ (λ k. opened_by (λ q. held.found q k) (number_there k) (told k))
        ∙ (λ k q. sym (opens g o t e _ _ held.handed refl q) k)
        ∙ (λ k. open_permit o.next (t ++ sym told k)) in
        let made : IsSession rules (continued rules j e) later = record {
          first = o;
          all = t ++ answered rules j e;
          stretch = joined.1;
          handed = subst (λ (es : List Entry). IsHanded g o (t ++ es)) (sym told)
              (hand g o t e held.stretch.whole now held.handed named);
          found = λ q. (λ k. found_then k q);
        } in
        subst (λ (w : Journal S). IsSession rules w later) (sym moved) made

-- a session in which nothing was answered, with its permits in another order
pub stays : {S : Type 0} (rules : Algorithm S) (j : Journal S) (permits later : Permits)
    (next : Journal S) → IsSession rules j permits → next ≡ j
    → ((q : ℕ) → get nat_eq later q ≡ get nat_eq permits q) → IsSession rules next later
stays {S} rules j permits later next held path same =
    let made : IsSession rules j later = record {
      first = held.first;
      all = held.all;
      stretch = held.stretch;
      handed = held.handed;
      found = λ q. same q ∙ held.found q;
    } in
    subst (λ (w : Journal S). IsSession rules w later) (sym path) made

-- where the entries of an answer stand
module _ {S : Type 0} (rules : Algorithm S) (j next : Journal S) (e : Event)
    (moved : next ≡ continued rules j e)
    (anew : image rules (ready rules j) ≡ image rules j)
    (same : answered rules (ready rules j) e ≡ answered rules j e) where
  held_before : (ready rules j).opening.next + length (ready rules j).entries ≡ next_number j
  held_before = ap (λ (i : Image S). i.next) anew

  base_now : next.opening.next ≡ (ready rules j).opening.next
  base_now = ap (λ (w : Journal S). w.opening.next) moved

  held_now : length next.entries
      ≡ length (ready rules j).entries + length (answered rules (ready rules j) e)
  held_now =
      ap (λ (w : Journal S). length w.entries) moved
      ∙ length-append (ready rules j).entries (answered rules (ready rules j) e)

  module _ (number base : ℕ) (here : number ≡ next_number j) (begins : base ≡ next.opening.next)
    where
      pub base_below : base ≤ number
      base_below = omega (arith, held_before, base_now, here, begins)

      pub place_inside : (number - base) ≤ length next.entries
      place_inside = omega (arith, held_before, base_now, held_now, here, begins)

      place_is : (number - base) ≡ length (ready rules j).entries
      place_is = omega (arith, held_before, base_now, here, begins)

      dropped : (xs ys : List Entry) → drop (length xs) (xs ++ ys) ≡ ys
      dropped [] ys = refl
      dropped (x ∷ xs) ys = dropped xs ys

      pub entries_from : drop (number - base) next.entries ≡ answered rules j e
      entries_from =
          (λ k. drop (place_is k) (moved k).entries)
          ∙ dropped (ready rules j).entries (answered rules (ready rules j) e) ∙ same

      pub numbers_fit : (last : ℕ) → last ≡ next_number next → last < 2 ^ 64
          → number + length (drop (number - base) next.entries) < 2 ^ 64
      numbers_fit last is fits =
          omega (
            arith,
            is,
            fits,
            held_now,
            held_before,
            base_now,
            here,
            begins,
            ap length entries_from,
            ap length same,
          )

-- the permit that a session finds by a number has it
pub own_number : {S : Type 0} (rules : Algorithm S) (j : Journal S) (permits : Permits)
    → IsSession rules j permits → (n : ℕ) (found : Option PermitFacts)
    → found ≡ get nat_eq permits n → IfSome found (λ permit. permit.number ≡ n)
own_number rules j permits held n None got = tt
own_number rules j permits held n (Some permit) got =
    open_by_number held.first.next held.all n permit (sym (got ∙ held.found n))
