-- The order of the queue is that of actions.
use Rattle.std.proofs.Common.{◌≡◌, ◌≢◌, ℕ, Bool, true, false, refl, sym, ap, ◌∙◌, subst, true≢false}
use Rattle.std.proofs.Common.{inl, inr, ◌⊎◌, arith}
use Rattle.std.specs.declared.cmp.Ordering.{Ordering}
use Rattle.std.proofs.Common.{Less, Equal, Greater}
use Rattle.std.specs.Ordering.{is_eq, is_gt, is_lt, nat_cmp, ordering_then, ordering_reverse}
use Rattle.std.specs.Bool.{Decides}
use Rattle.std.specs.Cmp.{nat_cmp_total}
use Rattle.std.proofs.lemmas.Cmp.{ranked, tied_itself}
use Rattle.virtual_time.specs.declared.action.Kind.{Kind}
use Rattle.virtual_time.specs.declared.action.Kind.TheVariants.{Ending, GivingUp, Arriving}
use Rattle.virtual_time.specs.declared.action.Action.{Action}
use Rattle.virtual_time.specs.contracts.action.KindOrd.TheImpl.{cmp-value as kind_value}
use Rattle.virtual_time.specs.contracts.action.ActionOrd.TheImpl.{cmp-value as action_value}
use Rattle.virtual_time.specs.Order.{kind_rank, is_before}
use Rattle.virtual_time.specs.Calendar.{queue_order}

-- the derived order
kinds_derived : (a b : Kind) → kind_value.it a b ≡ nat_cmp (kind_rank a) (kind_rank b)
kinds_derived Ending Ending = refl
kinds_derived Ending GivingUp = refl
kinds_derived Ending Arriving = refl
kinds_derived GivingUp Ending = refl
kinds_derived GivingUp GivingUp = refl
kinds_derived GivingUp Arriving = refl
kinds_derived Arriving Ending = refl
kinds_derived Arriving GivingUp = refl
kinds_derived Arriving Arriving = refl

abbrev pub derived : Action → Action → Ordering
derived = action_value.it

pub actions_derived : derived ≡ queue_order
actions_derived = λ i a b. ordering_then (nat_cmp a.moment b.moment)
    (ordering_then (kinds_derived a.kind b.kind i)
    (ordering_then (nat_cmp a.place b.place) (nat_cmp a.number b.number)))

kinds_tie : (a b : Kind) → kind_rank a ≡ kind_rank b → a ≡ b
kinds_tie Ending Ending h = refl
kinds_tie Ending GivingUp h = absurd (omega (arith, h))
kinds_tie Ending Arriving h = absurd (omega (arith, h))
kinds_tie GivingUp Ending h = absurd (omega (arith, h))
kinds_tie GivingUp GivingUp h = refl
kinds_tie GivingUp Arriving h = absurd (omega (arith, h))
kinds_tie Arriving Ending h = absurd (omega (arith, h))
kinds_tie Arriving GivingUp h = absurd (omega (arith, h))
kinds_tie Arriving Arriving h = refl

tie : (o : Ordering) → is_eq o ≡ true → o ≡ Equal
tie Less h = absurd (true≢false (sym h))
tie Equal h = refl
tie Greater h = absurd (true≢false (sym h))

first_tie : (o p : Ordering) → is_eq (ordering_then o p) ≡ true → o ≡ Equal
first_tie Less p h = absurd (true≢false (sym h))
first_tie Equal p h = refl
first_tie Greater p h = absurd (true≢false (sym h))

then_tie : (o p : Ordering) → is_eq (ordering_then o p) ≡ true → is_eq p ≡ true
then_tie Less p h = absurd (true≢false (sym h))
then_tie Equal p h = h
then_tie Greater p h = absurd (true≢false (sym h))

numbers_tie : (x y : ℕ) → nat_cmp x y ≡ Equal → x ≡ y
numbers_tie x y h = ranked x y Equal (sym h)

-- actions that tie are one
pub actions_tie : (a b : Action) → is_eq (queue_order a b) ≡ true → a ≡ b
actions_tie a b h =
    let kinds = then_tie (nat_cmp a.moment b.moment) _ h in
    let places = then_tie (nat_cmp (kind_rank a.kind) (kind_rank b.kind)) _ kinds in
    let numbers = then_tie (nat_cmp a.place b.place) _ places in
    let moment : a.moment ≡ b.moment =
    numbers_tie a.moment b.moment (first_tie (nat_cmp a.moment b.moment) _ h) in
    let kind : a.kind ≡ b.kind =
    kinds_tie a.kind b.kind (numbers_tie _ _
    (first_tie (nat_cmp (kind_rank a.kind) (kind_rank b.kind)) _ kinds)) in
    let place : a.place ≡ b.place =
    numbers_tie a.place b.place (first_tie (nat_cmp a.place b.place) _ places) in
    let number : a.number ≡ b.number =
    numbers_tie a.number b.number (tie (nat_cmp a.number b.number) numbers) in
    λ i. record { moment = moment i; kind = kind i; place = place i; number = number i }

not_true : (b : Bool) → (b ≡ true → ⊥) → b ≡ false
not_true true h = absurd (h refl)
not_true false h = refl

pub actions_apart : (a b : Action) → b ≢ a → is_eq (queue_order a b) ≡ false
actions_apart a b ne = not_true _ (λ h. ne (sym (actions_tie a b h)))

-- what isn't above in the queue has nothing before it
unreversed : (o p q r : Ordering) → is_gt (ordering_then o (ordering_then p (ordering_then q r)))
    ≡ false
    → is_lt (ordering_then (ordering_reverse o)
    (ordering_then (ordering_reverse p) (ordering_reverse q))) ≡ false
unreversed Less p q r h = refl
unreversed Equal Less q r h = refl
unreversed Equal Equal Less r h = refl
unreversed Equal Equal Equal r h = refl
unreversed Equal Equal Greater r h = absurd (true≢false h)
unreversed Equal Greater q r h = absurd (true≢false h)
unreversed Greater p q r h = absurd (true≢false h)

pub nothing_before : (d e : Action) → is_gt (queue_order d e) ≡ false → is_before e d ≡ false
nothing_before d e h =
    let turned : (x y : ℕ) → nat_cmp x y ≡ ordering_reverse (nat_cmp y x) =
    nat_cmp_total.antisymm in
    ap is_lt (λ i. ordering_then (turned e.moment d.moment i)
    (ordering_then (turned (kind_rank e.kind) (kind_rank d.kind) i) (turned e.place d.place i)))
    ∙ unreversed (nat_cmp d.moment e.moment) (nat_cmp (kind_rank d.kind) (kind_rank e.kind))
    (nat_cmp d.place e.place) (nat_cmp d.number e.number) h

ties_itself : (a : Action) → is_eq (queue_order a a) ≡ true
ties_itself a =
    let same : (x : ℕ) → nat_cmp x x ≡ Equal = tied_itself nat_cmp_total in
    ap is_eq (λ i. ordering_then (same a.moment i)
    (ordering_then (same (kind_rank a.kind) i)
    (ordering_then (same a.place i) (same a.number i))))

tied_or : (a b : Action) (t : Bool) → is_eq (queue_order a b) ≡ t → (a ≡ b) ⊎ (b ≢ a)
tied_or a b true h = inl (actions_tie a b h)
tied_or a b false h = inr
    (λ same. true≢false (sym (ties_itself a)
    ∙ ap (λ (d : Action). is_eq (queue_order a d)) (sym same) ∙ h))

-- the order decides whether they are
pub actions_decide : (a b : Action) → Decides (is_eq (derived a b)) (a ≡ b)
actions_decide = subst (λ (order : Action → Action → Ordering). (a b : Action)
    → Decides (is_eq (order a b)) (a ≡ b)) (sym actions_derived)
    (λ a b. (
      actions_tie a b,
      λ same. ap (λ (d : Action). is_eq (queue_order a d)) (sym same) ∙ ties_itself a,
    ))

-- actions are the same, or they aren't
pub actions_cases : (a b : Action) → (a ≡ b) ⊎ (b ≢ a)
actions_cases a b = tied_or a b (is_eq (queue_order a b)) refl

neither_first : (o p q : Ordering) → is_lt (ordering_then o (ordering_then p q)) ≡ false
    → is_lt (ordering_then (ordering_reverse o)
    (ordering_then (ordering_reverse p) (ordering_reverse q))) ≡ false → q ≡ Equal
neither_first Less p q h k = absurd (true≢false h)
neither_first Equal Less q h k = absurd (true≢false h)
neither_first Equal Equal Less h k = absurd (true≢false h)
neither_first Equal Equal Equal h k = refl
neither_first Equal Equal Greater h k = absurd (true≢false k)
neither_first Equal Greater q h k = absurd (true≢false k)
neither_first Greater p q h k = absurd (true≢false k)

-- where neither of two actions comes first, they are of one place
pub one_place : (d e : Action) → is_before d e ≡ false → is_before e d ≡ false → d.place ≡ e.place
one_place d e h k =
    let turned : (x y : ℕ) → ordering_reverse (nat_cmp y x) ≡ nat_cmp x y =
    λ x y. sym (nat_cmp_total.antisymm x y) in
    let back : is_lt (ordering_then (ordering_reverse (nat_cmp d.moment e.moment))
    (ordering_then (ordering_reverse (nat_cmp (kind_rank d.kind) (kind_rank e.kind)))
    (ordering_reverse (nat_cmp d.place e.place)))) ≡ false
    = ap is_lt (λ i. ordering_then (turned e.moment d.moment i)
    (ordering_then (turned (kind_rank e.kind) (kind_rank d.kind) i)
    (turned e.place d.place i))) ∙ k in
    numbers_tie d.place e.place
    (neither_first (nat_cmp d.moment e.moment) (nat_cmp (kind_rank d.kind) (kind_rank e.kind))
    (nat_cmp d.place e.place) h back)
