-- Own places are kept: whoever finds one free waits, however many others do.
use Rattle.std.proofs.Common.{◌≡◌, ℕ, zero, suc, ◌+◌, ◌<◌, ◌≤◌, ◌==◌, List, [], ◌∷◌, Bool, true, false, ◌&&◌, ◌||◌, cond, if◌then◌else◌, length, sum_by, refl, sym, ap, ◌∙◌, arith, nat_lt, lt-ltb, ltb-true, true≢false, ⊎_elim}
use Rattle.std.proofs.lemmas.Bool.{or_cases}
use Rattle.std.proofs.lemmas.List.Sums.{sum_by-cons}
use Rattle.partitions.specs.declared.part.Part.{Part}
use Rattle.partitions.specs.Table.{Row, place_of, places, own_places, placed}
use Rattle.lifo_backlog.specs.declared.waiter.Waiter.{Waiter}
use Rattle.lifo_backlog.specs.Sharing.{waiting_at, in_everybodys, everybodys, has_place}
use Rattle.limiter_core.specs.Events.{Acquire, Reply, Admitted, Full, BacklogFull, Waiting}
use Rattle.limiter_core.specs.History.{Gate, Image, image_after, total}
use Rattle.limiter_core.specs.Answer.{reply_to, has_room, queued}
use Rattle.limiter_core.specs.Bound.{IsSound}
use Rattle.limiter_core.specs.Laws.{WaitsByPlaces, KeepsOwnPlaces}
use Rattle.lemmas.proofs.Bits.{ones}
use Rattle.limiter_core.proofs.LegalStaysSound.{small-place, stays_sound}

-- everybody who waits does so at one of the five places
all_there : (rows : List Row) (ws : List Waiter) → length rows ≤ 4
    → sum_by (waiting_at rows ws) places ≡ length ws
all_there rows [] four = refl
all_there rows (w ∷ ws) four =
    let k : ℕ = place_of rows w.part in
    let one : (p : ℕ) → waiting_at rows (w ∷ ws) p ≡ cond (k == p) 1 0 + waiting_at rows ws p =
    λ p. sum_by-cons (λ (v : Waiter). cond (place_of rows v.part == p) 1 0) w ws in
    omega (
      arith,
      one 0,
      one 1,
      one 2,
      one 3,
      one 4,
      ones k (small-place rows w.part four),
      all_there rows ws four,
    )

-- where an own place is free, fewer wait than may
own_left : (rows : List Row) (room : ℕ) (f : ℕ → ℕ) (p : ℕ) → p < 5 → f p < own_places rows p
    → placed rows ≤ room → in_everybodys rows f ≤ everybodys rows room → sum_by f places < room
own_left rows room f zero small free fits within = omega (arith, free, fits, within)
own_left rows room f (suc zero) small free fits within = omega (arith, free, fits, within)
own_left rows room f (suc (suc zero)) small free fits within = omega (arith, free, fits, within)
own_left rows room f (suc (suc (suc zero))) small free fits within =
    omega (arith, free, fits, within)
own_left rows room f (suc (suc (suc (suc zero)))) small free fits within =
    absurd (omega (arith, free))
own_left rows room f (suc (suc (suc (suc (suc p))))) small free fits within =
    absurd (omega (arith, small))

-- and so where one of everybody's is
shared_left : (rows : List Row) (room : ℕ) (f : ℕ → ℕ)
    → in_everybodys rows f < everybodys rows room → sum_by f places < room
shared_left rows room f free = omega (arith, free)

without-place : (full : Bool) → (if full && false then Waiting else BacklogFull) ≡ BacklogFull
without-place true = refl
without-place false = refl

-- whether a reply is that the backlog is full
abbrev is-full : Reply → Bool
is-full BacklogFull = true
is-full _ = false

module _ {S : Type 0} (g : Gate S) (i : Image S) (part : Part) (wait : Bool) (now : ℕ)
    (none : has_room g i (place_of g.rows part) ≡ false) (asks : wait ≡ true) where
  abbrev own : Bool
  own = has_place g.rows g.room (waiting_at g.rows i.waiters) (place_of g.rows part)

  replies : reply_to g i (Acquire part false wait now)
      ≡ (if nat_lt (length i.waiters) g.room && own then Waiting else BacklogFull)
  replies =
      ap (λ (b : Bool).
      if b then Admitted (total i + 1) else queued g i (place_of g.rows part) wait) none
      ∙ ap (queued g i (place_of g.rows part)) asks

  -- who finds no place free is told that the backlog is full
  pub refused : own ≡ false → BacklogFull ≡ reply_to g i (Acquire part false wait now)
  refused taken =
      sym (replies
      ∙ ap (λ (b : Bool). if nat_lt (length i.waiters) g.room && b then Waiting else BacklogFull)
      taken ∙ without-place (nat_lt (length i.waiters) g.room))

  -- and who finds one waits, where not as many wait as may
  pub waits_so : own ≡ true → length i.waiters < g.room
      → Waiting ≡ reply_to g i (Acquire part false wait now)
  waits_so free left =
      sym (replies
      ∙ ap (λ (b : Bool). if nat_lt (length i.waiters) g.room && b then Waiting else BacklogFull)
      free ∙ ap (λ (b : Bool). if b && true then Waiting else BacklogFull)
      (lt-ltb (length i.waiters) g.room left))

module _ {S : Type 0} (g : Gate S) where
  module _ (i : Image S) (s : IsSound g i) (fits : placed g.rows ≤ g.room) (part : Part) where
    abbrev p : ℕ
    p = place_of g.rows part

    abbrev waiting : ℕ → ℕ
    waiting = waiting_at g.rows i.waiters

    left : has_place g.rows g.room waiting p ≡ true → length i.waiters < g.room
    left free =
        let all = all_there g.rows i.waiters s.four in
        ⊎_elim (λ e. omega (
          arith,
          all,
          own_left g.rows g.room waiting p (small-place g.rows part s.four)
              (ltb-true (waiting p) (own_places g.rows p) e) fits s.shared,
        )) (λ e. omega (
          arith,
          all,
          shared_left g.rows g.room waiting
              (ltb-true (in_everybodys g.rows waiting) (everybodys g.rows g.room) e),
        )) (or_cases (nat_lt (waiting p) (own_places g.rows p))
        (nat_lt (in_everybodys g.rows waiting) (everybodys g.rows g.room)) free)

    by_places : (b : Bool) → has_place g.rows g.room waiting p ≡ b
        → queued g i p true ≡ (if b then Waiting else BacklogFull)
    by_places true e =
        ap (λ (b : Bool). if nat_lt (length i.waiters) g.room && b then Waiting else BacklogFull) e
        ∙ ap (λ (b : Bool). if b && true then Waiting else BacklogFull)
        (lt-ltb (length i.waiters) g.room (left e))
    by_places false e =
        ap (λ (b : Bool). if nat_lt (length i.waiters) g.room && b then Waiting else BacklogFull) e
        ∙ without-place (nat_lt (length i.waiters) g.room)

    waits_here : (now : ℕ) → has_room g i p ≡ false
        → reply_to g i (Acquire part false true now)
        ≡ (if has_place g.rows g.room waiting p then Waiting else BacklogFull)
    waits_here now none =
        ap (λ (b : Bool). if b then Admitted (total i + 1) else queued g i p true) none
        ∙ by_places (has_place g.rows g.room waiting p) refl

    never_full : (bypass wait : Bool) (now : ℕ) → waiting p < own_places g.rows p
        → is-full (reply_to g i (Acquire part bypass wait now)) ≡ false
    never_full true wait now free = refl
    never_full false false now free =
        elim (has_room g i p) as (λ b. is-full (if b then Admitted (total i + 1) else Full) ≡ false)
        [ true ↦ refl | false ↦ refl ]
    never_full false true now free = at (has_room g i p) refl
      where
        own : has_place g.rows g.room waiting p ≡ true
        own = ap (λ (b : Bool).
            b || nat_lt (in_everybodys g.rows waiting) (everybodys g.rows g.room))
            (lt-ltb (waiting p) (own_places g.rows p) free)

        at : (b : Bool) → has_room g i p ≡ b
            → is-full (reply_to g i (Acquire part false true now)) ≡ false
        at true e =
            ap (λ (b : Bool). is-full (if b then Admitted (total i + 1) else queued g i p true)) e
        at false e =
            ap is-full (waits_here now e)
            ∙ ap (λ (b : Bool). is-full (if b then Waiting else BacklogFull)) own

  pub waits_by_places : WaitsByPlaces g
  waits_by_places o h part now lawful sound legal fits =
      waits_here (image_after g o h) (stays_sound g o h lawful sound legal) fits part now

  pub keeps_own_places : KeepsOwnPlaces g
  keeps_own_places o h part bypass wait now lawful sound legal fits free full =
      true≢false (sym (ap is-full full) ∙ never_full (image_after g o h)
      (stays_sound g o h lawful sound legal) fits part bypass wait now free)
