-- How a list of waiters goes on, entry by entry.
use Rattle.std.proofs.Common.{◌≡◌, ℕ, ◌+◌, Bool, true, false, cond, not, ◌||◌}
use Rattle.std.proofs.Common.{List, [], ◌∷◌, ◌++◌, length, filter}
use Rattle.std.proofs.Common.{option_to_list, refl, sym, ap, ◌∙◌, arith, append_assoc}
use Rattle.std.specs.List.{list_any}
use Rattle.std.proofs.lemmas.List.{append-nil}
use Rattle.std.proofs.lemmas.List.Elements.{filter-append}
use Rattle.lifo_backlog.specs.declared.waiter.Waiter.{Waiter}
use Rattle.limiter_core.specs.declared.event.Entry.{Entry}
use Rattle.limiter_core.specs.History.{brought, starts_waiting, stops_waiting, untaken}

-- who waits after entries, the first of which has this number
abbrev pub stays : List Entry → List Waiter → List Waiter
stays t ws = untaken stops_waiting t ws

abbrev pub waiting_after : List Waiter → ℕ → List Entry → List Waiter
waiting_after ws next t = stays t ws ++ brought starts_waiting stops_waiting next t

-- whom no entry takes away stays
pub kept_all : (t : Waiter → Bool) → ((w : Waiter) → t w ≡ false) → (ws : List Waiter)
    → filter (λ w. not (t w)) ws ≡ ws
kept_all t none [] = refl
kept_all t none (w ∷ ws) =
    ap (λ (b : Bool). cond (not b) (w ∷ filter (λ v. not (t v)) ws) (filter (λ v. not (t v)) ws))
    (none w)
    ∙ ap (λ (vs : List Waiter). w ∷ vs) (kept_all t none ws)

pub stays_at_first : (ws : List Waiter) → stays [] ws ≡ ws
stays_at_first ws = kept_all (λ w. false) (λ w. refl) ws

-- taken away by the first entry, or by a later one
pub or_false : (b : Bool) → b || false ≡ b
or_false true = refl
or_false false = refl

module _ (e : Entry) (t : List Entry) where
  abbrev First : Waiter → Bool
  First w = stops_waiting w e || false

  abbrev Later : Waiter → Bool
  Later w = list_any (stops_waiting w) t

  one_by_one : (w : Waiter) (both rest : List Waiter) (first later : Bool)
      → stops_waiting w e ≡ first → Later w ≡ later → both ≡ filter (λ v. not (Later v)) rest
      → cond (not (first || later)) (w ∷ both) both
      ≡ filter (λ v. not (Later v)) (cond (not (first || false)) (w ∷ rest) rest)
  one_by_one w both rest true later is then same = same
  one_by_one w both rest false later is then same =
      ap (λ (vs : List Waiter). cond (not later) (w ∷ vs) vs) same
      ∙ ap (λ (b : Bool). cond (not b) (w ∷ filter (λ v. not (Later v)) rest)
      (filter (λ v. not (Later v)) rest)) (sym then)

  stays_more : (ws : List Waiter) → stays (e ∷ t) ws ≡ stays t (stays (e ∷ []) ws)
  stays_more [] = refl
  stays_more (w ∷ ws) =
      one_by_one w (stays (e ∷ t) ws) (stays (e ∷ []) ws) (stops_waiting w e) (Later w) refl refl
      (stays_more ws)

-- entries one after the other
pub waiting_more : (ws : List Waiter) (next : ℕ) (e : Entry) (t : List Entry)
    → waiting_after ws next (e ∷ t) ≡ waiting_after (waiting_after ws next (e ∷ [])) (next + 1) t
waiting_more ws next e t =
    let new = option_to_list (starts_waiting next e) in
    let kept = stays (e ∷ []) ws in
    let later = brought starts_waiting stops_waiting (next + 1) t in
    let one : waiting_after ws next (e ∷ []) ≡ kept ++ new =
    ap (λ (vs : List Waiter). kept ++ vs) (append-nil (stays [] new) ∙ stays_at_first new) in
    ap (λ (vs : List Waiter). vs ++ (stays t new ++ later)) (stays_more e t ws)
    ∙ sym (append_assoc (stays t kept) (stays t new) later)
    ∙ ap (λ (vs : List Waiter). vs ++ later)
    (sym (filter-append (λ w. not (list_any (stops_waiting w) t)) kept new))
    ∙ ap (λ (vs : List Waiter). stays t vs ++ later) (sym one)

pub waiting_at_first : (ws : List Waiter) (next : ℕ) → waiting_after ws next [] ≡ ws
waiting_at_first ws next = append-nil (stays [] ws) ∙ stays_at_first ws

pub waiting_both : (ws : List Waiter) (next : ℕ) (h t : List Entry)
    → waiting_after ws next (h ++ t)
    ≡ waiting_after (waiting_after ws next h) (next + length h) t
waiting_both ws next [] t =
    ap (λ (vs : List Waiter). waiting_after vs next t) (sym (waiting_at_first ws next))
    ∙ ap (λ (n : ℕ). waiting_after (waiting_after ws next []) n t) (omega arith)
waiting_both ws next (e ∷ h) t =
    let first = waiting_after ws next (e ∷ []) in
    waiting_more ws next e (h ++ t)
    ∙ waiting_both first (next + 1) h t
    ∙ ap (λ (vs : List Waiter). waiting_after vs (next + 1 + length h) t)
    (sym (waiting_more ws next e h))
    ∙ ap (λ (n : ℕ). waiting_after (waiting_after ws next (e ∷ h)) n t) (omega arith)
