-- What a calendar keeps while it is read and its queue shrinks.
use Rattle.std.proofs.Common.{◌≡◌, ◌≢◌, ℕ, zero, suc, ◌+◌, ◌<◌, ◌≤◌, Bool, true, false, List, []}
use Rattle.std.proofs.Common.{◌∷◌, length, nat_eq, Option, None, Some, slice_get, unwrap_or, refl}
use Rattle.std.proofs.Common.{sym, ap, ◌∙◌, subst, true≢false, below_more, arith}
use Rattle.std.specs.declared.cmp.Ordering.{Ordering}
use Rattle.std.specs.BTreeSet as tree
use Rattle.std.specs.HashMap as hash
use Rattle.limiter_core.specs.declared.event.Entry.{Entry}
use Rattle.virtual_time.specs.declared.action.Action.{Action}
use Rattle.virtual_time.specs.declared.calendar.Calendar.{Calendar}
use Rattle.virtual_time.specs.Next.{Follows, IsLeast, promotes}
use Rattle.virtual_time.specs.Calendar.{has, Has, queue_order, weight, actions_left, IsKept, Loses}
use Rattle.virtual_time.proofs.Orders.{derived, actions_derived, actions_apart, nothing_before}

true_unless : (b : Bool) → (b ≡ false → ⊥) → b ≡ true
true_unless true h = refl
true_unless false h = absurd (h refl)

-- what a removal does
pub removed : (old new : tree.BTreeSet Action) (d : Action) → true ≡ tree.contains derived old d
    → tree.Updates derived old new d false → actions_left old ≡ weight d + actions_left new
    → Loses old new d
removed old new d had updates fewer =
    let told : tree.Updates queue_order old new d false =
    subst (λ (order : Action → Action → Ordering). tree.Updates order old new d false)
    actions_derived updates in
    record {
      had = sym (had ∙ ap (λ (order : Action → Action → Ordering). tree.contains order old d)
          actions_derived);
      gone = told.1;
      others = λ e apart. told.2 e (actions_apart d e apart);
      left = fewer;
    }

-- what an insertion does
pub inserted : (old new : tree.BTreeSet Action) (d : Action) → tree.Updates derived old new d true
    → (has new d ≡ true) × ((e : Action) → e ≢ d → has new e ≡ has old e)
inserted old new d updates =
    let told : tree.Updates queue_order old new d true =
    subst
    (λ (order : Action → Action → Ordering). tree.Updates order old new d true) actions_derived
    updates in
    (told.1, λ e apart. told.2 e (actions_apart d e apart))

-- what is least in the queue is the least action
pub least_queued : (old : tree.BTreeSet Action) (d : Action) → true ≡ tree.contains derived old d
    → tree.IsLowerBound derived old d → IsLeast (Has old) d
least_queued old d had bound = record {
  pending = sym (had ∙ ap (λ (order : Action → Action → Ordering). tree.contains order old d)
      actions_derived);
  least = λ e h. nothing_before d e
      (subst (λ (order : Action → Action → Ordering). tree.IsLowerBound order old d) actions_derived
      bound e h);
}

-- what is queued still was queued before
pub had_before : (old new : tree.BTreeSet Action) (d : Action) → Loses old new d → (e : Action)
    → Has new e → Has old e
had_before old new d lost e h = true_unless (has old e) (λ none.
    true≢false (sym h ∙ lost.others e
    (λ same. true≢false (sym lost.had ∙ sym (ap (has old) same) ∙ none)) ∙ none))

-- a giving up follows also where more is pending
pub follows_more : (P Q : Action → Type 0) (entries : List Entry) (k : ℕ) (d : Action)
    → ((e : Action) → P e → Q e) → Follows P entries k d → Follows Q entries k d
follows_more P Q entries k d more f = record {
  gives_up = f.gives_up;
  promoted = f.promoted;
  earlier = f.earlier;
  late = f.late;
  waits = more (record d { moment = f.late }) f.waits;
}

-- none follows an entry that promotes nobody
pub none_of_call : (P : Action → Type 0) (entries : List Entry) (k : ℕ)
    → promotes (slice_get entries k) ≡ None → (d : Action) → Follows P entries k d → ⊥
none_of_call P entries k none d f = cc (sym f.promoted ∙ none)

module _ (P : Action → Type 0) (entries : List Entry) (k w s : ℕ)
    (told : promotes (slice_get entries k) ≡ Some (w, s)) where
  pub number_promoted : (d : Action) → Follows P entries k d → d.number ≡ w
  number_promoted d f = ap (λ (o : Option (ℕ × ℕ)). (unwrap_or o (w, s)).0) (sym f.promoted ∙ told)

  -- none follows a promotion of a number that wasn't given out before it
  pub none_of_later : k ≤ w → (d : Action) → Follows P entries k d → ⊥
  none_of_later later d f = omega (arith, f.earlier, number_promoted d f, later)

module _ (entries : List Entry) (c : Calendar) (kept : IsKept entries c) (new : Calendar)
    (fewer : (e : Action) → Has new.actions e → Has c.actions e)
    (same : new.waiters ≡ c.waiters) where
  -- a calendar whose queue shrinks, whatever it has read
  shrunk : ((k : ℕ) (d : Action) → k < new.read → Follows (Has new.actions) entries k d → ⊥)
      → new.read ≤ length entries → IsKept entries new
  shrunk read within =
      let found : (n : ℕ) → hash.get nat_eq new.waiters n ≡ hash.get nat_eq c.waiters n =
      λ n i. hash.get nat_eq (same i) n in
      record {
        found = λ d h waits. found d.number ∙ kept.found d (fewer d h) waits;
        gives_up = λ n d h. kept.gives_up n d (sym (found n) ∙ h);
        named = λ n d h. kept.named n d (sym (found n) ∙ h);
        numbered = λ d h. kept.numbered d (fewer d h);
        read = read;
        within = within;
      }

  none_before : (k : ℕ) (d : Action) → k < c.read → Follows (Has new.actions) entries k d → ⊥
  none_before k d below f =
      kept.read k d below (follows_more (Has new.actions) (Has c.actions) entries k d fewer f)

  -- it has read one entry more, which no giving up follows any more
  pub read_more : new.read ≡ c.read + 1 → c.read < length entries
      → ((d : Action) → Follows (Has new.actions) entries c.read d → ⊥) → IsKept entries new
  read_more next more none =
      shrunk (λ k d below f. below_more (λ (j : ℕ). (e : Action)
      → Follows (Has new.actions) entries j e → ⊥) c.read
      (λ j under e g. none_before j e under g) none k (omega (arith, next, below)) d f)
      (omega (arith, next, more))

  -- it has read nothing more
  pub stays_kept : new.read ≡ c.read → IsKept entries new
  stays_kept read = shrunk (λ k d below f. none_before k d (omega (arith, read, below)) f)
      (omega (arith, read, kept.within))

module _ (entries : List Entry) (c : Calendar) (kept : IsKept entries c) (k w s : ℕ)
    (told : promotes (slice_get entries k) ≡ Some (w, s)) where
  -- the giving up that is found under a number is the one that waits under it
  one_waits : (P : Action → Type 0) (d : Action) (f : Follows P entries k d)
      → Has c.actions (record d { moment = f.late }) → hash.get nat_eq c.waiters w
      ≡ Some (record d { moment = f.late })
  one_waits P d f had = ap (hash.get nat_eq c.waiters)
      (sym (number_promoted P entries k w s told d f))
      ∙ kept.found (record d { moment = f.late }) had f.gives_up

  -- none follows where none is found, or what is found isn't queued
  pub none_found : ((d : Action) → hash.get nat_eq c.waiters w ≡ Some d → has c.actions d ≡ false)
      → (d : Action) → Follows (Has c.actions) entries k d → ⊥
  none_found none d f = true≢false (sym f.waits
      ∙ none (record d { moment = f.late }) (one_waits (Has c.actions) d f f.waits))

  module _ (late : Action) (new : tree.BTreeSet Action) (found : hash.get nat_eq c.waiters w
      ≡ Some late) (lost : Loses c.actions new late) where
    -- what is found follows
    pub follows_found : w < k → Follows (Has c.actions) entries k (record late { moment = s })
    follows_found before =
        let number : late.number ≡ w = kept.named w late found in
        record {
          gives_up = kept.gives_up w late found;
          promoted = told ∙ ap (λ (n : ℕ). Some (n, s)) (sym number);
          earlier = omega (arith, number, before);
          late = late.moment;
          waits = lost.had;
        }

    -- and none does once it left
    pub none_left : (d : Action) → Follows (Has new) entries k d → ⊥
    none_left d f =
        let had : Has c.actions (record d { moment = f.late }) =
        had_before c.actions new late lost (record d { moment = f.late }) f.waits in
        let same : record d { moment = f.late } ≡ late =
        ap (λ (o : Option Action). unwrap_or o late) (sym (one_waits (Has new) d f had)
        ∙ found) in
        true≢false (sym f.waits ∙ ap (has new) same ∙ lost.gone)

-- who is promoted has an entry
pub promoted_within : (entries : List Entry) (k : ℕ) (p : ℕ × ℕ) → promotes (slice_get entries k)
    ≡ Some p → k < length entries
promoted_within [] k p h = cc
promoted_within (e ∷ es) zero p h = omega arith
promoted_within (e ∷ es) (suc k) p h = omega (arith, promoted_within es k p h)
