-- What all workers brought back, beside the hands that it is of.
use Rattle.std.proofs.Common.{◌≡◌, ℕ, zero, suc, [], ◌∷◌, ◌++◌, List, Option, Some, None, length, refl, sym, ap, Result, Ok, IfOk, ◌∙◌, subst, arith, inl, inr, ◌⊎◌}
use Rattle.std.specs.Prelude.{slice_get, IsSomeAnd, MatchOption, Vec}
use Rattle.std.specs.List.{AllZip}
use Rattle.std.specs.declared.alloc.Global.{Global}
use Rattle.std.specs.declared.alloc.AllocError.{AllocError}
use Rattle.std.proofs.lemmas.Option.{same_Some, none-some}
use Rattle.std.proofs.lemmas.Slice.Zip.{AllZip-right}
use Rattle.lemmas.proofs.Lists.{length-one_more}
use Rattle.gate_ledgers.specs.Receipt.{Told}
use Rattle.gate_history.specs.Refusal.{Refusal}
use Rattle.audit.specs.Firsts.{EachHas}
use Rattle.shared_gate.specs.Calls.{seen_by}
use Rattle.trace.specs.declared.arrival.Arrival.{Arrival}
use Rattle.load_run.specs.declared.worker.Worker.{Worker}
use Rattle.load_run.specs.Worker.{IsWork}
use Rattle.load_run.specs.Workers.{AreWork, HasWorked}
use Rattle.load_run.specs.Gathered.{IsKeptAt}

-- where an item of joined lists stands
placed : {X : Type 0} (xs : List X) (y : X) (n : ℕ) (x : X) → slice_get (xs ++ y ∷ []) n ≡ Some x
    → (slice_get xs n ≡ Some x) ⊎ ((n ≡ length xs) × (y ≡ x))
placed [] y zero x here = inr (omega arith, same_Some y x here)
placed [] y (suc n) x here = absurd (none-some x here)
placed (z ∷ xs) y zero x here = inl here
placed (z ∷ xs) y (suc n) x here = elim (placed xs y n x here) [
  | inl there ↦ inl there
  | inr last ↦ inr (omega (arith, last.0), last.1)
]

-- what stands in a list stands in it with one item more, which stands last
still : {X : Type 0} (xs : List X) (y : X) (n : ℕ) (x : X) → slice_get xs n ≡ Some x
    → slice_get (xs ++ y ∷ []) n ≡ Some x
still [] y n x here = absurd (none-some x here)
still (z ∷ xs) y zero x here = here
still (z ∷ xs) y (suc n) x here = still xs y n x here

at_last : {X : Type 0} (xs : List X) (y : X) → slice_get (xs ++ y ∷ []) (length xs) ≡ Some y
at_last [] y = refl
at_last (z ∷ xs) y = at_last xs y

-- one item more in each of two lists that are as long as each other
pub long_more : {X Y : Type 0} (xs all : List X) (x : X) (ys : List Y) (y : Y)
    → all ≡ xs ++ x ∷ [] → length xs ≡ length ys → length all ≡ length (ys ++ y ∷ [])
long_more xs all x ys y joined same =
    ap length joined ∙ length-one_more xs x ∙ ap suc same ∙ sym (length-one_more ys y)

-- one item more that has the property of its place
pub each_more : {X : Type 0} (P : ℕ → X → Type 0) (xs all : List X) (y : X) → all ≡ xs ++ y ∷ []
    → EachHas P xs → P (length xs) y → EachHas P all
each_more P xs all y joined has own n x here =
    elim (placed xs y n x (ap (λ (zs : List _). slice_get zs n) (sym joined) ∙ here)) [
      | inl there ↦ has n x there
      | inr last ↦ subst (λ (m : ℕ). P m x) (sym last.0) (subst (P (length xs)) last.1 own)
    ]

-- one worker's lists more
module _ {M : Type 0} (kept all : List (Vec Told Global)) (spent every : List (Vec Refusal Global))
    (worker : Worker M)
    (done more : List (Result (Worker M) AllocError)) (back : Result (Worker M) AllocError)
    (joined : all ≡ kept ++ worker.receipts ∷ []) (added : every ≡ spent ++ worker.refusals ∷ [])
    (count : length kept ≡ length done) (beside : length spent ≡ length done)
    (is : back ≡ Ok worker) (longer : more ≡ done ++ back ∷ []) where
  still_kept : (n : ℕ) (d : Result (Worker M) AllocError) → IsKeptAt kept spent n d
      → IsKeptAt all every n d
  still_kept n d at = record {
    worker = at.worker;
    is = at.is;
    receipts =
        ap (λ (ls : List (Vec Told Global)). slice_get ls n) joined
        ∙ still kept worker.receipts n at.worker.receipts at.receipts;
    refusals =
        ap (λ (ls : List (Vec Refusal Global)). slice_get ls n) added
        ∙ still spent worker.refusals n at.worker.refusals at.refusals;
  }

  last_kept : IsKeptAt all every (length done) back
  last_kept = record {
    worker = worker;
    is = is;
    receipts =
        ap (λ (ls : List (Vec Told Global)). slice_get ls (length done)) joined
        ∙ ap (λ (n : ℕ). slice_get (kept ++ worker.receipts ∷ []) n) (sym count)
        ∙ at_last kept worker.receipts;
    refusals =
        ap (λ (ls : List (Vec Refusal Global)). slice_get ls (length done)) added
        ∙ ap (λ (n : ℕ). slice_get (spent ++ worker.refusals ∷ []) n) (sym beside)
        ∙ at_last spent worker.refusals;
  }

  pub kept_more : EachHas (IsKeptAt kept spent) done → EachHas (IsKeptAt all every) more
  kept_more has =
      each_more (IsKeptAt all every) done more back longer
      (λ n d there. still_kept n d (has n d there)) last_kept

-- what stands at a place of either list, one within the other's length
beside_it : {X Y : Type 0} (xs : List X) (ys : List Y) (n : ℕ) (x : X) → length xs ≡ length ys
    → slice_get xs n ≡ Some x → (y : Y) × (slice_get ys n ≡ Some y)
beside_it [] ys n x same here = absurd (none-some x here)
beside_it (z ∷ xs) [] n x same here = absurd (omega (arith, same))
beside_it (z ∷ xs) (y ∷ ys) zero x same here = (y, refl)
beside_it (z ∷ xs) (y ∷ ys) (suc n) x same here = beside_it xs ys n x (omega (arith, same)) here

-- whoever made what stands at a place
module _ {H D : Type 0} (Q : H → D → Type 0) (hands : List H) (n : ℕ) (d : D) where
  maker : (o : Option H) → slice_get hands n ≡ o → IsSomeAnd o (λ h. Q h d)
      → (h : H) × (slice_get hands n ≡ Some h) × Q h d
  maker None is none = absurd none
  maker (Some h) is made = (h, is, made)

  pub maker_of : (done : List D) → AllZip Q hands done → slice_get done n ≡ Some d
      → (h : H) × (slice_get hands n ≡ Some h) × Q h d
  maker_of done zipped here =
      maker (slice_get hands n) refl
      (subst (λ (o : Option D).
      MatchOption o (Unit {0}) (λ y. IsSomeAnd (slice_get hands n) (λ x. Q x y))) here
      (AllZip-right Q hands done zipped n))

-- THE WORK OF ALL, by that of each hand
module _ {H M : Type 0} (workers : ℕ) (arrivals : List Arrival) (P : ℕ → H → Type 0)
    (Q : H → Result (Worker M) AllocError → Type 0)
    (own : (n : ℕ) (h : H) (r : Result (Worker M) AllocError) → P n h → Q h r
    → IfOk r (λ w. IsWork workers n arrivals w.receipts.items w.refusals.items
    (seen_by w.pass)))
    (hands : List H) (done : List (Result (Worker M) AllocError))
    (kept : List (Vec Told Global)) (spent : List (Vec Refusal Global)) where
  worked_by : (n : ℕ) (r : Result (Worker M) AllocError) (list : Vec Told Global)
      → slice_get kept n ≡ Some list → IsKeptAt kept spent n r
      → IfOk r (λ w. IsWork workers n arrivals w.receipts.items w.refusals.items
      (seen_by w.pass))
      → HasWorked workers n arrivals spent list.items
  worked_by n r list here at work = record {
    refused = at.worker.refusals;
    here = at.refusals;
    until = seen_by at.worker.pass;
    work =
        subst (λ (l : Vec Told Global).
        IsWork workers n arrivals l.items at.worker.refusals.items (seen_by at.worker.pass))
        (same_Some at.worker.receipts list (sym at.receipts ∙ here))
        (subst (λ (b : Result (Worker M) AllocError).
        IfOk b (λ w. IsWork workers n arrivals w.receipts.items w.refusals.items
        (seen_by w.pass))) at.is work);
  }

  pub all_work : EachHas P hands → AllZip Q hands done → length kept ≡ length done
      → EachHas (IsKeptAt kept spent) done → AreWork workers arrivals kept spent
  all_work has zipped count each n list here =
      let back = beside_it kept done n list count here in
      let made = maker_of Q hands n back.0 done zipped back.1 in
      worked_by n back.0 list here (each n back.0 back.1)
      (own n made.0 back.0 (has n made.0 made.1) made.2)
