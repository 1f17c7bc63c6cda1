-- The rule of a log: what its seats know, and how each step changes that.
use Rattle.std.specs.Prelude.{◌≡◌, ◌≤◌, ◌+◌, ◌==◌, ℕ, List, [], ◌∷◌, ◌++◌, length}
use Rattle.std.specs.Prelude.{count_by, sum_by, true, false}
use mathlib.Core.Option.{some}
use mathlib.Core.List.{IsPrefix}
use lib.ListN.{get_elem?}
use Rattle.atomic_table.specs.Table.{Me, Step}
use Rattle.gate_word.specs.declared.rule.View.{View}

-- how often a number stands in a list
abbrev pub times : ℕ → List ℕ → ℕ
times n numbers = count_by (λ m. m == n) numbers

-- APART: no number stands twice
abbrev pub AreApart : List ℕ → Type 0
AreApart numbers = (n : ℕ) → times n numbers ≤ 1

-- the numbers of who raises a log by these entries: that of the first one is a further one
abbrev pub numbered : {E : Type 0} → List E → List E → List ℕ → List ℕ
numbered log [] own = own
numbered log (entry ∷ entries) own = length log ∷ own

module _ {E : Type 0} where
  -- what the keeper knows: the log, and the numbers of the readers that it took back
  abbrev pub keeper_view : List E → List ℕ → View E
  keeper_view log own = record { keeps = true; log = log; note = []; own = own; came = [] }

  -- what a reader knows: a beginning of the log, and its own numbers
  abbrev pub reader_view : List E → List ℕ → View E
  reader_view log own = record { keeps = false; log = log; note = []; own = own; came = [] }

  -- of two beginnings of one list, the longer
  abbrev pub longer : List E → List E → List E
  longer [] ys = ys
  longer (x ∷ xs) [] = x ∷ xs
  longer (x ∷ xs) (y ∷ ys) = x ∷ longer xs ys

  -- a view has beginnings of the log; the keeper's is the one at its seat, and has it all
  abbrev pub Fits : List E → ℕ → ℕ → View E → Type 0
  Fits log seat by v =
      IsPrefix v.log log × IsPrefix v.note log
      × (v.keeps ≡ true → (by ≡ seat) × (v.log ≡ log))

  -- how often a number stands in a view, and in all of them
  abbrev pub times_at : ℕ → View E → ℕ
  times_at n v = times n v.own + times n v.came

  abbrev pub times_in : ℕ → List (View E) → ℕ
  times_in n views = sum_by (times_at n) views

  -- one view is the keeper's, and each fits
  pub record KeptAt (log : List E) (views : List (View E)) : Type 0 where
    pub seat : ℕ
    pub keeper : (v : View E) × (get_elem? views seat ≡ some v) × (v.keeps ≡ true)
    pub all : (by : ℕ) (v : View E) → get_elem? views by ≡ some v → Fits log seat by v

  -- a number of the log stands in one view at most, and once there; no other stands in any
  pub record AreOwned (log : List E) (views : List (View E)) : Type 0 where
    pub once : (n : ℕ) → times_in n views ≤ 1
    pub made : (n : ℕ) → length log ≤ n → times_in n views ≡ 0

  -- THE RULE: there is one log, one view is the keeper's and has it all, each other has a
  -- beginning of it, and no two have a number of it. The word is the log's length
  abbrev pub Kept : List ℕ → List (View E) → Type 0
  Kept words views =
      (log : List E) × (words ≡ length log ∷ []) × KeptAt log views × AreOwned log views

  -- the keeper added these entries, and has numbered them for whom it noted, who knew a beginning
  -- of the log before
  abbrev pub raised : List E → View E → View E
  raised added v = record (keeper_view (v.log ++ added) v.own) {
    came = numbered v.log added v.came;
  }

  abbrev pub Raised : List E → Step ℕ → Me ℕ (View E) → ℕ → Me ℕ (View E) → Type 0
  Raised added s v found w = (w ≡ (raised added v.0, v.1)) × IsPrefix v.0.note v.0.log

  -- the keeper took back whom it noted, who knew a beginning of the log; all numbers are apart
  abbrev pub Compared : Step ℕ → Me ℕ (View E) → ℕ → Me ℕ (View E) → Type 0
  Compared s v found w =
      (w ≡ (keeper_view v.0.log (v.0.came ++ v.0.own), v.1)) × IsPrefix v.0.note v.0.log
      × AreApart (v.0.came ++ v.0.own)

  -- a reader took in what it had noted: of that and what it knew, one begins the other
  abbrev pub Took : Step ℕ → Me ℕ (View E) → ℕ → Me ℕ (View E) → Type 0
  Took s v found w =
      (w ≡ (reader_view (longer v.0.log v.0.note) v.0.own, v.1))
      × IsPrefix v.0.log (longer v.0.log v.0.note) × IsPrefix v.0.note (longer v.0.log v.0.note)

  -- what a seat tells another
  abbrev pub note_of : View E → View E
  note_of v = reader_view v.log []

  -- a seat that noted what another knows, with its numbers
  abbrev pub noted : View E → View E → View E
  noted v w =
      record { keeps = v.keeps; log = v.log; note = w.log; own = v.own; came = w.own }

  -- a seat that hands over the numbers that it noted, and who gets them
  abbrev pub left_by : View E → View E
  left_by v = record v { came = [] }

  abbrev pub handed_by : View E → View E
  handed_by v = reader_view v.log v.came
