-- The rolls of tokens that are put together, and those of the turns of their workers.
use Rattle.std.proofs.Common.{◌≡◌, ◌∙◌, ℕ, List, [], ◌∷◌, ◌++◌, Option, Some, None, IfSome}
use Rattle.std.proofs.Common.{ap, append_assoc, append-nil, map, refl, subst, sym}
use Rattle.std.proofs.lemmas.Option.{none-some, same_Some}
use Rattle.std.specs.List.{AllZip}
use Rattle.listening.specs.Accepted.{token_of}
use Rattle.client_tokens.specs.Roll.{Joins, Roll, Seen, both, nobody}
use Rattle.handling.specs.declared.door.Door.{Door}
use Rattle.handling.specs.Doors.{counted_in}
use Rattle.serving.specs.declared.jobs.WorkerExit.{WorkerExit}
use Rattle.serving.specs.declared.jobs.JobResult.{JobResult}
use Rattle.serving.specs.declared.jobs.JobResult.TheVariants as left
use Rattle.serving.specs.Turns.{Rolls, Turn}
use Rattle.serving.specs.Workers.{ended_in}
use Rattle.serve_command.specs.Worked.{all_joined, joined, roll_by, roll_in, rolls_left}

abbrev roll_with : List Seen → List Seen → Roll
roll_with came left = record { came = came; left = left }

same_roll : (came came' left left' : List Seen) → came ≡ came' → left ≡ left'
    → roll_with came left ≡ roll_with came' left'
same_roll came came' left left' a b =
    ap (λ (xs : List Seen). roll_with xs left) a ∙ ap (λ (xs : List Seen). roll_with came' xs) b

behind_nobody : (roll : Roll) → both roll nobody ≡ roll
behind_nobody roll =
    same_roll (roll.came ++ []) roll.came (roll.left ++ []) roll.left (append-nil roll.came)
    (append-nil roll.left)

both_assoc : (a b c : Roll) → both (both a b) c ≡ both a (both b c)
both_assoc a b c =
    same_roll ((a.came ++ b.came) ++ c.came) (a.came ++ (b.came ++ c.came))
    ((a.left ++ b.left) ++ c.left) (a.left ++ (b.left ++ c.left))
    (append_assoc a.came b.came c.came) (append_assoc a.left b.left c.left)

pub joined_nobody : (roll : Option Roll) → joined roll (Some nobody) ≡ roll
joined_nobody None = refl
joined_nobody (Some it) = ap (λ (r : Roll). Some r) (behind_nobody it)

nobody_joined : (roll : Option Roll) → joined (Some nobody) roll ≡ roll
nobody_joined None = refl
nobody_joined (Some it) = refl

joined_assoc : (a b c : Option Roll) → joined (joined a b) c ≡ joined a (joined b c)
joined_assoc None None None = refl
joined_assoc None None (Some c) = refl
joined_assoc None (Some b) None = refl
joined_assoc None (Some b) (Some c) = refl
joined_assoc (Some a) None None = refl
joined_assoc (Some a) None (Some c) = refl
joined_assoc (Some a) (Some b) None = refl
joined_assoc (Some a) (Some b) (Some c) = ap (λ (r : Roll). Some r) (both_assoc a b c)

-- what was put together is known only where both were
pub put_together : (old other new : Option Roll) → Joins old other new
    → IfSome new (λ all. joined old other ≡ Some all)
put_together old other None joins = tt
put_together None None (Some new) joins = absurd joins
put_together None (Some other) (Some new) joins = absurd joins
put_together (Some old) None (Some new) joins = absurd joins
put_together (Some old) (Some other) (Some new) joins = ap (λ (r : Roll). Some r) (sym joins)

-- and so it is with a list of one token, and of none
pub with_one : (old own new : Option Roll) → Joins old own new
    → IfSome new (λ all. joined old (joined own (Some nobody)) ≡ Some all)
with_one old own None joins = tt
with_one old own (Some new) joins =
    ap (λ (r : Option Roll). joined old r) (joined_nobody own)
    ∙ put_together old own (Some new) joins

pub with_none : (old : Option Roll) → IfSome old (λ all. joined old (Some nobody) ≡ Some all)
with_none None = tt
with_none (Some old) = joined_nobody (Some old)

-- and of a token by which nobody was given yet
pub nobody_first : (roll : Option Roll) → IfSome roll (λ it. it ≡ nobody)
    → IfSome roll (λ all. Some nobody ≡ Some all)
nobody_first None none = tt
nobody_first (Some it) none = ap (λ (r : Roll). Some r) (sym none)

module _ {L K N P B D : Type 0} (roll : L → K → Option Roll) (listener : L) where
  abbrev rolls : List (JobResult (Door L K N) P B D) → List (Option Roll)
  rolls = rolls_left roll listener

  rolls_more : (lefts : List (JobResult (Door L K N) P B D)) (l : JobResult (Door L K N) P B D)
      → all_joined (rolls (lefts ++ l ∷ []))
      ≡ joined (all_joined (rolls lefts)) (all_joined (rolls (l ∷ [])))
  rolls_more [] l = sym (nobody_joined (all_joined (rolls (l ∷ []))))
  rolls_more (left.SideTask made ∷ lefts) l = rolls_more lefts l
  rolls_more (left.Worked ended ∷ lefts) l =
      let own = roll listener (token_of (counted_in ended.door)) in
      ap (λ (r : Option Roll). joined own r) (rolls_more lefts l)
      ∙ sym (joined_assoc own (all_joined (rolls lefts)) (all_joined (rolls (l ∷ []))))

  -- with one token more
  pub one_token_more : (lefts : List (JobResult (Door L K N) P B D))
      (l : JobResult (Door L K N) P B D) (old new : Option Roll)
      → IfSome old (λ all. all_joined (rolls lefts) ≡ Some all)
      → IfSome new (λ all. joined old (all_joined (rolls (l ∷ []))) ≡ Some all)
      → IfSome new (λ all. all_joined (rolls (lefts ++ l ∷ [])) ≡ Some all)
  one_token_more lefts l old None before one = tt
  one_token_more lefts l None (Some new) before one = none (all_joined (rolls (l ∷ []))) one
    where
      none : (r : Option Roll) → joined None r ≡ Some new
          → all_joined (rolls (lefts ++ l ∷ [])) ≡ Some new
      none None same = absurd (none-some new same)
      none (Some r) same = absurd (none-some new same)
  one_token_more lefts l (Some old) (Some new) before one =
      rolls_more lefts l
      ∙ ap (λ (r : Option Roll). joined r (all_joined (rolls (l ∷ [])))) before ∙ one

-- a roll that began with nobody is that of the turns
own_roll : (turns : List Turn) (roll : Roll) → Rolls turns (Some nobody) (Some roll)
    → roll_in turns ≡ roll
own_roll turns roll rolled =
    same_roll _ roll.came _ roll.left (sym rolled.0) (sym rolled.1)

-- and all of them together are those of all turns
pub whole_roll : {E : Type 0} (of : E → Option Roll) (ends : List E) (turns : List (List Turn))
    (all : Roll) → AllZip (λ end own. Rolls own (Some nobody) (of end)) ends turns
    → all_joined (map of ends) ≡ Some all → roll_by turns ≡ all
whole_roll of [] [] all rolled same = same_Some nobody all same
whole_roll of [] (ts ∷ turns) all rolled same = absurd rolled
whole_roll of (e ∷ ends) [] all rolled same = absurd rolled
whole_roll {E} of (e ∷ ends) (ts ∷ turns) all rolled same =
    go (of e) (all_joined (map of ends)) rolled.0 (λ rest. whole_roll of ends turns rest rolled.1)
    same where
      go : (own rest : Option Roll) → Rolls ts (Some nobody) own
          → ((it : Roll) → rest ≡ Some it → roll_by turns ≡ it)
          → joined own rest ≡ Some all → both (roll_in ts) (roll_by turns) ≡ all
      go None None first later same = absurd (none-some all same)
      go None (Some r) first later same = absurd (none-some all same)
      go (Some o) None first later same = absurd (none-some all same)
      go (Some o) (Some r) first later same =
          ap (λ (x : Roll). both x (roll_by turns)) (own_roll ts o first)
          ∙ ap (λ (x : Roll). both o x) (later r refl)
          ∙ same_Some (both o r) all same

-- so whom a listener gave in all, by what is known of all tokens together, are those of all turns
pub gave_turns : {E X : Type 0} (of : E → Option Roll) (ends : List E) (turns : List (List Turn))
    (Gave : Roll → Type 0) (known : Option Roll) (final : Option X)
    → AllZip (λ end own. Rolls own (Some nobody) (of end)) ends turns
    → IfSome known (λ all. all_joined (map of ends) ≡ Some all)
    → IfSome final (λ _. (rolled : Roll) × (known ≡ Some rolled) × Gave rolled)
    → IfSome final (λ _. Gave (roll_by turns))
gave_turns of ends turns Gave known None rolled joins gave = tt
gave_turns of ends turns Gave known (Some it) rolled joins gave =
    let all = gave.0 in
    let same : all_joined (map of ends) ≡ Some all =
    subst (λ (k : Option Roll). IfSome k (λ all. all_joined (map of ends) ≡ Some all)) gave.1
    joins in
    subst Gave (sym (whole_roll of ends turns all rolled same)) gave.2
