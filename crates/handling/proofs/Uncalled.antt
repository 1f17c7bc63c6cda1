-- A handler that begins over ends that nobody called before.
use Rattle.std.proofs.Common.{◌≡◌, List, ℕ, Option, subst}
use Rattle.counted_io.specs.declared.counted.Counted.{Counted}
use Rattle.counted_io.specs.Counted.{fresh}
use Rattle.client_tokens.specs.Roll.{Seen}
use Rattle.handling.specs.Handled.{Ends, uncalled}

-- the two ends
abbrev both : Counted (Option (List ℕ)) → Counted (Option (List ℕ)) → Ends
both reader writer = record { reader = reader; writer = writer }

pub begun : {T : Type 0} (Handles : Ends → Ends → T → Type 0)
    (reader writer : Counted (Option (List ℕ))) (before : Seen) (ends : Ends) (told : T)
    → reader ≡ fresh before.sent → writer ≡ fresh before.written
    → Handles (both reader writer) ends told → Handles (uncalled before) ends told
begun Handles reader writer before ends told from to is =
    subst (λ (it : Counted (Option (List ℕ))). Handles (both (fresh before.sent) it) ends told) to
    (subst (λ (it : Counted (Option (List ℕ))). Handles (both it writer) ends told) from is)
