-- Beginnings of bodies, one behind the other.
use Rattle.std.proofs.Common.{rules, ◌≡◌, ◌∙◌, ◌++◌, sym, ap, append_assoc, refl, ℕ, List, [], subst}
use Rattle.std.specs.Prelude.{Option, Some, None, Ok, Err}
use Rattle.std.specs.Io.KnownBytes.{Consumes}
use Rattle.message_reading.specs.declared.fault.MessageFault.{MessageFault}
use Rattle.message_reading.specs.declared.fault.MessageFault.TheVariants.{Memory, Read, TurnLimit, Bodies, Bytes}
use Rattle.message_reading.specs.Reading.{Reading}
use Rattle.message_reading.specs.Chunks.{in_front}
use Rattle.body_pieces.specs.declared.rest.Rest.{Rest}
use Rattle.body_pieces.specs.Beginnings.{Begins, GaveBeginning, GaveFault, IsAtItsEnd}
use Rattle.body_pieces.specs.Rests.{IsRest}

pub in_front-nil : (r : Reading (List ℕ)) → r ≡ in_front [] r
in_front-nil (Ok p) = refl
in_front-nil (Err f) = refl

pub in_front-append : (a b : List ℕ) (r : Reading (List ℕ))
    → in_front a (in_front b r) ≡ in_front (a ++ b) r
in_front-append a b (Ok p) = rw (append_assoc a b p.0) refl
in_front-append a b (Err f) = refl

-- nothing was read yet
pub begun : (rest : Rest) → Begins rest [] [] rest
begun rest = λ more r is. subst (IsRest rest more) (in_front-nil r) is

-- two beginnings, one behind the other
pub begun_more : (rest mid after : Rest) (xs ys p q : List ℕ) → Begins rest xs p mid
    → Begins mid ys q after → Begins rest (xs ++ ys) (p ++ q) after
begun_more rest mid after xs ys p q one two = λ more r is.
    let both = one (ys ++ more) _ (two more r is) in
    subst (λ (bytes : List ℕ). IsRest rest bytes (in_front (p ++ q) r))
    (sym (append_assoc xs ys more))
    (subst (IsRest rest (xs ++ (ys ++ more))) (in_front-append p q r) both)

-- a part of what a reader had
pub gave : (rest after : Rest) (old new : Option (List ℕ)) (part payload : List ℕ)
    → Consumes old new part → Begins rest part payload after
    → GaveBeginning rest old new payload after
gave rest after None new part payload given is = search rules
gave rest after (Some xs) None part payload given is = absurd given
gave rest after (Some xs) (Some ys) part payload given is = (part, given, is)

-- two beginnings that a reader gave, one behind the other
pub gave_more : (rest mid after : Rest) (old now new : Option (List ℕ)) (p q : List ℕ)
    → GaveBeginning rest old now p mid → GaveBeginning mid now new q after
    → GaveBeginning rest old new (p ++ q) after
gave_more rest mid after None now new p q one two = tt
gave_more rest mid after (Some xs) None new p q one two = absurd one
gave_more rest mid after (Some xs) (Some ys) None p q one two = absurd two
gave_more rest mid after (Some xs) (Some ys) (Some zs) p q one two =
    let all : xs ≡ (one.0 ++ two.0) ++ zs = one.1 ∙ ap (λ (r : List ℕ). one.0 ++ r) two.1
    ∙ sym (append_assoc one.0 two.0 zs) in
    (one.0 ++ two.0, all, begun_more rest mid after one.0 two.0 p q one.2 two.2)

-- nothing was given yet
pub gave_none : (rest : Rest) (old : Option (List ℕ)) → GaveBeginning rest old old [] rest
gave_none rest None = tt
gave_none rest (Some xs) = ([], refl, begun rest)

-- a fault behind a beginning is the fault of all
pub gave_fault : (rest mid : Rest) (old now : Option (List ℕ)) (p : List ℕ) (f : MessageFault)
    → GaveBeginning rest old now p mid → GaveFault mid now f → GaveFault rest old f
gave_fault rest mid None now p f one two = tt
gave_fault rest mid (Some xs) None p f one two = absurd one
gave_fault rest mid (Some xs) (Some ys) p Memory one two = tt
gave_fault rest mid (Some xs) (Some ys) p Read one two = tt
gave_fault rest mid (Some xs) (Some ys) p TurnLimit one two = tt
gave_fault rest mid (Some xs) (Some ys) p Bodies one two = tt
gave_fault rest mid (Some xs) (Some ys) p (Bytes f) one two =
    subst (λ (bytes : List ℕ). IsRest rest bytes (Err f)) (sym one.1) (one.2 ys (Err f) two)

-- nothing is left behind what is read, nor behind all of it
pub ended_since : (rest mid after : Rest) (old now new : Option (List ℕ)) (p : List ℕ)
    → GaveBeginning rest old now p mid → IsAtItsEnd after now new → IsAtItsEnd after old new
ended_since rest mid after None now new p gave last = tt
ended_since rest mid after (Some xs) None new p gave last = absurd gave
ended_since rest mid after (Some xs) (Some ys) new p gave last = last
