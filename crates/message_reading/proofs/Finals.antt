-- Interim heads, one behind the other.
use Rattle.std.proofs.Common.{rules, ◌≡◌, ◌+◌, ◌-◌, ◌⊎◌, ◌<◌, ℕ, true, false, List}
use Rattle.std.specs.Prelude.{Option, Some, None, Result, Ok, Err, ⊤}
use Rattle.message_reading.specs.declared.fault.Fault.TheVariants.{Malformed}
use Rattle.message_reading.specs.declared.fault.MessageFault.{MessageFault}
use Rattle.message_reading.specs.declared.fault.MessageFault.TheVariants.{Memory, Read, TurnLimit, Bodies, Bytes}
use Rattle.message_reading.specs.Reading.{Gives, Reading}
use Rattle.message_reading.specs.declared.response_head.ResponseHead.{ResponseHead}
use Rattle.message_reading.specs.Heads.{IsFinalHead, IsResponseHead, behind, is_final, is_interim}

-- what the heads that a reader has left give, all that it had gives
abbrev pub GoOn : Option (List ℕ) → Option (List ℕ) → ℕ → Type 0
GoOn None new left = ⊤
GoOn (Some xs) None left = ⊥
GoOn (Some xs) (Some ys) left =
    (r : Reading ResponseHead) → IsFinalHead left ys r → IsFinalHead 16 xs r

abbrev GivesHead : Option (List ℕ) → Option (List ℕ) → Result ResponseHead MessageFault → Type 0
GivesHead = Gives {X = ResponseHead} (λ head. head) IsResponseHead

abbrev GivesFinal : Option (List ℕ) → Option (List ℕ) → Result ResponseHead MessageFault → Type 0
GivesFinal = Gives {X = ResponseHead} (λ head. head) (IsFinalHead 16)

pub finals_start : (old : Option (List ℕ)) → GoOn old old 16
finals_start None = search rules
finals_start (Some xs) = λ r is. is

pub finals_more : (old mid new : Option (List ℕ)) (left : ℕ) (head : ResponseHead)
    → GoOn old mid left → GivesHead mid new (Ok head) → is_final head.status ≡ false
    → is_interim head.status ≡ true → 0 < left → GoOn old new (left - 1)
finals_more None mid new left head on given last more some = search rules
finals_more (Some xs) None new left head on given last more some = absurd on
finals_more (Some xs) (Some ys) None left head on given last more some = absurd given
finals_more (Some xs) (Some ys) (Some zs) left head on given last more some = λ r rest.
    let again : left ≡ (left - 1) + 1 = search rules in
    on r (IsFinalHead.interim left (left - 1) ys zs head r again given last more rest)

pub final_found : (old mid new : Option (List ℕ)) (left : ℕ) (head : ResponseHead)
    → GoOn old mid left → GivesHead mid new (Ok head) → is_final head.status ≡ true
    → GivesFinal old new (Ok (behind (16 - left) head))
final_found None mid new left head on given last = search rules
final_found (Some xs) None new left head on given last = absurd on
final_found (Some xs) (Some ys) None left head on given last = absurd given
final_found (Some xs) (Some ys) (Some zs) left head on given last =
    on _ (IsFinalHead.final left ys zs head given last)

pub final_refused : (old mid new : Option (List ℕ)) (left : ℕ) (head : ResponseHead)
    → GoOn old mid left → GivesHead mid new (Ok head) → is_final head.status ≡ false
    → (left ≡ 0) ⊎ (is_interim head.status ≡ false)
    → GivesFinal old new (Err (Bytes Malformed))
final_refused None mid new left head on given last why = search rules
final_refused (Some xs) None new left head on given last why = absurd on
final_refused (Some xs) (Some ys) None left head on given last why = absurd given
final_refused (Some xs) (Some ys) (Some zs) left head on given last why =
    on _ (IsFinalHead.refused left ys zs head given last why)

pub final_fault : (old mid new : Option (List ℕ)) (left : ℕ) (e : MessageFault)
    → GoOn old mid left → GivesHead mid new (Err e) → GivesFinal old new (Err e)
final_fault None mid new left e on given = search rules
final_fault (Some xs) None new left e on given = absurd on
final_fault (Some xs) (Some ys) new left Memory on given = search rules
final_fault (Some xs) (Some ys) new left Read on given = search rules
final_fault (Some xs) (Some ys) new left TurnLimit on given = search rules
final_fault (Some xs) (Some ys) new left Bodies on given = search rules
final_fault (Some xs) (Some ys) new left (Bytes e) on given =
    on _ (IsFinalHead.head_fails left ys e given)

pub ruleset final_steps = (finals_start, finals_more, final_found, final_refused, final_fault)
