-- A piece that is gathered in steps.
use Rattle.std.proofs.Common.{arith, ◌≡◌, ◌≤◌, ◌+◌, ◌-◌, ◌∙◌, sym, ap, subst, ℕ, List, length}
use Rattle.std.specs.Prelude.{Option, Ok, Err}
use Rattle.message_reading.specs.declared.fault.MessageFault.{MessageFault}
use Rattle.body_pieces.specs.declared.piece.Piece.{Piece}
use Rattle.body_pieces.specs.declared.rest.Rest.{Rest}
use Rattle.body_pieces.specs.declared.rest.Rest.TheVariants.{Sized, ToEnd, Size, Chunk}
use Rattle.body_pieces.specs.Beginnings.{GaveBeginning, GaveFault, GivesMore, Steps, StepsOn}
use Rattle.body_pieces.proofs.JoinedBeginnings.{gave_fault, gave_more}

-- a piece, and more behind it
pub further : (rest : Rest) (piece next : Piece) (old now new : Option (List ℕ))
    → GaveBeginning rest old now piece.bytes.items piece.rest
    → GivesMore piece.bytes.items piece.rest now new (Ok next)
    → GaveBeginning rest old new next.bytes.items next.rest
further rest piece next old now new gave more =
    subst (λ (bytes : List ℕ). GaveBeginning rest old new bytes next.rest) (sym more.1)
    (gave_more rest piece.rest next.rest old now new piece.bytes.items more.0 gave more.2)

-- a piece, and a fault behind it
pub no_further : (rest : Rest) (piece : Piece) (old now new : Option (List ℕ)) (f : MessageFault)
    → GaveBeginning rest old now piece.bytes.items piece.rest
    → GivesMore piece.bytes.items piece.rest now new (Err f) → GaveFault rest old f
no_further rest piece old now new f gave fault =
    gave_fault rest piece.rest old now piece.bytes.items f gave fault

-- a step more
pub steps_more : (rest : Rest) (piece next : Piece) → Steps rest piece
    → StepsOn piece.bytes.items piece.rest next → Steps rest next
steps_more (Sized left) piece next step on =
    let n : ℕ = length piece.bytes.items in
    let sum : n + (left - n) ≡ left = omega (arith, step.0) in
    let two : StepsOn piece.bytes.items (Sized (left - n)) next =
    subst (λ r. StepsOn piece.bytes.items r next) step.1 on in (
      subst (λ k. length next.bytes.items ≤ k) sum two.0,
      two.1 ∙ ap (λ k. Sized (k - length next.bytes.items)) sum,
      two.2,
    )
steps_more ToEnd piece next step on = tt
steps_more Size piece next step on = tt
steps_more (Chunk left) piece next step on = tt
