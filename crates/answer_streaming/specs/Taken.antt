-- What is read as a piece is asked for.
use Rattle.std.specs.Prelude.{◌≡◌, ℕ, true, false, ⊤, Option, List}
use Rattle.counted_io.specs.declared.counted.Counted.{Counted}
use Rattle.counted_io.specs.Counted.{failures_of}
use Rattle.message_reading.specs.Reading.{HasFailed}
use Rattle.message_reading.specs.declared.fault.MessageFault.{MessageFault}
use Rattle.message_reading.specs.declared.fault.MessageFault.TheVariants.{Read}
use Rattle.body_pieces.specs.declared.rest.Rest.{Rest}
use Rattle.body_pieces.specs.Beginnings.{GaveBeginning, GaveFault, IsAtItsEnd, Steps}
use Rattle.answer_streaming.specs.declared.taken.Taken.{Taken}
use Rattle.answer_streaming.specs.declared.taken.Taken.TheVariants.{More, Last, Broken}

-- the piece that is read of the rest of a body, which is its last one if the permit was ended; or
-- the fault that reading it whole gives
module _ {M : Type 0} (rest : Rest) (old new : Option (List ℕ)) where
  abbrev pub IsTaken : Taken M → Type 0
  IsTaken (More permit piece) =
      GaveBeginning rest old new piece.bytes.items piece.rest × Steps rest piece
      × (piece.is_last ≡ false)
  IsTaken (Last piece) =
      GaveBeginning rest old new piece.bytes.items piece.rest × Steps rest piece
      × (piece.is_last ≡ true) × IsAtItsEnd piece.rest old new
  IsTaken (Broken f) = GaveFault rest old f

-- a read failed if that is the fault
abbrev pub HasReadCause : {R : Type 0} → MessageFault → Counted R → Counted R → Type 0
HasReadCause Read old new = HasFailed old new
HasReadCause _ old new = ⊤

-- a piece comes without a failed read
abbrev pub IsTakenWell : {M R : Type 0} → Taken M → Counted R → Counted R → Type 0
IsTakenWell (Broken f) old new = HasReadCause f old new
IsTakenWell _ old new = failures_of new ≡ failures_of old
