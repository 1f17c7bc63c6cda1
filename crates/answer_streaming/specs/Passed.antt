-- What was read and written of a body that was passed on.
use Rattle.std.specs.Prelude.{◌≡◌, ℕ, true, ⊤, Option, Some, None, List, take, Ok}
use Rattle.std.specs.List.{concat}
use Rattle.std.specs.Io.KnownBytes.{Appends}
use Rattle.counted_io.specs.declared.counted.Counted.{Counted}
use Rattle.counted_io.specs.Causes.{IsWriteCause}
use Rattle.counted_io.specs.Counted.{failures_of, is_flushed}
use Rattle.body_pieces.specs.declared.rest.Rest.{Rest}
use Rattle.body_pieces.specs.Beginnings.{GaveBeginning, GaveFault}
use Rattle.body_pieces.specs.Rests.{IsRest}
use Rattle.answer_streaming.specs.declared.backend.BodyEnd.{BodyEnd}
use Rattle.answer_streaming.specs.declared.backend.BodyEnd.TheVariants.{Ahead, Reached}
use Rattle.answer_streaming.specs.declared.delimiting.Delimiting.{Delimiting}
use Rattle.answer_streaming.specs.declared.ended.End.{End}
use Rattle.answer_streaming.specs.declared.ended.End.TheVariants.{Whole, Unwritten, Broken, Left}
use Rattle.answer_streaming.specs.declared.ended.Passed.{Passed}
use Rattle.answer_streaming.specs.declared.ended.Passed.TheVariants.{Read, Unread, Streamed}
use Rattle.answer_streaming.specs.Taken.{HasReadCause}
use Rattle.answer_streaming.specs.Texts.{begun_text, whole_text}

-- a reader gave the whole rest of a body, with this payload, if its bytes are known
abbrev pub GaveWhole : Rest → Option (List ℕ) → Option (List ℕ) → List ℕ → Type 0
GaveWhole rest None new payload = ⊤
GaveWhole rest (Some xs) None payload = ⊥
GaveWhole rest (Some xs) (Some ys) payload = IsRest rest xs (Ok (payload, ys))

-- STREAMED in some pieces, by the bytes that a reader has left before and after, and those that a
-- writer holds.
-- `Whole`: the whole body was read, and the whole answer was written.
-- `Unwritten`: the whole body was read, and a beginning of the answer was written.
-- `Broken`: whole reading gives this fault. The head was written, and behind it what was read of
-- the payload, and nothing that ends it.
-- `Left`: a beginning of the body was read, and a beginning of that was written.
module _ (rest : Rest) (d : Delimiting) (head : List ℕ) (old new held holds : Option (List ℕ))
  where
    abbrev pub IsStreamed : End → Type 0
    IsStreamed Whole =
        (pieces : List (List ℕ)) × GaveWhole rest old new (concat pieces)
        × Appends held holds (whole_text d head pieces)
    IsStreamed Unwritten =
        (pieces : List (List ℕ)) × (count : ℕ) × GaveWhole rest old new (concat pieces)
        × Appends held holds (take count (whole_text d head pieces))
    IsStreamed (Broken f) =
        (pieces : List (List ℕ)) × (mid : Option (List ℕ)) × (after : Rest)
        × GaveBeginning rest old mid (concat pieces) after × GaveFault rest old f
        × Appends held holds (begun_text d head pieces)
    IsStreamed Left =
        (pieces : List (List ℕ)) × (count : ℕ) × (after : Rest)
        × GaveBeginning rest old new (concat pieces) after
        × Appends held holds (take count (begun_text d head pieces))

    -- PASSED ON: the whole body was read, or whole reading gives this fault, and nothing was
    -- written; or it was streamed
    abbrev pub IsPassed : Passed → Type 0
    IsPassed (Read body) = GaveWhole rest old new body.items × (holds ≡ held)
    IsPassed (Unread f) = GaveFault rest old f × (holds ≡ held)
    IsPassed (Streamed end) = IsStreamed end

-- THE CAUSE of each end. If the answer is whole, nothing failed, and a flush came last
abbrev pub HasCause : {R W : Type 0} → End → Counted R → Counted R → Counted W → Counted W → Type 0
HasCause Whole old new held holds =
    (failures_of new ≡ failures_of old) × (failures_of holds ≡ failures_of held)
    × (is_flushed holds ≡ true)
HasCause Unwritten old new held holds = IsWriteCause held holds
HasCause (Broken f) old new held holds = HasReadCause f old new
HasCause Left old new held holds = IsWriteCause held holds

-- if it wasn't streamed, the writer is as it was
abbrev pub HasPassedCause : {R W : Type 0} → Passed → Counted R → Counted R → Counted W → Counted W
    → Type 0
HasPassedCause (Read body) old new held holds =
    (failures_of new ≡ failures_of old) × (holds ≡ held)
HasPassedCause (Unread f) old new held holds = HasReadCause f old new × (holds ≡ held)
HasPassedCause (Streamed end) old new held holds = HasCause end old new held holds

-- HOW FAR the body was read: to its end, unless it broke or the writer failed before
abbrev pub body_end_of : Passed → BodyEnd
body_end_of (Read body) = Reached
body_end_of (Unread f) = Ahead
body_end_of (Streamed Whole) = Reached
body_end_of (Streamed Unwritten) = Reached
body_end_of (Streamed (Broken f)) = Ahead
body_end_of (Streamed Left) = Ahead
