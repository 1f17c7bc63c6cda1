-- Bodies, as they are delimited.
use Rattle.std.proofs.Common.{rules, ◌≡◌, ap, refl, ℕ, List}
use Rattle.std.specs.Prelude.{Option, Some, None, Result, Ok, Err}
use Rattle.message_reading.specs.declared.fault.MessageFault.{MessageFault}
use Rattle.message_reading.specs.declared.fault.MessageFault.TheVariants.{Memory, Read, TurnLimit, Bodies, Bytes}
use Rattle.message_reading.specs.Reading.{By, Gives, Reading}
use Rattle.message_reading.specs.PlainBody.{all_of, sized_of}
use Rattle.message_reading.specs.Chunks.{IsChunks}
use Rattle.message_reading.specs.declared.framing.Framing.{Framing}
use Rattle.message_reading.specs.declared.framing.Framing.TheVariants.{Bodiless, Sized, Chunked, ToEnd}
use Rattle.message_reading.specs.Body.{IsBody, some_body}

abbrev pub GivesBody : Framing → Option (List ℕ) → Option (List ℕ)
    → Result (Option (List ℕ)) MessageFault → Type 0
GivesBody framing = Gives {X = Option (List ℕ)} (λ body. body) (IsBody framing)

pub no_body : (now : Option (List ℕ)) (framing : Framing) → framing ≡ Bodiless
    → GivesBody framing now now (Ok None)
no_body None framing is = search rules
no_body (Some xs) framing is = rw is refl

module _ {X : Type 0} (view : X → List ℕ) where
  module _ (f : List ℕ → Reading (List ℕ)) (framing : Framing)
      (is : (bytes : List ℕ) (r : Reading (Option (List ℕ))) → r ≡ some_body (f bytes)
      → IsBody framing bytes r) where
    -- a function reads the body
    body_by : (old new : Option (List ℕ)) (x : X) (b : List ℕ)
        → Gives view (By f) old new (Ok x) → b ≡ view x → GivesBody framing old new (Ok (Some b))
    body_by None new x b given same = search rules
    body_by (Some xs) None x b given same = absurd given
    body_by (Some xs) (Some ys) x b given same = is xs _ (rw same (ap some_body given))

    fault_by : (old new : Option (List ℕ)) (e : MessageFault) → Gives view (By f) old new (Err e)
        → GivesBody framing old new (Err e)
    fault_by None new e given = search rules
    fault_by (Some xs) new Memory given = search rules
    fault_by (Some xs) new Read given = search rules
    fault_by (Some xs) new TurnLimit given = search rules
    fault_by (Some xs) new Bodies given = search rules
    fault_by (Some xs) new (Bytes e) given = is xs _ (ap some_body given)

  pub sized_body : (old new : Option (List ℕ)) (size : ℕ) (framing : Framing) (x : X) (b : List ℕ)
      → framing ≡ Sized size → Gives view (By (sized_of size)) old new (Ok x) → b ≡ view x
      → GivesBody framing old new (Ok (Some b))
  sized_body old new size framing x b is given same =
      body_by (sized_of size) framing (λ bytes r e. rw is e) old new x b given same

  pub sized_fault : (old new : Option (List ℕ)) (size : ℕ) (framing : Framing) (e : MessageFault)
      → framing ≡ Sized size → Gives view (By (sized_of size)) old new (Err e)
      → GivesBody framing old new (Err e)
  sized_fault old new size framing e is given =
      fault_by (sized_of size) framing (λ bytes r e. rw is e) old new e given

  pub whole_body : (old new : Option (List ℕ)) (framing : Framing) (x : X) (b : List ℕ)
      → framing ≡ ToEnd → Gives view (By all_of) old new (Ok x) → b ≡ view x
      → GivesBody framing old new (Ok (Some b))
  whole_body old new framing x b is given same =
      body_by all_of framing (λ bytes r e. rw is e) old new x b given same

  pub whole_fault : (old new : Option (List ℕ)) (framing : Framing) (e : MessageFault)
      → framing ≡ ToEnd → Gives view (By all_of) old new (Err e) → GivesBody framing old new (Err e)
  whole_fault old new framing e is given =
      fault_by all_of framing (λ bytes r e. rw is e) old new e given

  pub chunked_body : (old new : Option (List ℕ)) (framing : Framing) (x : X) (b : List ℕ)
      → framing ≡ Chunked → Gives view (IsChunks 0) old new (Ok x) → b ≡ view x
      → GivesBody framing old new (Ok (Some b))
  chunked_body None new framing x b is given same = search rules
  chunked_body (Some xs) None framing x b is given same = absurd given
  chunked_body (Some xs) (Some ys) framing x b is given same =
      rw (is, same) ((Ok (view x, ys), given, refl))

  pub chunked_fault : (old new : Option (List ℕ)) (framing : Framing) (e : MessageFault)
      → framing ≡ Chunked → Gives view (IsChunks 0) old new (Err e)
      → GivesBody framing old new (Err e)
  chunked_fault None new framing e is given = search rules
  chunked_fault (Some xs) new framing Memory is given = search rules
  chunked_fault (Some xs) new framing Read is given = search rules
  chunked_fault (Some xs) new framing TurnLimit is given = search rules
  chunked_fault (Some xs) new framing Bodies is given = search rules
  chunked_fault (Some xs) new framing (Bytes e) is given = rw is ((Err e, given, refl))

pub ruleset body_steps =
    (no_body, sized_body, sized_fault, whole_body, whole_fault, chunked_body, chunked_fault)
