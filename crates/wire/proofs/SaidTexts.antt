-- What is said to a client.
use Rattle.std.proofs.Common.{rules, inl, inr, ◌≡◌, ℕ, List, [], take}
use Rattle.std.specs.Prelude.{Option, Some, None, Result, Ok, Err, IfSome}
use Rattle.std.specs.Io.KnownBytes.{Appends}
use Rattle.std.proofs.KnownBytes.{Appends-nil}
use Rattle.message_reading.specs.declared.fault.Fault.{Fault}
use Rattle.message_reading.specs.declared.fault.MessageFault.{MessageFault}
use Rattle.message_reading.specs.declared.fault.MessageFault.TheVariants.{Memory, Read, TurnLimit, Bodies, Bytes}
use Rattle.message_reading.specs.declared.request_head.RequestHead.{RequestHead}
use Rattle.message_reading.specs.declared.framing.Framing.{Framing}
use Rattle.message_reading.specs.Continue.{Says, continue_of}
use Rattle.wire.specs.declared.fault.WireFault.{WireFault}
use Rattle.wire.specs.declared.fault.WireFault.TheVariants as fault
use Rattle.wire.specs.Fault.{bytes_fault, of_read}
use Rattle.wire.specs.Messages.{Said, SaidFront, SaidRight}
use Rattle.wire.proofs.MessagePhases.{GivesChecked, request_no_memory, request_not_asked}

if_any : {P : Type 0} (o : Option Fault) → P → IfSome o (λ own. P)
if_any None p = tt
if_any (Some f) p = p

module _ (X : Type 0) where
  abbrev SaidOf : Option (List ℕ) → Option (List ℕ) → Option (List ℕ)
      → Result X WireFault → Type 0
  SaidOf = Said {X = X}

  pub silent_head : (old mid held : Option (List ℕ)) (e : MessageFault) (w : WireFault)
      → w ≡ of_read e → GivesChecked old mid (Err e) → SaidOf old held held (Err w)
  silent_head None mid held e w is given = search rules
  silent_head (Some xs) mid held Memory w is given = rw is ((tt, inl (Appends-nil held)))
  silent_head (Some xs) mid held Read w is given = rw is ((tt, inl (Appends-nil held)))
  silent_head (Some xs) mid held TurnLimit w is given = rw is ((tt, inl (Appends-nil held)))
  silent_head (Some xs) mid held Bodies w is given = rw is ((tt, inl (Appends-nil held)))
  silent_head (Some xs) mid held (Bytes f) w is given = (
    if_any (bytes_fault w) ([], Says.silent xs f given, Appends-nil held),
    inl (Appends-nil held),
  )

  pub silent_memory : (old held : Option (List ℕ)) → SaidOf old held held (Err fault.Memory)
  silent_memory None held = search rules
  silent_memory (Some xs) held = (tt, inl (Appends-nil held))

  pub said : (old mid held new : Option (List ℕ)) (head : RequestHead) (framing : Framing)
      (result : Result X WireFault) → GivesChecked old mid (Ok (head, framing))
      → Appends held new (continue_of head framing) → SaidOf old held new result
  said None mid held new head framing result given written = search rules
  said (Some xs) None held new head framing result given written = absurd given
  said (Some xs) (Some ys) held new head framing (Ok x) given written =
      (continue_of head framing, Says.asks xs ys head framing given, written)
  said (Some xs) (Some ys) held new head framing (Err w) given written =
      let right : SaidRight xs held new =
      (continue_of head framing, Says.asks xs ys head framing given, written) in
      (if_any (bytes_fault w) right, inr right)

pub said_front : (old mid held new : Option (List ℕ)) (head : RequestHead) (framing : Framing)
    → GivesChecked old mid (Ok (head, framing))
    → (count : ℕ) × Appends held new (take count (continue_of head framing))
    → SaidFront old held new
said_front None mid held new head framing given written = tt
said_front (Some xs) None held new head framing given written = absurd given
said_front (Some xs) (Some ys) held new head framing given written =
    (continue_of head framing, Says.asks xs ys head framing given, written.0, written.1)

-- What the reader of a request can cite, by the name of the set.
pub ruleset request_told = (request_no_memory, request_not_asked, silent_memory, said, said_front)
