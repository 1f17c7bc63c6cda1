-- What a backend was given, what was written to it, and what it answered.
use Rattle.std.specs.Prelude.{◌≡◌, ◌⊎◌, ℕ, List, [], ◌∷◌, ◌++◌, take, Option, Some, None, IfSome}
use Rattle.std.specs.Prelude.{⊤}
use Rattle.std.specs.Io.KnownBytes.{Appends}
use Rattle.message_parts.specs.declared.request.Request.{Request}
use Rattle.message_text.specs.declared.persistence.Persistence.{Persistence}
use Rattle.wire.specs.declared.answer.BackendAnswer.{BackendAnswer}
use Rattle.wire.specs.declared.answer.BackendAnswer.TheVariants.{Broken, NotConnected, Stale}
use Rattle.wire.specs.declared.fault.WireFault.{WireFault}
use Rattle.wire.specs.declared.fault.WireFault.TheVariants.{Bodies, Memory, Write}
use Rattle.wire.specs.Written.{request_text}

-- one request and its answer
pub record Forwarded : Type 0 where
  pub request : Request
  pub answer : BackendAnswer

-- a backend that shows what it was given shows one request more, with its answer
abbrev pub Logs : Option (List Forwarded) → Option (List Forwarded) → Request
    → BackendAnswer → Type 0
Logs None new request answer = ⊤
Logs (Some old) None request answer = ⊥
Logs (Some old) (Some new) request answer =
    new ≡ old ++ record { request = request; answer = answer } ∷ []

-- the fault that is told of the connection
abbrev pub fault_told : BackendAnswer → Option WireFault
fault_told (Broken fault) = Some fault
fault_told (Stale fault) = Some fault
fault_told other = None

-- the fault where a request wasn't written whole: that of the write, or out of memory for an early
-- answer, or its body may not be held
abbrev pub IsCut : WireFault → Type 0
IsCut fault = (fault ≡ Write) ⊎ (fault ≡ Memory) ⊎ (fault ≡ Bodies)

-- a beginning of the text of a request was written: none of it where there was no connection, and
-- all of it where a fault isn't one of a cut
pub record Sent (host : List ℕ) (old new : Option (List ℕ)) (request : Request)
    (answer : BackendAnswer) : Type 0 where
  pub persistence : Persistence
  pub count : ℕ
  pub front : Appends old new (take count (request_text persistence host request))
  pub none : answer ≡ NotConnected → Appends old new []
  pub whole : IfSome (fault_told answer) (λ fault.
      IsCut fault ⊎ Appends old new (request_text persistence host request))

-- of a backend that shows what was written to it
abbrev pub Sends : List ℕ → Option (List ℕ) → Option (List ℕ) → Request → BackendAnswer → Type 0
Sends host None new request answer = ⊤
Sends host (Some old) new request answer = Sent host (Some old) new request answer
