-- The table of answers: what a backend's answer tells the gate, and what the client gets.
use Rattle.std.specs.Prelude.{ℕ, ◌||◌, List, [], codes, Option, None, Some, Result, Ok, Err, nat_eq}
use Rattle.std.specs.Prelude.{nat_lt, if◌then◌else◌, Bool, true, false, not, ◌&&◌, is_err, is_some}
use Rattle.limiter_core.specs.declared.event.Outcome.{Outcome}
use Rattle.limiter_core.specs.declared.event.Outcome.TheVariants.{Success, Ignored, Dropped}
use Rattle.gate_port.specs.declared.port.Why.{Why}
use Rattle.gate_port.specs.declared.port.Why.TheVariants as why
use Rattle.message_text.specs.declared.persistence.Persistence.{Persistence}
use Rattle.message_text.specs.Answer.{local_text, marked_text}
use Rattle.wire.specs.declared.fault.WireFault.{WireFault}
use Rattle.wire.specs.declared.fault.WireFault.TheVariants as fault
use Rattle.message_parts.specs.declared.request.Request.{Request}
use Rattle.wire.specs.Response.{ResponseValue}
use Rattle.wire.specs.Written.{response_text}
use Rattle.wire.specs.declared.answer.BackendAnswer.{BackendAnswer}
use Rattle.wire.specs.declared.answer.BackendAnswer.TheVariants.{Answered, NotConnected, Broken}
use Rattle.wire.specs.declared.answer.BackendAnswer.TheVariants.{Stale, Late, Memory, Bodies}
use Rattle.proxy.specs.declared.told.Verdict.{Verdict}
use Rattle.proxy.specs.declared.told.Verdict.TheVariants.{Refused}

-- WHAT A STATUS TELLS THE GATE: a backend that had too much to do, or sent no final response, has
-- dropped the request; of its load an other fault of the server's says nothing
abbrev pub status_outcome : ℕ → Outcome
status_outcome status =
    if nat_lt status 200 || nat_eq status 429 || nat_eq status 503 || nat_eq status 504
    then Dropped
    else (if nat_lt status 500 then Success else Ignored)

-- WHAT AN ANSWER TELLS THE GATE
abbrev pub outcome_of : BackendAnswer → Outcome
outcome_of (Answered response) = status_outcome response.status
outcome_of NotConnected = Ignored
outcome_of (Broken f) = Dropped
outcome_of (Stale f) = Dropped
outcome_of Late = Dropped
outcome_of Memory = Ignored
outcome_of Bodies = Ignored

abbrev pub outcome_at : Option BackendAnswer → Option Outcome
outcome_at None = None
outcome_at (Some answer) = Some (outcome_of answer)

-- THE STATUS AFTER A FAULT OF READING: none where nothing more is written
abbrev pub fault_status : WireFault → Option ℕ
fault_status fault.Early = Some 400
fault_status fault.Malformed = Some 400
fault_status fault.BothLengths = Some 400
fault_status fault.HeadTooLarge = Some 431
fault_status fault.BodyTooLarge = Some 413
fault_status fault.Coding = Some 501
fault_status fault.Method = Some 501
fault_status fault.Memory = Some 500
fault_status fault.Bodies = Some 503
fault_status fault.Read = None
fault_status fault.Write = None
fault_status fault.TurnLimit = None

-- THE REPLY, where a request was read: the response that is passed on, or else the status of the
-- gateway's own answer; none of a backend means that it wasn't asked
abbrev pub reply_of : Option BackendAnswer → Result ResponseValue ℕ
reply_of (Some (Answered response)) = if nat_lt response.status 200 then Err 502 else Ok response
reply_of (Some NotConnected) = Err 502
reply_of (Some (Broken f)) = Err 502
reply_of (Some (Stale f)) = Err 502
reply_of (Some Late) = Err 504
reply_of (Some Memory) = Err 500
reply_of (Some Bodies) = Err 502
reply_of None = Err 429

-- WHO GETS NO REPLY: a client on a later request of its connection, where that of the backend was
-- stale; the connection ends then, and the client may send the request again (RFC 9112, section
-- 9.3.1)
abbrev pub is_stale : Option BackendAnswer → Bool
is_stale (Some (Stale f)) = true
is_stale other = false

abbrev pub is_unanswered : Bool → Option BackendAnswer → Bool
is_unanswered later answer = later && is_stale answer

-- the status of a reply
abbrev pub status_of : Result ResponseValue ℕ → ℕ
status_of (Ok response) = response.status
status_of (Err status) = status

-- THE MARK of an own answer, a word that tells why the gateway answers itself: it refused the
-- request, for this cause
abbrev pub refusal_mark : Why → List ℕ
refusal_mark why.Full = codes "full"
refusal_mark why.BacklogFull = codes "backlog"
refusal_mark why.TimedOut = codes "waited"
refusal_mark why.Lost = codes "lost"
refusal_mark why.Exhausted = codes "exhausted"

-- the backend gave no response that may be passed on
abbrev pub backend_mark : BackendAnswer → List ℕ
backend_mark (Answered response) = codes "broken"
backend_mark NotConnected = codes "unreached"
backend_mark (Broken f) = codes "broken"
backend_mark (Stale f) = codes "broken"
backend_mark Late = codes "late"
backend_mark Memory = codes "memory"
backend_mark Bodies = codes "bodies"

-- or the request couldn't be read
abbrev pub fault_mark : WireFault → List ℕ
fault_mark fault.Memory = codes "memory"
fault_mark fault.Bodies = codes "bodies"
fault_mark f = codes "unread"

abbrev pub mark_of : Verdict → Option BackendAnswer → Option (List ℕ)
mark_of said (Some answer) = Some (backend_mark answer)
mark_of (Refused cause) None = Some (refusal_mark cause)
mark_of said None = None

-- it is marked where marks are asked for
abbrev pub if_marked : Bool → Option (List ℕ) → Option (List ℕ)
if_marked marks mark = if marks then mark else None

-- the gateway's own answer of a status, with this mark, to a client whose connection ends with it
-- or goes on
abbrev pub own_text : Persistence → Option (List ℕ) → ℕ → List ℕ
own_text persistence None status = local_text persistence status
own_text persistence (Some mark) status = marked_text persistence status mark

-- and its text, where the request has this method; the backend's response is never marked
abbrev pub text_of : Persistence → Option (List ℕ) → List ℕ → Result ResponseValue ℕ → List ℕ
text_of persistence mark method (Ok response) = response_text persistence method response
text_of persistence mark method (Err status) = own_text persistence mark status

-- the status of what the client gets on its first request or a later one, where it gets a reply
abbrev pub reply_status : Bool → Option BackendAnswer → Option ℕ
reply_status later answer =
    if is_unanswered later answer then None else Some (status_of (reply_of answer))

-- whether that is the gateway's own answer
abbrev pub is_own : Bool → Option BackendAnswer → Bool
is_own later answer = not (is_unanswered later answer) && is_err (reply_of answer)

abbrev pub reply_text : Bool → Persistence → Option (List ℕ) → List ℕ → Option BackendAnswer
    → List ℕ
reply_text later persistence mark method answer =
    if is_unanswered later answer then [] else text_of persistence mark method (reply_of answer)

abbrev pub own_or_nothing : Persistence → Option (List ℕ) → Option ℕ → List ℕ
own_or_nothing persistence mark None = []
own_or_nothing persistence mark (Some status) = own_text persistence mark status

-- the status and the text that the client gets, by what was read
abbrev pub sent_status : Bool → Result Request WireFault → Option BackendAnswer → Option ℕ
sent_status later (Err f) answer = fault_status f
sent_status later (Ok request) answer = reply_status later answer

-- whether it is the gateway's own answer
abbrev pub is_sent_own : Bool → Result Request WireFault → Option BackendAnswer → Bool
is_sent_own later (Err f) answer = is_some (fault_status f)
is_sent_own later (Ok request) answer = is_own later answer

abbrev pub sent_text : Bool → Persistence → Bool → Result Request WireFault → Verdict
    → Option BackendAnswer → List ℕ
sent_text later persistence marks (Err f) said answer =
    own_or_nothing persistence (if_marked marks (Some (fault_mark f))) (fault_status f)
sent_text later persistence marks (Ok request) said answer =
    reply_text later persistence (if_marked marks (mark_of said answer)) request.method answer
