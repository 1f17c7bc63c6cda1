-- When a client is kept.
use Rattle.std.specs.Prelude.{◌≡◌, Bool, true, not, ◌&&◌, ◌||◌, List, ℕ, Option, is_some}
use Rattle.std.specs.Prelude.{IfSome, Result, Ok, Err, if◌then◌else◌}
use Rattle.message_fields.specs.Passed.{asks_close}
use Rattle.message_parts.specs.declared.request.Request.{Request}
use Rattle.message_text.specs.declared.persistence.Persistence.{Persistence}
use Rattle.message_text.specs.declared.persistence.Persistence.TheVariants.{Close, Keep}
use Rattle.message_text.specs.Answer.{is_bodiless}
use Rattle.wire.specs.declared.answer.BackendAnswer.{BackendAnswer}
use Rattle.wire.specs.declared.fault.WireFault.{WireFault}
use Rattle.wire.specs.Response.{ResponseValue}
use Rattle.wire.specs.Written.{is_old}
use Rattle.proxy.specs.Table.{is_unanswered, reply_of}

-- a request lets its connection go on: it is in HTTP/1.1, and no Connection line has the option
-- `close` (RFC 9112, section 9.3)
abbrev pub goes_on : Request → Bool
goes_on request = not (is_old request.version) && not (asks_close request.headers)

-- a reply to a request of this method tells where it ends: it has a length, or never a body
-- (RFC 9112, section 6.3)
abbrev pub is_delimited : List ℕ → Result ResponseValue ℕ → Bool
is_delimited method (Ok response) = is_some response.body || is_bodiless method response.status
is_delimited method (Err status) = true

-- a request, the client's first one or a later one, lets it be kept that is answered, lets its
-- connection go on, and whose answer tells where it ends
abbrev pub lets_keep : Bool → Request → Option BackendAnswer → Bool
lets_keep later request answer =
    not (is_unanswered later answer) && goes_on request
    && is_delimited request.method (reply_of answer)

-- KEPT is a client where its keeper and its request let it be, of whom nothing was taken that isn't
-- read
abbrev pub is_kept_behind : Bool → Bool → Bool → Request → Option BackendAnswer → Bool
is_kept_behind keeps drained later request answer =
    keeps && drained && lets_keep later request answer

abbrev pub persistence_behind : Bool → Bool → Bool → Request → Option BackendAnswer → Persistence
persistence_behind keeps drained later request answer =
    if is_kept_behind keeps drained later request answer then Keep else Close

-- what an answer says of its connection, where a keeper tells this, as far as it is known: it ends
-- with the answer to what couldn't be read, and else the keeper is asked
abbrev pub Persists : Option Bool → Bool → Bool → Result Request WireFault → Option BackendAnswer
    → Persistence → Type 0
Persists told drained later (Err f) answer persistence = persistence ≡ Close
Persists told drained later (Ok request) answer persistence =
    (keeps : Bool) × IfSome told (λ known. keeps ≡ known)
    × (persistence ≡ persistence_behind keeps drained later request answer)
