-- When a connection carries another request.
use Rattle.std.specs.Prelude.{◌≡◌, ℕ, Bool, true, false, ◌&&◌, ◌==◌, ◌-◌, nat_lt, List, length, Result, Ok, Err}
use Rattle.std.specs.Net.Text.{socket_v4_text}
use Rattle.lent_io.specs.Buffers.{ahead_of}
use Rattle.message_text.specs.declared.persistence.Persistence.{Persistence}
use Rattle.message_text.specs.declared.persistence.Persistence.TheVariants.{Close, Keep}
use Rattle.wire.specs.declared.fault.WireFault.{WireFault}
use Rattle.wire.specs.declared.reuse.Reuse.{Reuse}
use Rattle.wire.specs.declared.reuse.Reuse.TheVariants.{Closing, Ready, Doubtful}
use Rattle.wire.specs.Response.{ResponseValue}
use Rattle.tcp_backend.specs.declared.attempt.Attempt.{Attempt}
use Rattle.tcp_backend.specs.declared.attempt.Leftover.{Leftover}
use Rattle.tcp_backend.specs.declared.attempt.Leftover.TheVariants as left
use Rattle.tcp_backend.specs.declared.ends.OpaqueEnd.{OpaqueEnd}

-- the text of the address at which a connection with this end was dialed
abbrev pub dialed_at : OpaqueEnd → List ℕ
dialed_at end = socket_v4_text end.address

-- one that waits since then has waited for less than the most that it may
abbrev pub is_young : ℕ → ℕ → ℕ → Bool
is_young since most now = nat_lt (now - since) most

-- a response leaves its connection ready for another request
abbrev pub is_ready : Reuse → Bool
is_ready Closing = false
is_ready Ready = true
is_ready Doubtful = false

-- and so does what was read for a request, which may be a fault
abbrev pub leaves_ready : Result ResponseValue WireFault → Bool
leaves_ready (Ok response) = is_ready response.reuse
leaves_ready (Err fault) = false

-- DRAINED: the request of an attempt was written whole, its answer leaves the connection ready, and
-- nothing that came with the answer is left over
abbrev pub is_drained : {S E : Type 0} → Attempt S E → Bool
is_drained attempt =
    attempt.is_sent && leaves_ready attempt.answer
    && (length (ahead_of attempt.buffers.ahead) == 0)

-- a connection carries another request where its request said so, and it is drained
abbrev pub carries_on : {S E : Type 0} → Persistence → Attempt S E → Bool
carries_on Close attempt = false
carries_on Keep attempt = is_drained attempt

-- what is left of an attempt is its connection, to carry another request
abbrev pub is_kept : {S E : Type 0} → Leftover S E → Bool
is_kept (left.Ready connection) = true
is_kept (left.Ending stream end) = false
is_kept (left.Closed end) = false

-- the end that it was written to
abbrev pub end_left : {S E : Type 0} → Leftover S E → E
end_left (left.Ready connection) = connection.end
end_left (left.Ending stream end) = end
end_left (left.Closed end) = end
