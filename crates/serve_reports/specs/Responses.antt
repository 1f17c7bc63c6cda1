-- How many exchanges ended in which kind of status.
use Rattle.std.specs.Prelude.{ℕ, ◌+◌, ◌*◌, ◌&&◌, nat_le, Bool, Option, None, Some, if◌then◌else◌}
use Rattle.counted_io.specs.Count.{raised}
use Rattle.proxy.specs.declared.told.ExchangeSummary.{ExchangeSummary}
use Rattle.serve_reports.specs.declared.responses.ResponseTally.{ResponseTally}

-- a status of the hundred that begins with this one
abbrev pub is_of : ℕ → ℕ → Bool
is_of first status = nat_le (first * 100) status && nat_le status (first * 100 + 99)

-- a tally after one more answer of this status
abbrev pub responded_at : ℕ → ResponseTally → ResponseTally
responded_at status t =
    if is_of 2 status then record t { successful = raised t.successful } else (
    if is_of 3 status then record t { redirection = raised t.redirection } else (
    if is_of 4 status then record t { client_error = raised t.client_error } else (
    if is_of 5 status then record t { server_error = raised t.server_error } else
    record t { other = raised t.other })))

abbrev pub responded_by : Option ℕ → ResponseTally → ResponseTally
responded_by None t = record t { unanswered = raised t.unanswered }
responded_by (Some status) t = responded_at status t

-- A TALLY AFTER AN EXCHANGE: one more of its status, or without one; whose client sent nothing
-- isn't counted
abbrev pub responded : ExchangeSummary → ResponseTally → ResponseTally
responded x t = if x.is_empty then t else responded_by x.answer t
