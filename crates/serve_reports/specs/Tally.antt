-- How many exchanges ended in each of the gateway's own answers.
use Rattle.std.specs.Prelude.{ℕ, Option, None, Some, nat_eq, if◌then◌else◌}
use Rattle.counted_io.specs.Count.{raised}
use Rattle.proxy.specs.declared.told.ExchangeSummary.{ExchangeSummary}
use Rattle.serve_reports.specs.declared.tally.AnswerTally.{AnswerTally}

-- a tally after one more answer of this status
abbrev pub counted_at : ℕ → AnswerTally → AnswerTally
counted_at status t =
    if nat_eq status 400 then record t { bad_request = raised t.bad_request } else (
    if nat_eq status 413 then record t { too_large = raised t.too_large } else (
    if nat_eq status 429 then record t { refused = raised t.refused } else (
    if nat_eq status 431 then record t { head_too_large = raised t.head_too_large } else (
    if nat_eq status 500 then record t { out_of_memory = raised t.out_of_memory } else (
    if nat_eq status 501 then record t { not_taken = raised t.not_taken } else (
    if nat_eq status 502 then record t { bad_gateway = raised t.bad_gateway } else (
    if nat_eq status 503 then record t { bodies = raised t.bodies } else (
    if nat_eq status 504 then record t { timed_out = raised t.timed_out } else t))))))))

abbrev pub counted_answer : Option ℕ → AnswerTally → AnswerTally
counted_answer None t = t
counted_answer (Some status) t = counted_at status t

-- A TALLY AFTER AN EXCHANGE: one more who sent nothing, and no answer; or one more of its status,
-- where the answer is the gateway's own
abbrev pub counted : ExchangeSummary → AnswerTally → AnswerTally
counted x t =
    if x.is_empty then record t { empty = raised t.empty }
    else (if x.is_own then counted_answer x.answer t else t)
