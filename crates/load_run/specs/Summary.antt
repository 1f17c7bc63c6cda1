-- The two lines that are written of an audited run.
use Rattle.std.specs.Prelude.{ℕ, List, [], ◌∷◌, codes}
use Rattle.std.specs.List.{concat}
use Rattle.std.specs.Fmt.{decimal}
use Rattle.limiter_core.specs.declared.event.Entry.{Entry}
use Rattle.limiter_core.specs.declared.counters.Counters.{Counters}
use Rattle.limiter_core.specs.Counting.{counters_after, no_counts}
use Rattle.gate_history.specs.Book.{calls_of}
use Rattle.load_run.specs.declared.summary.Summary.{Summary}

-- what is counted of a history: its call entries, and its replies, promotions and outcomes
abbrev pub summary_of : List Entry → Summary
summary_of h = record { calls = calls_of h; counters = counters_after no_counts h }

-- the line of the counters
abbrev pub counters_line : Counters → List ℕ
counters_line c = concat (
    codes "admitted " ∷ decimal c.admitted ∷ codes " bypassed " ∷ decimal c.bypassed
    ∷ codes " full " ∷ decimal c.full ∷ codes " backlog " ∷ decimal c.backlog_full
    ∷ codes " waiting " ∷ decimal c.waiting ∷ codes " promoted " ∷ decimal c.promoted
    ∷ codes " timed-out " ∷ decimal c.timed_out ∷ codes " success " ∷ decimal c.success
    ∷ codes " ignored " ∷ decimal c.ignored ∷ codes " dropped " ∷ decimal c.dropped
    ∷ codes "\n" ∷ [])

-- THE TEXT of an audited run
abbrev pub summary_text : Summary → List ℕ
summary_text s =
    concat (codes "audit ok calls " ∷ decimal s.calls ∷ codes "\n" ∷ counters_line s.counters ∷ [])
