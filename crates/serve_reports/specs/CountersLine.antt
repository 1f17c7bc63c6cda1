-- The line of a gate's counters.
use Rattle.std.specs.Prelude.{ℕ, List, [], ◌∷◌, codes, decimal}
use Rattle.std.specs.List.{concat}
use Rattle.limiter_core.specs.declared.counters.Counters.{Counters}
use Rattle.fault_lines.specs.FaultLine.{line}

-- how often each reply, promotion and outcome was: each number behind its name
abbrev pub counters_line : Counters → List ℕ
counters_line c = line (concat (
    codes "admitted " ∷ decimal c.admitted ∷ codes " bypassed " ∷ decimal c.bypassed
    ∷ codes " full " ∷ decimal c.full ∷ codes " backlog " ∷ decimal c.backlog_full
    ∷ codes " waiting " ∷ decimal c.waiting ∷ codes " promoted " ∷ decimal c.promoted
    ∷ codes " timed-out " ∷ decimal c.timed_out ∷ codes " success " ∷ decimal c.success
    ∷ codes " ignored " ∷ decimal c.ignored ∷ codes " dropped " ∷ decimal c.dropped ∷ []))
