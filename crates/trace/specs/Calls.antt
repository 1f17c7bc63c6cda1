-- The calls of a trace once its settings are over.
use Rattle.std.specs.Prelude.{ℕ, ◌+◌, true, false, List, [], ◌∷◌, ◌++◌, Option, None, Some, ok_or}
use Rattle.std.specs.Prelude.{Result, Ok, Err}
use Rattle.partitions.specs.declared.part.Part.TheVariants.{Unknown}
use Rattle.partitions.specs.Table.{Row}
use Rattle.limiter_core.specs.declared.event.Outcome.TheVariants.{Success}
use Rattle.script.specs.declared.fault_kind.FaultKind.{FaultKind}
use Rattle.script.specs.declared.fault_kind.FaultKind.TheVariants.{Late, Class}
use Rattle.script.specs.declared.line_fault.LineFault.{LineFault}
use Rattle.script.specs.declared.arrival.ArrivalLine.TheVariants.{Arrive, Bypass}
use Rattle.script.specs.declared.trace_line.TraceLine.TheVariants as line
use Rattle.script.specs.Words.{words, result_map}
use Rattle.script.specs.Classes.{part_of}
use Rattle.script.specs.Arrival.{Arrives}
use Rattle.script.specs.TraceLine.{Traced, trace_line_of}
use Rattle.trace.specs.declared.arrival.Arrival.{Arrival}

-- the call of a line, or that the table has no such class: one that goes past the limit is of no
-- class, and holds nothing
abbrev pub call_of : List Row → Arrives → Result Arrival FaultKind
call_of rows (Arrive class at duration outcome wait) =
    result_map (λ part. record {
      part = part;
      bypass = false;
      wait = wait;
      at = at;
      duration = duration;
      outcome = outcome;
    }) (ok_or (part_of rows class) Class)
call_of rows (Bypass at) = Ok (record {
  part = Unknown;
  bypass = true;
  wait = false;
  at = at;
  duration = 0;
  outcome = Success;
})

-- what a line says behind the settings: nothing where it is skipped; a setting comes too late here
abbrev pub call_at : List Row → Traced → Result (Option Arrival) FaultKind
call_at rows (Ok None) = Ok None
call_at rows (Ok (Some (line.Setting setting))) = Err Late
call_at rows (Ok (Some (line.Arrival arrival))) = result_map Some (call_of rows arrival)
call_at rows (Err why) = Err why

-- calls in their order, and the line at fault that ended them, if one did
pub record Calls : Type 0 where
  pub arrivals : List Arrival
  pub fault : Option LineFault

-- these calls before others
abbrev pub after_calls : List Arrival → Calls → Calls
after_calls before calls = record { arrivals = before ++ calls.arrivals; fault = calls.fault }

-- no call, and this line is at fault
abbrev pub faulty : ℕ → FaultKind → Calls
faulty number why = record { arrivals = []; fault = Some (record { line = number; why = why }) }

-- by what a line says: it and the calls after it, or its fault
abbrev pub by_call : ℕ → Result (Option Arrival) FaultKind → Calls → Calls
by_call number (Ok None) after = after
by_call number (Ok (Some arrival)) after = after_calls (arrival ∷ []) after
by_call number (Err why) after = faulty number why

-- THE CALLS of these lines, the first of which has this number: a line at fault ends them
abbrev pub calls_of : List Row → ℕ → List (List ℕ) → Calls
calls_of rows number [] = record { arrivals = []; fault = None }
calls_of rows number (line ∷ rest) =
    by_call number (call_at rows (trace_line_of (words line))) (calls_of rows (number + 1) rest)
