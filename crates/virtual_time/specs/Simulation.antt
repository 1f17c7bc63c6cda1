-- What is written of a whole trace.
use Rattle.std.specs.Prelude.{◌≡◌, ℕ, ◌≤◌, List, length, Option}
use Rattle.limit_kinds.specs.AnyKinds.{any_rules}
use Rattle.script.specs.declared.line_fault.LineFault.{LineFault}
use Rattle.script.specs.Settings.{timeout_of}
use Rattle.script_gate.specs.Settings.{journal_of}
use Rattle.load_driver.specs.Limits.{most_script, kept_entries}
use Rattle.trace.specs.Trace.{TraceFacts, trace_of}
use Rattle.virtual_time.specs.Course.{limiter_of, IsRun}

-- what is written of the calls of a trace under its settings: n is the limit where these give none,
-- and so many entries are kept where they don't say how many
abbrev pub IsRunOf : ℕ → ℕ → TraceFacts → List ℕ → Type 0
IsRunOf n kept trace out =
    IsRun (limiter_of any_rules (journal_of n kept trace.settings)) trace.calls.arrivals
    (timeout_of trace.settings) out

-- THE ANSWER to a trace of at most 16 MiB: the line at fault that ended it, if one did, and what
-- was written of the calls before that line
pub record IsSimulated (n : ℕ) (text : List ℕ) (fault : Option LineFault)
    (Written : List ℕ → Type 0) : Type 0 where
  pub small : length text ≤ most_script
  pub ended : (trace_of text).calls.fault ≡ fault
  pub out : List ℕ
  pub run : IsRunOf n kept_entries (trace_of text) out
  pub written : Written out
