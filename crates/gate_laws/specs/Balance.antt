-- What a gate's report balances.
use Rattle.std.specs.Prelude.{◌≡◌, ◌+◌, List}
use Rattle.limit_laws.specs.Algorithm.{Algorithm}
use Rattle.limiter_core.specs.declared.event.Entry.{Entry}
use Rattle.gate_ledgers.specs.Making.{Making}
use Rattle.gate_port.specs.declared.report.Report.{Report}
use Rattle.shared_gate.specs.Reported.{IsReportAfter}

-- BALANCED: each permit that was admitted or promoted was ended or is in flight, and whoever began
-- to wait was promoted, gave up in vain, or waits
pub record IsBalanced (report : Report) : Type 0 where
  pub permits : report.counters.admitted + report.counters.promoted
      ≡ report.counters.success + report.counters.ignored + report.counters.dropped
      + report.inflight
  pub waiters : report.counters.waiting
      ≡ report.counters.promoted + report.counters.timed_out + report.waiters

-- THE LAW: every report of a gate is balanced
abbrev pub ReportsBalance : {S : Type 0} → Algorithm S → Type 0
ReportsBalance rules = (m : Making) (log : List Entry) (report : Report)
    → IsReportAfter rules m log report → IsBalanced report
