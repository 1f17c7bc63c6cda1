-- What is told of a gate at one moment.
use Rattle.std.specs.Prelude.{◌≡◌, ◌≤◌, ◌<◌, All, List}
use mathlib.Core.List.{IsPrefix}
use Rattle.limit_laws.specs.Algorithm.{Algorithm}
use Rattle.limiter_core.specs.declared.event.Entry.{Entry}
use Rattle.limiter_core.specs.History.{image_after}
use Rattle.limiter_core.specs.Bound.{IsSound}
use Rattle.limiter_core.specs.Counting.{counters_after, no_counts}
use Rattle.limiter_core.specs.declared.counters.Counters.{Counters}
use Rattle.limiter_core.specs.Legal.{IsLegal}
use Rattle.gate_journal.specs.Image.{Standing, image_of}
use Rattle.gate_ledgers.specs.Making.{Making}
use Rattle.gate_history.specs.Book.{IsUnasked, calls_of}
use Rattle.audit.specs.declared.judge.Calls.{Calls}
use Rattle.gate_port.specs.declared.report.Report.{Report}
use Rattle.gate_port.specs.Report.{report_in}
use Rattle.shared_gate.specs.Calls.{Pass}
use Rattle.shared_gate.specs.Closing.{HaveOwnCalls, calls_by, limiter_of}

-- A REPORT AFTER A LOG of a gate that was made so: the log is legal, since nothing was asked; the
-- report tells the state then, which is sound, and the counters of that log
pub record IsReportAfter {S : Type 0} (rules : Algorithm S) (m : Making) (log : List Entry)
    (report : Report) : Type 0 where
  pub origin : Standing S
  pub unasked : IsUnasked rules m.limit origin
  pub legal : IsLegal (limiter_of rules m) (image_of origin) log
  pub sound : IsSound (limiter_of rules m) (image_after (limiter_of rules m) (image_of origin) log)
  pub told : report ≡ report_in (limiter_of rules m)
      (image_after (limiter_of rules m) (image_of origin) log)
      (counters_after no_counts log)

-- A REPORT OF A GATE: it is one after some log
abbrev pub IsReportOf : {S : Type 0} → Algorithm S → Making → Report → Type 0
IsReportOf rules m report = (log : List Entry) × IsReportAfter rules m log report

-- A REPORT TO A PASS: it is one after all of the log that the pass knows then, of which it knew a
-- beginning before. No call is counted on the pass
pub record IsReportTo {S : Type 0} (rules : Algorithm S) (m : Making) (before after : Pass)
    (report : Report) : Type 0 where
  pub begins : IsPrefix before.log after.log
  pub stands : IsReportAfter rules m after.log report
  pub uncounted : after.count ≡ before.count
  pub own : after.own ≡ before.own

-- THE COUNTERS of a gate that was made so: those of such a report
abbrev pub AreCountersOf : {S : Type 0} → Algorithm S → Making → Counters → Type 0
AreCountersOf rules m counters =
    (report : Report) × IsReportOf rules m report × (report.counters ≡ counters)

-- THE COUNTERS OF ALL PASSES that call: those of a report after a log that begins with what each
-- of them knows, and each of whose calls was made by one of these, no two of which have the same
-- number
pub record AreCountersOfAll {S : Type 0} (rules : Algorithm S) (m : Making) (passes : List Pass)
    (counters : Counters) : Type 0 where
  pub log : List Entry
  pub report : Report
  pub after : IsReportAfter rules m log report
  pub told : report.counters ≡ counters
  pub begun : All (λ pass. IsPrefix pass.log log) passes
  pub all : calls_by passes ≡ calls_of log
  pub once : HaveOwnCalls passes

-- PASSES ARE MISSING: the log after which a report is told begins with what each of these knows,
-- and has calls that none of them made
pub record ArePassesMissing {S : Type 0} (rules : Algorithm S) (m : Making) (passes : List Pass)
    (calls : Calls) : Type 0 where
  pub log : List Entry
  pub report : Report
  pub after : IsReportAfter rules m log report
  pub begun : All (λ pass. IsPrefix pass.log log) passes
  pub book : calls.book ≡ calls_of log
  pub sum : calls.sum ≡ calls_by passes
  pub fewer : calls.sum < calls.book
