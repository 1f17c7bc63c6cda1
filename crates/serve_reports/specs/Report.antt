-- The text of a report.
use Rattle.std.specs.Prelude.{ℕ, List, [], ◌∷◌, ◌++◌, ◌==◌, codes, decimal, length, nat_lt, slice_index, if◌then◌else◌}
use Rattle.std.specs.List.{concat}
use Rattle.partitions.specs.declared.part.Part.TheVariants.{Known}
use Rattle.partitions.specs.Table.{Row, name_of}
use Rattle.limiter_core.specs.declared.counters.Counters.{Counters}
use Rattle.gate_port.specs.declared.report.Report.{Report}
use Rattle.seats.specs.declared.client_counts.ClientConnections.{ClientConnections}
use Rattle.serve_reports.specs.declared.connections.BackendConnections.{BackendConnections}
use Rattle.serve_reports.specs.declared.tally.AnswerTally.{AnswerTally}
use Rattle.serve_reports.specs.declared.workers.Workers.{Workers}

-- the limit, and how many are in flight, wait and are granted
abbrev pub stands_text : Report → List ℕ
stands_text r = concat (
    codes "limit=" ∷ decimal r.limit ∷ codes " inflight=" ∷ decimal r.inflight
    ∷ codes " waiters=" ∷ decimal r.waiters ∷ codes " granted=" ∷ decimal r.granted ∷ [])

-- how many workers serve a client, and of how many
abbrev pub workers_text : Workers → List ℕ
workers_text w = concat (codes " busy=" ∷ decimal w.busy ∷ codes "/" ∷ decimal w.count ∷ [])

-- the class in a row, with how many of its permits are in flight and its share
abbrev pub class_text : Report → List Row → ℕ → List ℕ
class_text r rows row =
    if nat_lt row (length rows) then concat (
    codes " class." ∷ name_of rows (Known row) ∷ codes "=" ∷ decimal (slice_index r.counts row)
    ∷ codes "/" ∷ decimal (slice_index r.shares row) ∷ []) else []

abbrev pub unknown_text : Report → List ℕ
unknown_text r = codes " class.unknown=" ++ decimal (slice_index r.counts 4)

-- the classes in their order, and the callers of none
abbrev pub classes_text : Report → List Row → List ℕ
classes_text r rows =
    class_text r rows 0 ++ class_text r rows 1 ++ class_text r rows 2 ++ class_text r rows 3
    ++ unknown_text r

-- how often an acquire was answered at once
abbrev pub acquires_text : Counters → List ℕ
acquires_text c = concat (
    codes " admitted=" ∷ decimal c.admitted ∷ codes " bypassed=" ∷ decimal c.bypassed
    ∷ codes " full=" ∷ decimal c.full ∷ codes " backlog=" ∷ decimal c.backlog_full ∷ [])

-- how often a wait began, and how it ended
abbrev pub waits_text : Counters → List ℕ
waits_text c = concat (
    codes " waiting=" ∷ decimal c.waiting ∷ codes " promoted=" ∷ decimal c.promoted
    ∷ codes " timed-out=" ∷ decimal c.timed_out ∷ [])

-- how often each outcome was
abbrev pub outcomes_text : Counters → List ℕ
outcomes_text c = concat (
    codes " success=" ∷ decimal c.success ∷ codes " ignored=" ∷ decimal c.ignored
    ∷ codes " dropped=" ∷ decimal c.dropped ∷ [])

abbrev pub counters_text : Counters → List ℕ
counters_text c = acquires_text c ++ waits_text c ++ outcomes_text c

-- how many requests had a body that wasn't held, where there is one
abbrev pub unheld_text : ℕ → List ℕ
unheld_text count = if count == 0 then [] else codes " 503=" ++ decimal count

-- how many exchanges ended in each of the gateway's own answers
abbrev pub answers_text : AnswerTally → List ℕ
answers_text t = concat (
    codes " 400=" ∷ decimal t.bad_request ∷ codes " 413=" ∷ decimal t.too_large
    ∷ codes " 429=" ∷ decimal t.refused ∷ codes " 431=" ∷ decimal t.head_too_large
    ∷ codes " 500=" ∷ decimal t.out_of_memory ∷ codes " 501=" ∷ decimal t.not_taken
    ∷ codes " 502=" ∷ decimal t.bad_gateway ∷ codes " 504=" ∷ decimal t.timed_out ∷ [])
    ++ unheld_text t.bodies

-- the connections to the backend: how many are open and idle, and how many were made, taken again,
-- and closed while they were idle
abbrev pub connections_text : BackendConnections → List ℕ
connections_text c = concat (
    codes " open=" ∷ decimal c.open ∷ codes " idle=" ∷ decimal c.idle
    ∷ codes " opened=" ∷ decimal c.opened ∷ codes " reused=" ∷ decimal c.reused
    ∷ codes " stale=" ∷ decimal c.stale ∷ [])

-- the clients that wait: how many have sent nothing yet, and how many are kept
abbrev pub waiting_text : ClientConnections → List ℕ
waiting_text c = concat (
    codes " clients.silent=" ∷ decimal c.silent ∷ codes " clients.idle=" ∷ decimal c.idle ∷ [])

-- how many came, how often one who was kept asked again, and how many were let go since their time
-- was over, or for another one
abbrev pub events_text : ClientConnections → List ℕ
events_text c = concat (
    codes " clients.opened=" ∷ decimal c.opened ∷ codes " clients.reused=" ∷ decimal c.reused
    ∷ codes " clients.late=" ∷ decimal c.late ∷ codes " clients.displaced=" ∷ decimal c.displaced
    ∷ [])

abbrev pub clients_text : ClientConnections → List ℕ
clients_text c = waiting_text c ++ events_text c

-- THE TEXT OF A REPORT
abbrev pub report_text : Report → Workers → List Row → AnswerTally → BackendConnections
    → ClientConnections → List ℕ
report_text r w rows t c clients =
    stands_text r ++ workers_text w ++ classes_text r rows ++ counters_text r.counters
    ++ answers_text t ++ connections_text c ++ clients_text clients
