-- What a scrape is told.
use Rattle.std.specs.Prelude.{ℕ, List, [], ◌∷◌, ◌++◌, ◌==◌, codes, length, nat_lt, slice_index}
use Rattle.std.specs.Prelude.{Bool, if◌then◌else◌}
use Rattle.partitions.specs.declared.part.Part.TheVariants.{Known}
use Rattle.partitions.specs.Table.{Row, name_of}
use Rattle.limiter_core.specs.declared.counters.Counters.{Counters}
use Rattle.gate_port.specs.declared.report.Report.{Report}
use Rattle.histogram.specs.declared.histogram.Histogram.{Histogram}
use Rattle.release.specs.Release.{version}
use Rattle.seats.specs.declared.client_counts.ClientConnections.{ClientConnections}
use Rattle.serve_reports.specs.declared.connections.BackendConnections.{BackendConnections}
use Rattle.serve_reports.specs.declared.noted.GatewayStats.{GatewayStats}
use Rattle.serve_reports.specs.declared.noted.LimitRange.{LimitRange}
use Rattle.serve_reports.specs.declared.noted.Troubles.{Troubles}
use Rattle.serve_reports.specs.declared.outcomes.OutcomeTally.{OutcomeTally}
use Rattle.serve_reports.specs.declared.outstanding.Outstanding.{Outstanding}
use Rattle.serve_reports.specs.declared.refusals.RefusalTally.{RefusalTally}
use Rattle.serve_reports.specs.declared.responses.ResponseTally.{ResponseTally}
use Rattle.serve_reports.specs.declared.tally.AnswerTally.{AnswerTally}
use Rattle.serve_reports.specs.declared.times.TimeTally.{TimeTally}
use Rattle.serve_reports.specs.declared.workers.Workers.{Workers}
use Rattle.metrics.specs.LimitView.{view_text}
use Rattle.metrics.specs.Families.{counters_text, gauge_text, head_text, histogram_text}
use Rattle.metrics.specs.Families.{number_text, of_class_text, sample_text}

-- the limit, and how many are in flight, wait and are granted
abbrev pub standing_text : Report → List ℕ
standing_text r =
    gauge_text (codes "admission_limit") (codes "The limit, in permits.") r.limit
    ++ gauge_text (codes "admission_in_flight") (codes "Permits that haven't ended.") r.inflight
    ++ gauge_text (codes "admission_waiting") (codes "Callers that wait for a permit.") r.waiters
    ++ gauge_text (codes "admission_granted")
    (codes "Permits of waiters that were promoted and haven't taken them yet.") r.granted

-- what the limit may be
abbrev pub range_text : LimitRange → List ℕ
range_text l =
    gauge_text (codes "admission_limit_least") (codes "The least limit, in permits.") l.least
    ++ gauge_text (codes "admission_limit_greatest") (codes "The greatest limit, in permits.")
    l.greatest
    ++ head_text (codes "admission_limit_info") (codes "gauge")
    (codes "Always 1, labelled with the kind of the limit.")
    ++ sample_text (codes "admission_limit_info") (codes "kind") l.kind.now 1

-- the sample of the class in a row, of these numbers of all classes
abbrev pub class_text : List ℕ → List Row → List ℕ → ℕ → List ℕ
class_text name rows numbers row =
    if nat_lt row (length rows)
    then sample_text name (codes "class") (name_of rows (Known row)) (slice_index numbers row)
    else []

-- a family with a sample for each class, in their order, and for the callers of none
unfoldable pub classes_text : List ℕ → List ℕ → List Row → List ℕ → List ℕ
classes_text name help rows numbers =
    head_text name (codes "gauge") help
    ++ class_text name rows numbers 0 ++ class_text name rows numbers 1
    ++ class_text name rows numbers 2 ++ class_text name rows numbers 3
    ++ sample_text name (codes "class") (codes "unknown") (slice_index numbers 4)

-- how many requests of a class, told of at a place, were refused for each cause
abbrev pub refused_text : List ℕ → RefusalTally → ℕ → List ℕ
refused_text class t place =
    of_class_text (codes "admission_class_refused_total") class (codes "cause") (codes "full")
    (slice_index t.full place)
    ++ of_class_text (codes "admission_class_refused_total") class (codes "cause")
    (codes "backlog") (slice_index t.backlog place)
    ++ of_class_text (codes "admission_class_refused_total") class (codes "cause")
    (codes "timed-out") (slice_index t.timed_out place)

-- those of the class in a row
abbrev pub class_refused_text : List Row → RefusalTally → ℕ → List ℕ
class_refused_text rows t row =
    if nat_lt row (length rows) then refused_text (name_of rows (Known row)) t row else []

-- those of each class, in their order, and of the callers of none
unfoldable pub refusals_text : List Row → RefusalTally → List ℕ
refusals_text rows t =
    head_text (codes "admission_class_refused_total") (codes "counter")
    (codes "Requests of a class that the gate refused, by the cause.")
    ++ class_refused_text rows t 0 ++ class_refused_text rows t 1
    ++ class_refused_text rows t 2 ++ class_refused_text rows t 3
    ++ refused_text (codes "unknown") t 4

-- how many permits of a class, told of at a place, ended with each outcome
abbrev pub ended_text : List ℕ → OutcomeTally → ℕ → List ℕ
ended_text class t place =
    of_class_text (codes "admission_class_outcomes_total") class (codes "outcome")
    (codes "success") (slice_index t.success place)
    ++ of_class_text (codes "admission_class_outcomes_total") class (codes "outcome")
    (codes "ignored") (slice_index t.ignored place)
    ++ of_class_text (codes "admission_class_outcomes_total") class (codes "outcome")
    (codes "dropped") (slice_index t.dropped place)

-- those of the class in a row
abbrev pub class_ended_text : List Row → OutcomeTally → ℕ → List ℕ
class_ended_text rows t row =
    if nat_lt row (length rows) then ended_text (name_of rows (Known row)) t row else []

-- those of each class, in their order, and of the callers of none
unfoldable pub class_outcomes_text : List Row → OutcomeTally → List ℕ
class_outcomes_text rows t =
    head_text (codes "admission_class_outcomes_total") (codes "counter")
    (codes "Permits of a class that ended, by what the limit learned.")
    ++ class_ended_text rows t 0 ++ class_ended_text rows t 1
    ++ class_ended_text rows t 2 ++ class_ended_text rows t 3
    ++ ended_text (codes "unknown") t 4

-- how many permits of the class in a row were waited for
abbrev pub promoted_text : List Row → OutcomeTally → ℕ → List ℕ
promoted_text rows t row =
    class_text (codes "admission_class_promoted_total") rows t.promoted row

-- those of each class, in their order, and of the callers of none
unfoldable pub class_promoted_text : List Row → OutcomeTally → List ℕ
class_promoted_text rows t =
    head_text (codes "admission_class_promoted_total") (codes "counter")
    (codes "Permits of a class that their callers waited for.")
    ++ promoted_text rows t 0 ++ promoted_text rows t 1
    ++ promoted_text rows t 2 ++ promoted_text rows t 3
    ++ sample_text (codes "admission_class_promoted_total") (codes "class") (codes "unknown")
    (slice_index t.promoted 4)

-- how many of each class are in flight, its share, how many of it wait, whom the gate refused, how
-- its permits ended, and how many of these were waited for
abbrev pub by_class_text : Report → List Row → RefusalTally → OutcomeTally → List ℕ
by_class_text r rows t o =
    classes_text (codes "admission_class_in_flight")
    (codes "Permits of a class that haven't ended.") rows r.counts
    ++ classes_text (codes "admission_class_share")
    (codes "The share of a class at this limit, in permits.") rows r.shares
    ++ classes_text (codes "admission_class_waiting")
    (codes "Callers of a class that wait for a permit.") rows r.waiting
    ++ refusals_text rows t ++ class_outcomes_text rows o ++ class_promoted_text rows o

-- how often each reply and promotion was
abbrev pub decisions_text : Counters → List ℕ
decisions_text c =
    counters_text (codes "admission_decisions_total") (codes "decision")
    (codes "Replies to callers, and promotions of those who waited.")
    ((codes "admitted", c.admitted) ∷ (codes "bypassed", c.bypassed) ∷ (codes "full", c.full)
    ∷ (codes "backlog", c.backlog_full) ∷ (codes "waiting", c.waiting)
    ∷ (codes "promoted", c.promoted) ∷ (codes "timed-out", c.timed_out) ∷ [])

-- how often each outcome was
abbrev pub outcomes_text : Counters → List ℕ
outcomes_text c =
    counters_text (codes "admission_outcomes_total") (codes "outcome")
    (codes "Permits that ended, by what the limit learned.")
    ((codes "success", c.success) ∷ (codes "ignored", c.ignored) ∷ (codes "dropped", c.dropped)
    ∷ [])

-- how many exchanges ended in which kind of status
abbrev pub responses_text : ResponseTally → List ℕ
responses_text t =
    counters_text (codes "admission_responses_total") (codes "status")
    (codes "Exchanges, by the kind of the status that their client was answered.")
    ((codes "2xx", t.successful) ∷ (codes "3xx", t.redirection) ∷ (codes "4xx", t.client_error)
    ∷ (codes "5xx", t.server_error) ∷ (codes "other", t.other) ∷ (codes "none", t.unanswered) ∷ [])

-- the sample of what comes only by a bound on bodies, once it was seen
abbrev pub seen_text : List ℕ → List ℕ → List ℕ → ℕ → List ℕ
seen_text name label word value = if value == 0 then [] else sample_text name label word value

-- how many exchanges ended in each of the gateway's own answers
abbrev pub answers_text : AnswerTally → List ℕ
answers_text t =
    counters_text (codes "admission_answers_total") (codes "status")
    (codes "Exchanges that ended in an answer of the gateway's own.")
    ((codes "400", t.bad_request) ∷ (codes "413", t.too_large) ∷ (codes "429", t.refused)
    ∷ (codes "431", t.head_too_large) ∷ (codes "500", t.out_of_memory)
    ∷ (codes "501", t.not_taken) ∷ (codes "502", t.bad_gateway) ∷ (codes "504", t.timed_out)
    ∷ [])
    ++ seen_text (codes "admission_answers_total") (codes "status") (codes "503") t.bodies

-- how many clients sent nothing at all
abbrev pub empty_text : AnswerTally → List ℕ
empty_text t =
    head_text (codes "admission_empty_connections_total") (codes "counter")
    (codes "Connections that their client closed before it sent anything.")
    ++ number_text (codes "admission_empty_connections_total") t.empty

-- how often each trouble came
abbrev pub troubles_text : Troubles → List ℕ
troubles_text t =
    counters_text (codes "admission_troubles_total") (codes "trouble")
    (codes "Troubles that the log tells of.")
    ((codes "unreached", t.unreached) ∷ (codes "broken", t.broken)
    ∷ (codes "backend-timeout", t.late) ∷ (codes "without-descriptor", t.without_descriptor)
    ∷ (codes "all-taken", t.all_taken) ∷ [])
    ++ seen_text (codes "admission_troubles_total") (codes "trouble") (codes "bodies") t.bodies

-- how many connections to the backend there are, and what became of those that there were
abbrev pub connections_text : BackendConnections → List ℕ
connections_text c =
    counters_text (codes "admission_backend_connections_total") (codes "event")
    (codes "Connections to the backend, by what became of them.")
    ((codes "opened", c.opened) ∷ (codes "reused", c.reused) ∷ (codes "stale", c.stale) ∷ [])
    ++ gauge_text (codes "admission_open_backend_connections")
    (codes "Connections to the backend that are open.") c.open
    ++ gauge_text (codes "admission_idle_backend_connections")
    (codes "Open connections to the backend that wait for another request.") c.idle

-- whether no connection to the backend could be made for a while
abbrev pub unreached_text : Bool → List ℕ
unreached_text unreached =
    gauge_text (codes "admission_backend_unreached")
    (codes "1 if connections to the backend were tried for ten seconds and none was made.")
    (if unreached then 1 else 0)

-- how many connections of clients wait, and what became of those that there were
abbrev pub clients_text : ClientConnections → List ℕ
clients_text c =
    counters_text (codes "admission_client_connections_total") (codes "event")
    (codes "Connections of clients, by what became of them.")
    ((codes "opened", c.opened) ∷ (codes "reused", c.reused) ∷ (codes "late", c.late)
    ∷ (codes "displaced", c.displaced) ∷ [])
    ++ gauge_text (codes "admission_silent_client_connections")
    (codes "Open connections of clients that have sent nothing yet.") c.silent
    ++ gauge_text (codes "admission_idle_client_connections")
    (codes "Open connections of clients that wait for their next request.") c.idle

-- how many workers there are, and how many of them serve a client
abbrev pub workers_text : Workers → List ℕ
workers_text w =
    gauge_text (codes "admission_workers") (codes "Workers that the gateway was started with.")
    w.count
    ++ gauge_text (codes "admission_busy_workers") (codes "Workers that serve a client.") w.busy

-- for how long the oldest permit has been out
abbrev pub oldest_text : Outstanding → List ℕ
oldest_text o =
    gauge_text (codes "admission_oldest_permit_seconds")
    (codes "Whole seconds since the oldest permit was got that hasn't ended.") o.oldest_seconds

-- for how long it has served, and which version it is
abbrev pub program_text : ℕ → List ℕ
program_text seconds =
    gauge_text (codes "admission_uptime_seconds") (codes "Whole seconds since the start.") seconds
    ++ head_text (codes "admission_build_info") (codes "gauge")
    (codes "Always 1, labelled with the version of the program.")
    ++ sample_text (codes "admission_build_info") (codes "version") version 1

-- the buckets of a histogram, each with its bound in seconds, and at last all of its times
abbrev pub buckets_of : Histogram → List (List ℕ × ℕ)
buckets_of h =
    (codes "0.0005", slice_index h.counts 0)
    ∷ (codes "0.001", slice_index h.counts 1)
    ∷ (codes "0.0025", slice_index h.counts 2)
    ∷ (codes "0.005", slice_index h.counts 3)
    ∷ (codes "0.01", slice_index h.counts 4)
    ∷ (codes "0.025", slice_index h.counts 5)
    ∷ (codes "0.05", slice_index h.counts 6)
    ∷ (codes "0.1", slice_index h.counts 7)
    ∷ (codes "0.25", slice_index h.counts 8)
    ∷ (codes "0.5", slice_index h.counts 9)
    ∷ (codes "1", slice_index h.counts 10)
    ∷ (codes "2.5", slice_index h.counts 11)
    ∷ (codes "5", slice_index h.counts 12)
    ∷ (codes "10", slice_index h.counts 13)
    ∷ (codes "+Inf", h.count) ∷ []

unfoldable pub times_text : List ℕ → List ℕ → Histogram → List ℕ
times_text name help h = histogram_text name help (buckets_of h) h.sum h.count

-- how long permits were waited for and held, and how long exchanges took
abbrev pub durations_text : TimeTally → List ℕ
durations_text t =
    times_text (codes "admission_permit_wait_seconds")
    (codes "How long each permit was waited for, from its asking to its start.") t.waited
    ++ times_text (codes "admission_round_trip_seconds")
    (codes "How long each permit was held, until the backend had answered.") t.round_trip
    ++ times_text (codes "admission_exchange_seconds")
    (codes "How long each client kept its worker, from its accept to its close.") t.exchange

-- THE TEXT OF THE METRICS: thirty-nine families
abbrev pub metrics_text : Report → List Row → GatewayStats → List ℕ
metrics_text r rows n =
    standing_text r ++ range_text n.limit ++ view_text r.view
    ++ by_class_text r rows n.refusals n.outcomes
    ++ decisions_text r.counters ++ outcomes_text r.counters ++ responses_text n.responses
    ++ answers_text n.answers
    ++ empty_text n.answers ++ troubles_text n.troubles ++ connections_text n.connections
    ++ unreached_text n.is_unreached ++ clients_text n.clients ++ workers_text n.workers
    ++ oldest_text n.outstanding ++ durations_text n.times ++ program_text n.seconds
