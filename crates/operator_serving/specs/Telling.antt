-- What is told of a call.
use Rattle.std.specs.Prelude.{◌≡◌, ℕ, Bool, ◌&&◌, nat_lt, List, [], ◌∷◌, ◌++◌, codes, decimal}
use Rattle.std.specs.Prelude.{Option, None, Some, Result, Ok, Err, if◌then◌else◌}
use Rattle.partitions.specs.Table.{Row}
use Rattle.gate_port.specs.declared.report.Report.{Report}
use Rattle.serve_reports.specs.declared.noted.GatewayStats.{GatewayStats}
use Rattle.serve_reports.specs.declared.workers.Workers.{Workers}
use Rattle.metrics.specs.Metrics.{metrics_text}
use Rattle.message_parts.specs.Header.{Header}
use Rattle.message_text.specs.Line.{line_of}
use Rattle.operator_calls.specs.declared.call.Call.{Call}
use Rattle.operator_calls.specs.declared.call.Call.TheVariants as call
use Rattle.operator_calls.specs.declared.call.Change.{Change}
use Rattle.operator_calls.specs.declared.call.Change.TheVariants as change
use Rattle.operator_calls.specs.declared.call.Look.{Look}
use Rattle.operator_calls.specs.declared.call.Look.TheVariants as look
use Rattle.operator_calls.specs.declared.refusal.Refusal.{Refusal}
use Rattle.operator_calls.specs.declared.refusal.Refusal.TheVariants as refusal
use Rattle.operator_calls.specs.Calls.{allowed_by, refusal_status}
use Rattle.operator_serving.specs.declared.desk.ChangeFault.{ChangeFault}
use Rattle.operator_serving.specs.declared.desk.ChangeFault.TheVariants as fault
use Rattle.operator_serving.specs.Words.{Words, words}
use Rattle.operator_serving.specs.Desk.{Deed, Sight}
use Rattle.operator_serving.specs.Desk.Deed.{Reported, SetTo, Begun, Drained, DrainedAfter}
use Rattle.operator_serving.specs.Desk.Sight.{Notes, Accepts}

-- what is told of a refusal
abbrev pub refusal_text : Refusal → List ℕ
refusal_text refusal.ForeignHost = codes "the host isn't this address\n"
refusal_text refusal.UnknownPath = codes "nothing is here\n"
refusal_text (refusal.OtherMethod verb) = codes "another method is wanted\n"
refusal_text refusal.WithoutMark = codes "a POST wants the line X-Admission: yes\n"
refusal_text refusal.NoNumber = codes "the body isn't a number\n"
refusal_text refusal.OtherQuery = codes "the query isn't after-ms=N with N from 1 to 3600000\n"
refusal_text refusal.CallerLeft = codes "the caller has left: nothing was changed\n"

-- a refusal, as it is told
abbrev pub refused : Refusal → Words
refused why = words (refusal_status why) (refusal_text why)

-- whether clients are accepted, and a worker is free for them: a drain is told first
abbrev pub health : Bool → Workers → Words
health accepts workers =
    if accepts then (if nat_lt workers.busy workers.count then words 200 (codes "ok\n")
    else words 503 (codes "busy\n")) else words 503 (codes "draining\n")

-- the same, and whether the backend can be connected to: a drain is told first
abbrev pub deep_health : Bool → GatewayStats → Words
deep_health accepts noted =
    if accepts && noted.is_unreached then words 503 (codes "the backend can't be reached\n")
    else health accepts noted.workers

-- what came of a change of the limit
abbrev pub changed : Result (Unit {0}) ChangeFault → Words
changed (Ok done) = words 200 (codes "ok\n")
changed (Err fault.NotSettable) = words 409 (codes "the limit isn't of the kind settable\n")
changed (Err fault.OutOfRange) = words 400 (codes "the number is out of the limit's range\n")
changed (Err fault.Exhausted) = words 503 (codes "the history is exhausted\n")

-- WHAT A LOOK TELLS, by what the desk shows, and by the state of the gate that was told there
abbrev pub Shows : {D : Type 0} → (D → List Row) → (D → Sight → Type 0) → (D → D → Deed → Type 0)
    → List ℕ → Look → D → D → Words → Type 0
Shows rows shows does page look.Page old new told = (new ≡ old) × (told ≡ words 200 page)
Shows rows shows does page look.Metrics old new told =
    (report : Report) × (noted : GatewayStats)
    × does old new (Reported report) × shows new (Notes noted)
    × (told ≡ words 200 (metrics_text report (rows new) noted))
Shows rows shows does page look.Health old new told =
    (new ≡ old) × (accepts : Bool) × (noted : GatewayStats)
    × shows old (Accepts accepts) × shows old (Notes noted)
    × (told ≡ health accepts noted.workers)
Shows rows shows does page look.DeepHealth old new told =
    (new ≡ old) × (accepts : Bool) × (noted : GatewayStats)
    × shows old (Accepts accepts) × shows old (Notes noted)
    × (told ≡ deep_health accepts noted)

-- WHAT A CHANGE TELLS, by what is done at the desk for it
abbrev pub IsCarriedOut : {D : Type 0} → (D → D → Deed → Type 0) → Change → D → D → Words → Type 0
IsCarriedOut does (change.SetLimit n) old new told =
    (outcome : Result (Unit {0}) ChangeFault) × does old new (SetTo n outcome)
    × (told ≡ changed outcome)
IsCarriedOut does change.Reset old new told =
    (outcome : Result (Unit {0}) ChangeFault) × does old new (Begun outcome)
    × (told ≡ changed outcome)
IsCarriedOut does change.Drain old new told =
    does old new Drained × (told ≡ words 200 (codes "draining\n"))
IsCarriedOut does (change.DrainAfter n) old new told =
    does old new (DrainedAfter n) × (told ≡ words 200 (codes "draining\n"))

-- WHAT IS TOLD of a call or a refusal: a look changes nothing, and a refusal leaves the desk as it
-- is
abbrev pub Tells : {D : Type 0} → (D → List Row) → (D → Sight → Type 0) → (D → D → Deed → Type 0)
    → List ℕ → Result Call Refusal → D → D → Words → Type 0
Tells rows shows does page (Err why) old new told = (new ≡ old) × (told ≡ refused why)
Tells rows shows does page (Ok (call.Look it)) old new told =
    Shows rows shows does page it old new told
Tells rows shows does page (Ok (call.Change it)) old new told = IsCarriedOut does it old new told

-- the type of what is told
abbrev pub media_of : Result Call Refusal → List ℕ
media_of (Ok (call.Look look.Page)) = codes "text/html; charset=utf-8"
media_of (Ok (call.Look look.Metrics)) = codes "text/plain; version=0.0.4; charset=utf-8"
media_of _ = codes "text/plain; charset=utf-8"

-- the method that is wanted, where another one came
abbrev pub allow_lines : Result Call Refusal → List Header
allow_lines (Err (refusal.OtherMethod verb)) = line_of (codes "Allow") (allowed_by verb) ∷ []
allow_lines _ = []

-- the length of a text, where a line of its own tells it
abbrev pub length_lines : Option ℕ → List Header
length_lines None = []
length_lines (Some n) = line_of (codes "Content-Length") (decimal n) ∷ []

-- THE HEADER LINES of what is told
abbrev pub lines_of : Result Call Refusal → Option ℕ → List Header
lines_of call length =
    line_of (codes "Content-Type") (media_of call)
    ∷ line_of (codes "Cache-Control") (codes "no-store") ∷ allow_lines call ++ length_lines length
