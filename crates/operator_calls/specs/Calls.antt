-- What an operator asks by a request.
use Rattle.std.specs.Prelude.{⊤, ℕ, Bool, true, false, ◌&&◌, ◌||◌, ◌==◌, ◌^◌, nat_le, nat_lt, List, length, take, drop, codes, bytes_eq, Option, None, Some, Result, Ok, Err, if◌then◌else◌}
use Rattle.std.specs.List.{after_first, position_or_len}
use Rattle.std.specs.Option.{option_map_or}
use Rattle.std.specs.Str.Parse.{digits_value}
use Rattle.message_parts.specs.Header.{Header}
use Rattle.message_parts.specs.declared.request.Request.{Request}
use Rattle.message_fields.specs.Lengths.{is_digits}
use Rattle.message_fields.specs.Lines.{first_value}
use Rattle.message_fields.specs.Target.{authority_of}
use Rattle.operator_calls.specs.declared.audience.Audience.{Audience}
use Rattle.operator_calls.specs.declared.audience.Audience.TheVariants as audience
use Rattle.operator_calls.specs.declared.call.Call.{Call}
use Rattle.operator_calls.specs.declared.call.Call.TheVariants as call
use Rattle.operator_calls.specs.declared.call.Change.{Change}
use Rattle.operator_calls.specs.declared.call.Change.TheVariants as change
use Rattle.operator_calls.specs.declared.call.Look.{Look}
use Rattle.operator_calls.specs.declared.call.Look.TheVariants as look
use Rattle.operator_calls.specs.declared.endpoint.Endpoint.{Endpoint}
use Rattle.operator_calls.specs.declared.endpoint.Endpoint.TheVariants as endpoint
use Rattle.operator_calls.specs.declared.endpoint.Verb.{Verb}
use Rattle.operator_calls.specs.declared.endpoint.Verb.TheVariants as verb
use Rattle.operator_calls.specs.declared.refusal.Refusal.{Refusal}
use Rattle.operator_calls.specs.declared.refusal.Refusal.TheVariants as refusal

-- what lies at a path
abbrev pub endpoint_at : List ℕ → Option Endpoint
endpoint_at path =
    if bytes_eq path (codes "/") then Some endpoint.Page else (
    if bytes_eq path (codes "/metrics") then Some endpoint.Metrics else (
    if bytes_eq path (codes "/health") then Some endpoint.Health else (
    if bytes_eq path (codes "/limit") then Some endpoint.Limit else (
    if bytes_eq path (codes "/reset") then Some endpoint.Reset else (
    if bytes_eq path (codes "/drain") then Some endpoint.Drain else None)))))

-- the method that each takes: what changes something takes POST
abbrev pub verb_of : Endpoint → Verb
verb_of endpoint.Page = verb.Get
verb_of endpoint.Metrics = verb.Get
verb_of endpoint.Health = verb.Get
verb_of _ = verb.Post

-- HEAD is taken where GET is
abbrev pub is_taken_by : Verb → List ℕ → Bool
is_taken_by verb.Get method = bytes_eq method (codes "GET") || bytes_eq method (codes "HEAD")
is_taken_by verb.Post method = bytes_eq method (codes "POST")

-- the methods that are taken, as they are listed
abbrev pub allowed_by : Verb → List ℕ
allowed_by verb.Get = codes "GET, HEAD"
allowed_by verb.Post = codes "POST"

-- what is there for whoever comes
abbrev pub is_open : Endpoint → Bool
is_open endpoint.Metrics = true
is_open endpoint.Health = true
is_open _ = false

-- what is left of it for them
abbrev pub open_alone : Option Endpoint → Option Endpoint
open_alone None = None
open_alone (Some endpoint) = if is_open endpoint then Some endpoint else None

-- what lies at a path for an audience
abbrev pub endpoint_for : Audience → List ℕ → Option Endpoint
endpoint_for (audience.Operator host) path = endpoint_at path
endpoint_for audience.Anyone path = open_alone (endpoint_at path)

-- the line of Host is this text
abbrev pub names_host : List ℕ → List Header → Bool
names_host host lines =
    option_map_or (λ value. bytes_eq value host) (first_value (codes "host") lines) false

-- a target that is absolute has this authority
abbrev pub names_authority : List ℕ → List ℕ → Bool
names_authority host target =
    option_map_or (λ authority. bytes_eq authority host) (authority_of target) true

-- the first line of X-Admission says `yes`
abbrev pub is_marked : List Header → Bool
is_marked lines =
    option_map_or (λ value. bytes_eq value (codes "yes"))
    (first_value (codes "x-admission") lines) false

-- the number below 2^32 that a text spells in digits alone
abbrev pub number_of : List ℕ → Option ℕ
number_of text =
    if is_digits text && nat_lt (digits_value 10 text) (2 ^ 32)
    then Some (digits_value 10 text) else None

-- the number that a body tells
abbrev pub told_number : Option (List ℕ) → Option ℕ
told_number None = None
told_number (Some body) = number_of body

-- a limit is set to a number
abbrev pub set_to : Option ℕ → Result Change Refusal
set_to None = Err refusal.NoNumber
set_to (Some n) = Ok (change.SetLimit n)

-- what stands behind the first `?` of a target, where there is one
abbrev pub query_of : List ℕ → Option (List ℕ)
query_of target =
    if nat_lt (position_or_len (λ byte. byte == 63) target) (length target)
    then Some (after_first (λ byte. byte == 63) target) else None

-- a delay in milliseconds: up to an hour
abbrev pub within_an_hour : Option ℕ → Option ℕ
within_an_hour None = None
within_an_hour (Some n) = if nat_le 1 n && nat_le n 3600000 then Some n else None

-- the delay that a query `after-ms=N` tells
abbrev pub delay_of : List ℕ → Option ℕ
delay_of query =
    if bytes_eq (take 9 query) (codes "after-ms=")
    then within_an_hour (number_of (drop 9 query)) else None

-- a drain after a delay
abbrev pub drain_after : Option ℕ → Result Change Refusal
drain_after None = Err refusal.OtherQuery
drain_after (Some n) = Ok (change.DrainAfter n)

-- THE DRAIN THAT A QUERY ASKS FOR: at once where there is none
abbrev pub drain_by : Option (List ℕ) → Result Change Refusal
drain_by None = Ok change.Drain
drain_by (Some query) = drain_after (delay_of query)

-- THE LOOK AT THE HEALTH that a query asks for
abbrev pub health_by : Option (List ℕ) → Look
health_by None = look.Health
health_by (Some query) = if bytes_eq query (codes "deep") then look.DeepHealth else look.Health

-- the call of a change, where one is asked for
abbrev pub changing : Result Change Refusal → Result Call Refusal
changing (Ok it) = Ok (call.Change it)
changing (Err why) = Err why

-- the call of what lies at a path
abbrev pub call_at : Endpoint → Request → Result Call Refusal
call_at endpoint.Page r = Ok (call.Look look.Page)
call_at endpoint.Metrics r = Ok (call.Look look.Metrics)
call_at endpoint.Health r = Ok (call.Look (health_by (query_of r.target)))
call_at endpoint.Limit r = changing (set_to (told_number r.body))
call_at endpoint.Reset r = Ok (call.Change change.Reset)
call_at endpoint.Drain r = changing (drain_by (query_of r.target))

-- the call of a request by its method: a POST needs its mark
abbrev pub by_verb : Verb → Endpoint → Request → Result Call Refusal
by_verb verb.Get endpoint r = call_at endpoint r
by_verb verb.Post endpoint r =
    if is_marked r.headers then call_at endpoint r else Err refusal.WithoutMark

abbrev pub asked_at : Endpoint → Request → Result Call Refusal
asked_at endpoint r =
    if is_taken_by (verb_of endpoint) r.method then by_verb (verb_of endpoint) endpoint r
    else Err (refusal.OtherMethod (verb_of endpoint))

-- the call of a request, where something lies at its path
abbrev pub asked : Option Endpoint → Request → Result Call Refusal
asked None r = Err refusal.UnknownPath
asked (Some endpoint) r = asked_at endpoint r

-- a request names the address as its audience has to: an operator by its host alone
abbrev pub is_named : Audience → Request → Bool
is_named (audience.Operator host) r =
    names_host host.now r.headers && names_authority host.now r.target
is_named audience.Anyone r = true

-- THE CALL OF A REQUEST to an address for this audience
abbrev pub call_of : Audience → Request → Result Call Refusal
call_of audience r =
    if is_named audience r then asked (endpoint_for audience r.path) r
    else Err refusal.ForeignHost

-- a call that changes nothing
abbrev pub IsLook : Call → Type 0
IsLook (call.Look it) = ⊤
IsLook (call.Change it) = ⊥

-- WHAT IS HEARD of whoever may have left: who has asks for no change
abbrev pub heard : Bool → Result Call Refusal → Result Call Refusal
heard true (Ok (call.Change it)) = Err refusal.CallerLeft
heard _ call = call

-- the status that tells a refusal
abbrev pub refusal_status : Refusal → ℕ
refusal_status refusal.ForeignHost = 403
refusal_status refusal.UnknownPath = 404
refusal_status (refusal.OtherMethod verb) = 405
refusal_status refusal.WithoutMark = 403
refusal_status refusal.NoNumber = 400
refusal_status refusal.OtherQuery = 400
refusal_status refusal.CallerLeft = 400
