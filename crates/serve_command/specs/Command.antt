-- What `serve` does.
use Rattle.std.specs.Prelude.{◌≡◌, ◌⊎◌, ℕ, Bool, false, true, List, ◌++◌, Option, None, Some, IfSome, Ok}
use Rattle.std.specs.declared.net.socket_addr.SocketAddrV4.{SocketAddrV4}
use Rattle.counted_io.specs.Count.{raised}
use Rattle.counted_io.specs.declared.counted.Counted.{Counted}
use Rattle.counted_io.specs.Causes.{IsWriteCause}
use Rattle.counted_io.specs.Counted.{failures_of, inner_of, is_flushed}
use Rattle.counted_io.specs.Effects.{Wrote}
use Rattle.limit_kinds.specs.AnyKinds.{any_rules}
use Rattle.limiter_core.specs.declared.counters.Counters.{Counters}
use Rattle.gateway_settings.specs.declared.settings.Settings.{Settings}
use Rattle.gateway_settings.specs.Exchanges.{AreEnoughFor, AreTooFew, settings_by}
use Rattle.commands.specs.declared.serve_options.ServeOptions.{ServeOptions}
use Rattle.commands.specs.ServeOptions.{threads_of}
use Rattle.shared_gate.specs.Calls.{Pass}
use Rattle.gate_opening.specs.Opening.{making_of}
use Rattle.client_tokens.specs.Roll.{Roll}
use Rattle.serving.specs.Served.{policy_of}
use Rattle.config_file.specs.Reading.{Held, IsUnset, Says}
use Rattle.config_file.specs.declared.file_fault.FileFault.TheVariants as File
use Rattle.serve_reports.specs.CountersLine.{counters_line}
use Rattle.serve_command.specs.declared.fault.ServiceFault.{ServiceFault}
use Rattle.serve_command.specs.declared.fault.ServiceFault.TheVariants as Service
use Rattle.gate_desk.specs.Desk.{IsDone}
use Rattle.gate_desk.specs.State.{new_desk}
use Rattle.serve_command.specs.Beside.{IsAdminServed, IsStatusServed}
use Rattle.serve_command.specs.Binding.{IsBound, IsOfBinding}
use Rattle.serve_command.specs.Descriptors.{LackDescriptors}
use Rattle.serve_command.specs.GatewayRun.{AreCountersOfRuns, AreMiscounted}

-- THE SETTINGS of a file that was opened as it says: its text was read whole, and holds them
abbrev pub AreOfFile : {F : Type 0} → (F → Type 0) → (F → Option (List ℕ)) → Settings → Type 0
AreOfFile {F} Opened remaining s = (file : Counted F) × (bytes : List ℕ)
    × Opened (inner_of file) × Held remaining file bytes × Says bytes (Ok s)

-- SETTINGS TO SERVE BY: those of the file, or what they are for the number of exchanges that is
-- given, which is enough for them
pub record AreToServe {F : Type 0} (Opened : F → Type 0) (remaining : F → Option (List ℕ))
    (exchanges : Option ℕ) (by : Settings) : Type 0 where
  pub settings : Settings
  pub of_file : AreOfFile Opened remaining settings
  pub enough : AreEnoughFor exchanges settings
  pub are : by ≡ settings_by exchanges settings

-- SERVED BY SETTINGS, at their address, the operator's and that of whoever looks: a listener was
-- bound at each. As many workers as the options say took their turns, each by these settings, with
-- marks or without, with clients who came to the first, all whom that gave, and these are the
-- counters of their runs; at the others those were served who came there, at desks of the same
-- gate, by whose passes nobody had called, and which close the listener of clients
pub record IsServedBy {L : Type 0} (Bound : List ℕ → L → Type 0)
    (came : L → Option (List ℕ) → Type 0) (found : L → Bool → Type 0)
    (gave : L → Roll → Type 0) (closed : L → Type 0) (o : ServeOptions) (s : Settings)
    (counters : Counters) : Type 0 where
  pub listener : L
  pub bound : Bound s.listen listener
  pub by_lookers : List Pass
  pub by_admins : List Pass
  pub ran : AreCountersOfRuns any_rules (making_of (threads_of o) s) (policy_of s o.marks)
      (came listener) (found listener false) (gave listener) (threads_of o) o.per_worker
      (by_lookers ++ by_admins) counters
  pub operator : IsAdminServed (IsDone any_rules (making_of (threads_of o) s) closed) came found
      (new_desk s.table listener) Bound o.admin by_admins
  pub lookers : IsStatusServed (IsDone any_rules (making_of (threads_of o) s) closed) came found
      (new_desk s.table listener) Bound o.status by_lookers

-- SERVED: by settings of the file, or what they are for the number of exchanges that is given,
-- which is enough for them; and the line of the counters of the workers' runs is written and
-- flushed, and no write failed
pub record HasServed {F L W : Type 0} (Opened : F → Type 0) (remaining : F → Option (List ℕ))
    (Bound : List ℕ → L → Type 0) (came : L → Option (List ℕ) → Type 0)
    (found : L → Bool → Type 0) (gave : L → Roll → Type 0) (closed : L → Type 0)
    (contents : W → Option (List ℕ)) (o : ServeOptions) (old new : Counted W) : Type 0 where
  pub settings : Settings
  pub file : Counted F
  pub bytes : List ℕ
  pub opened : Opened (inner_of file)
  pub held : Held remaining file bytes
  pub says : Says bytes (Ok settings)
  pub enough : AreEnoughFor o.exchanges settings
  pub counters : Counters
  pub served : IsServedBy Bound came found gave closed o (settings_by o.exchanges settings) counters
  pub written : Wrote contents old new (counters_line counters)
  pub unfailing : failures_of new ≡ failures_of old
  pub flushed : is_flushed new ≡ true

-- by these settings so many workers' gate is miscounted, or a listener that was bound at their
-- address can't tell whom it gave
abbrev pub Miscounts : {L : Type 0} → (List ℕ → L → Type 0) → (L → Type 0) → ℕ → Settings → Type 0
Miscounts {L} Bound lost workers s =
    AreMiscounted any_rules (making_of workers s) workers
    ((listener : L) × Bound s.listen listener × lost listener)

-- A FAULT OF SERVING ITSELF, by the addresses, by how many threads were refused before and after,
-- and by what is miscounted: not all addresses were bound; or that of clients was, and memory was
-- lacking, the system refused a thread, or all have served, and the gate has other calls than these
-- made, or counts others, or their listener can't tell whom it gave
abbrev pub IsOfServing : {L : Type 0} → (List ℕ → L → Type 0) → (List ℕ → Type 0)
    → List ℕ → Option SocketAddrV4 → Option SocketAddrV4 → ℕ → ℕ → Type 0 → ServiceFault → Type 0
IsOfServing Bound Unbound listen admin status before after Off (Service.Config fault) = ⊥
IsOfServing Bound Unbound listen admin status before after Off (Service.Exchanges few) = ⊥
IsOfServing Bound Unbound listen admin status before after Off (Service.Descriptors few) = ⊥
IsOfServing Bound Unbound listen admin status before after Off Service.Listen =
    IsOfBinding Bound Unbound listen admin status Service.Listen
IsOfServing Bound Unbound listen admin status before after Off Service.Memory =
    IsBound Bound listen
IsOfServing Bound Unbound listen admin status before after Off Service.Thread =
    IsBound Bound listen × (after ≡ raised before)
IsOfServing Bound Unbound listen admin status before after Off Service.Miscounted =
    IsBound Bound listen × Off
IsOfServing Bound Unbound listen admin status before after Off Service.Write = ⊥

-- settings of the file were had, with which this holds
abbrev pub HadSettings : {F : Type 0} → (F → Type 0) → (F → Option (List ℕ))
    → (Settings → Type 0) → Type 0
HadSettings Opened remaining Holds = (s : Settings) × AreOfFile Opened remaining s × Holds s

-- WHY THERE ARE NO SETTINGS TO SERVE BY: the file couldn't be opened, or its settings weren't had;
-- or they were had, and the number of exchanges that is given isn't enough for them, which is told
-- with the least that is, or it wants more descriptors than are given
abbrev pub IsOfSettings : {F : Type 0} → Type 0 → (F → Type 0) → (F → Option (List ℕ)) → Option ℕ
    → ServiceFault → Type 0
IsOfSettings {F} Unopened Opened remaining exchanges (Service.Config fault) =
    ((fault ≡ File.Read) × Unopened)
    ⊎ (before : Counted F) × (after : Counted F) × Opened (inner_of before)
    × IsUnset remaining before after fault
IsOfSettings Unopened Opened remaining exchanges (Service.Exchanges few) =
    HadSettings Opened remaining (λ s. AreTooFew exchanges s few.wanted)
IsOfSettings Unopened Opened remaining exchanges (Service.Descriptors few) =
    HadSettings Opened remaining (λ s. LackDescriptors (settings_by exchanges s) few)
IsOfSettings Unopened Opened remaining exchanges Service.Listen = ⊥
IsOfSettings Unopened Opened remaining exchanges Service.Memory = ⊥
IsOfSettings Unopened Opened remaining exchanges Service.Thread = ⊥
IsOfSettings Unopened Opened remaining exchanges Service.Miscounted = ⊥
IsOfSettings Unopened Opened remaining exchanges Service.Write = ⊥

-- WHY NOT: there are no settings to serve by; or serving by them failed for its own cause, or the
-- counters of those who served couldn't be written. Before that nothing is written
abbrev pub IsWhyOfService : {F W : Type 0} → Type 0 → (F → Type 0) → (F → Option (List ℕ))
    → Option ℕ → (Settings → ServiceFault → Type 0) → Counted W → Counted W → ServiceFault → Type 0
IsWhyOfService Unopened Opened remaining exchanges OfServing old new (Service.Config fault) =
    (new ≡ old) × IsOfSettings Unopened Opened remaining exchanges (Service.Config fault)
IsWhyOfService Unopened Opened remaining exchanges OfServing old new (Service.Exchanges few) =
    (new ≡ old) × IsOfSettings Unopened Opened remaining exchanges (Service.Exchanges few)
IsWhyOfService Unopened Opened remaining exchanges OfServing old new (Service.Descriptors few) =
    (new ≡ old) × IsOfSettings Unopened Opened remaining exchanges (Service.Descriptors few)
IsWhyOfService Unopened Opened remaining exchanges OfServing old new Service.Write =
    IsWriteCause old new × HadSettings Opened remaining (λ _. Unit {0})
IsWhyOfService Unopened Opened remaining exchanges OfServing old new fault =
    (new ≡ old) × HadSettings Opened remaining (λ s. OfServing (settings_by exchanges s) fault)
