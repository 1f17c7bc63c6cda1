-- The settings that a text holds.
use Rattle.std.specs.Prelude.{◌≡◌, ◌≤◌, ℕ, ◌+◌, ◌*◌, ℤ, pos, ◌==◌, List, [], map, Option, Some, None, option_map, ok_or, is_none, Result, Err, bytes_eq, codes, IsUtf8, if◌then◌else◌}
use Rattle.toml.specs.Data.{Data, Members, get_member, integer}
use Rattle.toml.specs.Parse.{parse_document}
use Rattle.partitions.specs.Table.{placed}
use Rattle.limit_kinds.specs.AnyKinds.{any_from}
use Rattle.limit_kinds.specs.Kinds.{first_limit}
use Rattle.limiter_core.specs.declared.promote.Promote.{Promote}
use Rattle.limiter_core.specs.declared.promote.Promote.TheVariants.{Newest, All}
use Rattle.classifier.specs.declared.resolver.Resolver.{Resolver}
use Rattle.gate_config.specs.declared.fault.ConfigFault.{ConfigFault}
use Rattle.gate_config.specs.declared.fault.ConfigFault.TheVariants as Fault
use Rattle.gate_config.specs.Outcomes.{◌>>=◌}
use Rattle.gate_config.specs.Unknown.{UnknownKey, least, unknown_key_text}
use Rattle.gate_config.specs.declared.version.Version.{Version}
use Rattle.gate_config.specs.declared.version.Version.TheVariants.{One, Two}
use Rattle.gate_config.specs.Rows.{all}
use Rattle.gate_config.specs.Section.{flag_at, number_at, text_at}
use Rattle.gateway_settings.specs.declared.omitted.OmittedKeys.{OmittedKeys}
use Rattle.gateway_settings.specs.declared.settings.Settings.{Settings}
use Rattle.gate_config.specs.Document.{DocumentValues, document_of}
use Rattle.gate_config.specs.Rules.{bypass_from, resolvers_after}
use Rattle.gate_config.specs.UnknownKeys.{unknown_keys_of}

-- the bytes are text that toml reads as this table
abbrev pub Reads : List ℕ → Members → Type 0
Reads bytes t = IsUtf8 bytes × (parse_document bytes ≡ Some t)

-- the version of a whole number, which is 1 or 2
abbrev pub version_from : ℤ → Option Version
version_from (pos n) =
    if n == 1 then Some One
    else (if n == 2 then Some Two else None)
version_from _ = None

-- the version of what stands at the key `version`
abbrev pub version_of : Option Data → Option Version
version_of (Some (integer z)) = version_from z
version_of _ = None

-- the rule of promotion of a word
abbrev pub promote_named : List ℕ → Promote
promote_named word = if bytes_eq word all then All else Newest

-- which keys are left out of a table and of its table `limit`
abbrev pub omitted_from : Members → Members → OmittedKeys
omitted_from t limit = record {
  backlog = is_none (get_member (codes "backlog") t);
  limit_max = is_none (get_member (codes "max") limit);
  bodies = is_none (get_member (codes "bodies_mib") t);
}

-- the settings that the keys of a table make with these resolvers: everybody's places and the
-- classes' own are one backlog, times are in nanoseconds, and a version without keys of connections
-- keeps none
abbrev pub settings_with : Members → DocumentValues → List Resolver → Settings
settings_with t d resolvers = record {
  listen = text_at (codes "listen") d.top;
  backend = text_at (codes "backend") d.top;
  backlog = number_at (codes "backlog") d.top + placed d.classes.1;
  wait = flag_at (codes "wait") d.top;
  timeout_ns = number_at (codes "timeout_ms") d.top * 1000000;
  clients = number_at (codes "clients") d.top;
  client_idle_ns = number_at (codes "client_idle_ms") d.top * 1000000;
  backends = number_at (codes "backends") d.top;
  backend_idle_ns = number_at (codes "backend_idle_ms") d.top * 1000000;
  bodies_mib = number_at (codes "bodies_mib") d.top;
  keep = number_at (codes "keep") d.top;
  promote = promote_named (text_at (codes "promote") d.top);
  limit =
      any_from (first_limit d.limit.1) (option_map (λ window. window.1) d.window);
  table = d.classes.1;
  rules = record { resolvers = resolvers; bypass = map (λ rule. bypass_from rule.1) d.bypasses };
  omitted = omitted_from t d.limit.0;
  exchanges = None;
}

-- the settings that keys make, if the patterns of each resolver can stand together
abbrev pub made_of : Members → DocumentValues → Option Settings
made_of t d = option_map (settings_with t d) (resolvers_after d.classes.1 [] d.resolvers)

-- the settings that keys make, or the first fault: of the least unknown key, of a route
abbrev pub known : Members → DocumentValues → Option UnknownKey → Result Settings ConfigFault
known t d None = ok_or (made_of t d) Fault.Route
known t d (Some key) = Err (Fault.Unknown (unknown_key_text key))

-- the settings that a table of a version holds, or the first fault: of the version where it is
-- none, of a key, of an unknown key, of a route
abbrev pub settings_in_version : Members → Option Version → Result Settings ConfigFault
settings_in_version t None = Err Fault.Version
settings_in_version t (Some version) =
    document_of version t >>= λ d. known t d (least (unknown_keys_of version t d))

-- the settings that a table holds
abbrev pub settings_of : Members → Result Settings ConfigFault
settings_of t = settings_in_version t (version_of (get_member (codes "version") t))

-- the faults that are reported whatever the memory: those of the version and of a key
abbrev pub IsOfKey : ConfigFault → Type 0
IsOfKey Fault.Memory = ⊥
IsOfKey Fault.Toml = ⊥
IsOfKey Fault.Version = Unit {0}
IsOfKey (Fault.Missing key) = Unit {0}
IsOfKey (Fault.Kind key) = Unit {0}
IsOfKey (Fault.Value key) = Unit {0}
IsOfKey (Fault.Unknown path) = ⊥
IsOfKey Fault.Route = ⊥
