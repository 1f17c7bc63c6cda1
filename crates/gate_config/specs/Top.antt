-- The keys outside all tables, as values, and their ranges.
use Rattle.std.specs.Option.{ForSome}
use Rattle.std.specs.Prelude.{◌≤◌, [], ◌∷◌, ◌++◌, codes, Option, Some, None}
use Rattle.gate_config.specs.declared.top.FrontKeys.{FrontKeys}
use Rattle.gate_config.specs.declared.top.KeptKeys.{KeptKeys}
use Rattle.gate_config.specs.declared.top.GateKeys.{GateKeys}
use Rattle.gate_config.specs.declared.top.TopKeys.{TopKeys}
use Rattle.gate_config.specs.Promote.{rule_word}
use Rattle.gate_config.specs.Section.{Values, flag_is, number_is, text_is}

abbrev pub front_values : FrontKeys → Values
front_values k =
    (codes "listen", text_is k.listen) ∷ (codes "backend", text_is k.backend)
    ∷ (codes "backlog", number_is k.backlog) ∷ (codes "wait", flag_is k.wait)
    ∷ (codes "timeout_ms", number_is k.timeout_ms) ∷ []

abbrev pub kept_values : Option KeptKeys → Values
kept_values None = []
kept_values (Some k) =
    (codes "clients", number_is k.clients)
    ∷ (codes "client_idle_ms", number_is k.client_idle_ms)
    ∷ (codes "backends", number_is k.backends)
    ∷ (codes "backend_idle_ms", number_is k.backend_idle_ms)
    ∷ (codes "bodies_mib", number_is k.bodies_mib) ∷ []

abbrev pub gate_values : GateKeys → Values
gate_values k =
    (codes "keep", number_is k.keep) ∷ (codes "promote", text_is (rule_word k.promote)) ∷ []

abbrev pub top_values : TopKeys → Values
top_values k = front_values k.front ++ kept_values k.kept ++ gate_values k.gate

-- the numbers of connections that are kept and of bodies that are held are in their ranges
pub record AreKept (k : KeptKeys) : Type 0 where
  pub clients_most : k.clients ≤ 10000
  pub client_idle_most : k.client_idle_ms ≤ 3600000
  pub backends_most : k.backends ≤ 4096
  pub backend_idle_most : k.backend_idle_ms ≤ 3600000
  pub bodies_most : k.bodies_mib ≤ 1048576

-- the numbers are in their ranges
pub record IsTop (k : TopKeys) : Type 0 where
  pub backlog_most : k.front.backlog ≤ 10000
  pub timeout_least : 1 ≤ k.front.timeout_ms
  pub timeout_most : k.front.timeout_ms ≤ 3600000
  pub kept : ForSome k.kept AreKept
  pub keep_least : 1 ≤ k.gate.keep
  pub keep_most : k.gate.keep ≤ 1000000
