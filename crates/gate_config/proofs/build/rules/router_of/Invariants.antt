use Rattle.std.proofs.Common.{◌≡◌, map, string_bytes}
use Rattle.toml.specs.View.{table_view, view}
use Rattle.gate_config.specs.Text.{string_of}
use Rattle.gate_config.specs.Routes.{routes_of}
use Rattle.gate_config.specs.Rules.{router_after, router_from}
use Rattle.gate_config.proofs.build.rules.router_of.Given as goal

-- the router so far, and the patterns to come
abbrev pub invariant-loop-pattern : goal.invariant-loop-pattern
invariant-loop-pattern l =
    router_from l.table (routes_of (table_view l.routes))
    ≡ router_after l.table l.router
    (map (λ entry. (string_bytes entry.0, string_of (view entry.1))) l.pattern-iterator)
