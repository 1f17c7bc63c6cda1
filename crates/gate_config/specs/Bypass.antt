-- The bypass rules of a configuration.
use Rattle.std.specs.declared.alloc.Global.{Global}
use Rattle.std.specs.BTreeMap.{BTreeMap}
use Rattle.std.specs.Borrow.{Bor}
use Rattle.std.specs.Prelude.{ℕ, List, [], ◌∷◌, length, String, Result, Ok, codes}
use Rattle.toml.specs.declared.value.Value.{Value}
use Rattle.toml.specs.Data.{Members}
use Rattle.toml.specs.View.{table_view}
use Rattle.gate_config.specs.declared.fault.ConfigFault.{ConfigFault}
use Rattle.gate_config.specs.Outcomes.{of_member, ◌>>=◌}
use Rattle.gate_config.specs.declared.bypass.BypassKeys.{BypassKeys}
use Rattle.gate_config.specs.declared.bypass.BypassKeys.TheVariants as Keys
use Rattle.gate_config.specs.declared.bypass.BypassKind.{BypassKind}
use Rattle.gate_config.specs.declared.bypass.BypassKind.TheVariants as Kind
use Rattle.gate_config.specs.Rows.{bypass_rows}
use Rattle.gate_config.specs.Section.{Values, section_values, text_is}

-- the word of a kind
abbrev pub bypass_word : BypassKind → List ℕ
bypass_word Kind.Method = codes "method"
bypass_word Kind.Prefix = codes "prefix"
bypass_word Kind.Header = codes "header"

-- the keys as values
abbrev pub bypass_values : BypassKeys → Values
bypass_values (Keys.Method method) =
    (codes "kind", text_is (codes "method")) ∷ (codes "method", text_is method.now) ∷ []
bypass_values (Keys.Prefix prefix) =
    (codes "kind", text_is (codes "prefix")) ∷ (codes "prefix", text_is prefix.now) ∷ []
bypass_values (Keys.Header header equals) =
    (codes "kind", text_is (codes "header")) ∷ (codes "header", text_is header.now)
    ∷ (codes "equals", text_is equals.now) ∷ []

-- a bypass rule's table, and its keys as values
abbrev pub bypass_member : Bor (BTreeMap (String Global) Value) × BypassKeys → Members × Values
bypass_member member = (table_view member.0.now, bypass_values member.1)

-- a bypass rule, with its table
abbrev pub bypass_after : List (Members × Values) → Members →
    Result (Members × Values) ConfigFault
bypass_after before t =
    of_member (length before) (section_values [] bypass_rows t) >>= λ values. Ok (t, values)
