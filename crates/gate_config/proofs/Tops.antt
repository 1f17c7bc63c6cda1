-- The keys outside all tables, read in three parts.
use Rattle.std.proofs.Common.{◌≡◌, ◌∙◌, ap, refl, sym, ℕ, List, [], ◌∷◌, ◌++◌, Option, Some, None, Result, Ok, Err, fold}
use Rattle.std.specs.Prelude.{codes}
use Rattle.std.proofs.lemmas.List.Sums.{fold-append}
use Rattle.toml.specs.Data.{Members}
use Rattle.gate_config.specs.declared.fault.ConfigFault.{ConfigFault}
use Rattle.gate_config.specs.declared.top.FrontKeys.{FrontKeys}
use Rattle.gate_config.specs.declared.top.KeptKeys.{KeptKeys}
use Rattle.gate_config.specs.declared.top.GateKeys.{GateKeys}
use Rattle.gate_config.specs.declared.top.TopKeys.{TopKeys}
use Rattle.gate_config.specs.declared.version.Version.{Version}
use Rattle.gate_config.specs.Promote.{rule_word}
use Rattle.gate_config.specs.Rows.{Row, front_rows, gate_rows, kept_rows, top_rows}
use Rattle.gate_config.specs.Section.{Values, number_at, read_row, section_values, text_at}
use Rattle.gate_config.specs.Top.{front_values, gate_values, kept_values, top_values}

-- the keys of rows, behind what was read
abbrev behind : Members → Result Values ConfigFault → List Row → Result Values ConfigFault
behind t so_far rows = fold (read_row [] t) so_far rows

-- behind a fault nothing more is read
stays : (t : Members) (e : ConfigFault) (rows : List Row) → behind t (Err e) rows ≡ Err e
stays t e [] = refl
stays t e (row ∷ rows) = stays t e rows

-- the three parts, one behind the other
parts : (t : Members) (version : Version) → section_values [] (top_rows version) t
    ≡ behind t (behind t (section_values [] front_rows t) (kept_rows version)) gate_rows
parts t version =
    fold-append (read_row [] t) (Ok []) (front_rows ++ kept_rows version) gate_rows
    ∙ ap (λ (so_far : Result Values ConfigFault). behind t so_far gate_rows)
    (fold-append (read_row [] t) (Ok []) front_rows (kept_rows version))

pub front_fails : (t : Members) (version : Version) (e : ConfigFault)
    → Err e ≡ section_values [] front_rows t → Err e ≡ section_values [] (top_rows version) t
front_fails t version e front =
    sym (parts t version
    ∙ ap (λ (so_far : Result Values ConfigFault).
    behind t (behind t so_far (kept_rows version)) gate_rows) (sym front)
    ∙ ap (λ (so_far : Result Values ConfigFault). behind t so_far gate_rows)
    (stays t e (kept_rows version))
    ∙ stays t e gate_rows)

pub kept_fail : (t : Members) (version : Version) (front : FrontKeys) (e : ConfigFault)
    → Ok (front_values front) ≡ section_values [] front_rows t
    → Err e ≡ behind t (Ok (front_values front)) (kept_rows version)
    → Err e ≡ section_values [] (top_rows version) t
kept_fail t version front e is_front kept =
    sym (parts t version
    ∙ ap (λ (so_far : Result Values ConfigFault).
    behind t (behind t so_far (kept_rows version)) gate_rows) (sym is_front)
    ∙ ap (λ (so_far : Result Values ConfigFault). behind t so_far gate_rows) (sym kept)
    ∙ stays t e gate_rows)

-- what stands behind the first two parts is the whole
pub gate_ends : (t : Members) (version : Version) (front : FrontKeys) (kept : Option KeptKeys)
    (all : Result Values ConfigFault)
    → Ok (front_values front) ≡ section_values [] front_rows t
    → Ok (front_values front ++ kept_values kept)
    ≡ behind t (Ok (front_values front)) (kept_rows version)
    → all ≡ behind t (Ok (front_values front ++ kept_values kept)) gate_rows
    → all ≡ section_values [] (top_rows version) t
gate_ends t version front kept all is_front is_kept is_all =
    is_all
    ∙ sym (parts t version
    ∙ ap (λ (so_far : Result Values ConfigFault).
    behind t (behind t so_far (kept_rows version)) gate_rows) (sym is_front)
    ∙ ap (λ (so_far : Result Values ConfigFault). behind t so_far gate_rows) (sym is_kept))

-- what is read at each key behind those of connections, whether these are there or not
pub at_keep : (front : FrontKeys) (kept : Option KeptKeys) (gate : GateKeys)
    → number_at (codes "keep") (front_values front ++ kept_values kept ++ gate_values gate)
    ≡ gate.keep
at_keep front None gate = refl
at_keep front (Some kept) gate = refl

pub at_promote : (front : FrontKeys) (kept : Option KeptKeys) (gate : GateKeys)
    → text_at (codes "promote") (front_values front ++ kept_values kept ++ gate_values gate)
    ≡ rule_word gate.promote
at_promote front None gate = refl
at_promote front (Some kept) gate = refl

pub at_clients : (front : FrontKeys) (kept : Option KeptKeys) (gate : GateKeys)
    → number_at (codes "clients") (front_values front ++ kept_values kept ++ gate_values gate)
    ≡ number_at (codes "clients") (kept_values kept)
at_clients front None gate = refl
at_clients front (Some kept) gate = refl

pub at_client_idle : (front : FrontKeys) (kept : Option KeptKeys) (gate : GateKeys)
    → number_at (codes "client_idle_ms")
    (front_values front ++ kept_values kept ++ gate_values gate)
    ≡ number_at (codes "client_idle_ms") (kept_values kept)
at_client_idle front None gate = refl
at_client_idle front (Some kept) gate = refl

pub at_backends : (front : FrontKeys) (kept : Option KeptKeys) (gate : GateKeys)
    → number_at (codes "backends") (front_values front ++ kept_values kept ++ gate_values gate)
    ≡ number_at (codes "backends") (kept_values kept)
at_backends front None gate = refl
at_backends front (Some kept) gate = refl

pub at_backend_idle : (front : FrontKeys) (kept : Option KeptKeys) (gate : GateKeys)
    → number_at (codes "backend_idle_ms")
    (front_values front ++ kept_values kept ++ gate_values gate)
    ≡ number_at (codes "backend_idle_ms") (kept_values kept)
at_backend_idle front None gate = refl
at_backend_idle front (Some kept) gate = refl

pub at_bodies : (front : FrontKeys) (kept : Option KeptKeys) (gate : GateKeys)
    → number_at (codes "bodies_mib") (front_values front ++ kept_values kept ++ gate_values gate)
    ≡ number_at (codes "bodies_mib") (kept_values kept)
at_bodies front None gate = refl
at_bodies front (Some kept) gate = refl

-- What the settings can cite, by the name of the set.
pub ruleset read_at =
    (at_keep, at_promote, at_clients, at_client_idle, at_backends, at_backend_idle, at_bodies)
