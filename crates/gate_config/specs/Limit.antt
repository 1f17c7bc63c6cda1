-- The section `limit`: the limit of its keys, kind by kind, and of the values of the section.
use Rattle.std.specs.Prelude.{ℕ, ◌*◌, List, [], ◌∷◌, fold, unwrap_or, Result, Ok, codes}
use Rattle.toml.specs.Data.{Members}
use Rattle.limit_kinds.specs.declared.kinds.LimitKind.{LimitKind}
use Rattle.limit_kinds.specs.declared.kinds.LimitKind.TheVariants as Kind
use Rattle.limit_kinds.specs.declared.kinds.Limits.{Limits}
use Rattle.limit_kinds.specs.declared.kinds.LimitSpec.{LimitSpec}
use Rattle.limit_kinds.specs.declared.kinds.LimitSpec.TheVariants as Spec
use Rattle.limit_kinds.specs.Kinds.{base_kind, first_limit, kind_named, kind_word}
use Rattle.gate_config.specs.declared.fault.ConfigFault.{ConfigFault}
use Rattle.gate_config.specs.Outcomes.{result_map}
use Rattle.gate_config.specs.declared.version.Version.{Version}
use Rattle.gate_config.specs.declared.version.Version.TheVariants.{Two}
use Rattle.gate_config.specs.Rows.{Row, limit_rows, number_rows}
use Rattle.gate_config.specs.Section.{Values, names_of, number_at, number_is, read_row, section_values, text_at, text_is}

-- the kind of a section's values, which name one
abbrev pub kind_at : Values → LimitKind
kind_at values = unwrap_or (kind_named (text_at (codes "kind") values)) Kind.Fixed

-- the limit of a section's values, where it is of this kind; times are in nanoseconds
abbrev pub limit_of_kind : LimitKind → Values → LimitSpec
limit_of_kind Kind.Fixed values = Spec.Fixed (number_at (codes "initial") values)
limit_of_kind Kind.Settable values = Spec.Settable (record {
  lo = number_at (codes "min") values;
  first = number_at (codes "initial") values;
  hi = number_at (codes "max") values;
})
limit_of_kind Kind.Aimd values = Spec.Aimd (record {
  lo = number_at (codes "min") values;
  first = number_at (codes "initial") values;
  hi = number_at (codes "max") values;
  ratio_thousandths = number_at (codes "ratio") values;
  timeout_ns = number_at (codes "timeout_us") values * 1000;
})
limit_of_kind Kind.Vegas values = Spec.Vegas (record {
  lo = number_at (codes "min") values;
  first = number_at (codes "initial") values;
  hi = number_at (codes "max") values;
  alpha = number_at (codes "alpha") values;
  beta = number_at (codes "beta") values;
  probe_every = number_at (codes "probe_every") values;
})
limit_of_kind Kind.Auto values = Spec.Auto (record {
  lo = number_at (codes "min") values;
  first = number_at (codes "initial") values;
  hi = number_at (codes "max") values;
})

-- the limit of a section's values
abbrev pub limit_from : Values → LimitSpec
limit_from values = limit_of_kind (kind_at values) values

-- the limit of a section in a version, or the first fault of its keys
abbrev pub limit_in : Version → Members → Result LimitSpec ConfigFault
limit_in version t = result_map limit_from (section_values [] (limit_rows version) t)

-- the values of these rows of a section, behind its kind
abbrev pub values_behind : LimitKind → List Row → Members → Result Values ConfigFault
values_behind kind rows t =
    fold (read_row [] t) (Ok ((codes "kind", text_is (kind_word kind)) ∷ [])) rows

-- the limit of a section of this kind by its numbers, or their first fault
abbrev pub limit_behind : LimitKind → Members → Result LimitSpec ConfigFault
limit_behind kind t = result_map limit_from (values_behind kind number_rows t)

-- the names of the keys that a section with a limit of this kind may have, in each version that has
-- the kind
abbrev pub limit_names : LimitSpec → List (List ℕ)
limit_names spec =
    names_of (limit_rows Two)
    ((codes "kind", text_is (kind_word (base_kind (first_limit spec)))) ∷ [])

-- the kind and the limits of a limit that moves by numbers, as values
abbrev pub moving_values : LimitKind → Limits → Values
moving_values kind n =
    (codes "kind", text_is (kind_word kind)) ∷ (codes "min", number_is n.lo)
    ∷ (codes "max", number_is n.hi) ∷ (codes "initial", number_is n.first) ∷ []
