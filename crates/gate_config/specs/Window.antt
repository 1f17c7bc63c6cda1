-- The section `window`: the windows of its keys.
use Rattle.std.specs.Prelude.{◌*◌, [], Result, codes}
use Rattle.toml.specs.Data.{Members}
use Rattle.windowed.specs.declared.numbers.WindowNumbers.{WindowNumbers}
use Rattle.gate_config.specs.declared.fault.ConfigFault.{ConfigFault}
use Rattle.gate_config.specs.Outcomes.{result_map}
use Rattle.gate_config.specs.Rows.{window_rows}
use Rattle.gate_config.specs.Section.{Values, number_at, section_values}

-- the windows of a section's values; times are in nanoseconds
abbrev pub window_from : Values → WindowNumbers
window_from values = record {
  size = number_at (codes "size") values;
  min_window_ns = number_at (codes "min_us") values * 1000;
  max_window_ns = number_at (codes "max_us") values * 1000;
  min_rtt_ns = number_at (codes "min_rtt_us") values * 1000;
}

-- the windows of a section, or the first fault of its keys
abbrev pub window_in : Members → Result WindowNumbers ConfigFault
window_in t = result_map window_from (section_values [] window_rows t)
