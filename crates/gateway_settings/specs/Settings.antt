-- Settings.
use Rattle.std.specs.Prelude.{◌≤◌}
use Rattle.partitions.specs.Table.{placed}
use Rattle.gateway_settings.specs.declared.settings.Settings.{Settings}

-- the numbers of settings are in their ranges: the backlog has the classes' own places, and the
-- timeout is from a millisecond to an hour, in nanoseconds
pub record AreSound (s : Settings) : Type 0 where
  pub backlog_most : s.backlog ≤ 10000
  pub places_within : placed s.table ≤ s.backlog
  pub timeout_least : 1000000 ≤ s.timeout_ns
  pub timeout_most : s.timeout_ns ≤ 3600000000000
  pub clients_most : s.clients ≤ 10000
  pub client_idle_most : s.client_idle_ns ≤ 3600000000000
  pub backends_most : s.backends ≤ 4096
  pub backend_idle_most : s.backend_idle_ns ≤ 3600000000000
  pub bodies_most : s.bodies_mib ≤ 1048576
  pub keep_least : 1 ≤ s.keep
  pub keep_most : s.keep ≤ 1000000
