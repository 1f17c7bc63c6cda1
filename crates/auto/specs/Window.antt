-- What is gathered of answers until the limit is looked at again.
use Rattle.std.specs.Prelude.{ℕ, ◌+◌, ◌-◌, max, nat_eq, if◌then◌else◌}
use Rattle.limit_laws.specs.Facts.{SampleFacts}
use Rattle.auto.specs.declared.window.Window.{Window}

abbrev pub empty : Window
empty = record { count = 0; sum = 0; held = 0; most = 0; steps = 0; drops = 0; drops_held = 0 }

-- how far two round trips are apart
abbrev pub apart : ℕ → ℕ → ℕ
apart a b = (a - b) + (b - a)

-- a window with one more answer, which came behind a round trip of this length; 0 where it is the
-- first
abbrev pub with_answer : Window → ℕ → SampleFacts → Window
with_answer w last x = record w {
  count = w.count + 1;
  sum = w.sum + x.rtt;
  held = w.held + x.inflight;
  most = max w.most x.inflight;
  steps = w.steps + (if nat_eq last 0 then 0 else apart x.rtt last);
}

-- a window with one more quick drop
abbrev pub with_drop : Window → SampleFacts → Window
with_drop w x = record w { drops = w.drops + 1; drops_held = w.drops_held + x.inflight }
