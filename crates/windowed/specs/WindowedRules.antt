-- A limit algorithm that learns from windows of samples, by the totals that it keeps.
use Rattle.std.specs.Prelude.{ℕ, ◌+◌, ◌*◌, ◌/◌, ◌≤◌, Bool, [], Option, None, Some, Result, Ok, Err, min, max, nat_lt, nat_le, ◌||◌, ◌&&◌, if◌then◌else◌}
use Rattle.limit_laws.specs.declared.limit.MakeFault.{MakeFault}
use Rattle.limit_laws.specs.declared.limit.MakeFault.TheVariants.{Window}
use Rattle.limit_laws.specs.declared.limit.SetFault.{SetFault}
use Rattle.limit_laws.specs.declared.view.WindowView.{WindowView}
use Rattle.limit_laws.specs.Facts.{SampleFacts, hour}
use Rattle.limit_laws.specs.Algorithm.{Algorithm}
use Rattle.windowed.specs.Totals.{WindowTotals, totals, with_sample, most_samples}
use Rattle.windowed.specs.declared.numbers.WindowNumbers.{WindowNumbers}

-- these numbers: how many samples a window must have to be handed on, the least and the most time
-- that a window lasts, and the least round trip that counts
abbrev pub numbers_from : ℕ → ℕ → ℕ → ℕ → WindowNumbers
numbers_from size min_window max_window min_rtt = record {
  size = size;
  min_window_ns = min_window;
  max_window_ns = max_window;
  min_rtt_ns = min_rtt;
}

-- the ranges of the settings
pub record AreSettings (w : WindowNumbers) : Type 0 where
  pub size_least : 1 ≤ w.size
  pub size_most : w.size ≤ most_samples
  pub min_least : 1 ≤ w.min_window_ns
  pub order : w.min_window_ns ≤ w.max_window_ns
  pub max_most : w.max_window_ns ≤ hour
  pub rtt_most : w.min_rtt_ns ≤ hour

-- the same as a test
abbrev pub are_settings : WindowNumbers → Bool
are_settings w =
    nat_le 1 w.size && nat_le w.size most_samples
    && nat_le 1 w.min_window_ns && nat_le w.min_window_ns w.max_window_ns
    && nat_le w.max_window_ns hour && nat_le w.min_rtt_ns hour

-- THE SETTINGS of these numbers, where each is in its range
abbrev pub windows_made : WindowNumbers → Result WindowNumbers MakeFault
windows_made w = if are_settings w then Ok w else Err Window

-- the inner algorithm, the totals of the open window, what the last one that ended came to, and the
-- moment after which a sample ends the open one
pub record WindowedState (S : Type 0) : Type 0 where
  pub inner : S
  pub totals : WindowTotals
  pub last : Option WindowView
  pub next_update : ℕ
  pub settings : WindowNumbers

-- a state with an empty window, before its first sample
abbrev pub opened : {S : Type 0} → WindowNumbers → S → WindowedState S
opened w inner = record {
  inner = inner;
  totals = totals [];
  last = None;
  next_update = 0;
  settings = w;
}

-- when a sample's round trip ended
abbrev pub end_of : SampleFacts → ℕ
end_of x = x.start + x.rtt

-- whether a sample counts
abbrev pub is_kept : WindowNumbers → SampleFacts → Bool
is_kept w x = nat_le w.min_rtt_ns x.rtt

-- after which moment the next window ends, where a window of these totals ended with this
-- sample: twice its least round trip later, within the bounds
abbrev pub update_after : WindowNumbers → WindowTotals → SampleFacts → ℕ
update_after w t x = end_of x + min (max (2 * t.least) w.min_window_ns) w.max_window_ns

-- the mean sample of a window of these totals that ended with this sample
abbrev pub mean_sample : WindowTotals → SampleFacts → SampleFacts
mean_sample t x = record {
  start = x.start;
  rtt = t.sum / t.count;
  inflight = t.greatest_inflight;
  dropped = t.dropped;
}

-- what a window of these totals is shown as
abbrev pub seen : WindowTotals → WindowView
seen t = record { mean_ns = t.sum / t.count; count = t.count }

-- a sample with its round trip brought into the range of samples, in which each mean of samples
-- already lies: so the rule is lawful at any totals, those that no samples have among them
abbrev pub in_range : SampleFacts → SampleFacts
in_range x = record x { rtt = min (max x.rtt 1) hour }

-- a window ends: its mean sample is handed on where it has enough, it is the last one that ended,
-- and an empty one begins
abbrev pub end_window : {S : Type 0} → Algorithm S → WindowedState S → WindowTotals →
    SampleFacts → WindowedState S
end_window rules s t x = record s {
  inner =
      if nat_le s.settings.size t.count then rules.next s.inner (in_range (mean_sample t x))
      else s.inner;
  totals = totals [];
  last = Some (seen t);
  next_update = update_after s.settings t x;
}

-- a sample, with which the window has these totals, ends it where the sample ended after the
-- next update, or is the 1,000,000th
abbrev pub learn : {S : Type 0} → Algorithm S → WindowedState S → WindowTotals → SampleFacts →
    WindowedState S
learn rules s t x =
    if nat_lt s.next_update (end_of x) || nat_le most_samples t.count then end_window rules s t x
    else record s { totals = t }

-- a sample is added where it counts, and else left out
abbrev pub windowed_next : {S : Type 0} → Algorithm S → WindowedState S → SampleFacts →
    WindowedState S
windowed_next rules s x =
    if is_kept s.settings x then learn rules s (with_sample s.totals x) x else s

-- the state with what a setting made of the inner algorithm
abbrev pub with_inner : {S : Type 0} → WindowedState S → Result S SetFault →
    Result (WindowedState S) SetFault
with_inner s (Ok inner) = Ok (record s { inner = inner })
with_inner s (Err fault) = Err fault

abbrev pub windowed_rules : {S : Type 0} → Algorithm S → Algorithm (WindowedState S)
windowed_rules rules = record {
  lo = λ s. rules.lo s.inner;
  limit = λ s. rules.limit s.inner;
  hi = λ s. rules.hi s.inner;
  view = λ s. record (rules.view s.inner) { window = s.last };
  next = windowed_next rules;
  put = λ s n. with_inner s (rules.put s.inner n);
  first = λ s. opened s.settings (rules.first s.inner);
}
