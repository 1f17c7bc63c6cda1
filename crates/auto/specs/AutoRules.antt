-- The rules of a limit that needs no numbers. All divisions round down.
use Rattle.std.specs.Prelude.{ℕ, ◌+◌, ◌-◌, ◌*◌, ◌/◌, ◌^◌, Bool, true, false, Option, None, Some, Err, min, max, nat_eq, nat_le, nat_lt, not, ◌&&◌, ◌||◌, if◌then◌else◌}
use Rattle.lemmas.specs.Extremes.{greatest}
use Rattle.limit_laws.specs.declared.limit.SetFault.TheVariants.{NotSettable}
use Rattle.limit_laws.specs.declared.view.LimitView.{LimitView}
use Rattle.limit_laws.specs.declared.view.WindowView.{WindowView}
use Rattle.limit_laws.specs.Facts.{SampleFacts}
use Rattle.limit_laws.specs.Algorithm.{Algorithm}
use Rattle.auto.specs.declared.learned.Learned.{Learned}
use Rattle.auto.specs.declared.window.Window.{Window}
use Rattle.auto.specs.AutoState.{AutoState}
use Rattle.auto.specs.Kept.{most_drops}
use Rattle.auto.specs.Window.{apart, empty, with_answer, with_drop}

-- half of a number, rounded up
abbrev pub half_up : ℕ → ℕ
half_up n = (n + 1) / 2

-- the root of a number, rounded down: the greatest whose square is at most the number
unfoldable pub root : ℕ → ℕ
root n = greatest (λ r. nat_le (r * r) n) n

-- how many may wait at the backend: the root of the limit
abbrev pub headroom : Learned → ℕ
headroom l = root l.limit

-- the limit in a dip: a headroom and a half below, or half of it while the base still moves
unfoldable pub low : Learned → ℕ
low l =
    let below = max 1 (l.limit - (headroom l + half_up (headroom l))) in
    if nat_eq l.every 1 then min below (max 1 (l.limit / 2)) else below

-- the limit that callers see
abbrev pub shown : ℕ → ℕ → Learned → ℕ
shown lo hi l = min (max (if l.in_dip then low l else l.limit) lo) hi

-- how many answers end a window: as many as the limit, and more the more they differ
unfoldable pub needed : ℕ → Learned → ℕ
needed limit l =
    max 2 (limit * max (2 ^ 20) ((if l.in_dip then 16 else 8) * (l.rough * l.rough)) / 2 ^ 20)

-- the mean round trip of a window
abbrev pub mean : Window → ℕ
mean w = w.sum / w.count

-- how much the answers of a window differ, of 1,024 at most twice
abbrev pub roughness : Window → ℕ
roughness w = min 2048 (w.steps * 1024 / w.sum)

-- the window is over: what it says of how much answers differ counts an eighth
abbrev pub closed : Learned → Learned
closed l = record l {
  rough = (7 * l.rough + roughness l.window) / 8;
  window = empty;
  ended = l.window;
}

-- whether the base moved by more than the headroom stands for
abbrev pub has_moved : Learned → ℕ → Bool
has_moved l mean =
    nat_eq l.base 0 || nat_lt (l.base * headroom l) (apart mean l.base * l.limit)

-- A DIP ENDS: its mean round trip is the base; the next dip comes later where that stayed the same
unfoldable pub dip_over : ℕ → Learned → ℕ → Learned
dip_over limit l mean = record l {
  in_dip = false;
  base = mean;
  base_limit = limit;
  calm = 0;
  every = if has_moved l mean then 1 else min 64 (4 * l.every);
}

-- A BASE: answers under so low a limit, or of less than half of it, are the base
abbrev pub is_base : Learned → ℕ → Bool
is_base l mean = nat_eq l.base 0 || nat_le l.limit l.base_limit || nat_lt (2 * mean) l.base

abbrev pub with_base : Learned → ℕ → Learned
with_base l mean =
    if is_base l mean
    then record l {
      base = mean;
      base_limit = if nat_eq l.base_limit 0 then l.limit else min l.base_limit l.limit;
      every = 1;
      calm = 0;
    }
    else l

-- THE QUEUE, times the answers of the window: the part of what was in flight that the time above
-- the base stands for
abbrev pub queue : Learned → Window → ℕ
queue l w = w.held * (mean w - l.base) / mean w

-- what a headroom is, times the answers of the window
abbrev pub room : Learned → Window → ℕ
room l w = headroom l * w.count

-- the limit was met by some answer of the window
abbrev pub is_met : Learned → Window → Bool
is_met l w = nat_le l.limit w.most

-- what a raise adds: what is missing to the headroom, doubled as often as the pace says
abbrev pub added : Learned → Window → ℕ
added l w = ((room l w - queue l w) * 2 ^ l.pace + w.count / 2) / w.count

-- what no raise goes above
abbrev pub top : ℕ → Learned → ℕ
top hi l = if nat_eq l.roof_left 0 then hi else max l.limit l.roof

-- A RAISE, at most to twice the limit
abbrev pub raised : ℕ → Learned → Window → Learned
raised hi l w = record l {
  limit = min (min (top hi l) hi) (l.limit + min l.limit (added l w));
  pace = if nat_eq (added l w) 0 then 0 else min 4 (l.pace + 1);
}

-- half way down to a lower limit
abbrev pub half_way : ℕ → ℕ → ℕ
half_way limit to = limit - half_up (limit - to)

-- A FALL, half way to those without a queue and the headroom
abbrev pub wanted : Learned → Window → ℕ
wanted l w = (w.held - queue l w + w.count / 2) / w.count + headroom l

abbrev pub fallen : ℕ → Learned → Window → Learned
fallen lo l w =
    let next = max lo (half_way l.limit (wanted l w)) in
    if nat_lt next l.limit then record l { limit = next; pace = 0; skip = w.most }
    else record l { pace = 0 }

-- less queue than headroom raises a limit that was met, and more lowers it
unfoldable pub moved : ℕ → ℕ → Learned → Window → Learned
moved lo hi l w =
    if nat_lt (queue l w) (room l w) then (if is_met l w then raised hi l w else l)
    else fallen lo l w

-- A DIP BEGINS behind enough windows that met the limit with half a headroom of queue, and didn't
-- raise it
abbrev pub is_calm : Learned → Learned → Window → Bool
is_calm before l w =
    is_met before w && nat_le l.limit before.limit
    && nat_le (room before w) (2 * queue before w) && nat_lt 1 l.limit

abbrev pub with_dip : Learned → Learned → Window → Learned
with_dip before l w =
    if is_calm before l w
    then (if nat_le l.every (l.calm + 1)
    then record l { calm = 0; in_dip = true; skip = w.most }
    else record l { calm = l.calm + 1 })
    else l

-- THE BACKEND SHEDS: of each four calls more than one was a quick drop, at least three, and drops
-- found more in flight than answers did
unfoldable pub is_shed : Window → Bool
is_shed w =
    nat_le 3 w.drops && nat_lt w.count (3 * w.drops)
    && nat_lt (w.held * w.drops) (w.drops_held * w.count)

-- what answers found in flight on average, rounded up
abbrev pub served : ℕ → Window → ℕ
served lo w = max lo ((w.held + (w.count - 1)) / w.count)

-- how long no raise goes above what was served: longer each time that it stayed about the same
abbrev pub roof_windows : Learned → ℕ → ℕ
roof_windows l to =
    if nat_le to l.roof && nat_le l.roof (to + headroom l) then min 64 (4 * l.roof_every) else 4

-- then the limit goes half way to what was served
abbrev pub shed : Learned → ℕ → Learned
shed l to = record l {
  limit = half_way l.limit to;
  pace = 0;
  skip = l.limit;
  roof = to;
  roof_left = roof_windows l to;
  roof_every = roof_windows l to;
}

-- one window less below the roof
abbrev pub under_roof : Learned → Learned
under_roof l = record l { roof_left = l.roof_left - 1 }

-- what a window says outside a dip; one that ended early says no more than that the backend sheds
unfoldable pub looked : ℕ → ℕ → Bool → Learned → Window → Learned
looked lo hi early l w =
    if is_shed w && nat_lt (served lo w) l.limit then shed l (served lo w)
    else (if early then l else with_dip l (moved lo hi l w) w)

-- A WINDOW ENDS
unfoldable pub window_over : ℕ → ℕ → Bool → Learned → Learned
window_over lo hi early l =
    if l.in_dip then dip_over (shown lo hi l) (closed l) (mean l.window)
    else looked lo hi early (under_roof (with_base (closed l) (mean l.window))) l.window

-- an answer that counts
abbrev pub with_counted : Learned → SampleFacts → Learned
with_counted l x = record l { window = with_answer l.window l.last x; last = x.rtt }

abbrev pub after_answer : ℕ → ℕ → Learned → Learned
after_answer lo hi l =
    if nat_lt l.window.count (needed (shown lo hi l) l) then l else window_over lo hi false l

-- a drop counts where it took less than half of the base; none does in a dip or among what is left
-- out
abbrev pub is_quick : Learned → SampleFacts → Bool
is_quick l x =
    not l.in_dip && nat_eq l.skip 0 && nat_lt (2 * x.rtt) l.base
    && nat_lt l.window.drops most_drops

-- so many drops end a window early that has answers, where fewer than the limit were served
unfoldable pub ends_early : ℕ → Learned → Bool
ends_early limit l =
    nat_lt 0 l.window.count && is_shed l.window
    && nat_le (needed limit l + 6) (3 * l.window.drops)
    && nat_lt (l.window.held / l.window.count) l.limit

abbrev pub after_drop : ℕ → ℕ → Learned → Learned
after_drop lo hi l =
    if ends_early (shown lo hi l) l then window_over lo hi true l else l

-- A SAMPLE: a quick drop counts and any other teaches nothing; an answer is left out, or counts
abbrev pub learn : ℕ → ℕ → Learned → SampleFacts → Learned
learn lo hi l x =
    if x.dropped
    then (if is_quick l x
    then after_drop lo hi (record l { window = with_drop l.window x }) else l)
    else
    (if nat_lt 0 l.skip then record l { skip = l.skip - 1; last = x.rtt }
    else after_answer lo hi (with_counted l x))

-- what is known at first
abbrev pub unlearned : ℕ → Learned
unlearned first = record {
  limit = first;
  base = 0;
  base_limit = 0;
  in_dip = false;
  calm = 0;
  every = 1;
  pace = 4;
  rough = 0;
  skip = 0;
  last = 0;
  roof = 0;
  roof_left = 0;
  roof_every = 4;
  window = empty;
  ended = empty;
}

-- the first state of these numbers
abbrev pub auto_from : ℕ → ℕ → ℕ → AutoState
auto_from lo first hi = record { lo = lo; first = first; hi = hi; learned = unlearned first }

-- the first state under another greatest limit, which is no more than its own and at least lo
abbrev pub up_to : ℕ → AutoState → AutoState
up_to most s =
    let hi = max (min s.hi most) s.lo in
    auto_from s.lo (min s.first hi) hi

-- WHAT IS SHOWN: the base where it is known, and the last window that ended with its queue in whole
-- permits, by that base
abbrev pub window_view : Window → Option WindowView
window_view w =
    if nat_eq w.count 0 then None else Some (record { mean_ns = mean w; count = w.count })

abbrev pub auto_view : Learned → LimitView
auto_view l = record {
  by_hand = false;
  base_ns = if nat_eq l.base 0 then None else Some l.base;
  window = window_view l.ended;
  queue = if nat_eq l.ended.count 0 then None else Some (queue l l.ended / l.ended.count);
}

abbrev pub auto_rules : Algorithm AutoState
auto_rules = record {
  lo = λ s. s.lo;
  limit = λ s. shown s.lo s.hi s.learned;
  hi = λ s. s.hi;
  view = λ s. auto_view s.learned;
  next = λ s x. record s { learned = learn s.lo s.hi s.learned x };
  put = λ s n. Err NotSettable;
  first = λ s. record s { learned = unlearned s.first };
}
