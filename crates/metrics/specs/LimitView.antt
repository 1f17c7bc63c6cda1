-- What a scrape is told of what the limit reckons with.
use Rattle.std.specs.Prelude.{ℕ, Bool, List, ◌++◌, codes, Option, None, Some, if◌then◌else◌}
use Rattle.limit_laws.specs.declared.view.LimitView.{LimitView}
use Rattle.limit_laws.specs.declared.view.WindowView.{WindowView}
use Rattle.metrics.specs.Families.{gauge_text, known_text, known_seconds_text}

-- the mean round trip of the last window, and how many answers it had, where there was one
abbrev pub mean_of : Option WindowView → Option ℕ
mean_of None = None
mean_of (Some window) = Some window.mean_ns

abbrev pub count_of : Option WindowView → Option ℕ
count_of None = None
count_of (Some window) = Some window.count

-- 1 where this holds, else 0
abbrev pub one_if : Bool → ℕ
one_if holds = if holds then 1 else 0

-- the base, and the mean of the last window
abbrev pub times_text : LimitView → List ℕ
times_text v =
    known_seconds_text (codes "admission_limit_base_seconds")
    (codes "What an answer takes without a queue, as the limit measured it.") v.base_ns
    ++ known_seconds_text (codes "admission_limit_window_mean_seconds")
    (codes "The mean round trip of the last window that the limit learned by.")
    (mean_of v.window)

-- how many answers the last window had, the queue, and whether the limit is set by hand
abbrev pub reckoned_text : LimitView → List ℕ
reckoned_text v =
    known_text (codes "admission_limit_window_calls")
    (codes "Answers of the last window that the limit learned by.") (count_of v.window)
    ++ known_text (codes "admission_limit_queue")
    (codes "Permits that wait in a queue at the backend, as the limit reckons.") v.queue
    ++ gauge_text (codes "admission_limit_set_by_hand")
    (codes "1 where the limit changes by hand at most, 0 where it learns.")
    (one_if v.by_hand)

-- WHAT THE LIMIT RECKONS WITH: five families
abbrev pub view_text : LimitView → List ℕ
view_text v = times_text v ++ reckoned_text v
