-- Whether the backend is reached.
use Rattle.std.specs.Prelude.{ℕ, ◌+◌, ◌-◌, ◌^◌, ◌&&◌, ◌||◌, min, nat_le, nat_lt, Bool, false}
use Rattle.std.specs.Prelude.{Option, None, Some}
use Rattle.tcp_backend.specs.declared.watch.ConnectionEvent.{ConnectionEvent}
use Rattle.tcp_backend.specs.declared.watch.ConnectionEvent.TheVariants as event
use Rattle.serve_reports.specs.declared.reaching.Reaching.{Reaching}

-- nothing was tried
abbrev pub unnoted : Reaching
unnoted = record { first = None; last = 0; pending = 0 }

-- the first of the tries, if there is one, and else this one
abbrev pub or_now : Option ℕ → ℕ → ℕ
or_now None now = now
or_now (Some first) now = first

-- WHAT IS NOTED of a connection at a moment: a try begins, or ends with none or with one, behind
-- which no try counts any more
abbrev pub noted : Reaching → ConnectionEvent → ℕ → Reaching
noted it event.Dialing now = record {
  first = Some (or_now it.first now);
  last = now;
  pending = min (it.pending + 1) (2 ^ 64 - 1);
}
noted it event.Unreached now = record { first = it.first; last = now; pending = it.pending - 1 }
noted it event.Opened now = record { first = None; last = it.last; pending = it.pending - 1 }
noted it event.Kept now = it
noted it event.Reused now = it
noted it event.Stale now = it
noted it event.Closed now = it

-- the ten seconds
abbrev pub silence : ℕ
silence = 10000000000

-- UNREACHED: no connection was made for ten seconds, although one was tried when they began, and
-- one since or still
abbrev pub is_unreached_by : Option ℕ → (last pending now : ℕ) → Bool
is_unreached_by None last pending now = false
is_unreached_by (Some first) last pending now =
    (nat_lt 0 pending || nat_lt (now - last) silence) && nat_le silence (now - first)

abbrev pub is_unreached : Reaching → ℕ → Bool
is_unreached it now = is_unreached_by it.first it.last it.pending now
