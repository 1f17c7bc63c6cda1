-- Drops never raise the limit.
use Rattle.std.proofs.Common.{◌≡◌, refl, sym, ◌∙◌, ℕ, ◌*◌, ◌≤◌, Bool, true, false, ◌&&◌, not, arith, if◌then◌else◌, min, nat_eq, nat_lt}
use Rattle.std.proofs.lemmas.Bool.{false≢true}
use Rattle.auto.specs.declared.learned.Learned.{Learned}
use Rattle.auto.specs.declared.window.Window.{Window}
use Rattle.auto.specs.Kept.{most_drops}
use Rattle.auto.specs.Window.{with_drop}
use Rattle.auto.specs.AutoRules.{after_drop, closed, dip_over, ends_early, is_base, is_quick, is_shed, looked, mean, served, shed, shown, under_roof, window_over, with_base}
use Rattle.auto.specs.Moves.{DropsNeverRaise}

-- what was learned since, outside a dip as before
record Falls (l t : Learned) : Type 0 where
  dip : t.in_dip ≡ l.in_dip
  less : t.limit ≤ l.limit

falls_shown : (lo hi : ℕ) (l t : Learned) → l.in_dip ≡ false → Falls l t →
    shown lo hi t ≤ shown lo hi l
falls_shown lo hi l t outside f =
    let after : t.in_dip ≡ false = f.dip ∙ outside in
    rw (after, outside) (omega (arith, f.less))

base_by : (base : Bool) (l : Learned) (mean least : ℕ) →
    Falls l
    (under_roof (if base then record l { base = mean; base_limit = least; every = 1; calm = 0 }
    else l))
base_by true l mean least = record { dip = refl; less = omega arith }
base_by false l mean least = record { dip = refl; less = omega arith }

shed_by : (sheds : Bool) (l t : Learned) (to : ℕ) → Falls l t →
    Falls l (if sheds then shed t to else t)
shed_by true l t to f = record { dip = f.dip; less = omega (arith, f.less) }
shed_by false l t to f = f

over_by : (dips : Bool) (lo hi : ℕ) (l : Learned) → dips ≡ false →
    Falls l
    (if dips then dip_over (shown lo hi l) (closed l) (mean l.window)
    else looked lo hi true (under_roof (with_base (closed l) (mean l.window))) l.window)
unfolding looked
over_by true lo hi l inside = absurd (false≢true (sym inside))
over_by false lo hi l outside =
    let m = mean l.window in
    let t = under_roof (with_base (closed l) m) in
    let g : Falls (closed l) t =
    base_by (is_base (closed l) m) (closed l) m
    (if nat_eq l.base_limit 0 then l.limit else min l.base_limit l.limit) in
    let f : Falls l t = record { dip = g.dip; less = g.less } in
    shed_by (is_shed l.window && nat_lt (served lo l.window) t.limit) l t (served lo l.window) f

early_falls : (lo hi : ℕ) (l : Learned) → l.in_dip ≡ false → Falls l (window_over lo hi true l)
unfolding window_over
early_falls lo hi l outside = over_by l.in_dip lo hi l outside

outside_dip : (dip a b c : Bool) → (not dip && a && b && c) ≡ true → dip ≡ false
outside_dip true a b c is = absurd (false≢true is)
outside_dip false a b c is = refl

ends_by : (ends : Bool) (lo hi : ℕ) (l : Learned) (w : Window) → l.in_dip ≡ false →
    shown lo hi
    (if ends then window_over lo hi true (record l { window = w }) else record l { window = w })
    ≤ shown lo hi l
ends_by true lo hi l w outside =
    let f = early_falls lo hi (record l { window = w }) outside in
    falls_shown lo hi l _ outside (record { dip = f.dip; less = f.less })
ends_by false lo hi l w outside =
    falls_shown lo hi l _ outside (record { dip = refl; less = omega arith })

quick_by : (quick ends : Bool) (lo hi : ℕ) (l : Learned) (w : Window) →
    (quick ≡ true → l.in_dip ≡ false) →
    shown lo hi
    (if quick
    then (if ends then window_over lo hi true (record l { window = w })
    else record l { window = w }) else l)
    ≤ shown lo hi l
quick_by true ends lo hi l w outside = ends_by ends lo hi l w (outside refl)
quick_by false ends lo hi l w outside = omega arith

dropped_by : (dropped : Bool) (lo hi : ℕ) (l a b : Learned) → dropped ≡ true →
    shown lo hi a ≤ shown lo hi l → shown lo hi (if dropped then a else b) ≤ shown lo hi l
dropped_by true lo hi l a b is h = h
dropped_by false lo hi l a b is h = absurd (false≢true is)

pub drops_never_raise : DropsNeverRaise
drops_never_raise s x dropped =
    let l = s.learned in
    let t = record l { window = with_drop l.window x } in
    dropped_by x.dropped s.lo s.hi l
    (if is_quick l x then after_drop s.lo s.hi t else l) _ dropped
    (quick_by (is_quick l x) (ends_early (shown s.lo s.hi t) t) s.lo s.hi l t.window
    (outside_dip l.in_dip (nat_eq l.skip 0) (nat_lt (2 * x.rtt) l.base)
    (nat_lt l.window.drops most_drops)))
