-- A window at the base raises the limit.
use native.Mathlib.Nat.{zero-div}
use Rattle.std.proofs.Common.{◌≡◌, refl, sym, ◌∙◌, ap, ℕ, zero, suc, ◌+◌, ◌-◌, ◌*◌, ◌/◌, ◌^◌, ◌<◌, ◌≤◌, Bool, true, false, ◌&&◌, arith, if◌then◌else◌, min, max, nat_eq, nat_le, nat_lt, mul-le-mul_right, mul-le-mul_left, pow-suc, sub-eq-zero_of_le, mul-zero}
use Rattle.std.proofs.lemmas.Bool.{false≢true, le-ltb, le-leb, lt-ltb}
use Rattle.std.proofs.lemmas.Nat.{le-div}
use Rattle.limit_laws.specs.Facts.{SampleFacts}
use Rattle.auto.specs.declared.learned.Learned.{Learned}
use Rattle.auto.specs.declared.window.Window.{Window}
use Rattle.auto.specs.AutoState.{AutoState}
use Rattle.auto.specs.AutoRules.{added, closed, dip_over, fallen, half_way, is_base, is_calm, is_met, is_shed, learn, looked, low, mean, moved, needed, queue, raised, room, root, served, shed, shown, under_roof, wanted, window_over, with_base, with_counted, with_dip}
use Rattle.auto.specs.Rises.{DipsEnd, EndsWindow, RisesAtTheBase, RoofsEnd}
use Rattle.auto.proofs.Roots.{root_some}
use Rattle.auto.proofs.Branches.{dip_by, ends_by}

-- answers that took no more than the base show no queue
no_queue : (held m base : ℕ) → m ≤ base → held * (m - base) / m ≡ 0
no_queue held m base less =
    rw (sub-eq-zero_of_le less, mul-zero held) (zero-div m)

pow_some : (k : ℕ) → 1 ≤ 2 ^ k
pow_some zero = omega arith
pow_some (suc k) = omega (arith, pow-suc 2 k, pow_some k)

-- and then a raise adds one or more
some_added : (missing n pace : ℕ) → n ≤ missing → 1 ≤ n →
    1 ≤ (missing * 2 ^ pace + n / 2) / n
some_added missing n pace much full =
    let more : missing * 1 ≤ missing * 2 ^ pace = mul-le-mul_left missing (pow_some pace) in
    le-div 1 _ n full (omega arith)

-- up to the greatest limit, where no roof is left
raise_by : (roofed : Bool) (hi limit roof added : ℕ) → roofed ≡ true → limit < hi → 1 ≤ limit →
    1 ≤ added →
    limit < min (min (if roofed then hi else max limit roof) hi) (limit + min limit added)
raise_by true hi limit roof added is less some more = omega arith
raise_by false hi limit roof added is less some more = absurd (false≢true is)

moved_by : (less met : Bool) (lo hi : ℕ) (l : Learned) (w : Window) → less ≡ true → met ≡ true →
    nat_eq l.roof_left 0 ≡ true → l.limit < hi → 1 ≤ l.limit → 1 ≤ added l w →
    l.limit < (if less then (if met then raised hi l w else l) else fallen lo l w).limit
moved_by true true lo hi l w a b none less some more =
    raise_by (nat_eq l.roof_left 0) hi l.limit l.roof (added l w) none less some more
moved_by true false lo hi l w a b none less some more = absurd (false≢true b)
moved_by false met lo hi l w a b none less some more = absurd (false≢true a)

looked_by : (sheds : Bool) (lo hi : ℕ) (l : Learned) (w : Window) → sheds ≡ false →
    l.limit < (moved lo hi l w).limit →
    l.limit < (if sheds then shed l (served lo w)
    else (if false then l else with_dip l (moved lo hi l w) w)).limit
looked_by true lo hi l w is more = absurd (false≢true (sym is))
looked_by false lo hi l w is more =
    let m = moved lo hi l w in
    rw (dip_by (is_calm l m w) (nat_le m.every (m.calm + 1)) m w.most) more

-- the base that is taken of a window is its mean, or was no less
base_by : (base : Bool) (l : Learned) (m least : ℕ) → m ≤ l.base →
    m ≤ (under_roof (if base then record l { base = m; base_limit = least; every = 1; calm = 0 }
    else l)).base
base_by true l m least less = omega arith
base_by false l m least less = less

-- and it leaves the limit, the roof and the pace
limit_by : (base : Bool) (l : Learned) (m least : ℕ) →
    (under_roof (if base then record l { base = m; base_limit = least; every = 1; calm = 0 }
    else l)).limit ≡ l.limit
limit_by true l m least = refl
limit_by false l m least = refl

roof_by : (base : Bool) (l : Learned) (m least : ℕ) → l.roof_left ≤ 1 →
    (under_roof (if base then record l { base = m; base_limit = least; every = 1; calm = 0 }
    else l)).roof_left ≡ 0
roof_by true l m least few = omega (arith, few)
roof_by false l m least few = omega (arith, few)

-- one look: a window that met the limit, at the base, without drops
look_raises : (lo hi : ℕ) (l : Learned) (w : Window) → w.drops ≡ 0 → 1 ≤ w.count →
    mean w ≤ l.base → l.limit ≤ w.most → l.roof_left ≡ 0 → l.limit < hi → 1 ≤ l.limit →
    l.limit < (looked lo hi false l w).limit
unfolding looked moved is_shed
look_raises lo hi l w dry full at met none less some =
    let head : 1 ≤ root l.limit = root_some l.limit some in
    let empty_queue : queue l w ≡ 0 = no_queue w.held (mean w) l.base at in
    let wide : 1 * w.count ≤ root l.limit * w.count = mul-le-mul_right w.count head in
    let is_less : nat_lt (queue l w) (room l w) ≡ true =
    lt-ltb (queue l w) (room l w) (omega (arith, wide, full, empty_queue)) in
    let is_met : nat_le l.limit w.most ≡ true = le-leb l.limit w.most met in
    let is_none : nat_eq l.roof_left 0 ≡ true = rw none refl in
    let more : 1 ≤ added l w =
    some_added (room l w - queue l w) w.count l.pace (omega (arith, wide, empty_queue)) full in
    let dried : is_shed w && nat_lt (served lo w) l.limit ≡ false = rw dry refl in
    looked_by (is_shed w && nat_lt (served lo w) l.limit) lo hi l w dried
    (moved_by (nat_lt (queue l w) (room l w)) (nat_le l.limit w.most) lo hi l w is_less is_met
    is_none less some more)

same_less : (a b c : ℕ) → a ≡ b → a < c → b < c
same_less a b c same less = omega (arith, same, less)

over_by : (dips : Bool) (lo hi : ℕ) (l : Learned) → dips ≡ false → l.window.drops ≡ 0 →
    1 ≤ l.window.count → mean l.window ≤ l.base → l.limit ≤ l.window.most → l.roof_left ≤ 1 →
    l.limit < hi → 1 ≤ l.limit →
    l.limit < (if dips then dip_over (shown lo hi l) (closed l) (mean l.window)
    else looked lo hi false (under_roof (with_base (closed l) (mean l.window))) l.window).limit
over_by true lo hi l out dry full at met few less some = absurd (false≢true (sym out))
over_by false lo hi l out dry full at met few less some =
    let m = mean l.window in
    let c = closed l in
    let b = is_base c m in
    let least = if nat_eq l.base_limit 0 then l.limit else min l.base_limit l.limit in
    let t = under_roof (with_base c m) in
    let same : t.limit ≡ l.limit = limit_by b c m least in
    let raises = look_raises lo hi t l.window dry full (base_by b c m least at)
    (rw same met) (roof_by b c m least few) (rw same less) (rw same some) in
    same_less t.limit l.limit _ same raises

window_raises : (lo hi : ℕ) (l : Learned) → l.in_dip ≡ false → l.window.drops ≡ 0 →
    1 ≤ l.window.count → mean l.window ≤ l.base → l.limit ≤ l.window.most → l.roof_left ≤ 1 →
    l.limit < hi → 1 ≤ l.limit → l.limit < (window_over lo hi false l).limit
unfolding window_over
window_raises lo hi l out dry full at met few less some =
    over_by l.in_dip lo hi l out dry full at met few less some

-- such an answer ends the window
ends : (s : AutoState) (x : SampleFacts) → EndsWindow s x →
    learn s.lo s.hi s.learned x ≡ window_over s.lo s.hi false (with_counted s.learned x)
unfolding needed low
ends s x is =
    let l = s.learned in
    let t = with_counted l x in
    let limit = shown s.lo s.hi t in
    ends_by x.dropped (nat_lt 0 l.skip) (nat_lt t.window.count (needed limit t)) _ _ _ _
    is.answered (le-ltb 0 l.skip (omega (arith, is.counts)))
    (le-ltb t.window.count (needed limit t) is.full)

more_same : (a b c : ℕ) → a < b → b ≡ c → a < c
more_same a b c less same = omega (arith, same, less)

pub rises_at_the_base : RisesAtTheBase
rises_at_the_base s x is end out few at met less =
    let l = s.learned in
    let t = with_counted l x in
    let raises = window_raises s.lo s.hi t out end.dry (omega arith) at met few less
    (omega (arith, is.range.positive, is.kept.least)) in
    more_same l.limit (window_over s.lo s.hi false t).limit (learn s.lo s.hi l x).limit raises
    (ap (λ (after : Learned). after.limit) (sym (ends s x end)))

-- a dip is over by its window
dip_ends : (dips : Bool) (limit m : ℕ) (l d : Learned) → dips ≡ true →
    (if dips then dip_over limit l m else d).in_dip ≡ false
unfolding dip_over
dip_ends true limit m l d is = refl
dip_ends false limit m l d is = absurd (false≢true is)

over_dip : (lo hi : ℕ) (l : Learned) → l.in_dip ≡ true → (window_over lo hi false l).in_dip ≡ false
unfolding window_over
over_dip lo hi l is = dip_ends l.in_dip (shown lo hi l) (mean l.window) (closed l) _ is

pub dips_end : DipsEnd
dips_end s x end is =
    ap (λ (after : Learned). after.in_dip) (ends s x end)
    ∙ over_dip s.lo s.hi (with_counted s.learned x) is

-- what a window says leaves for how many windows the roof holds
roof_moved : (less met lower : Bool) (hi next : ℕ) (l : Learned) (w : Window) →
    (if less then (if met then raised hi l w else l)
    else (if lower then record l { limit = next; pace = 0; skip = w.most }
    else record l { pace = 0 })).roof_left ≡ l.roof_left
roof_moved true true lower hi next l w = refl
roof_moved true false lower hi next l w = refl
roof_moved false met true hi next l w = refl
roof_moved false met false hi next l w = refl

moved_roof : (lo hi : ℕ) (l : Learned) (w : Window) → (moved lo hi l w).roof_left ≡ l.roof_left
unfolding moved
moved_roof lo hi l w =
    let next = max lo (half_way l.limit (wanted l w)) in
    roof_moved (nat_lt (queue l w) (room l w)) (is_met l w) (nat_lt next l.limit) hi next l w

dip_roof : (calm enough : Bool) (l : Learned) (skip : ℕ) →
    (if calm then (if enough then record l { calm = 0; in_dip = true; skip = skip }
    else record l { calm = l.calm + 1 }) else l).roof_left ≡ l.roof_left
dip_roof true true l skip = refl
dip_roof true false l skip = refl
dip_roof false enough l skip = refl

looked_roof : (sheds : Bool) (lo hi : ℕ) (l : Learned) (w : Window) → sheds ≡ false →
    (if sheds then shed l (served lo w)
    else (if false then l else with_dip l (moved lo hi l w) w)).roof_left ≡ l.roof_left
looked_roof true lo hi l w is = absurd (false≢true (sym is))
looked_roof false lo hi l w is =
    let m = moved lo hi l w in
    dip_roof (is_calm l m w) (nat_le m.every (m.calm + 1)) m w.most ∙ moved_roof lo hi l w

base_roof : (base : Bool) (l : Learned) (m least : ℕ) →
    (under_roof (if base then record l { base = m; base_limit = least; every = 1; calm = 0 }
    else l)).roof_left ≡ l.roof_left - 1
base_roof true l m least = refl
base_roof false l m least = refl

over_roof : (dips : Bool) (lo hi : ℕ) (l : Learned) → dips ≡ false → l.window.drops ≡ 0 →
    (if dips then dip_over (shown lo hi l) (closed l) (mean l.window)
    else looked lo hi false (under_roof (with_base (closed l) (mean l.window))) l.window).roof_left
    ≡ l.roof_left - 1
unfolding looked is_shed
over_roof true lo hi l out dry = absurd (false≢true (sym out))
over_roof false lo hi l out dry =
    let m = mean l.window in
    let t = under_roof (with_base (closed l) m) in
    let sheds = is_shed l.window && nat_lt (served lo l.window) t.limit in
    let dried : sheds ≡ false = rw dry refl in
    looked_roof sheds lo hi t l.window dried
    ∙ base_roof (is_base (closed l) m) (closed l) m
    (if nat_eq l.base_limit 0 then l.limit else min l.base_limit l.limit)

roof_over : (lo hi : ℕ) (l : Learned) → l.in_dip ≡ false → l.window.drops ≡ 0 →
    (window_over lo hi false l).roof_left ≡ l.roof_left - 1
unfolding window_over
roof_over lo hi l out dry = over_roof l.in_dip lo hi l out dry

pub roofs_end : RoofsEnd
roofs_end s x end out =
    ap (λ (after : Learned). after.roof_left) (ends s x end)
    ∙ roof_over s.lo s.hi (with_counted s.learned x) out end.dry
