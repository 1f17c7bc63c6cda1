-- How far a window moves the limit.
use Rattle.std.proofs.Common.{◌≡◌, refl, ℕ, ◌+◌, ◌-◌, ◌*◌, ◌<◌, ◌≤◌, Bool, true, false, ◌&&◌, arith, if◌then◌else◌, min, max, nat_eq, nat_le, nat_lt}
use Rattle.std.proofs.lemmas.Bool.{leb-true}
use Rattle.limit_laws.specs.Facts.{SampleFacts}
use Rattle.auto.specs.declared.learned.Learned.{Learned}
use Rattle.auto.specs.declared.window.Window.{Window}
use Rattle.auto.specs.AutoState.{AutoState, IsAuto}
use Rattle.auto.specs.Window.{with_drop}
use Rattle.auto.specs.AutoRules.{added, after_answer, after_drop, auto_rules, closed, dip_over, ends_early, fallen, half_way, is_base, is_calm, is_met, is_quick, is_shed, looked, mean, moved, needed, queue, raised, room, root, served, shed, shown, under_roof, wanted, window_over, with_base, with_counted, with_dip}
use Rattle.auto.proofs.Roots.{root_some}
use Rattle.auto.specs.Moves.{MovesByTwiceAtMost, RisesOnlyWhereMet}
use Rattle.auto.proofs.Branches.{dip_by}

-- from one limit to the next, by a window of which an answer found so many in flight
record Moves (most limit next : ℕ) : Type 0 where
  twice : next ≤ 2 * limit
  half : limit ≤ 2 * next
  met : limit < next → limit ≤ most

stays : (most limit next : ℕ) → next ≡ limit → Moves most limit next
stays most limit next same = record {
  twice = omega (arith, same);
  half = omega (arith, same);
  met = λ more. omega (arith, same);
}

-- by whether there is a roof
raise_by : (roofed : Bool) (hi limit roof added : ℕ) (most : ℕ) → limit ≤ hi → limit ≤ most →
    Moves most limit
    (min (min (if roofed then hi else max limit roof) hi) (limit + min limit added))
raise_by true hi limit roof added most small met = record {
  twice = omega arith;
  half = omega arith;
  met = λ more. met;
}
raise_by false hi limit roof added most small met = record {
  twice = omega arith;
  half = omega arith;
  met = λ more. met;
}

half_way_moves : (lo most limit to : ℕ) → 1 ≤ to → Moves most limit (half_way limit to)
half_way_moves lo most limit to some = record {
  twice = omega arith;
  half = omega arith;
  met = λ more. omega arith;
}

-- a fall to no less than the least limit
fall_by : (lower : Bool) (lo most limit to : ℕ) (l : Learned) (skip : ℕ) → 1 ≤ lo → lo ≤ limit →
    1 ≤ to → l.limit ≡ limit →
    Moves most limit
    ((if lower then record l { limit = max lo (half_way limit to); pace = 0; skip = skip }
    else record l { pace = 0 }).limit)
fall_by true lo most limit to l skip some least wants same = record {
  twice = omega arith;
  half = omega arith;
  met = λ more. omega arith;
}
fall_by false lo most limit to l skip some least wants same = stays most limit l.limit same

moved_by : (less met : Bool) (lo hi : ℕ) (l : Learned) (w : Window) → 1 ≤ lo → lo ≤ l.limit →
    l.limit ≤ hi → 1 ≤ wanted l w → (met ≡ true → l.limit ≤ w.most) →
    Moves w.most l.limit
    ((if less then (if met then raised hi l w else l) else fallen lo l w).limit)
moved_by true true lo hi l w some least small wants met =
    raise_by (nat_eq l.roof_left 0) hi l.limit l.roof (added l w) w.most small (met refl)
moved_by true false lo hi l w some least small wants met = stays w.most l.limit l.limit refl
moved_by false met lo hi l w some least small wants at =
    fall_by (nat_lt (max lo (half_way l.limit (wanted l w))) l.limit) lo w.most l.limit
    (wanted l w) l w.most some least wants refl

base_by : (base : Bool) (l : Learned) (mean least : ℕ) →
    (if base then record l { base = mean; base_limit = least; every = 1; calm = 0 } else l).limit
    ≡ l.limit
base_by true l mean least = refl
base_by false l mean least = refl

looked_by : (sheds early : Bool) (lo hi : ℕ) (l : Learned) (w : Window) → 1 ≤ lo →
    lo ≤ l.limit → l.limit ≤ hi → 1 ≤ wanted l w →
    Moves w.most l.limit
    ((if sheds then shed l (served lo w)
    else (if early then l else with_dip l (moved lo hi l w) w)).limit)
unfolding moved
looked_by true early lo hi l w some least small wants =
    half_way_moves lo w.most l.limit (served lo w) (omega arith)
looked_by false true lo hi l w some least small wants = stays w.most l.limit l.limit refl
looked_by false false lo hi l w some least small wants =
    let m = moved lo hi l w in
    rw (dip_by (is_calm l m w) (nat_le m.every (m.calm + 1)) m w.most)
    (moved_by (nat_lt (queue l w) (room l w)) (is_met l w) lo hi l w some least small wants
    (λ is. leb-true l.limit w.most is))

-- what a window leaves the limit at, before it is looked at
kept_limit : (l : Learned) (m : ℕ) → (under_roof (with_base l m)).limit ≡ l.limit
kept_limit l m =
    base_by (is_base l m) l m
    (if nat_eq l.base_limit 0 then l.limit else min l.base_limit l.limit)

looked_moves : (lo hi : ℕ) (early : Bool) (l : Learned) (w : Window) → 1 ≤ lo → lo ≤ l.limit →
    l.limit ≤ hi → Moves w.most l.limit ((looked lo hi early l w).limit)
unfolding looked
looked_moves lo hi early l w some least small =
    let rooted : 1 ≤ root l.limit = root_some l.limit (omega arith) in
    looked_by (is_shed w && nat_lt (served lo w) l.limit) early lo hi l w some least small
    (omega arith)

-- from the limit before the base was taken
along : (most limit same next : ℕ) → same ≡ limit → Moves most same next → Moves most limit next
along most limit same next e m = record {
  twice = omega (arith, m.twice, e);
  half = omega (arith, m.half, e);
  met = λ more. omega (arith, m.met (omega arith), e);
}

over_by : (dips early : Bool) (lo hi : ℕ) (l : Learned) → 1 ≤ lo → lo ≤ l.limit → l.limit ≤ hi →
    Moves l.window.most l.limit
    ((if dips then dip_over (shown lo hi l) (closed l) (mean l.window)
    else looked lo hi early (under_roof (with_base (closed l) (mean l.window))) l.window).limit)
unfolding dip_over
over_by true early lo hi l some least small = stays l.window.most l.limit l.limit refl
over_by false early lo hi l some least small =
    let t = under_roof (with_base (closed l) (mean l.window)) in
    let same : t.limit ≡ l.limit = kept_limit (closed l) (mean l.window) in
    along l.window.most l.limit t.limit _ same
    (looked_moves lo hi early t l.window some (omega (arith, same)) (omega (arith, same)))

over_moves : (early : Bool) (lo hi : ℕ) (l : Learned) → 1 ≤ lo → lo ≤ l.limit → l.limit ≤ hi →
    Moves l.window.most l.limit ((window_over lo hi early l).limit)
unfolding window_over
over_moves early lo hi l some least small = over_by l.in_dip early lo hi l some least small

wider : (most more limit next : ℕ) → most ≤ more → Moves most limit next → Moves more limit next
wider most more limit next h m = record {
  twice = m.twice;
  half = m.half;
  met = λ rises. omega (arith, m.met rises);
}

-- by whether a drop was quick, and ended the window
drop_by : (quick ends : Bool) (lo hi most : ℕ) (l : Learned) (w : Window) → 1 ≤ lo →
    lo ≤ l.limit → l.limit ≤ hi → w.most ≤ most →
    Moves most l.limit
    ((if quick then (if ends then window_over lo hi true (record l { window = w })
    else record l { window = w }) else l).limit)
drop_by true true lo hi most l w some least small within =
    wider w.most most l.limit _ within
    (over_moves true lo hi (record l { window = w }) some least small)
drop_by true false lo hi most l w some least small within = stays most l.limit l.limit refl
drop_by false ends lo hi most l w some least small within = stays most l.limit l.limit refl

-- by whether an answer is left out, and ends the window
answer_by : (skips goes_on : Bool) (lo hi : ℕ) (l : Learned) (x : SampleFacts) → 1 ≤ lo →
    lo ≤ l.limit → l.limit ≤ hi →
    Moves (max l.window.most x.inflight) l.limit
    ((if skips then record l { skip = l.skip - 1; last = x.rtt }
    else (if goes_on then with_counted l x else window_over lo hi false (with_counted l x))).limit)
answer_by true goes_on lo hi l x some least small =
    stays (max l.window.most x.inflight) l.limit l.limit refl
answer_by false true lo hi l x some least small =
    stays (max l.window.most x.inflight) l.limit l.limit refl
answer_by false false lo hi l x some least small =
    over_moves false lo hi (with_counted l x) some least small

learn_by : (dropped : Bool) (lo hi : ℕ) (l : Learned) (x : SampleFacts) → 1 ≤ lo →
    lo ≤ l.limit → l.limit ≤ hi →
    Moves (max l.window.most x.inflight) l.limit
    ((if dropped
    then (if is_quick l x then after_drop lo hi (record l { window = with_drop l.window x }) else l)
    else (if nat_lt 0 l.skip then record l { skip = l.skip - 1; last = x.rtt }
    else after_answer lo hi (with_counted l x))).limit)
learn_by true lo hi l x some least small =
    let w = with_drop l.window x in
    let t = record l { window = w } in
    drop_by (is_quick l x) (ends_early (shown lo hi t) t) lo hi (max l.window.most x.inflight) l w
    some least small (omega arith)
learn_by false lo hi l x some least small =
    let t = with_counted l x in
    answer_by (nat_lt 0 l.skip) (nat_lt t.window.count (needed (shown lo hi t) t)) lo hi l x
    some least small

sample_moves : (s : AutoState) (x : SampleFacts) → IsAuto s →
    Moves (max s.learned.window.most x.inflight) s.learned.limit
    ((auto_rules.next s x).learned.limit)
sample_moves s x is =
    learn_by x.dropped s.lo s.hi s.learned x is.kept.positive is.kept.least is.kept.most

pub moves_by_twice : MovesByTwiceAtMost
moves_by_twice s x is = (Moves.twice (sample_moves s x is), Moves.half (sample_moves s x is))

pub rises_where_met : RisesOnlyWhereMet
rises_where_met s x is rises = Moves.met (sample_moves s x is) rises
