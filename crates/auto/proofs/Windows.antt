-- A window ends within so many answers.
use Rattle.std.proofs.Common.{◌≡◌, refl, ◌∙◌, ap, ℕ, ◌+◌, ◌*◌, ◌/◌, ◌^◌, ◌≤◌, Bool, true, false, ◌&&◌, arith, if◌then◌else◌, min, max, nat_eq, nat_le, nat_lt, mul-le-mul_right, mul-le-mul_left}
use Rattle.std.proofs.lemmas.Bool.{le-ltb}
use Rattle.auto.specs.declared.learned.Learned.{Learned}
use Rattle.auto.specs.declared.window.Window.{Window}
use Rattle.auto.specs.Window.{empty}
use Rattle.auto.specs.AutoRules.{closed, dip_over, half_way, is_base, is_calm, is_met, is_shed, looked, mean, moved, needed, queue, raised, room, served, shed, shown, under_roof, wanted, window_over, with_base, with_counted, with_dip}
use Rattle.auto.specs.Moves.{WindowsEnd}
use Rattle.auto.proofs.Branches.{ends_by}

needed_by : (weight limit rough : ℕ) → weight ≤ 16 → limit ≤ 10000 → rough ≤ 2048 →
    max 2 (limit * max (2 ^ 20) (weight * (rough * rough)) / 2 ^ 20) ≤ 640000
needed_by weight limit rough light small even =
    let one : rough * rough ≤ rough * 2048 = mul-le-mul_left rough even in
    let two : weight * (rough * rough) ≤ 16 * (rough * rough) =
    mul-le-mul_right (rough * rough) light in
    let part : max (2 ^ 20) (weight * (rough * rough)) ≤ 67108864 = omega arith in
    let all : limit * max (2 ^ 20) (weight * (rough * rough)) ≤ limit * 67108864 =
    mul-le-mul_left limit part in
    omega arith

weight_most : (dips : Bool) → (if dips then 16 else 8) ≤ 16
weight_most true = omega arith
weight_most false = omega arith

pub needed_most : (limit : ℕ) (l : Learned) → limit ≤ 10000 → l.rough ≤ 2048 →
    needed limit l ≤ 640000
unfolding needed
needed_most limit l small even =
    needed_by (if l.in_dip then 16 else 8) limit l.rough (weight_most l.in_dip) small even

base_by : (base : Bool) (l : Learned) (mean least : ℕ) →
    (under_roof (if base then record l { base = mean; base_limit = least; every = 1; calm = 0 }
    else l)).window ≡ l.window
base_by true l mean least = refl
base_by false l mean least = refl

moved_by : (less met lower : Bool) (hi next : ℕ) (l : Learned) (w : Window) →
    (if less then (if met then raised hi l w else l)
    else (if lower then record l { limit = next; pace = 0; skip = w.most }
    else record l { pace = 0 })).window ≡ l.window
moved_by true true lower hi next l w = refl
moved_by true false lower hi next l w = refl
moved_by false met true hi next l w = refl
moved_by false met false hi next l w = refl

moved_window : (lo hi : ℕ) (l : Learned) (w : Window) → (moved lo hi l w).window ≡ l.window
unfolding moved
moved_window lo hi l w =
    let next = max lo (half_way l.limit (wanted l w)) in
    moved_by (nat_lt (queue l w) (room l w)) (is_met l w) (nat_lt next l.limit) hi next l w

dip_by : (calm enough : Bool) (l : Learned) (skip : ℕ) →
    (if calm then (if enough then record l { calm = 0; in_dip = true; skip = skip }
    else record l { calm = l.calm + 1 }) else l).window ≡ l.window
dip_by true true l skip = refl
dip_by true false l skip = refl
dip_by false enough l skip = refl

looked_by : (sheds early : Bool) (lo hi : ℕ) (l : Learned) (w : Window) →
    (if sheds then shed l (served lo w)
    else (if early then l else with_dip l (moved lo hi l w) w)).window ≡ l.window
looked_by true early lo hi l w = refl
looked_by false true lo hi l w = refl
looked_by false false lo hi l w =
    let m = moved lo hi l w in
    dip_by (is_calm l m w) (nat_le m.every (m.calm + 1)) m w.most ∙ moved_window lo hi l w

over_by : (dips early : Bool) (lo hi : ℕ) (l : Learned) →
    (if dips then dip_over (shown lo hi l) (closed l) (mean l.window)
    else looked lo hi early (under_roof (with_base (closed l) (mean l.window))) l.window).window
    ≡ empty
unfolding dip_over looked
over_by true early lo hi l = refl
over_by false early lo hi l =
    let m = mean l.window in
    let t = under_roof (with_base (closed l) m) in
    looked_by (is_shed l.window && nat_lt (served lo l.window) t.limit) early lo hi t l.window
    ∙ base_by (is_base (closed l) m) (closed l) m
    (if nat_eq l.base_limit 0 then l.limit else min l.base_limit l.limit)

over_window : (lo hi : ℕ) (early : Bool) (l : Learned) →
    (window_over lo hi early l).window ≡ empty
unfolding window_over
over_window lo hi early l = over_by l.in_dip early lo hi l

pub windows_end : WindowsEnd
windows_end s x is answered none full =
    let l = s.learned in
    let t = with_counted l x in
    let limit = shown s.lo s.hi t in
    let small : limit ≤ 10000 = omega (arith, is.kept.small) in
    let most = needed_most limit t small is.kept.rough in
    let ended : nat_lt t.window.count (needed limit t) ≡ false =
    le-ltb t.window.count (needed limit t) (omega (arith, most, full)) in
    let counts : nat_lt 0 l.skip ≡ false = le-ltb 0 l.skip (omega (arith, none)) in
    ap (λ (after : Learned). after.window.count)
    (ends_by x.dropped (nat_lt 0 l.skip) (nat_lt t.window.count (needed limit t)) _ _ _ _
    answered counts ended
    ∙ refl)
    ∙ ap (λ (w : Window). w.count) (over_window s.lo s.hi false t)
