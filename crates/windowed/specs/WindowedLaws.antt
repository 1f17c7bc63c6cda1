-- Windows over a lawful algorithm are lawful.
use Rattle.std.proofs.Common.{ℕ, [], Bool, true, false, Option, None, Some, Result, Ok, Err, IfOk, if◌then◌else◌, nat_le, nat_lt, ◌||◌, refl, arith, ap}
use Rattle.limit_laws.specs.declared.limit.SetFault.{SetFault}
use Rattle.limit_laws.specs.declared.view.WindowView.{WindowView}
use Rattle.limit_laws.specs.Facts.{SampleFacts, IsSample}
use Rattle.limit_laws.specs.Algorithm.{Algorithm, IsLawful, IsWithin, Follows}
use Rattle.windowed.specs.Totals.{WindowTotals, totals, with_sample, most_samples}
use Rattle.windowed.specs.WindowedRules.{WindowedState, opened, windowed_rules, is_kept, end_of, update_after, mean_sample, in_range, with_inner, seen}

module _ {S : Type 0} (rules : Algorithm S) where
  inner_within : (s : WindowedState S) → IsWithin (windowed_rules rules) s → IsWithin rules s.inner
  inner_within s w = record {
    positive = w.positive;
    least = w.least;
    most = w.most;
    small = w.small;
    first_least = w.first_least;
    first_most = w.first_most;
  }

  -- whatever its window, a state follows where its inner state does
  outer_follows : (s : WindowedState S) (inner : S) (t : WindowTotals)
      (last : Option WindowView) (update : ℕ) → Follows rules s.inner inner →
      Follows (windowed_rules rules) s
      (record s { inner = inner; totals = t; last = last; next_update = update })
  outer_follows s inner t last update f = record {
    within = record {
      positive = f.within.positive;
      least = f.within.least;
      most = f.within.most;
      small = f.within.small;
      first_least = f.within.first_least;
      first_most = f.within.first_most;
    };
    lo = f.lo;
    hi = f.hi;
    first = ap (opened s.settings) f.first;
  }

  stays : (s : S) → IsWithin rules s → Follows rules s s
  stays s w = record { within = w; lo = refl; hi = refl; first = refl }

  in_range_sample : (t : WindowTotals) (x : SampleFacts) → IsSample x →
      IsSample (in_range (mean_sample t x))
  in_range_sample t x i = record { start = i.start; least = omega arith; most = omega arith }

  handed_on : (enough : Bool) (s n : S) → IsWithin rules s → Follows rules s n →
      Follows rules s (if enough then n else s)
  handed_on true s n w f = f
  handed_on false s n w f = stays s w

  -- by the tests of a sample
  next_follows : (s : WindowedState S) (kept ends : Bool) (inner : S) (t : WindowTotals)
      (last : Option WindowView) (update : ℕ) →
      IsWithin (windowed_rules rules) s → Follows rules s.inner inner →
      Follows (windowed_rules rules) s (if kept
      then (if ends
      then record s { inner = inner; totals = totals []; last = last; next_update = update }
      else record s { totals = t })
      else s)
  next_follows s true true inner t last update w f =
      outer_follows s inner (totals []) last update f
  next_follows s true false inner t last update w f =
      outer_follows s s.inner t s.last s.next_update (stays s.inner (inner_within s w))
  next_follows s false ends inner t last update w f =
      outer_follows s s.inner s.totals s.last s.next_update (stays s.inner (inner_within s w))

  put_follows : (s : WindowedState S) (r : Result S SetFault) → IfOk r (Follows rules s.inner) →
      IfOk (with_inner s r) (Follows (windowed_rules rules) s)
  put_follows s (Ok inner) f = outer_follows s inner s.totals s.last s.next_update f
  put_follows s (Err fault) f = tt

  after_sample : IsLawful rules → (s : WindowedState S) (x : SampleFacts) →
      IsWithin (windowed_rules rules) s → IsSample x →
      Follows (windowed_rules rules) s ((windowed_rules rules).next s x)
  after_sample law s x w i =
      let t : WindowTotals = with_sample s.totals x in
      let mean : SampleFacts = in_range (mean_sample t x) in
      let inner = inner_within s w in
      let next = law.after_sample s.inner mean inner (in_range_sample t x i) in
      let learned =
      handed_on (nat_le s.settings.size t.count) s.inner (rules.next s.inner mean) inner next in
      next_follows s (is_kept s.settings x)
      (nat_lt s.next_update (end_of x) || nat_le most_samples t.count) _ t
      (Some (seen t)) (update_after s.settings t x) w learned

  pub IsLawful-windowed : IsLawful rules → IsLawful (windowed_rules rules)
  IsLawful-windowed law = record {
    after_sample = after_sample law;
    after_setting = λ s n w.
        put_follows s (rules.put s.inner n) (law.after_setting s.inner n (inner_within s w));
    after_reset = λ s w.
        outer_follows s (rules.first s.inner) (totals []) None 0
        (law.after_reset s.inner (inner_within s w));
  }
