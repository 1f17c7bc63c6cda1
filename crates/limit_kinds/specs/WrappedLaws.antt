-- An algorithm that wraps a lawful one and passes each call on to it is lawful.
use Rattle.std.proofs.Common.{◌≡◌, ℕ, Result, Ok, Err, IfOk, ap, ◌∙◌, sym}
use Rattle.limit_laws.specs.declared.limit.SetFault.{SetFault}
use Rattle.limit_laws.specs.Facts.{SampleFacts, IsSample}
use Rattle.limit_laws.specs.Algorithm.{Algorithm, IsLawful, IsWithin, Follows}
use Rattle.limit_kinds.specs.Kinds.{set_in}

-- an algorithm that passes each call on to what it wraps
pub record PassesOn {S T : Type 0} (inner : Algorithm S) (outer : Algorithm T) (wrap : S → T) :
    Type 0 where
  pub lo : (s : S) → outer.lo (wrap s) ≡ inner.lo s
  pub limit : (s : S) → outer.limit (wrap s) ≡ inner.limit s
  pub hi : (s : S) → outer.hi (wrap s) ≡ inner.hi s
  pub next : (s : S) (x : SampleFacts) → outer.next (wrap s) x ≡ wrap (inner.next s x)
  pub put : (s : S) (n : ℕ) → outer.put (wrap s) n ≡ set_in wrap (inner.put s n)
  pub first : (s : S) → outer.first (wrap s) ≡ wrap (inner.first s)

module _ {S T : Type 0} (inner : Algorithm S) (outer : Algorithm T) (wrap : S → T)
    (passes : PassesOn inner outer wrap) where
  first_limit : (s : S) → outer.limit (outer.first (wrap s)) ≡ inner.limit (inner.first s)
  first_limit s = ap outer.limit (passes.first s) ∙ passes.limit (inner.first s)

  within_inner : (s : S) → IsWithin outer (wrap s) → IsWithin inner s
  within_inner s w = record {
    positive = rw (passes.lo s) at w.positive;
    least = rw (passes.lo s, passes.limit s) at w.least;
    most = rw (passes.limit s, passes.hi s) at w.most;
    small = rw (passes.hi s) at w.small;
    first_least = rw (passes.lo s, first_limit s) at w.first_least;
    first_most = rw (first_limit s, passes.hi s) at w.first_most;
  }

  within_outer : (s : S) → IsWithin inner s → IsWithin outer (wrap s)
  within_outer s w = record {
    positive = rw (passes.lo s) w.positive;
    least = rw (passes.lo s, passes.limit s) w.least;
    most = rw (passes.limit s, passes.hi s) w.most;
    small = rw (passes.hi s) w.small;
    first_least = rw (passes.lo s, first_limit s) w.first_least;
    first_most = rw (first_limit s, passes.hi s) w.first_most;
  }

  follows_outer : (s t : S) → Follows inner s t → Follows outer (wrap s) (wrap t)
  follows_outer s t f = record {
    within = within_outer t f.within;
    lo = passes.lo t ∙ f.lo ∙ sym (passes.lo s);
    hi = passes.hi t ∙ f.hi ∙ sym (passes.hi s);
    first = passes.first t ∙ ap wrap f.first ∙ sym (passes.first s);
  }

  put_outer : (s : S) (r : Result S SetFault) → IfOk r (Follows inner s) →
      IfOk (set_in wrap r) (Follows outer (wrap s))
  put_outer s (Ok t) f = follows_outer s t f
  put_outer s (Err fault) f = tt

  module _ (law : IsLawful inner) where
    pub wrapped_sample : (s : S) (x : SampleFacts) → IsWithin outer (wrap s) → IsSample x →
        Follows outer (wrap s) (outer.next (wrap s) x)
    wrapped_sample s x w i =
        rw (passes.next s x)
        (follows_outer s (inner.next s x) (law.after_sample s x (within_inner s w) i))

    pub wrapped_setting : (s : S) (n : ℕ) → IsWithin outer (wrap s) →
        IfOk (outer.put (wrap s) n) (Follows outer (wrap s))
    wrapped_setting s n w =
        rw (passes.put s n)
        (put_outer s (inner.put s n) (law.after_setting s n (within_inner s w)))

    pub wrapped_reset : (s : S) → IsWithin outer (wrap s) →
        Follows outer (wrap s) (outer.first (wrap s))
    wrapped_reset s w =
        rw (passes.first s)
        (follows_outer s (inner.first s) (law.after_reset s (within_inner s w)))
