-- A limit over each sample or over windows is lawful.
use Rattle.std.proofs.Common.{ℕ, IfOk, refl}
use Rattle.limit_laws.specs.Facts.{SampleFacts, IsSample}
use Rattle.limit_laws.specs.Algorithm.{IsLawful, IsWithin, Follows}
use Rattle.windowed.specs.WindowedLaws.{IsLawful-windowed}
use Rattle.limit_kinds.specs.declared.kinds.AnyLimit.{AnyLimit}
use Rattle.limit_kinds.specs.declared.kinds.AnyLimit.TheVariants.{Plain, Windowed}
use Rattle.limit_kinds.specs.Kinds.{base_rules}
use Rattle.limit_kinds.specs.KindsLaws.{IsLawful-base}
use Rattle.limit_kinds.specs.AnyKinds.{window_rules, any_rules}
use Rattle.limit_kinds.specs.WrappedLaws.{PassesOn, wrapped_sample, wrapped_setting, wrapped_reset}

IsLawful-windows : IsLawful window_rules
IsLawful-windows = IsLawful-windowed base_rules IsLawful-base

-- both are passed on to as they stand
plain_in : PassesOn base_rules any_rules Plain
plain_in = record {
  lo = λ s. refl;
  limit = λ s. refl;
  hi = λ s. refl;
  next = λ s x. refl;
  put = λ s n. refl;
  first = λ s. refl;
}

windowed_in : PassesOn window_rules any_rules Windowed
windowed_in = record {
  lo = λ s. refl;
  limit = λ s. refl;
  hi = λ s. refl;
  next = λ s x. refl;
  put = λ s n. refl;
  first = λ s. refl;
}

any_sample : (s : AnyLimit) (x : SampleFacts) → IsWithin any_rules s → IsSample x →
    Follows any_rules s (any_rules.next s x)
any_sample (Plain s) = wrapped_sample base_rules any_rules Plain plain_in IsLawful-base s
any_sample (Windowed s) =
    wrapped_sample window_rules any_rules Windowed windowed_in IsLawful-windows s

any_setting : (s : AnyLimit) (n : ℕ) → IsWithin any_rules s →
    IfOk (any_rules.put s n) (Follows any_rules s)
any_setting (Plain s) = wrapped_setting base_rules any_rules Plain plain_in IsLawful-base s
any_setting (Windowed s) =
    wrapped_setting window_rules any_rules Windowed windowed_in IsLawful-windows s

any_reset : (s : AnyLimit) → IsWithin any_rules s → Follows any_rules s (any_rules.first s)
any_reset (Plain s) = wrapped_reset base_rules any_rules Plain plain_in IsLawful-base s
any_reset (Windowed s) =
    wrapped_reset window_rules any_rules Windowed windowed_in IsLawful-windows s

pub IsLawful-any : IsLawful any_rules
IsLawful-any = record {
  after_sample = any_sample;
  after_setting = any_setting;
  after_reset = any_reset;
}
