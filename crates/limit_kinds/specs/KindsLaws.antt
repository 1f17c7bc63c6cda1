-- A limit of each kind is lawful.
use Rattle.std.proofs.Common.{refl}
use Rattle.std.specs.Prelude.{ℕ, IfOk}
use Rattle.limit_laws.specs.Facts.{SampleFacts, IsSample}
use Rattle.limit_laws.specs.Algorithm.{Follows, IsLawful, IsWithin}
use Rattle.limit_laws.specs.FixedRules.{fixed_rules}
use Rattle.limit_laws.specs.FixedLaws.{IsLawful-fixed}
use Rattle.limit_laws.specs.SettableRules.{settable_rules}
use Rattle.limit_laws.specs.SettableLaws.{IsLawful-settable}
use Rattle.aimd.specs.AimdRules.{aimd_rules}
use Rattle.aimd.specs.AimdLaws.{IsLawful-aimd}
use Rattle.vegas.specs.VegasRules.{vegas_rules}
use Rattle.vegas.specs.VegasLaws.{IsLawful-vegas}
use Rattle.auto.specs.AutoRules.{auto_rules}
use Rattle.auto.specs.AutoLaws.{IsLawful-auto}
use Rattle.limit_kinds.specs.declared.kinds.BaseLimit.{BaseLimit}
use Rattle.limit_kinds.specs.declared.kinds.BaseLimit.TheVariants.{Fixed, Settable, Aimd, Vegas, Auto}
use Rattle.limit_kinds.specs.Kinds.{base_rules}
use Rattle.limit_kinds.specs.WrappedLaws.{PassesOn, wrapped_sample, wrapped_setting, wrapped_reset}

-- each kind is passed on to as it stands
fixed_in : PassesOn fixed_rules base_rules Fixed
fixed_in = record {
  lo = λ s. refl;
  limit = λ s. refl;
  hi = λ s. refl;
  next = λ s x. refl;
  put = λ s n. refl;
  first = λ s. refl;
}

settable_in : PassesOn settable_rules base_rules Settable
settable_in = record {
  lo = λ s. refl;
  limit = λ s. refl;
  hi = λ s. refl;
  next = λ s x. refl;
  put = λ s n. refl;
  first = λ s. refl;
}

aimd_in : PassesOn aimd_rules base_rules Aimd
aimd_in = record {
  lo = λ s. refl;
  limit = λ s. refl;
  hi = λ s. refl;
  next = λ s x. refl;
  put = λ s n. refl;
  first = λ s. refl;
}

vegas_in : PassesOn vegas_rules base_rules Vegas
vegas_in = record {
  lo = λ s. refl;
  limit = λ s. refl;
  hi = λ s. refl;
  next = λ s x. refl;
  put = λ s n. refl;
  first = λ s. refl;
}

auto_in : PassesOn auto_rules base_rules Auto
auto_in = record {
  lo = λ s. refl;
  limit = λ s. refl;
  hi = λ s. refl;
  next = λ s x. refl;
  put = λ s n. refl;
  first = λ s. refl;
}

base_sample : (s : BaseLimit) (x : SampleFacts) → IsWithin base_rules s → IsSample x →
    Follows base_rules s (base_rules.next s x)
base_sample (Fixed s) = wrapped_sample fixed_rules base_rules Fixed fixed_in IsLawful-fixed s
base_sample (Settable s) =
    wrapped_sample settable_rules base_rules Settable settable_in IsLawful-settable s
base_sample (Aimd s) = wrapped_sample aimd_rules base_rules Aimd aimd_in IsLawful-aimd s
base_sample (Vegas s) = wrapped_sample vegas_rules base_rules Vegas vegas_in IsLawful-vegas s
base_sample (Auto s) = wrapped_sample auto_rules base_rules Auto auto_in IsLawful-auto s

base_setting : (s : BaseLimit) (n : ℕ) → IsWithin base_rules s →
    IfOk (base_rules.put s n) (Follows base_rules s)
base_setting (Fixed s) = wrapped_setting fixed_rules base_rules Fixed fixed_in IsLawful-fixed s
base_setting (Settable s) =
    wrapped_setting settable_rules base_rules Settable settable_in IsLawful-settable s
base_setting (Aimd s) = wrapped_setting aimd_rules base_rules Aimd aimd_in IsLawful-aimd s
base_setting (Vegas s) = wrapped_setting vegas_rules base_rules Vegas vegas_in IsLawful-vegas s
base_setting (Auto s) = wrapped_setting auto_rules base_rules Auto auto_in IsLawful-auto s

base_reset : (s : BaseLimit) → IsWithin base_rules s → Follows base_rules s (base_rules.first s)
base_reset (Fixed s) = wrapped_reset fixed_rules base_rules Fixed fixed_in IsLawful-fixed s
base_reset (Settable s) =
    wrapped_reset settable_rules base_rules Settable settable_in IsLawful-settable s
base_reset (Aimd s) = wrapped_reset aimd_rules base_rules Aimd aimd_in IsLawful-aimd s
base_reset (Vegas s) = wrapped_reset vegas_rules base_rules Vegas vegas_in IsLawful-vegas s
base_reset (Auto s) = wrapped_reset auto_rules base_rules Auto auto_in IsLawful-auto s

pub IsLawful-base : IsLawful base_rules
IsLawful-base = record {
  after_sample = base_sample;
  after_setting = base_setting;
  after_reset = base_reset;
}
