-- Faults that are reported before any memory is taken.
use Rattle.std.proofs.Common.{◌≡◌, sym, subst, Option, Some, None, Result, Ok, Err, ok_or}
use Rattle.toml.specs.Data.{Members}
use Rattle.gate_config.specs.declared.fault.ConfigFault.{ConfigFault}
use Rattle.gate_config.specs.declared.fault.ConfigFault.TheVariants as Fault
use Rattle.gate_config.specs.Outcomes.{◌>>=◌}
use Rattle.gate_config.specs.Unknown.{UnknownKey, least}
use Rattle.gate_config.specs.declared.version.Version.{Version}
use Rattle.gateway_settings.specs.declared.settings.Settings.{Settings}
use Rattle.gate_config.specs.Document.{DocumentValues}
use Rattle.gate_config.specs.Settings.{IsOfKey, known, made_of}
use Rattle.gate_config.specs.UnknownKeys.{unknown_keys_of}

abbrev IsEarly : Result Settings ConfigFault → Type 0
IsEarly (Ok settings) = ⊥
IsEarly (Err fault) = IsOfKey fault

early : (r : Result Settings ConfigFault) (fault : ConfigFault) → IsOfKey fault → r ≡ Err fault
    → IsEarly r
early r fault of_a_key said = subst IsEarly (sym said) of_a_key

not_made : (o : Option Settings) → ¬ (IsEarly (ok_or o Fault.Route))
not_made None h = h
not_made (Some settings) h = h

not_known : (t : Members) (d : DocumentValues) (key : Option UnknownKey) →
    ¬ (IsEarly (known t d key))
not_known t d None = not_made (made_of t d)
not_known t d (Some key) = λ h. h

-- a key's fault is that of the document
pub of_document : (v : Version) (t : Members) (r : Result DocumentValues ConfigFault)
    (fault : ConfigFault) → IsOfKey fault →
    (r >>= λ d. known t d (least (unknown_keys_of v t d))) ≡ Err fault → r ≡ Err fault
of_document v t (Err e) fault of_a_key said = cc
of_document v t (Ok d) fault of_a_key said =
    absurd (not_known t d (least (unknown_keys_of v t d))
    (early (known t d (least (unknown_keys_of v t d))) fault of_a_key said))
