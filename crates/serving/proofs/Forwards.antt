-- How many requests a backend was given.
use Rattle.std.proofs.Common.{◌≡◌, ◌∙◌, ap, sym, Option, Result, Ok, Err, if◌then◌else◌}
use Rattle.counted_io.specs.Count.{raised}
use Rattle.wire.specs.declared.fault.WireFault.{WireFault}
use Rattle.message_parts.specs.declared.request.Request.{Request}
use Rattle.gateway_settings.specs.declared.settings.Settings.{Settings}
use Rattle.wire.specs.declared.answer.BackendAnswer.{BackendAnswer}
use Rattle.proxy.specs.declared.told.ExchangeSummary.{ExchangeSummary}
use Rattle.proxy.specs.Exchanges.{Deals, IsExchange, Policy, World}
use Rattle.proxy.specs.Settling.{is_through}

-- what was dealt with was forwarded once where it was let through
dealt_once : (s : Settings) (old new : World) (read : Result Request WireFault)
    (answer : Option BackendAnswer) (x : ExchangeSummary) → Deals s old new read answer x
    → new.count ≡ (if is_through x.admission then raised old.count else old.count)
dealt_once s old new (Err f) answer x deals =
    deals.5 ∙ sym (ap (λ said. if is_through said then raised old.count else old.count) deals.1)
dealt_once s old new (Ok request) answer x deals = deals.1.counted

-- so an exchange is forwarded once where it was let through
pub exchanged_once : (p : Policy) (old new : World) (x : ExchangeSummary) → IsExchange p old new x
    → new.count ≡ (if is_through x.admission then raised old.count else old.count)
exchanged_once p old new x is =
    dealt_once p.settings old new is.read is.answer x is.deals
