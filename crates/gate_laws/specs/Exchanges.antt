-- The law of exchanges over a gate that others ask too.
use Rattle.std.specs.Prelude.{◌≡◌, ◌++◌, ℕ, List, [], Some}
use mathlib.Core.List.{IsPrefix}
use Rattle.limiter_core.specs.declared.event.Entry.{Entry}
use Rattle.limiter_core.specs.History.{Gate, Image}
use Rattle.limiter_core.specs.Legal.{IsLegal}
use Rattle.gate_port.specs.Log.{Known}
use Rattle.proxy.specs.declared.told.ExchangeSummary.{ExchangeSummary}
use Rattle.proxy.specs.Exchanges.{IsExchange, Policy, World}
use Rattle.gate_laws.specs.Decided.{IsDecided}

-- CALLED: what is known of a log goes on, with calls at these numbers that are one's own; its
-- history is exhausted from where it was
pub record HasCalled (own : List ℕ) (before after : Known) : Type 0 where
  pub goes_on : IsPrefix before.log after.log
  pub numbers : after.own ≡ own ++ before.own
  pub same : after.exhausted_from ≡ before.exhausted_from

-- EACH EXCHANGE IS ONE THREAD'S: where its port knew of a log before, it knows of one behind it, in
-- which it made calls; and the exchange is decided by these in every legal log that begins with
-- that, from where nobody waited
abbrev pub ExchangesAreOneThreads : {S : Type 0} → Gate S → Type 0
ExchangesAreOneThreads {S} g =
    (p : Policy) (old new : World) (x : ExchangeSummary) (before : Known)
    → IsExchange p old new x → old.known ≡ Some before
    → (after : Known) × (own : List ℕ) × (new.known ≡ Some after) × HasCalled own before after
    × ((o : Image S) (log : List Entry) → o.waiters ≡ [] → IsLegal g o log → IsPrefix after.log log
    → IsDecided g o log own before.exhausted_from p.settings x)
