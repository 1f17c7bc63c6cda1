-- What two workers at one gate are told of their clients.
use Rattle.std.specs.Prelude.{◌≡◌, ◌≤◌, ◌+◌, ℕ, List, Some}
use Rattle.limit_laws.specs.Algorithm.{Algorithm}
use Rattle.limiter_core.specs.declared.counters.Counters.{Counters}
use Rattle.limiter_core.specs.declared.event.Entry.{Entry}
use Rattle.limiter_core.specs.Counting.{counters_after, no_counts}
use Rattle.limiter_core.specs.Legal.{IsLegal}
use Rattle.gate_journal.specs.Image.{Standing, image_of}
use Rattle.gate_ledgers.specs.Making.{Making}
use Rattle.gate_history.specs.Book.{IsUnasked}
use Rattle.gate_history.specs.Refusal.{exhausted_from}
use Rattle.gate_word.specs.Rule.{times}
use Rattle.ports.specs.Asked.{known_at}
use Rattle.shared_gate.specs.Calls.{Pass, pass_of}
use Rattle.gateway_settings.specs.declared.settings.Settings.{Settings}
use Rattle.shared_gate.specs.Closing.{limiter_of}
use Rattle.proxy.specs.declared.told.ExchangeSummary.{ExchangeSummary}
use Rattle.proxy.specs.Exchanges.{IsExchange, Policy, World}
use Rattle.gate_laws.specs.Decided.{IsDecided}

-- SERVED by one exchange, made so, from where a port knew nothing to what it knows then
pub record IsServed (m : Making) (p : Policy) (x : ExchangeSummary) (after : Pass) : Type 0 where
  pub old : World
  pub new : World
  pub exchanged : IsExchange p old new x
  pub reached : ℕ
  pub from : old.known ≡ Some (known_at m (pass_of 0) 0)
  pub to : new.known ≡ Some (known_at m after reached)

-- BOTH ARE DECIDED in one log of the gate, legal since nothing was asked, whose counters these are,
-- each by calls of its own: no call has a number of both
pub record AreBothDecided {S : Type 0} (rules : Algorithm S) (m : Making) (counters : Counters)
    (one two : ExchangeSummary) : Type 0 where
  pub origin : Standing S
  pub unasked : IsUnasked rules m.limit origin
  pub log : List Entry
  pub legal : IsLegal (limiter_of rules m) (image_of origin) log
  pub counted : counters ≡ counters_after no_counts log
  pub own : List ℕ
  pub others : List ℕ
  pub apart : (number : ℕ) → times number own + times number others ≤ 1
  pub first : (s : Settings) × IsDecided (limiter_of rules m) (image_of origin) log own
      (exhausted_from m) s one
  pub second : (s : Settings) × IsDecided (limiter_of rules m) (image_of origin) log others
      (exhausted_from m) s two
