use Rattle.std.proofs.Common.{rules, refl}
use Rattle.serving.proofs.ServedClient.{first_looked, nothing_held}
use Rattle.serving.proofs.exchanging.ExchangerHandlerExchangeTerms.handle.Goals as goal

pub returns-clause-handled : goal.returns-clause-handled
returns-clause-handled g c =
    let made = c.exchange-served.ensures in
    record {
      looks = c.exchange-served.new.looks;
      exchanged = first_looked _ _ _ _ made.exchanged (search rules);
      broken = made.written;
      reads = made.reads;
      writes = made.writes;
    }

pub returns-clause-drained : goal.returns-clause-drained
returns-clause-drained g c = λ sent kept.
    let made = c.exchange-served.ensures in
    nothing_held _ _ _ c.exchange-served.result _ sent _ made.exchanged made.drained refl kept
