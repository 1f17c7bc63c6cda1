-- Every report of a gate is balanced.
use Rattle.std.proofs.Common.{ℕ, List, ap, sym, refl, subst, arith, length, get_or}
use Rattle.limit_laws.specs.Algorithm.{Algorithm}
use Rattle.lifo_backlog.specs.declared.waiter.Waiter.{Waiter}
use Rattle.gate_journal.specs.Image.{image_of}
use Rattle.gate_port.specs.declared.report.Report.{Report}
use Rattle.shared_gate.specs.Closing.{limiter_of}
use Rattle.gate_laws.specs.Balance.{ReportsBalance}
use Rattle.gate_laws.proofs.Entries.{over_places}
use Rattle.gate_laws.proofs.InFlight.{in_flight}
use Rattle.gate_laws.proofs.Steps.{AreDistinct}
use Rattle.gate_laws.proofs.Waiters.{waiters_moved}

pub balances : {S : Type 0} (rules : Algorithm S) → ReportsBalance rules
balances rules m log report is =
    let g = limiter_of rules m in
    let o = image_of is.origin in
    record {
      permits = omega (
        arith,
        in_flight g is.sound.four o log is.legal
            (ap (λ (cs : List ℕ). over_places (λ p. get_or cs p 0)) is.unasked.idle),
        ap (λ (it : Report). it.counters.admitted) is.told,
        ap (λ (it : Report). it.counters.promoted) is.told,
        ap (λ (it : Report). it.counters.success) is.told,
        ap (λ (it : Report). it.counters.ignored) is.told,
        ap (λ (it : Report). it.counters.dropped) is.told,
        ap (λ (it : Report). it.inflight) is.told,
      );
      waiters =
          let moved = waiters_moved g o log is.legal
          (subst (λ (ws : List Waiter). AreDistinct ws o.next) (sym is.unasked.nobody)
          (record { one = λ n. omega arith; below = λ n later. refl })) in
          omega (
            arith,
            moved.moved,
            ap (λ (ws : List Waiter). length ws) is.unasked.nobody,
            ap (λ (it : Report). it.counters.waiting) is.told,
            ap (λ (it : Report). it.counters.promoted) is.told,
            ap (λ (it : Report). it.counters.timed_out) is.told,
            ap (λ (it : Report). it.waiters) is.told,
          );
    }
