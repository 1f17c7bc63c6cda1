use Rattle.std.proofs.Common.{rules, ◌≡◌, ℕ, List, All, ap, arith, sym, subst, ◌∙◌}
use mathlib.Core.List.{IsPrefix}
use Rattle.limiter_core.specs.declared.event.Entry.{Entry}
use Rattle.audit.specs.Verdict.{audited, IsFirstCause}
use Rattle.gate_history.specs.Book.{calls_of}
use Rattle.shared_gate.specs.Calls.{Pass}
use Rattle.shared_gate.proofs.Closings.{none_is_missing, on_err, on_ok}
use Rattle.shared_gate.proofs.gate.SharedGate.close.Goals as goal

pub returns-clause-whole : goal.returns-clause-whole
returns-clause-whole g c = search rules

pub returns-clause-legal : goal.returns-clause-legal
returns-clause-legal g c = search rules

pub returns-clause-counted : goal.returns-clause-counted
returns-clause-counted g c =
    on_ok _ _ (λ history is. sym c.count_calls-calls.ensures.sum ∙ is)
    c.judge.result c.judge.ensures.counted

pub returns-clause-accepted : goal.returns-clause-accepted
returns-clause-accepted g c = search rules

pub returns-clause-begun : goal.returns-clause-begun
returns-clause-begun g c =
    let counted = c.count_calls-calls.ensures in
    let log : List Entry = c.count_calls-calls.new.keeper.log in
    let begun : All (λ (pass : Pass). IsPrefix pass.log log) c.args.passes.items =
    subst (λ l. All (λ (pass : Pass). IsPrefix pass.log l) c.args.passes.items)
    (sym counted.log) counted.begun in
    on_ok _ _
    (λ history is.
    subst (λ (l : List Entry). All (λ (pass : Pass). IsPrefix pass.log l) c.args.passes.items)
    (sym is) begun)
    c.judge.result c.judge.ensures.log

pub returns-clause-first : goal.returns-clause-first
returns-clause-first g c =
    let counted = c.count_calls-calls.ensures in
    let log : List Entry = c.count_calls-calls.new.keeper.log in
    let begun : All (λ (pass : Pass). IsPrefix pass.log log) c.args.passes.items =
    subst (λ l. All (λ (pass : Pass). IsPrefix pass.log l) c.args.passes.items)
    (sym counted.log) counted.begun in
    let behind = c.book.invariant.2 in
    on_err _ _ _
    (λ fault end first. record {
      log = log;
      end = end;
      begun = begun;
      enough = omega (
        arith,
        counted.enough,
        counted.sum,
        counted.book,
        behind.calls,
        ap (λ l. calls_of l) counted.log,
      );
      first =
          subst (λ (sum : ℕ).
          IsFirstCause (audited (record { book = calls_of log; sum = sum }) fault.history.base
          fault.history.entries.items fault.kept.items) fault.cause) counted.sum first;
    })
    c.judge.result c.judge.ensures.end c.judge.ensures.first

-- where all passes of the gate were handed in, all calls are theirs
pub returns-clause-none_missing : goal.returns-clause-none_missing
returns-clause-none_missing g c =
    let counted = c.count_calls-calls.ensures in
    let log : List Entry = c.count_calls-calls.new.keeper.log in
    let behind = c.book.invariant.2 in
    on_err _ _ _
    (λ fault end first whole.
    let all : calls_of log ≡ c.count_calls-calls.result.sum = omega (
      arith,
      counted.all (whole ∙ sym c.book.invariant.3),
      counted.book,
      behind.calls,
      ap (λ l. calls_of l) counted.log,
    ) in
    none_is_missing
    (audited (record { book = calls_of log; sum = c.count_calls-calls.result.sum })
    fault.history.base fault.history.entries.items fault.kept.items) fault.cause all first)
    c.judge.result c.judge.ensures.end c.judge.ensures.first

pub returns-clause-history : goal.returns-clause-history
returns-clause-history g c = search rules

pub returns-clause-kept : goal.returns-clause-kept
returns-clause-kept g c = search rules
