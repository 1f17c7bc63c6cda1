use Rattle.std.proofs.Common.{arith, ◌≡◌, ◌∙◌, List, All, ap, refl, subst, sym}
use mathlib.Core.List.{IsPrefix}
use Rattle.limiter_core.specs.declared.event.Entry.{Entry}
use Rattle.gate_history.specs.Book.{calls_of}
use Rattle.shared_gate.specs.Calls.{Pass}
use Rattle.shared_gate.proofs.gate.SharedGate.counters_of_all.Goals as goal

-- the report is of the log that the passes were compared with, and so are both sums
pub returns-then-calls-clause-missing : goal.returns-then-calls-clause-missing
returns-then-calls-clause-missing g c =
    let passes : List Pass = c.args.passes.items in
    let told = c.take_back-calls.ensures in
    let same : c.deref_mut.result.now ≡ c.deref.result.now =
    sym (c.deref.ensures ∙ told.same) in
    record {
      log = c.deref.result.now;
      report = c.report.result;
      after = c.report.ensures;
      begun =
          subst (λ (log : List Entry). All (λ (pass : Pass). IsPrefix pass.log log) passes) same
          told.begun;
      book = told.book ∙ ap (λ (log : List Entry). calls_of log) same;
      sum = told.sum;
      fewer = omega (arith, told.enough, c.if-calls);
    }

-- where these are all passes nobody else has called
pub returns-then-calls-clause-whole : goal.returns-then-calls-clause-whole
returns-then-calls-clause-whole g c whole =
    absurd (omega (arith, c.if-calls, c.take_back-calls.ensures.all whole))

pub returns-clause-whole : goal.returns-clause-whole
returns-clause-whole g c whole = refl

pub returns-clause-all : goal.returns-clause-all
returns-clause-all g c =
    let passes : List Pass = c.args.passes.items in
    let told = c.take_back-calls.ensures in
    let same : c.deref_mut.result.now ≡ c.deref.result.now =
    sym (c.deref.ensures ∙ told.same) in
    record {
      log = c.deref.result.now;
      report = c.report.result;
      after = c.report.ensures;
      told = refl;
      begun =
          subst (λ (log : List Entry). All (λ (pass : Pass). IsPrefix pass.log log) passes) same
          told.begun;
      all =
          omega (
            arith,
            told.book,
            told.sum,
            c.if-calls,
            ap (λ (log : List Entry). calls_of log) same,
          );
      once = told.once;
    }
