use Rattle.std.proofs.Common.{rules, ◌≡◌, ℕ, length, subst}
use Rattle.std.specs.Prelude.{Vec}
use Rattle.std.specs.declared.alloc.Global.{Global}
use Rattle.limit_kinds.specs.AnyKinds.{any_rules}
use Rattle.gate_ledgers.specs.Receipt.{Told}
use Rattle.shared_gate.specs.Closing.{IsKept}
use Rattle.load_run.specs.Load.{IsRejected}
use Rattle.load_run.specs.Summary.{summary_of}
use Rattle.load_run.specs.Workers.{AllOfAllFit}
use Rattle.load_run.proofs.WrittenRun.{is_rejected_unread}
use Rattle.load_run.proofs.run.close.Goals as goal

pub returns-then-all_fit-clause-accepted : goal.returns-then-all_fit-clause-accepted
returns-then-all_fit-clause-accepted g c =
    let m = g.M.Naming.making in
    let history = c.in-Ok.history in
    let held : c.len.result ≡ length history.entries.items = search rules in
    let told : c.count_entries.result ≡ summary_of history.entries.items = search rules in
    record {
      opening = history.opening.standing;
      entries = history.entries.items;
      legal =
          subst (λ (base : ℕ).
          IsKept any_rules m history.opening.standing base history.entries.items)
          c.in-Ok.ensures.whole c.in-Ok.ensures.legal;
      receipts = c.in-Ok.ensures.accepted;
      refusals =
          subst (λ (entries : ℕ). AllOfAllFit m entries c.args.worked.spent.items) held
          (c.all_fit.ensures c.if-all_fit.true);
      told = told;
    }

pub returns-in-Ok-clause-rejected : goal.returns-in-Ok-clause-rejected
returns-in-Ok-clause-rejected g c =
    is_rejected_unread _ _ _ _ _ c.in-Ok.ensures.whole c.in-Ok.ensures.legal

-- no pass is missing
pub returns-clause-rejected : goal.returns-clause-rejected
returns-clause-rejected g c =
    let fault = c.in-Err.fault in
    subst (λ (kept : Vec (Vec Told Global) Global).
    IsRejected g.M.Naming.making kept.items fault.cause) c.in-Err.ensures.kept
    (record {
      opening = fault.history.opening.standing;
      base = fault.history.base;
      entries = fault.history.entries.items;
      passes = c.args.worked.passes.items;
      legal = c.in-Err.ensures.history;
      fails = c.in-Err.ensures.first;
      present = c.in-Err.ensures.none_missing c.requires;
    })
