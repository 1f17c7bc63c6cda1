use Rattle.std.proofs.Common.{rules, ◌≡◌, inl, inr, ℕ, List, refl, subst}
use Rattle.config_check.specs.declared.check_fault.CheckFault.TheVariants as Check
use Rattle.config_explain.specs.Lacking.{HasLacked}
use Rattle.config_check.specs.Check.{IsAcceptedAfter, IsWhyAfter}
use Rattle.config_check.proofs.check.check_file.Goals as goal

-- the bytes are those of the file that was read
pub returns-in-Ok-clause-accepted : goal.returns-in-Ok-clause-accepted
returns-in-Ok-clause-accepted g c is =
    let had = c.in-Ok.ensures.text in
    let bytes = c.in-Ok.text.items in
    let same : c.deref.result.now ≡ bytes = search rules in (
      had.0,
      bytes,
      had.2,
      had.3,
      subst (λ (xs : List ℕ). IsAcceptedAfter c.args.options.explain
          c.args.options.exchanges (HasLacked c.args.explainer.now c.check_text.new.explainer)
          g.W.Write.contents
          c.args.writer.now c.check_text.new.writer xs) same (c.check_text.ensures.accepted is),
    )

pub returns-in-Ok-clause-refused : goal.returns-in-Ok-clause-refused
returns-in-Ok-clause-refused g c is =
    let had = c.in-Ok.ensures.text in
    let bytes = c.in-Ok.text.items in
    let same : c.deref.result.now ≡ bytes = search rules in
    let why = c.check_text.ensures.refused is in (
      why.0,
      why.1,
      inr (
        had.0,
        had.1,
        bytes,
        had.2,
        had.4,
        had.3,
        subst (λ (xs : List ℕ). IsWhyAfter c.args.options.explain
            c.args.options.exchanges (HasLacked c.args.explainer.now c.check_text.new.explainer)
            g.W.Write.contents
            c.args.writer.now c.check_text.new.writer xs why.0) same why.2,
      ),
    )

pub returns-in-Err-clause-refused : goal.returns-in-Err-clause-refused
returns-in-Err-clause-refused g c is =
    let fault = c.into_fault-fault.result in (
      Check.File fault,
      c.report-status.ensures.told,
      inl (
        fault,
        refl,
        (c.in-Err.unread, c.into_fault-fault.ensures, c.in-Err.ensures.refused),
        search rules,
      ),
    )

pub returns-in-Ok-clause-status : goal.returns-in-Ok-clause-status
returns-in-Ok-clause-status c = search rules

pub returns-in-Ok-clause-quiet : goal.returns-in-Ok-clause-quiet
returns-in-Ok-clause-quiet c = search rules

pub returns-in-Err-clause-status : goal.returns-in-Err-clause-status
returns-in-Err-clause-status c = search rules

pub returns-in-Err-clause-accepted : goal.returns-in-Err-clause-accepted
returns-in-Err-clause-accepted c = search rules

pub returns-in-Err-clause-quiet : goal.returns-in-Err-clause-quiet
returns-in-Err-clause-quiet c = search rules
