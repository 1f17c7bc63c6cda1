use Rattle.std.proofs.Common.{rules, eqb, arith, eq-eqb, sym}
use Rattle.std.proofs.lemmas.List.Sums.{prefix_len_is}
use Rattle.script.proofs.words.spaces_before.Goals as goal

pub returns-clause-value : goal.returns-clause-value
returns-clause-value c =
    let all = c.loop-at.invariant in
    sym (prefix_len_is (λ found. eqb found 32) c.args.bytes.now _ 0 (omega arith)
    (λ k h. eq-eqb _ 32 (all k (omega arith))) (λ h. absurd (omega arith)))

pub loop-at-init : goal.loop-at-init
loop-at-init c = search rules

pub loop-at-preserved : goal.loop-at-preserved
loop-at-preserved c = search rules

pub returns-then-found-ne32-clause-inside : goal.returns-then-found-ne32-clause-inside
returns-then-found-ne32-clause-inside c = search rules

pub returns-clause-inside : goal.returns-clause-inside
returns-clause-inside c = search rules
