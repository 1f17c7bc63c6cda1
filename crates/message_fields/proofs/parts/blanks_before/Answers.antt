use Rattle.std.proofs.Common.{arith, sym, ◌∙◌}
use Rattle.std.proofs.lemmas.List.Sums.{prefix_len_is}
use Rattle.message_fields.specs.Parts.{is_blank}
use Rattle.message_fields.proofs.parts.blanks_before.Goals as goal

pub returns-clause-value : goal.returns-clause-value
returns-clause-value c =
    let all = c.loop-at.invariant in
    sym (prefix_len_is is_blank c.args.text.now _ 0 (omega arith)
    (λ k h. all k (omega arith)) (λ h. absurd (omega arith)))

pub returns-then-not-is_blank-clause-value : goal.returns-then-not-is_blank-clause-value
returns-then-not-is_blank-clause-value c =
    let all = c.loop-at.invariant in
    let other = sym c.is_blank.ensures ∙ c.if-not-is_blank.true in
    sym (prefix_len_is is_blank c.args.text.now _ 0 (omega arith)
    (λ k h. all k h) (λ h. other))
