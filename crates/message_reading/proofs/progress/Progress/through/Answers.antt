use Rattle.std.proofs.Common.{◌≡◌, ◌-◌, ◌++◌, ◌∙◌, length, take, drop, sym, ap, subst, arith, append_assoc, take-append-drop, rules}
use Rattle.std.proofs.lemmas.List.{take_more, take_rest}
use Rattle.message_reading.specs.Progress.{IsProgress}
use Rattle.message_reading.proofs.progress.Progress.through.Goals as goal

pub loop-at-preserved : goal.loop-at-preserved
loop-at-preserved c =
    let at = c.loop-at.at in
    let piece = c.args.piece.now in
    record {
      is = λ text is.
          let more = c.after-progress.ensures.is (text ++ take at piece)
          (c.loop-at.invariant.is text is) in
          subst (λ seen. IsProgress seen c.after-progress.result)
          (append_assoc text (take at piece) _
          ∙ ap (λ front. text ++ front) (sym (take_more piece at 0 (omega arith)))) more;
      few = omega (arith, c.after-progress.ensures.few, c.loop-at.invariant.few);
      inside = omega arith;
    }

pub returns-clause-is : goal.returns-clause-is
returns-clause-is c = λ text is.
    let at = c.loop-at.at in
    let piece = c.args.piece.now in
    let past = c.past.ensures.is (text ++ take at piece) (c.loop-at.invariant.is text is) in
    let rest : take (length piece - at) (drop at piece) ≡ drop at piece =
    take_rest piece at in
    subst (λ seen. IsProgress seen c.past.result)
    (append_assoc text (take at piece) _
    ∙ ap (λ all. text ++ (take at piece ++ all)) rest
    ∙ ap (λ all. text ++ all) (take-append-drop at piece)) past

pub loop-at-init : goal.loop-at-init
loop-at-init c = search rules

pub loop-at-smaller : goal.loop-at-smaller
loop-at-smaller c = search rules
