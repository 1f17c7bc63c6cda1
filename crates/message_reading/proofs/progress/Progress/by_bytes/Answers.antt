use Rattle.std.proofs.Common.{◌++◌, take, sym, ap, subst, ◌∙◌, arith, append_assoc, take_all, rules}
use Rattle.std.proofs.lemmas.List.{take_more}
use Rattle.message_reading.specs.Progress.{IsProgress}
use Rattle.message_reading.proofs.progress.Progress.by_bytes.Goals as goal

pub loop-byte-preserved : goal.loop-byte-preserved
loop-byte-preserved c =
    let i = c.loop-byte.byte-index in
    let piece = c.args.piece.now in
    record {
      is = λ text is.
          let more = c.after-progress.ensures.is (text ++ take i piece)
          (c.loop-byte.invariant.is text is) in
          subst (λ seen. IsProgress seen c.after-progress.result)
          (append_assoc text (take i piece) _
          ∙ ap (λ front. text ++ front) (sym (take_more piece i 0 (omega arith)))) more;
      few = omega (arith, c.after-progress.ensures.few, c.loop-byte.invariant.few);
    }

pub returns-clause-is : goal.returns-clause-is
returns-clause-is c = λ text is.
    subst (λ seen. IsProgress (text ++ seen) c.loop-byte.progress)
    (take_all c.loop-byte.byte-index c.args.piece.now (search rules))
    (c.loop-byte.invariant.is text is)
