use Rattle.std.proofs.Common.{rules, ◌≤◌, ◌∙◌, length, subst}
use Rattle.std.proofs.lemmas.Option.{IfSome_then}
use Rattle.counted_io.specs.Effects.{Wrote}
use Rattle.load_driver.specs.Limits.{most_script}
use Rattle.load_run.specs.Summary.{summary_text}
use Rattle.load_run.proofs.WrittenRun.{is_loaded}
use Rattle.load_run.proofs.driver.load_with.Goals as goal

pub returns-clause-done : goal.returns-clause-done
returns-clause-done g c =
    let small : length c.deref.result.now ≤ most_script = search rules in
    let written : Wrote g.W.Write.contents c.args.writer.now c.write_and_flush.new.writer
    (summary_text c.in_ok-summary.summary) =
    subst (Wrote g.W.Write.contents c.args.writer.now c.write_and_flush.new.writer)
    (c.as_bytes.ensures.value ∙ c.in_ok-told.ensures) c.in_ok-write_and_flush.ensures.all in
    IfSome_then _ c.in_ok-text.ensures.whole
    (λ all same. is_loaded c.args.workers c.args.n c.deref.result.now all _ c.in_ok-summary.summary
    (c.deref.ensures.value ∙ same) small c.in_ok-summary.ensures.whole c.in_ok-summary.ensures.run
    written)
