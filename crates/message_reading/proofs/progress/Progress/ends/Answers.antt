use Rattle.std.proofs.Common.{◌∙◌, ◌&&◌, not, ap, sym}
use Rattle.message_reading.specs.ChunkLines.{is_empty_end}
use Rattle.message_reading.proofs.HeadProgress.{head_ends}
use Rattle.message_reading.proofs.progress.Progress.ends.Goals as goal

pub returns-then-not-self : goal.returns-then-not-self
returns-then-not-self c = λ text is.
    let p = c.args.self.now in
    c.ends_empty.ensures
    ∙ ap (λ b. not b && is_empty_end (p.third, p.second, p.last)) (sym c.if-not-self.true)
    ∙ head_ends text p is

pub returns-else-not-self : goal.returns-else-not-self
returns-else-not-self c = λ text is.
    let p = c.args.self.now in
    ap not c.if-not-self.false
    ∙ ap (λ b. not b && is_empty_end (p.third, p.second, p.last)) (sym c.if-not-self.false)
    ∙ head_ends text p is
