use Rattle.std.proofs.Common.{rules, ◌≡◌, ◌∙◌, ap, map, take}
use Rattle.message_reading.specs.WholeHeads.{line_at, line_of}
use Rattle.message_reading.proofs.Copies.{same_lines, same_request}
use Rattle.message_reading.proofs.request_head.head_at.Goals as goal

pub returns : goal.returns
returns c =
    let head = c.requires.0 in
    let lines : c.in_ok-lines.lines ≡ map line_of head.0.fields =
    c.in_ok-lines.ensures
    ∙ ap (λ text. map (line_at text) (take c.args.found.headers c.args.spans.now))
    c.in_ok-kept.ensures
    ∙ same_lines _ _ _ _ head.1.fields in (
      head.0,
      head.2,
      same_request head.0 _ _ _ _
          (search rules) (search rules) head.1.version lines,
    )
