use Rattle.std.proofs.Common.{rules, ◌∙◌, ap, ◌++◌, ◌∷◌, ◌+◌, length}
use Rattle.std.specs.Prelude.{codes}
use Rattle.message_parts.proofs.Ranges.{first_line_in}
use Rattle.message_parts.proofs.piece.Piece.first_line.Goals as goal

pub returns : goal.returns
returns c =
    let space = c.self.inside.end in
    let target = c.args.target.now in
    let end = space + 1 + length target in
    first_line_in c.as_slice-text.result.now target (codes " HTTP/1.1\r\n") c.self.inside.start
    space (space + 1) end (end + 11)
    (search rules) (search rules) (search rules) (search rules)
    (search rules) (search rules) (search rules)
    ∙ ap (λ xs. xs ++ 32 ∷ (target ++ codes " HTTP/1.1\r\n")) (search rules)
