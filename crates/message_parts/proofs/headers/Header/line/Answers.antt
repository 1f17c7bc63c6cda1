use Rattle.std.proofs.Common.{rules, ◌∙◌, ap, ◌++◌, ◌∷◌, [], ◌+◌}
use Rattle.message_parts.proofs.Ranges.{line_in}
use Rattle.message_parts.proofs.headers.Header.line.Goals as goal

pub returns : goal.returns
returns c =
    let h = c.self.inside in
    let name = c.args.self.now.name in
    line_in c.as_slice-text.result.now name
    h.name.start h.name.end h.value.start h.value.end (h.value.end + 2)
    (search rules) (search rules) (search rules) (search rules)
    (search rules) (search rules) (search rules)
    ∙ ap (λ xs. name ++ 58 ∷ 32 ∷ (xs ++ 13 ∷ 10 ∷ [])) (search rules)
