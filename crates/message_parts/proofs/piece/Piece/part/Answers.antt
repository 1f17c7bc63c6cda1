use Rattle.std.proofs.Common.{◌∙◌, ◌+◌, ap, slice_range, sym, rules}
use Rattle.message_parts.proofs.Ranges.{range_in_range}
use Rattle.message_parts.proofs.piece.Piece.part.Goals as goal

pub returns : goal.returns
returns c =
    let p = c.self.inside in
    ap (λ all. slice_range all (p.start + c.args.start) (p.start + c.args.end)) (search rules)
    ∙ sym (range_in_range p.text.value.items p.start p.end c.args.start c.args.end (search rules)
    (search rules)) ∙ (search rules)
