use Rattle.std.proofs.Common.{rules, arith, ◌≤◌, ◌-◌, ap, sym, length, ℕ}
use Rattle.counted_io.specs.Counted.{inner_of}
use Rattle.body_pieces.proofs.PlainPieces.{sized_more}
use Rattle.body_pieces.proofs.plain.more_sized.Goals as goal

pub returns-clause-more : goal.returns-clause-more
returns-clause-more g c =
    let old = g.R.Read.remaining (inner_of c.args.reader.now) in
    let new = g.R.Read.remaining (inner_of c.read_some.new.reader) in
    let left : ℕ = c.args.left in
    let count : ℕ = c.in_ok-count.count in
    let gave = c.in_ok-count.ensures.gave in
    let few : count ≤ left = search rules in
    let fits : length gave.0 ≤ left = omega (arith, few, gave.1) in
    sized_more left (left - count) old new c.args.bytes.items gave.0 c.read_some.new.into.items
    gave.3 fits gave.2 (ap (λ k. left - k) (sym gave.1))
