use Rattle.std.proofs.Common.{rules, ◌≡◌, [], ◌∷◌}
use Rattle.gateway_tests.proofs.Deciding.{both_decided, two_pushed}
use Rattle.gateway_tests.proofs.worker_tests.serve_both.Goals as goal

pub returns : goal.returns
returns g c =
    let one = c.join-first.result.0.pass in
    let two = c.join-first.result.1.pass in
    let empty : c.expect-passes.result.items ≡ [] = search rules in
    let same : c.push_reserved-2.new.self.items ≡ one ∷ two ∷ [] =
    two_pushed _ _ _ one two empty c.push_reserved.ensures.items
    c.push_reserved-2.ensures.items in
    both_decided _ _ _ _ c.exchanges_are_one_threads.ensures
    c.in-Ok.ensures.all one two c.join-first.result.0.told
    c.join-first.result.1.told same c.join-first.ensures.first c.join-first.ensures.second
