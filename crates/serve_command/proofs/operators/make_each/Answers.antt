use Rattle.std.proofs.Common.{rules, ◌≡◌, ◌∙◌, List, [], ◌∷◌, ◌++◌, All, subst}
use Rattle.std.specs.Vec.Iter.{into_iter_items}
use Rattle.std.proofs.lemmas.List.Elements.{All-head, All-push, All-same, All-tail}
use Rattle.gate_desk.specs.State.{new_desk}
use Rattle.shared_gate.specs.Calls.{Pass}
use Rattle.serve_command.specs.Beside.{IsUnused, StandsAt}
use Rattle.serve_command.proofs.operators.make_each.Goals as goal

-- one operator more, and one pass less
pub loop-pass-preserved : goal.loop-pass-preserved
loop-pass-preserved g c =
    let common = c.args.gateway.now.common.now in
    let rest = into_iter_items c.next.new.self in
    let stepped : into_iter_items c.loop-pass.pass-iterator ≡ c.in-Some.pass ∷ rest =
    search rules in
    let unused : All IsUnused (c.in-Some.pass ∷ rest) =
    subst (λ (passes : List Pass). All IsUnused passes) stepped c.loop-pass.invariant.unused in
    let pushed : c.push.new.self.items ≡ c.loop-pass.operators.items
    ++ c.in_ok-operator.operator ∷ [] = search rules in
    let begin = new_desk common.settings.now.table common.listener.now in
    let own : StandsAt begin c.args.operating.now c.in_ok-operator.operator = (
      c.in_ok-operator.ensures.desk
          ∙ c.in_ok-desk.ensures.state (All-head IsUnused c.in-Some.pass rest unused),
      c.in_ok-operator.ensures.address,
    ) in
    record {
      unused = All-tail IsUnused c.in-Some.pass rest unused;
      count = search rules;
      made =
          All-same (StandsAt begin c.args.operating.now) _ _ pushed
          (All-push (StandsAt begin c.args.operating.now) _ _ c.loop-pass.invariant.made own);
    }
