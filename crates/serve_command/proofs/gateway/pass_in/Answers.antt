use Rattle.std.proofs.Common.{rules, ◌≡◌, ◌∷◌, [], IfSome, Some, subst, sym}
use Rattle.client_tokens.specs.Roll.{nobody}
use Rattle.serve_command.specs.GatewayRun.{all_joined, joined, rolls_left}
use Rattle.serve_command.proofs.Rolls.{with_none, with_one}
use Rattle.serve_command.proofs.gateway.pass_in.Goals as goal

-- the token of the worker's door was put into the one that is lent
pub returns-in-Worked-clause-token : goal.returns-in-Worked-clause-token
returns-in-Worked-clause-token g c =
    let roll = g.L.Listener.roll c.args.listener.now in
    subst (λ it. IfSome (roll c.join.new.token) (λ all. joined (roll c.args.token.now)
    (all_joined (rolls_left g.L.Listener.roll c.args.listener.now (it ∷ []))) ≡ Some all))
    (sym c.in-Worked.is)
    (subst (λ k. IfSome (roll c.join.new.token) (λ all. joined (roll c.args.token.now)
    (joined (roll k) (Some nobody)) ≡ Some all)) c.into_token.ensures
    (with_one _ _ _ c.join.ensures))

-- who served beside the workers had none
pub returns-in-SideTask-clause-token : goal.returns-in-SideTask-clause-token
returns-in-SideTask-clause-token g c =
    let roll = g.L.Listener.roll c.args.listener.now in
    subst (λ it. IfSome (roll c.args.token.now) (λ all. joined (roll c.args.token.now)
    (all_joined (rolls_left g.L.Listener.roll c.args.listener.now (it ∷ []))) ≡ Some all))
    (sym c.in-SideTask.is) (with_none _)
