use Rattle.std.proofs.Common.{rules, ◌≡◌, ◌++◌, ◌∷◌, ◌∙◌, ◌+◌, [], IfSome, Some, subst, sym}
use Rattle.std.proofs.lemmas.Iterator.Adapters.{YieldsList-from_vec}
use Rattle.std.proofs.lemmas.Iterator.Consumers.{YieldsList-end}
use Rattle.std.proofs.lemmas.List.{map-id}
use Rattle.shared_gate.specs.Closing.{calls_by}
use Rattle.serve_command.specs.GatewayRun.{all_joined, passes_in, rolls_left, served_by}
use Rattle.serve_command.proofs.GatewayRun.{one_call_more, one_pass_more}
use Rattle.serve_command.proofs.Rolls.{nobody_first, one_token_more}
use Rattle.serve_command.proofs.gateway.passes_of.Goals as goal

pub loop-left-init : goal.loop-left-init
loop-left-init g c = record {
  passes = search rules;
  calls = search rules;
  token = nobody_first _ c.token-token.ensures;
  few = search rules;
}

pub loop-left-preserved : goal.loop-left-preserved
loop-left-preserved g c =
    let old = c.loop-left.passes.items in
    let pass = c.pass_in-pass.result.0 in
    let made = c.pass_in-pass.result.1 in
    let own : c.push.new.self.items ≡ old ++ pass ∷ [] = search rules in
    let calls : c.loop-left.calls + c.from-calls.result ≡ c.loop-left.calls + made = search rules in
    record {
      passes = one_pass_more c.loop-left.yielded c.in-Some.left old c.push.new.self.items
          (pass ∷ []) c.loop-left.invariant.passes c.pass_in-pass.ensures.pass own;
      calls = one_call_more c.loop-left.yielded c.in-Some.left c.loop-left.calls
          (c.loop-left.calls + c.from-calls.result) made c.loop-left.invariant.calls
          c.pass_in-pass.ensures.calls calls;
      token = one_token_more g.L.Listener.roll c.args.listener.now c.loop-left.yielded
          c.in-Some.left (g.L.Listener.roll c.args.listener.now c.loop-left.token)
          (g.L.Listener.roll c.args.listener.now c.pass_in-pass.new.token)
          c.loop-left.invariant.token c.pass_in-pass.ensures.token;
      few = search rules;
    }

-- all were yielded
pub returns-clause-passes : goal.returns-clause-passes
returns-clause-passes g c =
    let end =
    YieldsList-end (YieldsList-from_vec c.args.lefts.items (search rules) (search rules))
    c.loop-left.yielded c.loop-left.left-iterator c.loop-left.yielded_by c.next.result
    c.next.new.self c.in-None.is c.next.ensures.steps in
    let all : c.loop-left.yielded ≡ c.args.lefts.items =
    sym (map-id c.loop-left.yielded) ∙ end.0 in
    subst (λ lefts. c.loop-left.passes.items ≡ passes_in lefts) all c.loop-left.invariant.passes

pub returns-clause-calls : goal.returns-clause-calls
returns-clause-calls g c =
    let end =
    YieldsList-end (YieldsList-from_vec c.args.lefts.items (search rules) (search rules))
    c.loop-left.yielded c.loop-left.left-iterator c.loop-left.yielded_by c.next.result
    c.next.new.self c.in-None.is c.next.ensures.steps in
    let all : c.loop-left.yielded ≡ c.args.lefts.items =
    sym (map-id c.loop-left.yielded) ∙ end.0 in
    subst (λ lefts. c.loop-left.calls ≡ calls_by (served_by lefts)) all
    c.loop-left.invariant.calls

pub returns-clause-token : goal.returns-clause-token
returns-clause-token g c =
    let end =
    YieldsList-end (YieldsList-from_vec c.args.lefts.items (search rules) (search rules))
    c.loop-left.yielded c.loop-left.left-iterator c.loop-left.yielded_by c.next.result
    c.next.new.self c.in-None.is c.next.ensures.steps in
    let all : c.loop-left.yielded ≡ c.args.lefts.items =
    sym (map-id c.loop-left.yielded) ∙ end.0 in
    subst (λ lefts. IfSome (g.L.Listener.roll c.args.listener.now c.loop-left.token) (λ total.
    all_joined (rolls_left g.L.Listener.roll c.args.listener.now lefts) ≡ Some total)) all
    c.loop-left.invariant.token
