use Rattle.std.proofs.Common.{rules, ◌≡◌, ◌+◌, Ok, ◌++◌, ◌∷◌, [], ◌∙◌, ap, arith, refl, subst, sym}
use Rattle.std.proofs.Common.{length}
use Rattle.std.specs.Prelude.{vec_len}
use Rattle.std.proofs.lemmas.Iterator.Adapters.{YieldsList-from_vec}
use Rattle.std.proofs.lemmas.Iterator.Consumers.{YieldsList-end}
use Rattle.std.proofs.lemmas.List.{map-id}
use Rattle.lemmas.proofs.Lists.{length-one_more}
use Rattle.audit.specs.Firsts.{EachHas}
use Rattle.load_run.specs.Gathered.{IsKeptAt}
use Rattle.load_run.proofs.Gathering.{kept_more, long_more}
use Rattle.load_run.proofs.workers.gather.Goals as goal

pub loop-worker-preserved : goal.loop-worker-preserved
loop-worker-preserved g c =
    let old = c.loop-worker.worked in
    let new = c.in_ok-worked.worked in
    let worker = c.in_ok-worker.field-0 in
    let so_far = c.loop-worker.invariant in
    let joined : new.kept.items ≡ old.kept.items ++ worker.receipts ∷ [] = search rules in
    let added : new.spent.items ≡ old.spent.items ++ worker.refusals ∷ [] = search rules in
    let is : c.in-Some.worker ≡ Ok worker = search rules in
    let more : vec_len new.passes ≡ vec_len old.passes + 1 = search rules in (
      long_more old.kept.items new.kept.items worker.receipts c.loop-worker.yielded
          c.in-Some.worker joined so_far.0,
      long_more old.spent.items new.spent.items worker.refusals c.loop-worker.yielded
          c.in-Some.worker added so_far.1,
      kept_more old.kept.items new.kept.items old.spent.items new.spent.items worker
          c.loop-worker.yielded _ c.in-Some.worker joined added so_far.0 so_far.1 is refl so_far.2,
      omega (
        arith,
        so_far.3,
        more,
        length-one_more c.loop-worker.yielded c.in-Some.worker,
      ),
    )

pub returns-clause-passes : goal.returns-clause-passes
returns-clause-passes g c =
    let end =
    YieldsList-end (YieldsList-from_vec c.args.done.items (search rules) (search rules))
    c.loop-worker.yielded c.loop-worker.worker-iterator c.loop-worker.yielded_by c.next.result
    c.next.new.self c.in-None.is c.next.ensures.steps in
    let whole : c.loop-worker.yielded ≡ c.args.done.items =
    sym (map-id c.loop-worker.yielded) ∙ end.0 in
    let long : length c.args.done.items ≡ vec_len c.args.done = search rules in
    c.loop-worker.invariant.3 ∙ ap (λ done. length done) whole ∙ long

pub returns-clause-each : goal.returns-clause-each
returns-clause-each g c =
    let end =
    YieldsList-end (YieldsList-from_vec c.args.done.items (search rules) (search rules))
    c.loop-worker.yielded c.loop-worker.worker-iterator c.loop-worker.yielded_by c.next.result
    c.next.new.self c.in-None.is c.next.ensures.steps in
    let whole : c.loop-worker.yielded ≡ c.args.done.items =
    sym (map-id c.loop-worker.yielded) ∙ end.0 in
    subst (EachHas (IsKeptAt c.loop-worker.worked.kept.items c.loop-worker.worked.spent.items))
    whole c.loop-worker.invariant.2
