use Rattle.load_run.specs.Workers.{Fits}
use Rattle.lemmas.proofs.Walks.{EachBefore}
use Rattle.load_run.proofs.fitting.fit.Given as goal

-- those so far fit
abbrev pub invariant-loop-place : goal.invariant-loop-place
invariant-loop-place g l =
    EachBefore (λ place refusal. Fits g.M.Naming.making l.entries refusal) l.refusals.items l.place
