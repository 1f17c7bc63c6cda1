use Rattle.load_run.specs.Workers.{AllFit}
use Rattle.lemmas.proofs.Walks.{EachBefore}
use Rattle.load_run.proofs.fitting.all_fit.Given as goal

-- those of the workers so far fit
abbrev pub invariant-loop-number : goal.invariant-loop-number
invariant-loop-number g l =
    EachBefore (λ number list. AllFit g.M.Naming.making l.entries list.items) l.spent.items
    l.number
