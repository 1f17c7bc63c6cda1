use Rattle.std.proofs.Common.{rules, ◌∙◌, ap, sym}
use Rattle.timed_io.proofs.Unread.{behind_none}
use Rattle.timed_io.proofs.client.Client.close.Goals as goal

pub returns-clause-from : goal.returns-clause-from
returns-clause-from g c = search rules

pub returns-clause-unread : goal.returns-clause-unread
returns-clause-unread g c = λ none.
    behind_none _ _ none ∙ ap g.I.Inlet.remaining (sym (returns-clause-from g c))
