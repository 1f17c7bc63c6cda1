use Rattle.std.proofs.Common.{ap, sym, subst, ◌∙◌}
use Rattle.limit_kinds.specs.declared.kinds.AnyLimit.{AnyLimit}
use Rattle.limit_kinds.specs.AnyKinds.{any_rules}
use Rattle.gate_journal.specs.Journal.{Journal}
use Rattle.gate_history.specs.Book.{made_with}
use Rattle.shared_gate.specs.Log.{CallsLegal}
use Rattle.load_run.proofs.run.open_gate.Goals as goal

-- the gate's settings are those of the trace
pub open_over-requires-clause-making : goal.open_over-requires-clause-making
open_over-requires-clause-making g c =
    c.requires.making ∙ ap (made_with any_rules) (sym c.gate_settings-settings.ensures.begins)

pub open_over-requires-clause-legal : goal.open_over-requires-clause-legal
open_over-requires-clause-legal g c =
    subst (λ (j : Journal AnyLimit). CallsLegal any_rules j g.M.GateNaming.legal)
    (sym c.gate_settings-settings.ensures.begins) c.requires.legal
