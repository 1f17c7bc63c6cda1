use Rattle.windowed.proofs.Cuttings.{cuts_from}
use Rattle.windowed.proofs.Learning.{learns_from_each, learns_nothing}
use Rattle.windowed.proofs.laws.learns_from_windows_with_enough.Goals as goal

pub returns : goal.returns
returns g c = record {
  cuts = cuts_from;
  each = learns_from_each g.L.Limit.rules;
  none = learns_nothing g.L.Limit.rules;
}
