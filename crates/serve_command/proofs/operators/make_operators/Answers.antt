use Rattle.std.proofs.Common.{rules}
use Rattle.std.proofs.lemmas.List.Elements.{All-drop, All-same, All-take}
use Rattle.serve_command.specs.Beside.{IsUnused}
use Rattle.serve_command.proofs.operators.make_operators.Goals as goal

-- nobody has called by the passes of either
pub make_at-requires-clause-unused : goal.make_at-requires-clause-unused
make_at-requires-clause-unused g c =
    All-same IsUnused _ _ c.in_ok-own.ensures.items (All-take IsUnused _ _ c.requires.unused)

pub make_at-requires-2-clause-unused : goal.make_at-requires-2-clause-unused
make_at-requires-2-clause-unused g c =
    All-same IsUnused _ _ c.in_ok-own.ensures.tail (All-drop IsUnused _ _ c.requires.unused)

pub returns : goal.returns
returns g c = record {
  lookers = c.in_ok-operators.operators.items;
  admins = c.in_ok-admins.admins.items;
  all = search rules;
  status = c.in_ok-operators.ensures;
  admin = c.in_ok-admins.ensures;
}
