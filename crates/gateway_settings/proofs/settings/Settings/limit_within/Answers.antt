use Rattle.std.proofs.Common.{rules, ◌≡◌, ◌≤◌, true}
use Rattle.limit_kinds.specs.AnyKinds.{any_rules}
use Rattle.gateway_settings.specs.Exchanges.{gives_way, wanted}
use Rattle.gateway_settings.proofs.Rest.{served}
use Rattle.gateway_settings.proofs.settings.Settings.limit_within.Goals as goal

pub returns-then-gives_way-clause-fits : goal.returns-then-gives_way-clause-fits
returns-then-gives_way-clause-fits c =
    let s = c.args.self.now in
    let n = c.args.exchanges in
    let gives : gives_way s ≡ true = search rules in
    let enough : wanted n s (any_rules.lo s.limit) ≤ n = rw gives at c.requires.enough in
    let fits = served n s c.greatest_hi.ensures.within gives enough in
    search rules
