use Rattle.std.specs.Ordering.{nat_cmp}
use Rattle.std.proofs.Common.{◌≡◌, refl}
use Rattle.std.proofs.lemmas.Iterator.Adapters.{YieldsList-from_bytes}
use Rattle.std.proofs.lemmas.Iterator.Consumers.{YieldsList-from_chain}
use Rattle.std.proofs.lemmas.Iterator.Search.{cmp_from_yields_List}
use Rattle.gate_config.specs.Rows.{prefix_of}
use Rattle.gate_config.proofs.unknown.UnknownKey.is_before.Goals as goal

pub returns : goal.returns
returns c =
    let order = cmp_from_yields_List (λ x y. y ≡ x) _ nat_cmp _ c.cmp.ensures.ran
    (YieldsList-from_chain (YieldsList-from_bytes (prefix_of c.args.self.now.section) (cc))
    (YieldsList-from_bytes c.args.self.now.name.now (cc)) (cc) (cc))
    (λ it e. YieldsList-from_chain (YieldsList-from_bytes (prefix_of c.args.other.now.section) (cc))
    (YieldsList-from_bytes c.args.other.now.name.now (cc)) (cc) (cc))
    (λ x y. refl) in
    cc
