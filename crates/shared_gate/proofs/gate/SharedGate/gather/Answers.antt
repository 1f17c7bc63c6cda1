use Rattle.std.proofs.Common.{◌≡◌, ◌+◌, ◌<◌, ℕ, List, ap, arith, sym, subst, ◌∙◌, get_or, set, length}
use mathlib.Core.List.{IsPrefix}
use Rattle.shared_gate.specs.Calls.{Pass}
use Rattle.lemmas.proofs.Lists.{prefix_trans}
use Rattle.shared_gate.proofs.Gathering.{gathers, set_same}
use Rattle.shared_gate.proofs.gate.SharedGate.gather.Goals as goal

pub loop-other-preserved : goal.loop-other-preserved
loop-other-preserved g c =
    let items : List Pass = c.loop-other.other-items in
    let i = c.loop-other.other-index in
    let inv = c.loop-other.invariant in
    let told = c.told.ensures in
    let within : i < length items =
    omega (arith, c.loop-other-test.true, c.loop-other.auto.other-items) in
    let one : Pass = c.other-item.result in
    let same : set items i c.told.new.other ≡ items =
    ap (λ (p : Pass). set items i p) (told.other ∙ sym c.other-item.is)
    ∙ set_same items i one within c.other-item.is in (
      same ∙ inv.0,
      prefix_trans c.args.pass.now.log c.loop-other.pass.log c.told.new.pass.log inv.1 told.kept,
      subst (λ (ps : List Pass).
          (k : ℕ) (d : Pass) → k < i + 1 → IsPrefix (get_or ps k d).log c.told.new.pass.log)
          (sym same)
          (gathers items i c.loop-other.pass.log c.told.new.pass.log one within c.other-item.is
          inv.2 told.kept
          (subst (λ (p : Pass). IsPrefix p.log c.told.new.pass.log) (sym c.other-item.is)
          told.told)),
      told.count ∙ inv.3,
      told.calls ∙ inv.4,
    )

pub returns-clause-all : goal.returns-clause-all
returns-clause-all g c k d below =
    let inv = c.loop-other.invariant in
    let value = c.deref_mut-other-items.ensures.value in
    let within : k < c.loop-other.other-index =
    omega (arith, below, c.loop-other-test.false, ap length value) in
    subst (λ (ps : List Pass). IsPrefix (get_or ps k d).log c.loop-other.pass.log)
    (inv.0 ∙ value) (inv.2 k d within)
