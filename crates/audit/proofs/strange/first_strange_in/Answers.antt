use Rattle.std.proofs.Common.{arith, ◌≡◌, ◌++◌, ◌∷◌, [], Some, length, take, refl, sym, ap, ◌∙◌, subst}
use Rattle.std.specs.Prelude.{slice_get}
use Rattle.std.proofs.lemmas.Bool.{false≢true}
use Rattle.std.proofs.lemmas.Option.{slice_get-get_or, same_Some}
use Rattle.gate_ledgers.specs.Receipt.{Told}
use Rattle.audit.specs.Receipts.{StandsAfter}
use Rattle.audit.specs.Marks.{AreNamed}
use Rattle.lemmas.proofs.Walks.{EachBefore-there, EachBefore-all}
use Rattle.audit.proofs.FirstPlaces.{stops_there}
use Rattle.audit.proofs.Naming.{AreNamed-more}
use Rattle.audit.proofs.strange.first_strange_in.Goals as goal

pub returns-then-not-mark_anew-clause-first : goal.returns-then-not-mark_anew-clause-first
returns-then-not-mark_anew-clause-first g c = λ earlier marked.
    let so_far = c.loop-place.invariant earlier marked in
    let x : Told = c.index-receipts-place.result in
    let here : slice_get c.args.receipts.now c.loop-place.place ≡ Some x =
    slice_get-get_or c.args.receipts.now c.loop-place.place x c.loop-place-test.true
    ∙ ap (λ (r : Told). Some r) (sym c.index-receipts-place.is) in
    let stands =
    c.if-not-mark_anew.ensures.stands (earlier ++ take c.loop-place.place c.args.receipts.now)
    so_far.1 in
    stops_there (StandsAfter c.args.entries.now earlier c.args.receipts.now) c.args.receipts.now
    c.loop-place.place c.loop-place-test.true so_far.0
    (λ y there s.
    false≢true
    (stands.1
    (subst (StandsAfter c.args.entries.now earlier c.args.receipts.now c.loop-place.place)
    (same_Some y x (sym there ∙ here)) s)))

pub loop-place-preserved : goal.loop-place-preserved
loop-place-preserved g c = λ earlier marked.
    let so_far = c.loop-place.invariant earlier marked in
    let x : Told = c.index-receipts-place.result in
    let here : slice_get c.args.receipts.now c.loop-place.place ≡ Some x =
    slice_get-get_or c.args.receipts.now c.loop-place.place x c.loop-place-test.true
    ∙ ap (λ (r : Told). Some r) (sym c.index-receipts-place.is) in
    let named = earlier ++ take c.loop-place.place c.args.receipts.now in
    let stands = c.if-not-mark_anew.ensures.stands named so_far.1 in (
      EachBefore-there (StandsAfter c.args.entries.now earlier c.args.receipts.now)
          c.args.receipts.now c.loop-place.place so_far.0
          (λ y there.
          subst (StandsAfter c.args.entries.now earlier c.args.receipts.now c.loop-place.place)
          (same_Some x y (sym here ∙ there)) (stands.0 refl)),
      AreNamed-more (length c.args.entries.now) earlier c.args.receipts.now c.loop-place.place x
          c.mark_anew.new.named c.loop-place-test.true
          (subst
          (λ (r : Told).
          AreNamed (length c.args.entries.now) (named ++ r ∷ []) c.mark_anew.new.named)
          c.index-receipts-place.is (c.if-not-mark_anew.ensures.marked named so_far.1)),
    )

pub returns-clause-first : goal.returns-clause-first
returns-clause-first g c = λ earlier marked.
    EachBefore-all (StandsAfter c.args.entries.now earlier c.args.receipts.now) c.args.receipts.now
    c.loop-place.place (omega arith) (c.loop-place.invariant earlier marked).0
