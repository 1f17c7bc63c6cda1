use Rattle.std.proofs.Common.{arith, length, take}
use Rattle.audit.specs.Firsts.{EachHas}
use Rattle.audit.specs.Receipts.{StandsIn, all_kept}
use Rattle.lemmas.proofs.Walks.{EachBefore-all}
use Rattle.audit.proofs.FirstPlaces.{IsRead, ListsBefore-more, stops_in}
use Rattle.audit.proofs.Naming.{AreNamed-list}
use Rattle.audit.proofs.strange.first_strange.Goals as goal

pub returns-in-Some-clause-first : goal.returns-in-Some-clause-first
returns-in-Some-clause-first g c =
    let read : IsRead c.args.kept.now c.loop-list.list c.index-kept-list.result c.deref.result.now =
    record {
      within = c.loop-list-test.true;
      here = c.index-kept-list.is;
      shown = c.deref.ensures.value;
    } in
    stops_in (StandsIn c.args.entries.now c.args.kept.now) c.args.kept.now c.loop-list.list
    c.index-kept-list.result c.deref.result.now c.in-Some.place read c.loop-list.invariant.stand
    (c.in-Some.ensures.first (all_kept (take c.loop-list.list c.args.kept.now))
    c.loop-list.invariant.named)

pub loop-list-preserved : goal.loop-list-preserved
loop-list-preserved g c =
    let read : IsRead c.args.kept.now c.loop-list.list c.index-kept-list.result c.deref.result.now =
    record {
      within = c.loop-list-test.true;
      here = c.index-kept-list.is;
      shown = c.deref.ensures.value;
    } in
    let earlier = all_kept (take c.loop-list.list c.args.kept.now) in
    record {
      stand =
          ListsBefore-more (StandsIn c.args.entries.now c.args.kept.now) c.args.kept.now
          c.loop-list.list c.index-kept-list.result c.deref.result.now read
          c.loop-list.invariant.stand
          (c.in_default.ensures.first earlier c.loop-list.invariant.named);
      named =
          AreNamed-list (length c.args.entries.now) c.args.kept.now c.loop-list.list
          c.index-kept-list.result c.deref.result.now c.first_strange_in.new.named read
          (c.in_default.ensures.marked earlier c.loop-list.invariant.named);
    }

pub returns-clause-first : goal.returns-clause-first
returns-clause-first g c =
    EachBefore-all
    (λ list receipts.
    EachHas (StandsIn c.args.entries.now c.args.kept.now list receipts.items) receipts.items)
    c.args.kept.now c.loop-list.list (omega arith) c.loop-list.invariant.stand
