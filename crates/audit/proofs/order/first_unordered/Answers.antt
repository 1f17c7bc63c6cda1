use Rattle.std.proofs.Common.{arith}
use Rattle.audit.specs.Firsts.{EachHas}
use Rattle.audit.specs.Receipts.{IsInOrderIn}
use Rattle.lemmas.proofs.Walks.{EachBefore-all}
use Rattle.audit.proofs.FirstPlaces.{IsRead, ListsBefore-more, stops_in}
use Rattle.audit.proofs.order.first_unordered.Goals as goal

pub returns-in-Some : goal.returns-in-Some
returns-in-Some g c =
    let read : IsRead c.args.kept.now c.loop-list.list c.index-kept-list.result c.deref.result.now =
    record {
      within = c.loop-list-test.true;
      here = c.index-kept-list.is;
      shown = c.deref.ensures.value;
    } in
    stops_in IsInOrderIn c.args.kept.now c.loop-list.list c.index-kept-list.result
    c.deref.result.now c.in-Some.place read c.loop-list.invariant c.in-Some.ensures

pub loop-list-preserved : goal.loop-list-preserved
loop-list-preserved g c =
    let read : IsRead c.args.kept.now c.loop-list.list c.index-kept-list.result c.deref.result.now =
    record {
      within = c.loop-list-test.true;
      here = c.index-kept-list.is;
      shown = c.deref.ensures.value;
    } in
    ListsBefore-more IsInOrderIn c.args.kept.now c.loop-list.list c.index-kept-list.result
    c.deref.result.now read c.loop-list.invariant c.in_default.ensures

pub returns : goal.returns
returns g c =
    EachBefore-all (λ list receipts. EachHas (IsInOrderIn list receipts.items) receipts.items)
    c.args.kept.now c.loop-list.list (omega arith) c.loop-list.invariant
