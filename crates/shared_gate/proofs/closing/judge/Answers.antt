use Rattle.std.proofs.Common.{subst}
use Rattle.shared_gate.specs.Closing.{IsEndOf}
use Rattle.shared_gate.proofs.Closings.{first_of, has_the_calls, is_accepted, is_all, is_end_of}
use Rattle.shared_gate.proofs.Closings.{is_history_in, is_kept}
use Rattle.shared_gate.proofs.closing.judge.Goals as goal

pub returns-in-None-clause-whole : goal.returns-in-None-clause-whole
returns-in-None-clause-whole g c = c.in-None.ensures.none.whole

pub returns-in-None-clause-legal : goal.returns-in-None-clause-legal
returns-in-None-clause-legal g c =
    is_kept g.L.Limit.rules _ c.sealed.inside.book c.into_journal.result
    c.into_history-history.result.opening.standing c.into_history-history.result.base
    c.into_history-history.result.entries.items c.invariant.ensures.legal c.invariant.ensures.sound
    c.invariant.ensures.making
    c.invariant.ensures.unasked
    c.invariant.ensures.agrees c.into_journal.ensures
    c.into_history-history.ensures.opening c.into_history-history.ensures.base
    c.into_history-history.ensures.entries

pub returns-in-None-clause-log : goal.returns-in-None-clause-log
returns-in-None-clause-log g c =
    let m = g.M.Naming.making in
    is_all g.L.Limit.rules m c.args.sealed c.into_history-history.result.base
    c.into_history-history.result.entries.items
    (subst (λ log. IsEndOf g.L.Limit.rules m log c.into_history-history.result.base
    c.into_history-history.result.entries.items) c.sealed.view_is
    (is_end_of g.L.Limit.rules m g.M.GateNaming.legal c.sealed.inside.keeper.log
    c.sealed.inside.book c.into_history-history.result.base
    c.into_history-history.result.entries.items c.sealed.invariant.2 c.invariant.ensures.making
    (is_history_in c.sealed.inside.book c.into_journal.result c.into_history-history.result.base
    c.into_history-history.result.entries.items c.into_journal.ensures
    c.into_history-history.ensures.base c.into_history-history.ensures.entries)))
    c.in-None.ensures.none.whole

pub returns-in-None-clause-counted : goal.returns-in-None-clause-counted
returns-in-None-clause-counted g c =
    has_the_calls c.args.calls c.args.sealed c.into_history-history.result.entries.items
    c.requires.book c.in-None.ensures.none.passes (returns-in-None-clause-log g c)

pub returns-in-None-clause-accepted : goal.returns-in-None-clause-accepted
returns-in-None-clause-accepted g c =
    is_accepted c.into_history-history.result.entries.items c.deref.result.now
    c.args.kept.items c.deref-2.result.now c.deref.ensures.value c.deref-2.ensures.value
    c.in-None.ensures.accepted

pub returns-clause-end : goal.returns-clause-end
returns-clause-end g c =
    let m = g.M.Naming.making in
    subst (λ log. IsEndOf g.L.Limit.rules m log c.into_history-history.result.base
    c.into_history-history.result.entries.items) c.sealed.view_is
    (is_end_of g.L.Limit.rules m g.M.GateNaming.legal c.sealed.inside.keeper.log
    c.sealed.inside.book c.into_history-history.result.base
    c.into_history-history.result.entries.items c.sealed.invariant.2 c.invariant.ensures.making
    (is_history_in c.sealed.inside.book c.into_journal.result c.into_history-history.result.base
    c.into_history-history.result.entries.items c.into_journal.ensures
    c.into_history-history.ensures.base c.into_history-history.ensures.entries))

pub returns-clause-first : goal.returns-clause-first
returns-clause-first g c =
    first_of c.args.calls _ c.into_history-history.result.base
    c.into_history-history.result.entries.items c.deref.result.now c.args.kept.items
    c.deref-2.result.now c.in-Some.cause c.requires.book c.deref.ensures.value
    c.deref-2.ensures.value c.in-Some.ensures.first

pub returns-clause-history : goal.returns-clause-history
returns-clause-history g c =
    is_kept g.L.Limit.rules _ c.sealed.inside.book c.into_journal.result
    c.into_history-history.result.opening.standing c.into_history-history.result.base
    c.into_history-history.result.entries.items c.invariant.ensures.legal c.invariant.ensures.sound
    c.invariant.ensures.making
    c.invariant.ensures.unasked
    c.invariant.ensures.agrees c.into_journal.ensures
    c.into_history-history.ensures.opening c.into_history-history.ensures.base
    c.into_history-history.ensures.entries
