use Rattle.std.proofs.Common.{refl, ap, ◌∙◌, arith, rules}
use Rattle.std.proofs.lemmas.Grind.{common_steps}
use Rattle.gate_journal.specs.Journal.{answered}
use Rattle.load_driver.specs.Session.{Session}
use Rattle.load_driver.proofs.Sessions.{may, goes_on, stays, journal_then, opens_then, opens_still}
use Rattle.load_driver.proofs.Sessions.{entries_from}
use Rattle.load_driver.proofs.session.Session.ask.Goals as goal

pub invariant_of-self : goal.invariant_of-self
invariant_of-self g c =
    stays g.L.Limit.rules c.self.inside.journal c.self.inside.permits c.reserve.new.self
    c.self.inside.journal c.self.invariant refl c.reserve.ensures.entries.2

pub apply-requires : goal.apply-requires
apply-requires g c =
    may g.L.Limit.rules c.self.inside.journal c.self.inside.permits c.args.self.now
    c.self.view_is c.self.invariant c.args.event c.requires c.open_permits_may_end.ensures

pub invariant_of-self-in-Some : goal.invariant_of-self-in-Some
invariant_of-self-in-Some g c =
    goes_on g.L.Limit.rules c.self.inside.journal c.self.inside.permits c.args.self.now
    c.self.view_is c.self.invariant c.args.event c.requires c.reserve.new.self c.note.new.permits
    c.in-Some.number c.in-Some.reply c.in-Some.ensures.number c.in-Some.ensures.reply
    c.reserve.ensures.entries.2 c.note.ensures
    (c.rolling_runs_are_legal.ensures.stretches g.L.Limit.rules)
    c.invariant.ensures.sound c.open_permits_may_end.ensures
    c.open_permits_are_in_flight.ensures.answer c.open_permits_are_in_flight.ensures.call
    c.apply.new.self c.in-Some.ensures.entries

pub invariant_of-self-in-None : goal.invariant_of-self-in-None
invariant_of-self-in-None g c =
    stays g.L.Limit.rules c.self.inside.journal c.self.inside.permits c.reserve.new.self
    c.apply.new.self c.self.invariant c.in-None.ensures.unchanged c.reserve.ensures.entries.2

pub returns-in-Some-clause-entries : goal.returns-in-Some-clause-entries
returns-in-Some-clause-entries g c =
    entries_from g.L.Limit.rules c.self.inside.journal c.apply.new.self c.args.event
    c.in-Some.ensures.entries c.invariant.ensures.anew (c.invariant.ensures.same c.args.event)
    c.in-Some.number c.base.result c.in-Some.ensures.number c.base.ensures
    ∙ ap (λ (v : Session g.row.L.Denot). answered g.L.Limit.rules v.journal c.args.event)
    c.self.view_is

pub returns-in-Some-clause-journal : goal.returns-in-Some-clause-journal
returns-in-Some-clause-journal g c =
    journal_then g.L.Limit.rules c.self.inside.journal c.self.inside.permits c.args.self.now
    c.self.view_is c.self.invariant c.args.event c.requires c.apply.new.self
    c.in-Some.ensures.exhausted c.in-Some.ensures.entries

pub returns-in-Some-clause-opens : goal.returns-in-Some-clause-opens
returns-in-Some-clause-opens g c =
    opens_then g.L.Limit.rules c.self.inside.journal c.self.inside.permits c.args.self.now
    c.self.view_is c.self.invariant c.args.event c.requires c.reserve.new.self c.note.new.permits
    c.in-Some.number c.in-Some.reply c.in-Some.ensures.number c.in-Some.ensures.reply
    c.reserve.ensures.entries.2 c.note.ensures c.apply.new.self c.in-Some.ensures.exhausted

pub returns-in-None-clause-opens : goal.returns-in-None-clause-opens
returns-in-None-clause-opens g c =
    opens_still g.L.Limit.rules c.self.inside.journal c.self.inside.permits c.args.self.now
    c.self.view_is c.self.invariant c.args.event c.requires c.reserve.new.self c.apply.new.self
    c.in-None.ensures.exhausted c.reserve.ensures.entries.2

pub returns-in-Some-clause-exhausted : goal.returns-in-Some-clause-exhausted
returns-in-Some-clause-exhausted g c = search rules

pub returns-in-Some-clause-number : goal.returns-in-Some-clause-number
returns-in-Some-clause-number g c = search rules

pub returns-in-Some-clause-inside : goal.returns-in-Some-clause-inside
returns-in-Some-clause-inside g c = grind (arith, common_steps)

pub returns-in-Some-clause-numbered : goal.returns-in-Some-clause-numbered
returns-in-Some-clause-numbered g c = grind (arith, common_steps)

pub returns-in-None-clause-exhausted : goal.returns-in-None-clause-exhausted
returns-in-None-clause-exhausted g c = search rules

pub returns-in-None-clause-number : goal.returns-in-None-clause-number
returns-in-None-clause-number g c = search rules

pub returns-in-None-clause-entries : goal.returns-in-None-clause-entries
returns-in-None-clause-entries g c = search rules

pub returns-in-None-clause-inside : goal.returns-in-None-clause-inside
returns-in-None-clause-inside g c = search rules

pub returns-in-None-clause-numbered : goal.returns-in-None-clause-numbered
returns-in-None-clause-numbered g c = search rules

pub returns-in-None-clause-journal : goal.returns-in-None-clause-journal
returns-in-None-clause-journal g c = search rules

pub returns-in_err-reserve-clause-exhausted : goal.returns-in_err-reserve-clause-exhausted
returns-in_err-reserve-clause-exhausted g c = search rules

pub returns-in_err-reserve-clause-number : goal.returns-in_err-reserve-clause-number
returns-in_err-reserve-clause-number g c = search rules

pub returns-in_err-reserve-clause-entries : goal.returns-in_err-reserve-clause-entries
returns-in_err-reserve-clause-entries g c = search rules

pub returns-in_err-reserve-clause-inside : goal.returns-in_err-reserve-clause-inside
returns-in_err-reserve-clause-inside g c = search rules

pub returns-in_err-reserve-clause-numbered : goal.returns-in_err-reserve-clause-numbered
returns-in_err-reserve-clause-numbered g c = search rules

pub returns-in_err-reserve-clause-journal : goal.returns-in_err-reserve-clause-journal
returns-in_err-reserve-clause-journal g c = search rules

pub returns-in_err-reserve-clause-opens : goal.returns-in_err-reserve-clause-opens
returns-in_err-reserve-clause-opens g c = search rules
