use Rattle.std.proofs.Common.{rules, ap}
use Rattle.gate_port.specs.Asking.{ask_of, says}
use Rattle.ports.proofs.SoloAsked.{asked_in_vain, asked_once, asked_twice, same_event}
use Rattle.ports.proofs.solo.SoloPortGatePort.admit.Goals as goal

pub returns-in-Admitted-clause-entries : goal.returns-in-Admitted-clause-entries
returns-in-Admitted-clause-entries g c =
    let ask = ask_of c.args.part c.args.bypass c.args.deadline in
    let receipt = c.in-Admitted._receipt in
    let got = c.in-Admitted.ensures in
    asked_once ask c.args.now receipt.number _ _ _ receipt.reply _
    (same_event ask c.args.now c.would_wait-wait.result c.would_wait-wait.ensures)
    got.0.adds got.0.served (search rules)

pub returns-in-Bypassed-clause-entries : goal.returns-in-Bypassed-clause-entries
returns-in-Bypassed-clause-entries g c =
    let ask = ask_of c.args.part c.args.bypass c.args.deadline in
    let receipt = c.in-Bypassed._receipt in
    let got = c.in-Bypassed.ensures in
    asked_once ask c.args.now receipt.number _ _ _ receipt.reply _
    (same_event ask c.args.now c.would_wait-wait.result c.would_wait-wait.ensures)
    got.0.adds got.0.served (ap (says ask receipt.number c.args.now) got.1)

pub returns-in-Full-clause-entries : goal.returns-in-Full-clause-entries
returns-in-Full-clause-entries g c =
    let ask = ask_of c.args.part c.args.bypass c.args.deadline in
    let receipt = c.in-Full._receipt in
    let got = c.in-Full.ensures in
    asked_once ask c.args.now receipt.number _ _ _ receipt.reply _
    (same_event ask c.args.now c.would_wait-wait.result c.would_wait-wait.ensures)
    got.0.adds got.0.served (ap (says ask receipt.number c.args.now) got.1)

pub returns-in-BacklogFull-clause-entries : goal.returns-in-BacklogFull-clause-entries
returns-in-BacklogFull-clause-entries g c =
    let ask = ask_of c.args.part c.args.bypass c.args.deadline in
    let receipt = c.in-BacklogFull._receipt in
    let got = c.in-BacklogFull.ensures in
    asked_once ask c.args.now receipt.number _ _ _ receipt.reply _
    (same_event ask c.args.now c.would_wait-wait.result c.would_wait-wait.ensures)
    got.0.adds got.0.served (ap (says ask receipt.number c.args.now) got.1)

pub returns-in-Exhausted-clause-entries : goal.returns-in-Exhausted-clause-entries
returns-in-Exhausted-clause-entries g c =
    asked_in_vain (ask_of c.args.part c.args.bypass c.args.deadline) c.args.now _ _
    c.in-Exhausted.ensures.over (search rules)

pub returns-in-Granted-clause-entries : goal.returns-in-Granted-clause-entries
returns-in-Granted-clause-entries g c =
    let ask = ask_of c.args.part c.args.bypass c.args.deadline in
    let first = c.in-Waiting._receipt in
    let waits = c.in-Waiting.ensures in
    let second = c.in-Granted._receipt in
    let got = c.in-Granted.ensures in
    asked_twice ask c.args.now first.number _ second.number _ _ _ _ first.reply second.reply _
    (same_event ask c.args.now c.would_wait-wait.result c.would_wait-wait.ensures)
    waits.1 waits.0.adds got.0.adds waits.2 waits.0.served (search rules)

pub returns-in-TimedOut-clause-entries : goal.returns-in-TimedOut-clause-entries
returns-in-TimedOut-clause-entries g c =
    let ask = ask_of c.args.part c.args.bypass c.args.deadline in
    let first = c.in-Waiting._receipt in
    let waits = c.in-Waiting.ensures in
    let second = c.in-TimedOut._receipt in
    let got = c.in-TimedOut.ensures in
    asked_twice ask c.args.now first.number _ second.number _ _ _ _ first.reply second.reply _
    (same_event ask c.args.now c.would_wait-wait.result c.would_wait-wait.ensures)
    waits.1 waits.0.adds got.0.adds waits.2 waits.0.served
    (ap (says ask first.number c.args.now) got.1)

pub returns-in-Lost-clause-entries : goal.returns-in-Lost-clause-entries
returns-in-Lost-clause-entries g c =
    let ask = ask_of c.args.part c.args.bypass c.args.deadline in
    let first = c.in-Waiting._receipt in
    let waits = c.in-Waiting.ensures in
    let second = c.in-Lost._receipt in
    let got = c.in-Lost.ensures in
    asked_twice ask c.args.now first.number _ second.number _ _ _ _ first.reply second.reply _
    (same_event ask c.args.now c.would_wait-wait.result c.would_wait-wait.ensures)
    waits.1 waits.0.adds got.0.adds waits.2 waits.0.served
    (ap (says ask first.number c.args.now) got.1)
