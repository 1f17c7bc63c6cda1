use Rattle.std.proofs.Common.{rules, refl}
use Rattle.proxy.specs.Settling.{class_by}
use Rattle.proxy.proofs.Entries.{asks, asks_in, logs_admitted, logs_bypassed, logs_refused}
use Rattle.proxy.proofs.Entries.{refused_late}
use Rattle.proxy.proofs.Entries.{serves_admitted, serves_bypassed, serves_refused}
use Rattle.proxy.proofs.settling.settle.Goals as goal

pub returns-in-Admitted : goal.returns-in-Admitted
returns-in-Admitted g c = record {
  class_is = search rules;
  counted = search rules;
  answered = refl;
  asked = search rules;
  forwarded = search rules;
  now = c.look-now.result;
  end = c.look_knowing-end.result;
  looked = search rules;
  since = search rules;
  later = search rules;
  entries = serves_admitted _ _ _ _ _ _ _ _ _ _
      (asks c.args.settings.now c.classify-class.result
      (class_by c.args.settings.now c.args.request.now)
      c.deadline.result _ c.look-now.result _ _ g.P.GatePort.facts c.admit.result _
      c.deadline.ensures c.in-Admitted.is c.classify-class.ensures c.admit.ensures.entries)
      (search rules)
      c.outcome.ensures
      c.end-receipt.ensures.entries;
  logged = logs_admitted _ _ _ _ _ _ _ _ _ _ _
      (asks_in c.args.settings.now c.classify-class.result
      (class_by c.args.settings.now c.args.request.now)
      c.deadline.result _ c.look-now.result _ _ g.P.GatePort.facts c.admit.result _
      c.deadline.ensures c.in-Admitted.is c.classify-class.ensures c.admit.ensures.log)
      (search rules)
      c.outcome.ensures
      c.end-receipt.ensures.log;
}

pub returns-in-Bypassed : goal.returns-in-Bypassed
returns-in-Bypassed g c = record {
  class_is = search rules;
  counted = search rules;
  answered = refl;
  asked = search rules;
  forwarded = search rules;
  now = c.look-now.result;
  end = c.look-now.result;
  looked = search rules;
  since = search rules;
  later = search rules;
  entries = serves_bypassed _ _ _ _ _ _
      (asks c.args.settings.now c.classify-class.result
      (class_by c.args.settings.now c.args.request.now)
      c.deadline.result _ c.look-now.result _ _ g.P.GatePort.facts c.admit.result _
      c.deadline.ensures c.in-Bypassed.is c.classify-class.ensures c.admit.ensures.entries);
  logged = logs_bypassed _ _ _ _ _ _ _
      (asks_in c.args.settings.now c.classify-class.result
      (class_by c.args.settings.now c.args.request.now)
      c.deadline.result _ c.look-now.result _ _ g.P.GatePort.facts c.admit.result _
      c.deadline.ensures c.in-Bypassed.is c.classify-class.ensures c.admit.ensures.log);
}

pub returns-in-Refused : goal.returns-in-Refused
returns-in-Refused g c = record {
  class_is = search rules;
  counted = search rules;
  answered = refl;
  asked = search rules;
  forwarded = search rules;
  now = c.look-now.result;
  end = c.look-now.result;
  looked = search rules;
  since = search rules;
  later = search rules;
  entries = serves_refused _ _ _ _ _ _
      (asks c.args.settings.now c.classify-class.result
      (class_by c.args.settings.now c.args.request.now)
      c.deadline.result _ c.look-now.result _ _ g.P.GatePort.facts c.admit.result _
      c.deadline.ensures c.in-Refused.is c.classify-class.ensures c.admit.ensures.entries);
  logged = logs_refused _ _ _ _ _ _ _
      (asks_in c.args.settings.now c.classify-class.result
      (class_by c.args.settings.now c.args.request.now)
      c.deadline.result _ c.look-now.result _ _ g.P.GatePort.facts c.admit.result _
      c.deadline.ensures c.in-Refused.is c.classify-class.ensures c.admit.ensures.log)
      (refused_late c.deadline.result _ _ _ c.admit.result c.deadline.ensures c.in-Refused.is
      c.admit.ensures.late);
}
