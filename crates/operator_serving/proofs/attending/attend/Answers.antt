use Rattle.std.proofs.Common.{◌≡◌, ◌<◌, ◌⊎◌, ℕ, ap, is_ok, refl, subst, sym, true≢false, Err, Ok, Result}
use Rattle.counted_io.specs.Count.{count_end}
use Rattle.counted_io.specs.Counted.{failures_of}
use Rattle.message_parts.specs.declared.request.Request.{Request}
use Rattle.wire.specs.declared.fault.WireFault.{WireFault}
use Rattle.wire.specs.declared.fault.WireFault.TheVariants.{Write}
use Rattle.proxy.specs.Exchanges.{known, told_by}
use Rattle.operator_calls.specs.declared.call.Call.{Call}
use Rattle.operator_calls.specs.declared.refusal.Refusal.{Refusal}
use Rattle.operator_calls.specs.Calls.{call_of, heard}
use Rattle.operator_serving.specs.Attending.{IsAnswered}
use Rattle.operator_serving.specs.Memory.{refused_of}
use Rattle.operator_serving.proofs.Looks.{desk_stays}
use Rattle.operator_serving.proofs.attending.attend.Goals as goal

-- the fault of a result that has one
abbrev fault_in : Result Request WireFault → WireFault
fault_in (Ok request) = Write
fault_in (Err fault) = fault

pub returns-in-Err-clause-attended : goal.returns-in-Err-clause-attended
returns-in-Err-clause-attended g c = record {
  read = Err c.in-Err.fault;
  asked = told_by g.W.Write.contents c.request.new.writer;
  reading = record {
    bytes = c.in-Err.ensures.request;
    said = c.in-Err.ensures.said;
    failed = c.in-Err.ensures.read;
    used_up = c.in-Err.ensures.turns;
    front = c.in-Err.ensures.front;
    unsaid = λ same. subst (λ (n : ℕ). (failures_of c.args.writer.now < n) ⊎ (n ≡ count_end))
        (sym (ap failures_of (c.unread-answer.ensures.untouched (ap fault_in same))))
        (c.in-Err.ensures.write same);
    reads = c.in-Err.ensures.reads;
    unfailing = c.in-Err.ensures.reads_well;
  };
  deals = (
    refl,
    refl,
    c.in-Err.ensures.refused,
    c.unread-answer.ensures.answer,
    c.unread-answer.ensures.text,
  );
}

pub returns-clause-attended : goal.returns-clause-attended
returns-clause-attended g c = record {
  read = Ok c.in-Ok.request;
  asked = told_by g.W.Write.contents c.request.new.writer;
  reading = record {
    bytes = c.in-Ok.ensures.request;
    said = c.in-Ok.ensures.said;
    failed = c.in-Ok.ensures.read;
    used_up = c.in-Ok.ensures.turns;
    front = λ same. absurd (true≢false (ap is_ok same));
    unsaid = λ same. absurd (true≢false (ap is_ok same));
    reads = c.in-Ok.ensures.reads;
    unfailing = c.in-Ok.ensures.reads_well;
  };
  deals = (
    refl,
    c.answer-status.result.0,
    refl,
    c.has_left.result,
    c.has_left.ensures,
    subst (λ (refused : ℕ).
        IsAnswered g.D.Desk.rows g.D.Desk.shows g.D.Desk.does known c.args.page.now
        (heard c.has_left.result (call_of c.args.audience c.in-Ok.request))
        c.in-Ok.request.method c.args.desk.now c.answer-status.new.desk
        (told_by g.W.Write.contents c.request.new.writer)
        (told_by g.W.Write.contents c.answer-status.new.writer) refused
        (refused_of c.answer-status.new.memory) c.answer-status.result.0
        c.answer-status.result.1) c.in-Ok.ensures.unrefused
        (subst (λ (call : Result Call Refusal).
        IsAnswered g.D.Desk.rows g.D.Desk.shows g.D.Desk.does known c.args.page.now
        (heard c.has_left.result call) c.in-Ok.request.method c.args.desk.now
        c.answer-status.new.desk (told_by g.W.Write.contents c.request.new.writer)
        (told_by g.W.Write.contents c.answer-status.new.writer)
        (refused_of c.request.new.self) (refused_of c.answer-status.new.memory)
        c.answer-status.result.0
        c.answer-status.result.1) c.read_call.ensures.value
        (subst (λ (call : Result Call Refusal).
        IsAnswered g.D.Desk.rows g.D.Desk.shows g.D.Desk.does known c.args.page.now call
        c.in-Ok.request.method c.args.desk.now c.answer-status.new.desk
        (told_by g.W.Write.contents c.request.new.writer)
        (told_by g.W.Write.contents c.answer-status.new.writer)
        (refused_of c.request.new.self) (refused_of c.answer-status.new.memory)
        c.answer-status.result.0
        c.answer-status.result.1) c.heard-call.ensures c.answer-status.ensures.answered)),
  );
}

-- at an address for anyone a call only looks
pub returns-clause-looks : goal.returns-clause-looks
returns-clause-looks g c anyone =
    desk_stays g.D.Desk.rows g.D.Desk.shows g.D.Desk.does c.args.page.now c.args.desk.now
    c.answer-status.new.desk known c.in-Ok.request.method c.has_left.result c.read_call.result
    (told_by g.W.Write.contents c.request.new.writer)
    (told_by g.W.Write.contents c.answer-status.new.writer) (refused_of c.request.new.self)
    (refused_of c.answer-status.new.memory) c.answer-status.result.0
    c.answer-status.result.1 (c.read_call.ensures.looks anyone)
    (subst (λ (call : Result Call Refusal).
    IsAnswered g.D.Desk.rows g.D.Desk.shows g.D.Desk.does known c.args.page.now call
    c.in-Ok.request.method c.args.desk.now c.answer-status.new.desk
    (told_by g.W.Write.contents c.request.new.writer)
    (told_by g.W.Write.contents c.answer-status.new.writer) (refused_of c.request.new.self)
    (refused_of c.answer-status.new.memory) c.answer-status.result.0
    c.answer-status.result.1) c.heard-call.ensures c.answer-status.ensures.answered)

-- a write failed
pub returns-clause-broken : goal.returns-clause-broken
returns-clause-broken g c = λ unwritten.
    subst (λ (n : ℕ). (n < failures_of c.answer-status.new.writer)
    ⊎ (failures_of c.answer-status.new.writer ≡ count_end))
    (c.in-Ok.ensures.unfailing (λ same. true≢false (ap is_ok same)))
    (c.answer-status.ensures.broken unwritten)
