use Rattle.std.proofs.Common.{rules, ◌≡◌, ◌∙◌, ℕ, ◌<◌, ◌⊎◌, IfSome, List, Option, None, Some, Result, Ok, Err, ap, is_ok, take}
use Rattle.std.proofs.Common.{is_some, refl, subst, sym, true≢false, ⊎_elim}
use Rattle.std.specs.Io.KnownBytes.{Appends}
use Rattle.counted_io.specs.Count.{count_end}
use Rattle.counted_io.specs.Counted.{failures_of, inner_of}
use Rattle.message_parts.specs.declared.request.Request.{Request}
use Rattle.wire.specs.declared.fault.WireFault.{WireFault}
use Rattle.wire.specs.declared.fault.WireFault.TheVariants.{Write}
use Rattle.proxy.specs.Table.{reply_text}
use Rattle.proxy.specs.Table.{fault_status}
use Rattle.proxy.proofs.Unheld.{by_status, is_or_not}
use Rattle.proxy.proofs.exchanging.exchange.Goals as goal

-- the fault of a result that has one
abbrev fault_in : Result Request WireFault → WireFault
fault_in (Ok request) = Write
fault_in (Err fault) = fault

pub returns-in-Err-clause-exchanged : goal.returns-in-Err-clause-exchanged
returns-in-Err-clause-exchanged g c = record {
  read = Err c.in-Err.fault;
  asked = g.W.Write.contents (inner_of c.read_request.new.writer);
  answer = None;
  reading = record {
    bytes = c.in-Err.ensures.request;
    said = c.in-Err.ensures.said;
    failed = c.in-Err.ensures.read;
    used_up = c.in-Err.ensures.turns;
    front = c.in-Err.ensures.front;
    unsaid = λ same. subst (λ (n : ℕ). (failures_of c.args.writer.now < n) ⊎ (n ≡ count_end))
        (sym (ap failures_of (c.unread-told.ensures.untouched (ap fault_in same))))
        (c.in-Err.ensures.write same);
    reads = c.in-Err.ensures.reads;
    unfailing = c.in-Err.ensures.reads_well;
  };
  deals = (
    c.unread-told.ensures.class,
    c.unread-told.ensures.admission,
    c.unread-told.ensures.permit,
    refl,
    refl,
    refl,
    refl,
    refl,
    refl,
  );
  status = c.unread-told.ensures.answer;
  own = c.unread-told.ensures.own;
  empty = search rules;
  outcome = c.unread-told.ensures.outcome;
  persists = c.unread-told.ensures.persistence;
  text = c.unread-told.ensures.text;
  begun = c.unread-told.ensures.begun;
  unasked = λ same. c.unread-told.ensures.told (ap fault_in same);
}

pub returns-clause-exchanged : goal.returns-clause-exchanged
returns-clause-exchanged g c = record {
  read = Ok c.in-Ok.request;
  asked = g.W.Write.contents (inner_of c.read_request.new.writer);
  answer = c.settle-settled.result.answer;
  reading = record {
    bytes = c.in-Ok.ensures.request;
    said = c.in-Ok.ensures.said;
    failed = c.in-Ok.ensures.read;
    used_up = c.in-Ok.ensures.turns;
    front = λ same. absurd (true≢false (ap is_ok same));
    unsaid = λ same. absurd (true≢false (ap is_ok same));
    reads = c.in-Ok.ensures.reads;
    unfailing = c.in-Ok.ensures.reads_well;
  };
  deals = (
    ap Some c.settle-settled.ensures.class_is,
    record {
      class_is = refl;
      counted = c.settle-settled.ensures.counted;
      answered = c.settle-settled.ensures.answered;
      asked = c.settle-settled.ensures.asked;
      forwarded = c.settle-settled.ensures.forwarded;
      now = c.settle-settled.ensures.now;
      end = c.settle-settled.ensures.end;
      looked = c.settle-settled.ensures.looked;
      since = c.settle-settled.ensures.since;
      later = c.settle-settled.ensures.later;
      entries = c.settle-settled.ensures.entries;
      logged = c.settle-settled.ensures.logged;
    },
  );
  status = c.reply_status.ensures;
  own = c.is_own.ensures;
  empty = refl;
  outcome = c.outcome_at.ensures;
  persists = (
    c.may_keep-keeps.result,
    c.may_keep-keeps.ensures,
    c.persistence_behind-persistence.ensures,
  );
  text =
      subst (λ (mark : Option (List ℕ)). c.reply-written_fault.result ≡ None
      → Appends (g.W.Write.contents (inner_of c.read_request.new.writer))
      (g.W.Write.contents (inner_of c.reply-written_fault.new.writer))
      (reply_text c.args.policy.now.is_later c.persistence_behind-persistence.result mark
      c.in-Ok.request.method
      c.settle-settled.result.answer))
      c.reply_mark-mark.ensures c.reply-written_fault.ensures.all;
  begun =
      subst (λ (mark : Option (List ℕ)). IfSome c.reply-written_fault.result (λ f. (count : ℕ)
      × Appends (g.W.Write.contents (inner_of c.read_request.new.writer))
      (g.W.Write.contents (inner_of c.reply-written_fault.new.writer))
      (take count (reply_text c.args.policy.now.is_later c.persistence_behind-persistence.result
      mark c.in-Ok.request.method c.settle-settled.result.answer))))
      c.reply_mark-mark.ensures c.reply-written_fault.ensures.begun;
  unasked = λ same. absurd (true≢false (ap is_ok same));
}

pub returns-clause-written : goal.returns-clause-written
returns-clause-written g c =
    subst (λ (n : ℕ). IfSome c.reply-written_fault.result (λ (fault : WireFault).
    (fault ≡ Write) × ((n < failures_of c.reply-written_fault.new.writer)
    ⊎ (failures_of c.reply-written_fault.new.writer ≡ count_end))))
    (c.in-Ok.ensures.unfailing (λ same. true≢false (ap is_ok same)))
    c.reply-written_fault.ensures.failed

pub returns-in-Err-clause-unfailing : goal.returns-in-Err-clause-unfailing
returns-in-Err-clause-unfailing g c = λ none.
    c.unread-told.ensures.unfailing none ∙ c.in-Err.ensures.unfailing (λ same.
    true≢false (ap is_some (sym (c.unread-told.ensures.told (ap fault_in same)) ∙ none)))

pub returns-clause-unfailing : goal.returns-clause-unfailing
returns-clause-unfailing g c = λ none.
    c.reply-written_fault.ensures.unfailing none
    ∙ c.in-Ok.ensures.unfailing (λ same. true≢false (ap is_ok same))

pub returns-in-Err-clause-full : goal.returns-in-Err-clause-full
returns-in-Err-clause-full g c = λ changed.
    let told = c.unread-told.ensures in
    ⊎_elim (λ is. (told.admission, told.answer ∙ ap fault_status is))
    (λ other. absurd (changed (c.in-Err.ensures.accepted (λ same. other (ap fault_in same)))))
    (is_or_not c.in-Err.fault)

pub returns-in-Err-clause-refused : goal.returns-in-Err-clause-refused
returns-in-Err-clause-refused g c = λ unheld.
    c.in-Err.ensures.bodies
    (ap Err (by_status c.in-Err.fault (sym c.unread-told.ensures.answer ∙ unheld.1)))

pub returns-clause-full : goal.returns-clause-full
returns-clause-full g c = λ changed.
    absurd (changed (c.in-Ok.ensures.accepted (λ same. true≢false (ap is_ok same))))

pub returns-clause-refused : goal.returns-clause-refused
returns-clause-refused g c = λ unheld. absurd (c.settle-settled.ensures.asked unheld.0)
