use Rattle.std.proofs.Common.{◌≡◌, ◌++◌, List, length, sym, ap, ◌∙◌, subst, string_bytes}
use Rattle.limiter_core.specs.declared.event.Entry.{Entry}
use Rattle.gate_journal.specs.Journal.{Journal}
use Rattle.load_driver.specs.declared.asked.SessionCall.{SessionCall}
use Rattle.load_driver.specs.Replay.{open_of, told_of, asked_text}
use Rattle.load_driver.specs.Session.{open_in}
use Rattle.load_driver.specs.Stretches.{StandsFor}
use Rattle.virtual_time.specs.Course.{asked_of, journal_with, reply_of}
use Rattle.virtual_time.proofs.Asking.{grown, same_asked}
use Rattle.virtual_time.proofs.course.carry_out.Goals as goal
use Rattle.virtual_time.proofs.course.carry_out.Given.{Over}

module _ (g : Over) (c : goal.In_ok-extend_from_slice g) (j : Journal g.row.L.Denot)
    (stands : StandsFor g.L.Limit.rules (journal_with j c.args.entries.now.items)
    c.args.session.now) where
  abbrev w : Journal g.row.L.Denot
  w = journal_with j c.args.entries.now.items

  abbrev asks : SessionCall
  asks = asked_of (open_of w) c.args.arrival.now c.args.action

  asked_now : c.asked_of-asked.result ≡ asks
  asked_now =
      c.asked_of-asked.ensures.asked
      ∙ same_asked (open_in c.args.session.now) (open_of w) stands.opens c.args.arrival.now
      c.args.action

  told_now : c.told-told.result.now ≡ told_of g.L.Limit.rules w c.asked_of-asked.result
  told_now = c.told-told.ensures ∙ c.in_ok-added.ensures.told w stands

  told_then : c.told-told.result.now ≡ told_of g.L.Limit.rules w asks
  told_then = told_now ∙ ap (told_of g.L.Limit.rules w) asked_now

  entries_then : c.extend_from_slice.new.self.items
      ≡ c.args.entries.now.items ++ told_of g.L.Limit.rules w asks
  entries_then =
      c.in_ok-extend_from_slice.ensures.items
      ∙ ap (λ (es : List Entry). c.args.entries.now.items ++ es) told_then

  text_then : string_bytes c.answer.new.text
      ≡ string_bytes c.args.text.now ++ asked_text g.L.Limit.rules w asks
  text_then =
      c.in_ok-added.ensures.text w stands
      ∙ ap (λ (a : SessionCall). string_bytes c.args.text.now
      ++ asked_text g.L.Limit.rules w a) asked_now

  stands_then : StandsFor g.L.Limit.rules (journal_with j c.extend_from_slice.new.self.items)
      c.answer.new.session
  stands_then =
      subst (λ (v : Journal g.row.L.Denot). StandsFor g.L.Limit.rules v c.answer.new.session)
      (grown g.L.Limit.rules w c.asked_of-asked.result
      ∙ ap (λ (a : SessionCall). journal_with j
      (c.args.entries.now.items ++ told_of g.L.Limit.rules w a)) asked_now
      ∙ ap (journal_with j) (sym entries_then))
      (c.in_ok-added.ensures.stands w stands)

  replied : c.reply_of-reply.result ≡ reply_of (told_of g.L.Limit.rules w asks)
  replied = c.reply_of-reply.ensures ∙ ap reply_of told_then

pub returns-clause-stands : goal.returns-clause-stands
returns-clause-stands g c = λ j stands. stands_then g c j stands

pub returns-clause-entries : goal.returns-clause-entries
returns-clause-entries g c = λ j stands. entries_then g c j stands

pub returns-clause-text : goal.returns-clause-text
returns-clause-text g c = λ j stands. text_then g c j stands

pub returns-clause-step : goal.returns-clause-step
returns-clause-step g c = λ j stands i. record {
  action = c.args.action;
  first = ap length c.as_slice-first.ensures.value i;
  reply = replied g c j stands i;
}
