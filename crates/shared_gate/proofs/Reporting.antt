-- The report of the state of a gate.
use Rattle.std.proofs.Common.{◌≡◌, ◌∙◌, refl, ap, ap₂, subst, ℕ, List}
use Rattle.limit_laws.specs.Algorithm.{Algorithm}
use Rattle.partitions.specs.Table.{Row}
use Rattle.limiter_core.specs.declared.promote.Promote.{Promote}
use Rattle.limiter_core.specs.declared.event.Entry.{Entry}
use Rattle.limiter_core.specs.History.{Gate, image_after}
use Rattle.limiter_core.specs.Bound.{IsSound}
use Rattle.limiter_core.specs.Counting.{counters_after}
use Rattle.limiter_core.specs.declared.counters.Counters.{Counters}
use Rattle.limiter_core.specs.Legal.{IsLegal}
use Rattle.limiter_core.specs.Limiter.{Limiter, gate_of, stands}
use Rattle.gate_journal.specs.Image.{image_of}
use Rattle.gate_journal.specs.Journal.{gate, image}
use Rattle.gate_ledgers.specs.Making.{Making}
use Rattle.gate_history.specs.Book.{Book, IsMadeAs}
use Rattle.gate_port.specs.declared.report.Report.{Report}
use Rattle.gate_port.specs.Report.{report_in}
use Rattle.shared_gate.specs.Closing.{limiter_of}
use Rattle.shared_gate.specs.Log.{IsBehind}
use Rattle.shared_gate.specs.Reported.{IsReportAfter}

abbrev gate_with : {S : Type 0} → Algorithm S → List Row → ℕ → Promote → Gate S
gate_with rules rows room promote =
    record { rules = rules; rows = rows; room = room; promote = promote }

same_gate : {S : Type 0} (rules : Algorithm S) {rows rows' : List Row} {room room' : ℕ}
    {promote promote' : Promote} → rows ≡ rows' → room ≡ room' → promote ≡ promote'
    → gate_with rules rows room promote ≡ gate_with rules rows' room' promote'
same_gate rules a b c = rw (a, b, c) refl

-- the state of the limiter of a sound journal that was made so, and what it has counted
pub reported : {S : Type 0} (rules : Algorithm S) (m : Making) (legal : List Entry → Type 0)
    (log : List Entry) (b : Book S) (c : Limiter S) (report : Report)
    → IsBehind rules m.limit legal log b
    → IsMadeAs m b.journal
    → c.rows ≡ b.journal.rows → c.room ≡ b.journal.room → c.promote ≡ b.journal.promote
    → stands c ≡ image rules b.journal
    → c.counters ≡ counters_after b.journal.opening.counters b.journal.entries
    → IsSound (gate rules b.journal) (image rules b.journal)
    → report ≡ report_in (gate_of rules c) (stands c) c.counters
    → IsReportAfter rules m log report
reported {S} rules m legal log b c report behind made own_rows own_room own_promote same counted
    sound is =
    let here : gate rules b.journal ≡ limiter_of rules m =
    same_gate rules made.rows made.room made.promote in
    let there : gate_of rules c ≡ limiter_of rules m =
    same_gate rules (own_rows ∙ made.rows) (own_room ∙ made.room) (own_promote ∙ made.promote) in
    let o = image_of behind.origin in
    let leads : image rules b.journal ≡ image_after (limiter_of rules m) o log =
    behind.stretch.leads ∙ ap (λ (g : Gate S). image_after g o log) here in record {
      origin = behind.origin;
      unasked = behind.unasked;
      legal = subst (λ (g : Gate S). IsLegal g o log) here behind.stretch.whole;
      sound =
          subst (IsSound (limiter_of rules m)) leads
          (subst (λ (g : Gate S). IsSound g (image rules b.journal)) here sound);
      told =
          is ∙ ap₂ (λ (g : Gate S) i. report_in g i c.counters) there (same ∙ leads)
          ∙ ap (report_in (limiter_of rules m) (image_after (limiter_of rules m) o log))
          (counted ∙ behind.counted
          ∙ ap (λ (first : Counters). counters_after first log) behind.unasked.uncounted);
    }
