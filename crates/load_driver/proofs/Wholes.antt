-- What a session answers is what the whole history answers for which it stands.
use Rattle.std.proofs.Common.{◌≡◌, ℕ, Bool, true, false, cond, List, [], ◌++◌, refl, sym, ap, ◌∙◌}
use Rattle.std.proofs.Common.{subst, append-nil}
use Rattle.limit_laws.specs.Algorithm.{Algorithm, IsLawful}
use Rattle.limiter_core.specs.declared.event.Event.{Event}
use Rattle.limiter_core.specs.declared.event.Entry.{Entry}
use Rattle.limiter_core.specs.History.{Gate}
use Rattle.limiter_core.specs.Open.{open_permit}
use Rattle.limiter_core.specs.Handed.{NamesOpen}
use Rattle.limiter_core.specs.Laws.{MayEndOpen, AnswersHanded, OpensByItsCall, StaysSound}
use Rattle.gate_journal.specs.Image.{image_of}
use Rattle.gate_journal.specs.Journal.{Journal, next_number, is_over, answered}
use Rattle.gate_journal.specs.Rolling.{StretchesJoin, continued}
use Rattle.load_driver.specs.declared.asked.SessionCall.{SessionCall}
use Rattle.load_driver.specs.declared.asked.SessionCall.TheVariants as asked
use Rattle.load_driver.specs.Replay.{IfEvent, after_asked, told_of, asked_text}
use Rattle.load_driver.specs.Session.{Session, open_in}
use Rattle.load_driver.specs.Stretches.{Holds, StandsFor, IsOpen, opened_by, stretch_after}
use Rattle.load_driver.specs.Stretches.{open_asked}
use Rattle.load_driver.proofs.Sessions.{names_open}
use Rattle.load_driver.proofs.Stretches.{whole, same_over, same_told, same_text, same_open, goes}

module _ {S : Type 0} (rules : Algorithm S) (lawful : IsLawful rules)
    (join : StretchesJoin rules) (ends : (g : Gate S) → MayEndOpen g)
    (hand : (g : Gate S) → AnswersHanded g) (opens : (g : Gate S) → OpensByItsCall g)
    (stays : (g : Gate S) → StaysSound g)
    (w : Journal S) (s : Session S) (stands : StandsFor rules w s) where
  abbrev j : Journal S
  j = s.journal

  named : (e : Event) → IsOpen (open_in s) e → NamesOpen (image_of w.opening) w.entries e
  named e is = names_open (image_of w.opening) w.entries (open_in s) stands.opens e is

  -- by the whole history as the stretch has it
  module _ (e : Event) (is : IsOpen (open_in s) e) where
    over_now : is_over rules j e
        ≡ is_over rules (whole rules lawful join ends hand opens stays w.opening w.entries j) e
    over_now =
        same_over rules lawful join ends hand opens stays w.opening w.entries j stands.holds e
        (named e is)

    told_now : answered rules j e
        ≡ answered rules (whole rules lawful join ends hand opens stays w.opening w.entries j) e
    told_now =
        same_told rules lawful join ends hand opens stays w.opening w.entries j stands.holds e
        (named e is)

    event_told : told_of rules j (asked.Event e) ≡ told_of rules w (asked.Event e)
    event_told =
        (λ k. cond (over_now k) [] (told_now k))
        ∙ ap (λ (v : Journal S). told_of rules v (asked.Event e)) (sym stands.same)

    event_text : asked_text rules j (asked.Event e) ≡ asked_text rules w (asked.Event e)
    event_text =
        same_text rules lawful join ends hand opens stays w.opening w.entries j stands.holds e
        (named e is)
        ∙ ap (λ (v : Journal S). asked_text rules v (asked.Event e)) (sym stands.same)

    more : Bool → List Entry
    more b = w.entries ++ cond b [] (answered rules j e)

    -- whether it is exhausted or not
    holds_then : (b : Bool)
        → Holds rules w.opening (w.entries ++ cond b [] (answered rules j e))
        (cond b j (continued rules j e))
    holds_then true =
        subst (λ (es : List Entry). Holds rules w.opening es j) (sym (append-nil w.entries))
        stands.holds
    holds_then false =
        goes rules lawful join ends hand opens stays w.opening w.entries j stands.holds e
        (named e is)

    opens_then : (b : Bool) (n : ℕ)
        → cond b (open_in s) (opened_by (open_in s) (next_number j) (answered rules j e)) n
        ≡ open_permit w.opening.next (w.entries ++ cond b [] (answered rules j e)) n
    opens_then true n =
        stands.opens n
        ∙ ap (λ (es : List Entry). open_permit w.opening.next es n) (sym (append-nil w.entries))
    opens_then false n =
        (λ k. opened_by (λ q. stands.opens q k) (next_number j) (answered rules j e) n)
        ∙ (λ k. same_open rules lawful join ends hand opens stays w.opening w.entries j
        stands.holds e
        (named e is) k n)

    same_then : (b : Bool) (es : List Entry)
        → record j { opening = w.opening; entries = es }
        ≡ record (cond b j (continued rules j e)) { opening = w.opening; entries = es }
    same_then true es = refl
    same_then false es = refl

    event_stands : (after : Session S) → after.journal ≡ stretch_after rules j (asked.Event e)
        → open_in after ≡ open_asked rules j (open_in s) (asked.Event e)
        → StandsFor rules (after_asked rules w (asked.Event e)) after
    event_stands after moved opened =
        let b : Bool = is_over rules j e in
        let es : List Entry = w.entries ++ told_of rules j (asked.Event e) in
        let path : es ≡ w.entries ++ told_of rules w (asked.Event e) =
        ap (λ (more : List Entry). w.entries ++ more) event_told in
        let there : StandsFor rules (record w { entries = es }) after = record {
          holds = subst (λ (v : Journal S). Holds rules w.opening es v) (sym moved) (holds_then b);
          opens = λ n. (λ k. opened k n) ∙ opens_then b n;
          same = (λ k. record (stands.same k) { entries = es }) ∙ same_then b es
              ∙ (λ k. record (sym moved k) { opening = w.opening; entries = es });
        } in
        subst (λ (es : List Entry). StandsFor rules (record w { entries = es }) after) path there

  pub same_answer : (a : SessionCall) → IfEvent a (IsOpen (open_in s))
      → told_of rules j a ≡ told_of rules w a
  same_answer asked.Nothing is = refl
  same_answer asked.NotOpen is = refl
  same_answer (asked.Event e) is = event_told e is

  pub same_lines_then : (a : SessionCall) → IfEvent a (IsOpen (open_in s))
      → asked_text rules j a ≡ asked_text rules w a
  same_lines_then asked.Nothing is = refl
  same_lines_then asked.NotOpen is = refl
  same_lines_then (asked.Event e) is = event_text e is

  still : (after : Session S) → after.journal ≡ j → open_in after ≡ open_in s
      → StandsFor rules w after
  still after same opened = record {
    holds = subst (λ (v : Journal S). Holds rules w.opening w.entries v) (sym same) stands.holds;
    opens = λ n. (λ k. opened k n) ∙ stands.opens n;
    same = stands.same
        ∙ (λ k. record (sym same k) { opening = w.opening; entries = w.entries });
  }

  pub stands_then : (a : SessionCall) → IfEvent a (IsOpen (open_in s))
      → (after : Session S) → after.journal ≡ stretch_after rules j a
      → open_in after ≡ open_asked rules j (open_in s) a
      → StandsFor rules (after_asked rules w a) after
  stands_then asked.Nothing is after moved opened = still after moved opened
  stands_then asked.NotOpen is after moved opened = still after moved opened
  stands_then (asked.Event e) is after moved opened = event_stands e is after moved opened
