-- The text of a last stretch is that of the whole history.
use Rattle.std.proofs.Common.{◌≡◌, ℕ, ◌+◌, Bool, true, false, not, ◌&&◌, ◌||◌, cond, leb, ◌^◌}
use Rattle.std.proofs.Common.{List, [], ◌∷◌, ◌++◌, length, Option, None, Some, Ok, Err}
use Rattle.std.proofs.Common.{IfOk, ok_or, codes, refl, sym, ap, ◌∙◌, subst, append-nil}
use Rattle.std.proofs.Common.{length-append}
use Rattle.limit_laws.specs.Algorithm.{Algorithm, IsLawful}
use Rattle.partitions.specs.declared.part.Part.{Part}
use Rattle.partitions.specs.Table.{Row}
use Rattle.limiter_core.specs.declared.event.PermitFacts.{PermitFacts}
use Rattle.limiter_core.specs.declared.event.Outcome.{Outcome}
use Rattle.limiter_core.specs.declared.event.Event.{Event}
use Rattle.limiter_core.specs.declared.event.Event.TheVariants as event
use Rattle.limiter_core.specs.declared.event.Entry.{Entry}
use Rattle.limiter_core.specs.History.{Gate, Image}
use Rattle.limiter_core.specs.Answer.{answer}
use Rattle.limiter_core.specs.Legal.{MayCome}
use Rattle.limiter_core.specs.Bound.{is_always_served, is_exhausted}
use Rattle.limiter_core.specs.Open.{open_permit}
use Rattle.limiter_core.specs.Handed.{IsHanded, NamesOpen}
use Rattle.limiter_core.specs.Laws.{MayEndOpen, AnswersHanded, OpensByItsCall, StaysSound}
use Rattle.gate_journal.specs.Image.{Standing, image_of}
use Rattle.gate_journal.specs.Journal.{Journal, gate, image, next_number, is_over, answered}
use Rattle.gate_journal.specs.Rolling.{StretchesJoin, continued, after, rolls, standing}
use Rattle.script.specs.declared.fault_kind.FaultKind.TheVariants.{Class}
use Rattle.script.specs.declared.line.Line.TheVariants as line
use Rattle.script.specs.declared.request.Request.{Request}
use Rattle.script.specs.declared.request.Request.TheVariants as request
use Rattle.script.specs.Words.{words, result_map}
use Rattle.script.specs.Classes.{part_of}
use Rattle.script.specs.Line.{Said, line_of}
use Rattle.load_driver.specs.declared.asked.SessionCall.TheVariants as asked
use Rattle.load_driver.specs.Replay.{Asks, Open, ending_of, request_asks}
use Rattle.load_driver.specs.Replay.{line_asks, IfEvent, after_asked, asked_text, by_asks}
use Rattle.load_driver.specs.Replay.{after_text, entries_text, lines_text}
use Rattle.load_driver.specs.Stretches.{Holds, opened_by, open_then, stretch_after, open_asked}
use Rattle.load_driver.specs.Stretches.{stretch_text}
use Rattle.load_driver.proofs.Named.{open_own}

-- what a line asks names an open permit where it is an ending
module _ {S : Type 0} (o : Image S) (t : List Entry) (rows : List Row) where
  abbrev Named : Asks → Type 0
  Named asks = IfOk asks (λ a. IfEvent a (NamesOpen o t))

  named_ending : (number : ℕ) (found : Option PermitFacts) (outcome : Outcome) (now : ℕ)
      → open_permit o.next t number ≡ found
      → IfEvent (ending_of found outcome now) (NamesOpen o t)
  named_ending number None outcome now is = tt
  named_ending number (Some permit) outcome now is = open_own o.next t number permit is

  named_about : (found : Option Part) (make : Part → Event)
      → ((part : Part) → NamesOpen o t (make part))
      → Named (result_map (λ part. asked.Event (make part)) (ok_or found Class))
  named_about None make names = tt
  named_about (Some part) make names = names part

  named_request : (r : Request (List ℕ)) → Named (request_asks rows (open_permit o.next t) r)
  named_request (request.Acquire class wait now) =
      named_about (part_of rows class) (λ part. event.Acquire part false wait now) (λ part. tt)
  named_request (request.Bypass now) = tt
  named_request (request.End number outcome now) =
      named_ending number (open_permit o.next t number) outcome now refl
  named_request (request.Claim number) = tt
  named_request (request.GiveUp number) = tt
  named_request (request.SetLimit n now) = tt
  named_request (request.Reset now) = tt
  named_request (request.Look class) =
      named_about (part_of rows class) event.Look (λ part. tt)

  named_line : (said : Said) → Named (line_asks rows (open_permit o.next t) said)
  named_line (Ok None) = tt
  named_line (Ok (Some (line.Setting setting))) = tt
  named_line (Ok (Some (line.Request r))) = named_request r
  named_line (Err why) = tt

-- whether an event is exhausted doesn't depend on what a rolling history holds
over : (a r f h n : Bool) → (r ≡ false → f ≡ h)
    → (not a && ((not r && f) || n)) ≡ (not a && ((not r && h) || n))
over a true f h n same = refl
over a false f h n same = ap (λ (b : Bool). not a && (b || n)) (same refl)

module _ {S : Type 0} (rules : Algorithm S) (lawful : IsLawful rules)
    (join : StretchesJoin rules) (ends : (g : Gate S) → MayEndOpen g)
    (hand : (g : Gate S) → AnswersHanded g) (opens : (g : Gate S) → OpensByItsCall g)
    (stays : (g : Gate S) → StaysSound g) where
  -- the whole history, as a journal that never rolled
  abbrev pub whole : Standing S → List Entry → Journal S → Journal S
  whole o t j = record j { opening = o; entries = t }

  abbrev grown : Journal S → Event → Bool → List Entry
  grown j e b =
      cond b [] j.entries ++ answer (gate rules j) (image_of (cond b (standing rules j) j.opening))
      (cond b [] j.entries) e

  -- j's own opening and entries where it doesn't roll, so that they grow alike
  continued_short : (o : Standing S) (t : List Entry) (j : Journal S) (e : Event)
      → Holds rules o t j → j.is_rolling ≡ false
      → length (t ++ answered rules j e) ≡ length (continued rules j e).entries
  continued_short o t j e holds still =
      let more : List Entry = answered rules j e in
      let early : rolls j ≡ false = ap (λ (b : Bool). b && leb j.kept (length j.entries)) still in
      length-append t more ∙ (λ k. holds.short still k + length more)
      ∙ sym (length-append j.entries more) ∙ (λ k. length (grown j e (sym early k)))

  -- what is left of the text is the same after each last stretch
  abbrev Left : Standing S → ℕ → List (List ℕ) → Type 0
  Left o n rest = (u : List Entry) (l : Journal S) → Holds rules o u l
      → stretch_text rules l (open_permit o.next u) n rest
      ≡ lines_text rules (whole o u l) n rest

  module _ (o : Standing S) (t : List Entry) (j : Journal S) (holds : Holds rules o t j)
      (e : Event) (named : NamesOpen (image_of o) t e) where
    abbrev g : Gate S
    g = gate rules j

    may : MayCome g (image rules j) e
    may =
        subst (λ (i : Image S). MayCome g i e) (sym holds.stretch.leads)
        (ends g (image_of o) t e holds.handed named)

    pub same_over : is_over rules j e ≡ is_over rules (whole o t j) e
    same_over =
        over (is_always_served (image rules j) e) j.is_rolling
        (leb j.kept (length j.entries)) (leb j.kept (length t)) (leb (2 ^ 62) (image rules j).next)
        (λ is. ap (leb j.kept) (sym (holds.short is)))
        ∙ ap (λ (i : Image S). is_exhausted j.kept j.is_rolling i (length t) e)
        holds.stretch.leads

    pub same_told : answered rules j e ≡ answered rules (whole o t j) e
    same_told = (join (image_of o) t j e holds.stretch may).0

    same_number : next_number j ≡ next_number (whole o t j)
    same_number = ap (λ (i : Image S). i.next) holds.stretch.leads

    pub same_text : asked_text rules j (asked.Event e)
        ≡ asked_text rules (whole o t j) (asked.Event e)
    same_text = λ k.
        cond (same_over k) (codes "- exhausted\n")
        (entries_text j.rows (same_number k) (same_told k))

    -- the open permits of the whole history, one answer later
    pub same_open : opened_by (open_permit o.next t) (next_number j) (answered rules j e)
        ≡ open_permit o.next (t ++ answered rules j e)
    same_open =
        (λ k. opened_by (open_permit o.next t) (same_number k) (same_told k))
        ∙ (λ k n. sym (opens g (image_of o) t e _ _ holds.handed refl n) k)
        ∙ (λ k. open_permit o.next (t ++ sym same_told k))

    pub goes : Holds rules o (t ++ answered rules j e) (continued rules j e)
    goes = record {
      stretch = (join (image_of o) t j e holds.stretch may).1;
      handed = subst (λ (es : List Entry). IsHanded g (image_of o) (t ++ es)) (sym same_told)
          (hand g (image_of o) t e holds.stretch.whole
          (stays g (image_of o) t lawful holds.sound holds.stretch.whole) holds.handed named);
      sound = holds.sound;
      short = continued_short o t j e holds;
    }

    left : (n : ℕ) (rest : List (List ℕ)) → Left o n rest
        → stretch_text rules (after rules j e) (open_then rules j (open_permit o.next t) e) n rest
        ≡ lines_text rules (after_asked rules (whole o t j) (asked.Event e)) n rest
    left n rest same =
        go (is_over rules j e)
        ∙ (λ k. lines_text rules (whole o (t ++ cond (same_over k) [] (same_told k)) j) n rest)
      where
        go : (b : Bool)
            → stretch_text rules (cond b j (continued rules j e))
            (cond b (open_permit o.next t)
            (opened_by (open_permit o.next t) (next_number j) (answered rules j e))) n rest
            ≡ lines_text rules (whole o (t ++ cond b [] (answered rules j e)) j) n rest
        go true =
            same t j holds
            ∙ (λ k. lines_text rules (whole o (sym (append-nil t) k) j) n rest)
        go false =
            (λ k. stretch_text rules (continued rules j e) (same_open k) n rest)
            ∙ same (t ++ answered rules j e) (continued rules j e) goes

  -- THE TEXT of a last stretch is that of the whole history
  same_lines : (ls : List (List ℕ)) (n : ℕ) (o : Standing S) (t : List Entry) (j : Journal S)
      → Holds rules o t j
      → stretch_text rules j (open_permit o.next t) n ls ≡ lines_text rules (whole o t j) n ls
  same_lines [] n o t j holds = refl
  same_lines (line ∷ rest) n o t j holds =
      go (λ u l. same_lines rest (n + 1) o u l)
      (line_asks j.rows (open_permit o.next t) (line_of (words line)))
      (named_line (image_of o) t j.rows (line_of (words line)))
    where
      go : Left o (n + 1) rest → (a : Asks) → Named (image_of o) t j.rows a
          → by_asks rules j n a (λ b. stretch_text rules (stretch_after rules j b)
          (open_asked rules j (open_permit o.next t) b) (n + 1) rest)
          ≡ by_asks rules (whole o t j) n a
          (λ b. lines_text rules (after_asked rules (whole o t j) b) (n + 1) rest)
      go same (Err why) named = refl
      go same (Ok asked.Nothing) named = ap (after_text []) (same t j holds)
      go same (Ok asked.NotOpen) named = ap (after_text (codes "- not open\n")) (same t j holds)
      go same (Ok (asked.Event e)) named = λ k.
          after_text (same_text o t j holds e named k)
          (left o t j holds e named (n + 1) rest same k)

  -- from its first line on
  pub text_of_all : (j : Journal S) (ls : List (List ℕ)) (n : ℕ) (by_number : Open)
      → Holds rules j.opening [] j → j.entries ≡ [] → by_number ≡ open_permit j.opening.next []
      → stretch_text rules j by_number n ls ≡ lines_text rules j n ls
  text_of_all j ls n by_number holds none same =
      (λ k. stretch_text rules j (same k) n ls) ∙ same_lines ls n j.opening [] j holds
      ∙ (λ k. lines_text rules (record j { entries = sym none k }) n ls)
