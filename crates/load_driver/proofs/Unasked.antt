-- A session in which nothing was asked yet, and the text of its lines.
use Rattle.std.proofs.Common.{◌≡◌, ℕ, zero, suc, List, [], ◌∷◌, length}
use Rattle.std.proofs.Common.{slice_index, nat_eq, refl, sym, ap, ◌∙◌, subst}
use Rattle.std.specs.Map.{lookup}
use Rattle.limit_laws.specs.Algorithm.{Algorithm, IsLawful}
use Rattle.limiter_core.specs.declared.event.PermitFacts.{PermitFacts}
use Rattle.limiter_core.specs.declared.event.Entry.{Entry}
use Rattle.limiter_core.specs.History.{Gate, Image, image_after, empty_image}
use Rattle.limiter_core.specs.Bound.{IsSound}
use Rattle.limiter_core.specs.Legal.{IsLegal, nothing}
use Rattle.limiter_core.specs.Handed.{IsHanded}
use Rattle.limiter_core.specs.Laws.{MayEndOpen, BeginsHanded, AnswersHanded, OpensByItsCall}
use Rattle.limiter_core.specs.Laws.{StaysSound}
use Rattle.gate_journal.specs.declared.settings.GateSettings.{GateSettings}
use Rattle.gate_journal.specs.Journal.{Journal, gate, opening}
use Rattle.gate_journal.specs.Rolling.{IsLastStretch, StretchesJoin}
use Rattle.gate_journal.specs.Settings.{begun}
use Rattle.load_driver.specs.Replay.{lines_text}
use Rattle.limiter_core.specs.Open.{open_permit}
use Rattle.load_driver.specs.Session.{open_in, Session, Permits, IsSession, IsUnasked}
use Rattle.load_driver.specs.Stretches.{Holds, StandsFor, stretch_text}
use Rattle.load_driver.proofs.Stretches.{text_of_all}

zeros : (p : ℕ) → slice_index (0 ∷ 0 ∷ 0 ∷ 0 ∷ 0 ∷ []) p ≡ 0
zeros zero = refl
zeros (suc zero) = refl
zeros (suc (suc zero)) = refl
zeros (suc (suc (suc zero))) = refl
zeros (suc (suc (suc (suc zero)))) = refl
zeros (suc (suc (suc (suc (suc p))))) = refl

-- a journal that was just begun
pub opens_unasked : {S : Type 0} (settings : GateSettings S) (j : Journal S) → j ≡ begun settings
    → IsUnasked j
opens_unasked {S} settings j is =
    let there : IsUnasked (begun settings) = record {
      empty = refl;
      base = refl;
      idle = refl;
      nobody_waits = refl;
      none_granted = refl;
    } in
    subst (λ (w : Journal S). IsUnasked w) (sym is) there

module _ {S : Type 0} (rules : Algorithm S) (j : Journal S) (fresh : IsUnasked j)
    (sound : IsSound (gate rules j) (opening j)) (hands : (g : Gate S) → BeginsHanded g) where
  nothing_stands : empty_image j.opening.state ≡ opening j
  nothing_stands =
      λ k. record {
        state = j.opening.state;
        inflight = λ p. (sym (zeros p) ∙ (λ i. slice_index (sym fresh.idle i) p)) k;
        waiters = sym fresh.nobody_waits k;
        granted = sym fresh.none_granted k;
        next = sym fresh.base k;
      }

  handed_now : IsHanded (gate rules j) (opening j) []
  handed_now =
      subst (λ (i : Image S). IsHanded (gate rules j) i []) nothing_stands
      (hands (gate rules j) j.opening.state)

  stretch_now : IsLastStretch rules (opening j) [] j
  stretch_now = record {
    four = sound.four;
    five = ap length fresh.idle;
    whole = nothing;
    own = subst (λ (es : List Entry). IsLegal (gate rules j) (opening j) es) (sym fresh.empty)
        nothing;
    leads = λ k. image_after (gate rules j) (opening j) (fresh.empty k);
  }

  holds_now : Holds rules j.opening [] j
  holds_now = record {
    stretch = stretch_now;
    handed = handed_now;
    sound = sound;
    short = λ still. ap length (sym fresh.empty);
  }

  -- a session begins so
  pub begins : (permits : Permits) → permits.entries ≡ [] → IsSession rules j permits
  begins permits closed = record {
    first = opening j;
    all = [];
    stretch = stretch_now;
    handed = handed_now;
    found = λ n. ap (λ (es : List (ℕ × PermitFacts)). lookup (λ m. nat_eq n m) es) closed;
  }

  -- and is that of its own journal
  pub stands_now : (s : Session S) → s.journal ≡ j → s.permits ≡ [] → StandsFor rules j s
  stands_now s same closed =
      let holds : Holds rules j.opening j.entries j =
      subst (λ (es : List Entry). Holds rules j.opening es j) (sym fresh.empty) holds_now in
      let opens : (n : ℕ) → open_in s n ≡ open_permit j.opening.next j.entries n = λ n.
      ap (λ (es : List (ℕ × PermitFacts)). lookup (λ m. nat_eq n m) es) closed
      ∙ ap (λ (es : List Entry). open_permit j.opening.next es n) (sym fresh.empty) in
      record {
        holds = subst (λ (w : Journal S). Holds rules j.opening j.entries w) (sym same) holds;
        opens = opens;
        same = λ k. record (sym same k) { opening = j.opening; entries = j.entries };
      }

  -- its text is that of the whole history
  pub text_now : IsLawful rules → StretchesJoin rules → ((g : Gate S) → MayEndOpen g)
      → ((g : Gate S) → AnswersHanded g) → ((g : Gate S) → OpensByItsCall g)
      → ((g : Gate S) → StaysSound g)
      → (permits : List (ℕ × PermitFacts)) → permits ≡ [] → (n : ℕ) (ls : List (List ℕ))
      → stretch_text rules j (λ number. lookup (λ m. nat_eq number m) permits) n ls
      ≡ lines_text rules j n ls
  text_now lawful join ends hand opens stays permits closed n ls =
      text_of_all rules lawful join ends hand opens stays j ls n
      (λ number. lookup (λ m. nat_eq number m) permits) holds_now fresh.empty
      (λ k number. lookup (λ m. nat_eq number m) (closed k))
