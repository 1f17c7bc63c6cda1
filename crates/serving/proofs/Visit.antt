-- What a visit read.
use Rattle.std.proofs.Common.{◌≡◌, ◌∙◌, ℕ, Bool, true, List, [], ◌∷◌, Option, Some, None, ap, sym}
use Rattle.std.proofs.Common.{Result, Ok, Err, refl, subst, arith, ◌&&◌, is_none}
use Rattle.std.proofs.lemmas.Bool.{false≢true}
use Rattle.message_parts.specs.declared.request.Request.{Request}
use Rattle.message_reading.specs.Laws.{IsOne}
use Rattle.message_reading.specs.Reading.{Reading}
use Rattle.message_text.specs.declared.persistence.Persistence.{Persistence}
use Rattle.wire.specs.declared.answer.BackendAnswer.{BackendAnswer}
use Rattle.wire.specs.declared.fault.WireFault.{WireFault}
use Rattle.wire.specs.Fault.{Gives}
use Rattle.wire.specs.Messages.{IsRequest}
use Rattle.proxy.specs.Exchanges.{Bytes, Policy}
use Rattle.proxy.specs.Keeping.{Persists}
use Rattle.proxy.specs.Made.{is_all_sent, is_kept, keeps_if, summary_of}
use Rattle.serving.specs.Visit.{AreCut, CutsAreOne, Step, VisitsReadOnce}

-- whoever is kept sent a request, and what is left comes behind it
record IsReadOf (bytes : List ℕ) (left : Bytes) (read : Result Request WireFault) : Type 0 where
  request : Request
  mid : List ℕ
  read_is : read ≡ Ok request
  left_is : left ≡ Some mid
  cut : IsRequest bytes (Ok (request, mid))

read_of : (told : Option Bool) (drained later well : Bool) (answer : Option BackendAnswer)
    (persistence : Persistence) (read : Result Request WireFault) (left : Bytes) (bytes : List ℕ)
    → Persists told drained later read answer persistence → keeps_if persistence well ≡ true
    → Gives (λ (request : Request). request) IsRequest (Some bytes) left read
    → IsReadOf bytes left read
read_of told drained later well answer persistence (Err f) left bytes ends kept gives =
    absurd (false≢true (sym (ap (λ (p : Persistence). keeps_if p well) ends) ∙ kept))
read_of told drained later well answer persistence (Ok request) None bytes persists kept gives =
    absurd gives
read_of told drained later well answer persistence (Ok request) (Some mid) bytes persists kept
    gives =
    record { request = request; mid = mid; read_is = refl; left_is = refl; cut = gives }

-- an exchange behind which its client was kept
step_read : (p : Policy) (step : Step p) (bytes : List ℕ) → step.before.sent ≡ Some bytes
    → is_kept step.told ≡ true → IsReadOf bytes step.behind.sent step.served.exchanged.read
step_read p step bytes sent kept =
    let is = step.served in
    let x = summary_of step.told in
    subst (λ (left : Bytes). IsReadOf bytes left is.exchanged.read) (sym (is.unread kept))
    (read_of p.keeps x.is_drained step.before.is_kept
    (is_all_sent step.told && is_none x.written_fault) is.exchanged.answer x.persistence
    is.exchanged.read is.left bytes is.exchanged.persists kept
    (subst (λ (b : Bytes). Gives (λ (request : Request). request) IsRequest b is.left
    is.exchanged.read) sent is.exchanged.reading.bytes))

pub visits_read_once : VisitsReadOnce
visits_read_once p first last [] bytes same known = record {
  requests = [];
  rest = bytes;
  cut = refl;
  each = tt;
  left = same ∙ known;
}
visits_read_once p first last (step ∷ steps) bytes visit known =
    let one = step_read p step bytes (visit.0 ∙ known) visit.1 in
    let more = visits_read_once p step.behind last steps one.mid visit.2 one.left_is in
    record {
      requests = one.request ∷ more.requests;
      rest = more.rest;
      cut = (one.mid, one.cut, more.cut);
      each = (one.read_is, more.each);
      left = more.left;
    }

-- the value and the rest of a reading that has them
abbrev value_or : Request × List ℕ → Reading Request → Request × List ℕ
value_or other (Ok value) = value
value_or other (Err f) = other

pub cuts_are_one : IsOne IsRequest → CutsAreOne
cuts_are_one one bytes [] [] rest left is also many = (refl, is ∙ sym also)
cuts_are_one one bytes [] (q ∷ qs) rest left is also many = absurd (omega (arith, many))
cuts_are_one one bytes (r ∷ rs) [] rest left is also many = absurd (omega (arith, many))
cuts_are_one one bytes (r ∷ rs) (q ∷ qs) rest left is also many =
    let same : (r, is.0) ≡ (q, also.0) =
    ap (λ (reading : Reading Request). value_or (r, is.0) reading)
    (one bytes (Ok (r, is.0)) (Ok (q, also.0)) is.1 also.1) in
    let others = cuts_are_one one is.0 rs qs rest left is.2
    (subst (λ (mid : List ℕ). AreCut mid qs left) (sym (ap (λ (a : Request × List ℕ). a.1) same))
    also.2) (omega (arith, many)) in (
      ap (λ (a : Request × List ℕ). a.0 ∷ rs) same ∙ ap (λ (ts : List Request). q ∷ ts) others.0,
      others.1,
    )
