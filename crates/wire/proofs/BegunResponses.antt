-- A response: its head and its lengths, and then its body.
use Rattle.std.proofs.Common.{rules, ◌≡◌, ◌∙◌, ap, sym, subst, refl, ℕ, List}
use Rattle.std.specs.Prelude.{Option, Some, None, Result, Ok, Err, IfSome}
use Rattle.message_reading.specs.declared.fault.Fault.{Fault}
use Rattle.message_reading.specs.declared.fault.MessageFault.{MessageFault}
use Rattle.message_reading.specs.declared.fault.MessageFault.TheVariants.{Bytes}
use Rattle.message_reading.specs.Reading.{By, Reading, Then, checked}
use Rattle.message_reading.specs.Reading as bytes
use Rattle.message_reading.specs.declared.response_head.ResponseHead.{ResponseHead}
use Rattle.message_reading.specs.declared.framing.Framing.{Framing}
use Rattle.message_reading.specs.Framing.{response_framing, response_framing_within}
use Rattle.message_reading.specs.Heads.{IsFinalHead}
use Rattle.message_reading.specs.Body.{IsWithBody}
use Rattle.message_fields.specs.Lengths.{most_body}
use Rattle.wire.specs.declared.fault.WireFault.{WireFault}
use Rattle.wire.specs.Fault.{Gives, bytes_fault, of_bytes, of_read}
use Rattle.wire.specs.Messages.{IsBegun, IsFinish, IsResponse, begun_by, begun_of, response_of}
use Rattle.wire.specs.Response.{BegunValue, ResponseValue, finished}
use Rattle.wire.proofs.MessagePhases.{GivesBody, body_cut, body_made, tells_err, tells_ok, then_fault, then_next}

abbrev GivesFinal : Option (List ℕ) → Option (List ℕ) → Result ResponseHead MessageFault → Type 0
GivesFinal = bytes.Gives {X = ResponseHead} (λ head. head) (IsFinalHead 16)

abbrev TellsFinish : BegunValue → Option (List ℕ) → Option (List ℕ)
    → Result ResponseValue WireFault → Type 0
TellsFinish begun = Gives {X = ResponseValue} (λ response. response) (IsFinish begun)

module _ (most : ℕ) (method : List ℕ) where
  abbrev TellsBegun : Option (List ℕ) → Option (List ℕ) → Result BegunValue WireFault → Type 0
  TellsBegun = Gives {X = BegunValue} (λ begun. begun) (IsBegun most method)

  abbrev Framed : ResponseHead → List ℕ → Reading BegunValue → Type 0
  Framed head = By (checked (begun_by head (response_framing_within most method head)))

  framed : (now : Option (List ℕ)) (head : ResponseHead) (framing : Framing)
      → response_framing_within most method head ≡ Ok framing
      → bytes.Gives {X = BegunValue} (λ b. b) (Framed head) now now (Ok (begun_of head framing))
  framed None head framing is = search rules
  framed (Some xs) head framing is = rw is refl

  not_framed : (now : Option (List ℕ)) (head : ResponseHead) (f : Fault)
      → response_framing_within most method head ≡ Err f
      → bytes.Gives {X = BegunValue} (λ b. b) (Framed head) now now (Err (Bytes f))
  not_framed None head f is = search rules
  not_framed (Some xs) head f is = rw is refl

  -- there is no head
  pub no_head : (old mid : Option (List ℕ)) (e : MessageFault) (w : WireFault) → w ≡ of_read e
      → GivesFinal old mid (Err e) → TellsBegun old mid (Err w)
  no_head old mid e w is given =
      tells_err (λ b. b) (IsBegun most method) old mid e w is
      (then_fault (λ h. h) (IsFinalHead 16) (λ b. b) Framed old mid e given)

  -- its lengths are at fault
  pub no_framing : (old mid : Option (List ℕ)) (head : ResponseHead) (f : Fault) (w : WireFault)
      → w ≡ of_bytes f → GivesFinal old mid (Ok head)
      → response_framing_within most method head ≡ Err f → TellsBegun old mid (Err w)
  no_framing old mid head f w is one two =
      tells_err (λ b. b) (IsBegun most method) old mid (Bytes f) w is
      (then_next (λ h. h) (IsFinalHead 16) (λ b. b) Framed old mid mid head (Err (Bytes f)) one
      (not_framed mid head f two))

  pub begun : (old mid : Option (List ℕ)) (head : ResponseHead) (framing : Framing)
      (b : BegunValue) → b ≡ begun_of head framing → GivesFinal old mid (Ok head)
      → response_framing_within most method head ≡ Ok framing → TellsBegun old mid (Ok b)
  begun old mid head framing b is one two = rw is
      (tells_ok (λ b. b) (IsBegun most method) old mid (begun_of head framing)
      (then_next (λ h. h) (IsFinalHead 16) (λ b. b) Framed old mid mid head
      (Ok (begun_of head framing)) one (framed mid head framing two)))

-- the body was read, or not
module _ (begun : BegunValue) where
  pub no_body : (old new : Option (List ℕ)) (e : MessageFault) (w : WireFault) → w ≡ of_read e
      → GivesBody begun.framing old new (Err e) → TellsFinish begun old new (Err w)
  no_body old new e w is given =
      tells_err (λ r. r) (IsFinish begun) old new e w is
      (body_cut (finished begun) begun.framing old new e given)

  pub whole : (old new : Option (List ℕ)) (body : Option (List ℕ)) (r : ResponseValue)
      → r ≡ finished begun body → GivesBody begun.framing old new (Ok body)
      → TellsFinish begun old new (Ok r)
  whole old new body r is given =
      tells_ok (λ r. r) (IsFinish begun) old new r
      (body_made (finished begun) begun.framing old new body r is given)

no_value : {A : Type 0} (f : Fault) (a : A) → ◌≡◌ {A = Result A Fault} (Err f) (Ok a) → ⊥
no_value f a is = search rules

same_fault : {A : Type 0} (f g : Fault) → ◌≡◌ {A = Result A Fault} (Err f) (Err g) → f ≡ g
same_fault f g is = search rules

same_value : {A : Type 0} (a b : A) (xs ys : List ℕ)
    → ◌≡◌ {A = Reading A} (Ok (a, xs)) (Ok (b, ys)) → (a ≡ b) × (xs ≡ ys)
same_value a b xs ys is = search rules

-- what the lengths of a head were, behind which a response began so
framing_read : (head : ResponseHead) (p : Result Framing Fault) (begun : BegunValue)
    (mid rest : List ℕ) → checked (begun_by head p) mid ≡ Ok (begun, rest)
    → (framing : Framing) × (p ≡ Ok framing) × (begun_of head framing ≡ begun) × (mid ≡ rest)
framing_read head (Ok framing) begun mid rest is =
    let same = same_value (begun_of head framing) begun mid rest is in
    (framing, refl, same.0, same.1)
framing_read head (Err f) begun mid rest is = absurd (no_value f (begun, rest) is)

framing_failed : (head : ResponseHead) (p : Result Framing Fault) (f : Fault) (mid : List ℕ)
    → checked (begun_by head p) mid ≡ Err f → p ≡ Err f
framing_failed head (Ok framing) f mid is =
    absurd (no_value f (begun_of head framing, mid) (sym is))
framing_failed head (Err g) f mid is = ap (λ (h : Fault). Err h) (same_fault g f is)

module _ (method : List ℕ) where
  abbrev Begins : List ℕ → Reading BegunValue → Type 0
  Begins = IsBegun most_body method

  abbrev TellsWhole : Option (List ℕ) → Option (List ℕ) → Result BegunValue WireFault → Type 0
  TellsWhole = Gives {X = BegunValue} (λ begun. begun) Begins

  abbrev TellsResponse : Option (List ℕ) → Option (List ℕ) → Result ResponseValue WireFault
      → Type 0
  TellsResponse = Gives {X = ResponseValue} (λ response. response) (IsResponse method)

  goes_on : (bytes : List ℕ) (q : Reading BegunValue) → Begins bytes q → (begun : BegunValue)
      (rest : List ℕ) (r : Reading ResponseValue) → q ≡ Ok (begun, rest) → IsFinish begun rest r
      → IsResponse method bytes r
  goes_on bytes q (Then.first_fails _ f x) begun rest r is body =
      absurd (no_value f (begun, rest) is)
  goes_on bytes q (Then.goes_on _ mid head _ x y) begun rest r is body =
      let p : Result Framing Fault = response_framing method head in
      let same = framing_read head p begun mid rest (sym y ∙ is) in
      let at_mid : IsFinish begun mid r = subst (λ (l : List ℕ). IsFinish begun l r)
      (sym same.3) body in
      let own : IsWithBody (response_of head same.0) same.0 mid r =
      subst (λ (b : BegunValue). IsFinish b mid r) (sym same.2) at_mid in
      Then.goes_on bytes mid head r x (Then.goes_on mid mid same.0 r
      (sym (ap (λ (q : Result Framing Fault). checked q mid) same.1)) own)

  fails : (bytes : List ℕ) (q : Reading BegunValue) → Begins bytes q → (f : Fault) → q ≡ Err f
      → IsResponse method bytes (Err f)
  fails bytes q (Then.first_fails _ g x) f is =
      Then.first_fails bytes f
      (subst (λ (h : Fault). IsFinalHead 16 bytes (Err h)) (same_fault g f is) x)
  fails bytes q (Then.goes_on _ mid head _ x y) f is =
      let none = framing_failed head (response_framing method head) f mid (sym y ∙ is) in
      Then.goes_on bytes mid head (Err f) x (Then.first_fails mid f
      (sym (ap (λ (q : Result Framing Fault). checked q mid) none)))

  mapped : (o : Option Fault) (P Q : Fault → Type 0) → ((f : Fault) → P f → Q f) → IfSome o P
      → IfSome o Q
  mapped None P Q go given = tt
  mapped (Some f) P Q go given = go f given

  -- a response that didn't begin
  pub not_begun : (old mid : Option (List ℕ)) (w : WireFault) → TellsWhole old mid (Err w)
      → TellsResponse old mid (Err w)
  not_begun None mid w given = tt
  not_begun (Some xs) mid w given =
      mapped (bytes_fault w) (λ f. Begins xs (Err f)) (λ f. IsResponse method xs (Err f))
      (λ f is. fails xs (Err f) is f refl) given

  -- one that began, and what came of its body
  pub finish : (old mid new : Option (List ℕ)) (begun : BegunValue)
      (result : Result ResponseValue WireFault) → TellsWhole old mid (Ok begun)
      → TellsFinish begun mid new result → TellsResponse old new result
  finish None mid new begun result one two = tt
  finish (Some xs) None new begun result one two = absurd one
  finish (Some xs) (Some ys) None begun (Ok r) one two = absurd two
  finish (Some xs) (Some ys) (Some zs) begun (Ok r) one two =
      goes_on xs (Ok (begun, ys)) one begun ys (Ok (r, zs)) refl two
  finish (Some xs) (Some ys) new begun (Err w) one two =
      mapped (bytes_fault w) (λ f. IsFinish begun ys (Err f)) (λ f. IsResponse method xs (Err f))
      (λ f is. goes_on xs (Ok (begun, ys)) one begun ys (Err f) refl is) two

-- What the functions of each part can cite, by the name of the set.
pub ruleset begun_steps = (no_head, no_framing, begun)

pub ruleset finish_steps = (no_body, whole)

pub ruleset response_steps = (not_begun, finish)
