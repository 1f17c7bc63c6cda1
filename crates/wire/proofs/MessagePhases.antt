-- Phases, one behind the other, and what a call tells of them.
use Rattle.std.proofs.Common.{rules, ◌≡◌, ℕ, List}
use Rattle.std.specs.Prelude.{Option, Some, None, Result, Ok, Err, IfSome}
use Rattle.message_reading.specs.declared.fault.Fault.{Fault}
use Rattle.message_reading.specs.declared.fault.Fault.TheVariants as own
use Rattle.message_reading.specs.declared.fault.MessageFault.{MessageFault}
use Rattle.message_reading.specs.declared.fault.MessageFault.TheVariants.{Memory, Read, TurnLimit, Bodies, Bytes}
use Rattle.message_reading.specs.Reading.{Fails, Reading, Then}
use Rattle.message_reading.specs.Reading as bytes
use Rattle.message_reading.specs.declared.request_head.RequestHead.{RequestHead}
use Rattle.message_reading.specs.declared.framing.Framing.{Framing}
use Rattle.message_reading.specs.Heads.{IsCheckedHead}
use Rattle.message_reading.specs.Body.{IsBody, IsWithBody}
use Rattle.wire.specs.declared.fault.WireFault.{WireFault}
use Rattle.wire.specs.declared.fault.WireFault.TheVariants as fault
use Rattle.message_parts.specs.declared.request.Request.{Request}
use Rattle.wire.specs.Fault.{Gives, bytes_fault, of_bytes, of_read}
use Rattle.wire.specs.Messages.{IsRequest, request_of}

module _ {X A : Type 0} (view : X → A) (First : List ℕ → Reading A → Type 0) where
  module _ {Y B : Type 0} (seen : Y → B) (Next : A → List ℕ → Reading B → Type 0) where
    pub then_fault : (old mid : Option (List ℕ)) (f : MessageFault)
        → bytes.Gives view First old mid (Err f)
        → bytes.Gives seen (Then First Next) old mid (Err f)
    then_fault None mid f given = search rules
    then_fault (Some xs) mid Memory given = search rules
    then_fault (Some xs) mid Read given = search rules
    then_fault (Some xs) mid TurnLimit given = search rules
    then_fault (Some xs) mid Bodies given = search rules
    then_fault (Some xs) mid (Bytes f) given = Then.first_fails xs f given

    pub then_next : (old mid new : Option (List ℕ)) (x : X) (result : Result Y MessageFault)
        → bytes.Gives view First old mid (Ok x) → bytes.Gives seen (Next (view x)) mid new result
        → bytes.Gives seen (Then First Next) old new result
    then_next None mid new x result one two = search rules
    then_next (Some xs) None new x result one two = absurd one
    then_next (Some xs) (Some ys) None x (Ok y) one two = absurd two
    then_next (Some xs) (Some ys) (Some zs) x (Ok y) one two = Then.goes_on xs ys (view x) _ one two
    then_next (Some xs) (Some ys) new x (Err Memory) one two = search rules
    then_next (Some xs) (Some ys) new x (Err Read) one two = search rules
    then_next (Some xs) (Some ys) new x (Err TurnLimit) one two = search rules
    then_next (Some xs) (Some ys) new x (Err Bodies) one two = search rules
    then_next (Some xs) (Some ys) new x (Err (Bytes f)) one two =
        Then.goes_on xs ys (view x) _ one two

-- a fault of the bytes is reported as it is
told_bytes : {V : Type 0} (Is : List ℕ → Reading V → Type 0) (xs : List ℕ) (f : Fault)
    → Is xs (Err f) → IfSome (bytes_fault (of_bytes f)) (λ o. Is xs (Err o))
told_bytes Is xs own.Early is = is
told_bytes Is xs own.Malformed is = is
told_bytes Is xs own.HeadTooLarge is = is
told_bytes Is xs own.BodyTooLarge is = is
told_bytes Is xs own.Coding is = is
told_bytes Is xs own.BothLengths is = is
told_bytes Is xs own.Method is = is

module _ {X V : Type 0} (view : X → V) (Is : List ℕ → Reading V → Type 0) where
  pub tells_ok : (old new : Option (List ℕ)) (x : X) → bytes.Gives view Is old new (Ok x)
      → Gives view Is old new (Ok x)
  tells_ok None new x given = search rules
  tells_ok (Some xs) None x given = absurd given
  tells_ok (Some xs) (Some ys) x given = given

  pub tells_err : (old new : Option (List ℕ)) (e : MessageFault) (w : WireFault) → w ≡ of_read e
      → bytes.Gives view Is old new (Err e) → Gives view Is old new (Err w)
  tells_err None new e w is given = search rules
  tells_err (Some xs) new Memory w is given = rw is tt
  tells_err (Some xs) new Read w is given = rw is tt
  tells_err (Some xs) new TurnLimit w is given = rw is tt
  tells_err (Some xs) new Bodies w is given = rw is tt
  tells_err (Some xs) new (Bytes f) w is given = rw is (told_bytes Is xs f given)

abbrev pub GivesBody : Framing → Option (List ℕ) → Option (List ℕ)
    → Result (Option (List ℕ)) MessageFault → Type 0
GivesBody framing = bytes.Gives {X = Option (List ℕ)} (λ body. body) (IsBody framing)

module _ {V : Type 0} (make : Option (List ℕ) → V) (framing : Framing) where
  pub body_made : (old new : Option (List ℕ)) (body : Option (List ℕ)) (v : V) → v ≡ make body
      → GivesBody framing old new (Ok body)
      → bytes.Gives {X = V} (λ v. v) (IsWithBody make framing) old new (Ok v)
  body_made None new body v is given = search rules
  body_made (Some xs) None body v is given = absurd given
  body_made (Some xs) (Some ys) body v is given = rw is (IsWithBody.body_read xs ys body given)

  pub body_cut : (old new : Option (List ℕ)) (e : MessageFault) → GivesBody framing old new (Err e)
      → bytes.Gives {X = V} (λ v. v) (IsWithBody make framing) old new (Err e)
  body_cut None new e given = search rules
  body_cut (Some xs) new Memory given = search rules
  body_cut (Some xs) new Read given = search rules
  body_cut (Some xs) new TurnLimit given = search rules
  body_cut (Some xs) new Bodies given = search rules
  body_cut (Some xs) new (Bytes f) given = IsWithBody.body_fails xs f given

abbrev Head : Type 0
Head = RequestHead × Framing

abbrev pub GivesChecked : Option (List ℕ) → Option (List ℕ) → Result Head MessageFault → Type 0
GivesChecked = bytes.Gives {X = Head} (λ head. head) IsCheckedHead

abbrev After : Head → List ℕ → Reading Request → Type 0
After head = IsWithBody (request_of head.0) head.1

abbrev TellsRequest : Option (List ℕ) → Option (List ℕ) → Result Request WireFault → Type 0
TellsRequest = Gives {X = Request} (λ request. request) IsRequest

pub request_cut : (old mid : Option (List ℕ)) (e : MessageFault) (w : WireFault) → w ≡ of_read e
    → GivesChecked old mid (Err e) → TellsRequest old mid (Err w)
request_cut old mid e w is given =
    tells_err (λ r. r) IsRequest old mid e w is
    (then_fault (λ h. h) IsCheckedHead (λ r. r) After old mid e given)

pub request_no_memory : (old new : Option (List ℕ)) → TellsRequest old new (Err fault.Memory)
request_no_memory None new = search rules
request_no_memory (Some xs) new = tt

pub request_not_asked : (old new : Option (List ℕ)) → TellsRequest old new (Err fault.Write)
request_not_asked None new = search rules
request_not_asked (Some xs) new = tt

pub request_body_cut : (old mid new : Option (List ℕ)) (head : RequestHead) (framing : Framing)
    (e : MessageFault) (w : WireFault) → w ≡ of_read e → GivesChecked old mid (Ok (head, framing))
    → GivesBody framing mid new (Err e) → TellsRequest old new (Err w)
request_body_cut old mid new head framing e w is one two =
    tells_err (λ r. r) IsRequest old new e w is
    (then_next (λ h. h) IsCheckedHead (λ r. r) After old mid new (head, framing) (Err e) one
    (body_cut (request_of head) framing mid new e two))

pub request_whole : (old mid new : Option (List ℕ)) (head : RequestHead) (framing : Framing)
    (body : Option (List ℕ)) (r : Request) → r ≡ request_of head body
    → GivesChecked old mid (Ok (head, framing)) → GivesBody framing mid new (Ok body)
    → TellsRequest old new (Ok r)
request_whole old mid new head framing body r is one two =
    tells_ok (λ r. r) IsRequest old new r
    (then_next (λ h. h) IsCheckedHead (λ r. r) After old mid new (head, framing) (Ok r) one
    (body_made (request_of head) framing mid new body r is two))
