-- Phases, one behind the other.
use Rattle.std.proofs.Common.{rules, ◌≡◌, refl, ℕ, List}
use Rattle.std.specs.Prelude.{Option, Some, None, Result, Ok, Err}
use Rattle.message_reading.specs.declared.fault.Fault.{Fault}
use Rattle.message_reading.specs.declared.fault.Fault.TheVariants.{Malformed}
use Rattle.message_reading.specs.declared.fault.MessageFault.{MessageFault}
use Rattle.message_reading.specs.declared.fault.MessageFault.TheVariants.{Memory, Read, TurnLimit, Bodies, Bytes}
use Rattle.message_reading.specs.Reading.{By, Gives, Reading, Then}
use Rattle.message_reading.specs.HeadBytes.{head_of}
use Rattle.httparse.specs.Grammar.{RequestHead as RequestText, ResponseHead as ResponseText}
use Rattle.message_reading.specs.declared.request_head.RequestHead.{RequestHead}
use Rattle.message_reading.specs.declared.response_head.ResponseHead.{ResponseHead}
use Rattle.message_reading.specs.WholeHeads.{HasNoWholeRequest, HasNoWholeResponse, IsRequestIn, IsResponseIn, IsWholeRequest, IsWholeResponse, request_head, response_head}
use Rattle.message_reading.specs.declared.framing.Framing.{Framing}
use Rattle.message_reading.specs.Framing.{request_framing}
use Rattle.message_reading.specs.Heads.{IsCheckedHead, IsRequestHead, IsResponseHead}

module _ {X A : Type 0} (view : X → A) (First : List ℕ → Reading A → Type 0) where
  module _ {Y B : Type 0} (seen : Y → B) (Next : A → List ℕ → Reading B → Type 0) where
    pub then_fault : (old mid : Option (List ℕ)) (f : MessageFault)
        → Gives view First old mid (Err f)
        → Gives seen (Then First Next) old mid (Err f)
    then_fault None mid f given = search rules
    then_fault (Some xs) mid Memory given = search rules
    then_fault (Some xs) mid Read given = search rules
    then_fault (Some xs) mid TurnLimit given = search rules
    then_fault (Some xs) mid Bodies given = search rules
    then_fault (Some xs) mid (Bytes f) given = Then.first_fails xs f given

    pub then_next : (old mid new : Option (List ℕ)) (x : X) (result : Result Y MessageFault)
        → Gives view First old mid (Ok x) → Gives seen (Next (view x)) mid new result
        → Gives seen (Then First Next) old new result
    then_next None mid new x result one two = search rules
    then_next (Some xs) None new x result one two = absurd one
    then_next (Some xs) (Some ys) None x (Ok y) one two = absurd two
    then_next (Some xs) (Some ys) (Some zs) x (Ok y) one two = Then.goes_on xs ys (view x) _ one two
    then_next (Some xs) (Some ys) new x (Err Memory) one two = search rules
    then_next (Some xs) (Some ys) new x (Err Read) one two = search rules
    then_next (Some xs) (Some ys) new x (Err TurnLimit) one two = search rules
    then_next (Some xs) (Some ys) new x (Err Bodies) one two = search rules
    then_next (Some xs) (Some ys) new x (Err (Bytes f)) one two =
        Then.goes_on xs ys (view x) _ one two

module _ {X : Type 0} (view : X → List ℕ) where
  -- the bytes of a head were read, and they are this head
  pub request_found : (old new : Option (List ℕ)) (x : X) (head : RequestHead) (h : RequestText)
      → Gives view (By head_of) old new (Ok x) → IsWholeRequest (view x) h
      → head ≡ request_head h
      → Gives {X = RequestHead} (λ head. head) IsRequestHead old new (Ok head)
  request_found None new x head h text whole is = search rules
  request_found (Some xs) None x head h text whole is = absurd text
  request_found (Some xs) (Some ys) x head h text whole is =
      rw is (Then.goes_on xs ys (view x) _ text (IsRequestIn.request_is ys h whole))

  -- they are no head
  pub request_not_found : (old new : Option (List ℕ)) (x : X)
      → Gives view (By head_of) old new (Ok x) → HasNoWholeRequest (view x)
      → Gives {X = RequestHead} (λ head. head) IsRequestHead old new (Err (Bytes Malformed))
  request_not_found None new x text none = search rules
  request_not_found (Some xs) None x text none = absurd text
  request_not_found (Some xs) (Some ys) x text none =
      Then.goes_on xs ys (view x) _ text (IsRequestIn.no_request ys none)

  pub response_found : (old new : Option (List ℕ)) (x : X) (head : ResponseHead)
      (h : ResponseText) → Gives view (By head_of) old new (Ok x) → IsWholeResponse (view x) h
      → head ≡ response_head h
      → Gives {X = ResponseHead} (λ head. head) IsResponseHead old new (Ok head)
  response_found None new x head h text whole is = search rules
  response_found (Some xs) None x head h text whole is = absurd text
  response_found (Some xs) (Some ys) x head h text whole is =
      rw is (Then.goes_on xs ys (view x) _ text (IsResponseIn.response_is ys h whole))

  pub response_not_found : (old new : Option (List ℕ)) (x : X)
      → Gives view (By head_of) old new (Ok x) → HasNoWholeResponse (view x)
      → Gives {X = ResponseHead} (λ head. head) IsResponseHead old new (Err (Bytes Malformed))
  response_not_found None new x text none = search rules
  response_not_found (Some xs) None x text none = absurd text
  response_not_found (Some xs) (Some ys) x text none =
      Then.goes_on xs ys (view x) _ text (IsResponseIn.no_response ys none)

abbrev GivesRequest : Option (List ℕ) → Option (List ℕ) → Result RequestHead MessageFault → Type 0
GivesRequest = Gives {X = RequestHead} (λ head. head) IsRequestHead

abbrev GivesChecked : Option (List ℕ) → Option (List ℕ)
    → Result (RequestHead × Framing) MessageFault → Type 0
GivesChecked = Gives {X = RequestHead × Framing} (λ head. head) IsCheckedHead

-- a head passes its checks
pub checks_pass : (old new : Option (List ℕ)) (head : RequestHead) (framing : Framing)
    → GivesRequest old new (Ok head) → request_framing head ≡ Ok framing
    → GivesChecked old new (Ok (head, framing))
checks_pass None new head framing given is = search rules
checks_pass (Some xs) None head framing given is = absurd given
checks_pass (Some xs) (Some ys) head framing given is =
    Then.goes_on xs ys head _ given (rw is refl)

-- it doesn't
pub check_fails : (old new : Option (List ℕ)) (head : RequestHead) (f : Fault)
    → GivesRequest old new (Ok head) → request_framing head ≡ Err f
    → GivesChecked old new (Err (Bytes f))
check_fails None new head f given is = search rules
check_fails (Some xs) None head f given is = absurd given
check_fails (Some xs) (Some ys) head f given is = Then.goes_on xs ys head _ given (rw is refl)

-- What the functions of each phase can cite, by the name of the set.
pub ruleset request_steps = (then_fault, request_found, request_not_found)

pub ruleset check_steps = (then_fault, checks_pass, check_fails)

pub ruleset response_steps = (then_fault, response_found, response_not_found)
