-- Bytes are one head at most.
use Rattle.std.proofs.Common.{refl, ap, []}
use Rattle.std.specs.Prelude.{Ok}
use Rattle.httparse.proofs.GrammarLemmas.{request_unique, response_unique}
use Rattle.message_reading.specs.Laws.{RequestsAreOne, ResponsesAreOne}
use Rattle.message_reading.specs.WholeHeads.{IsRequestIn, IsResponseIn, request_head, response_head}

pub requests_are_one : RequestsAreOne
requests_are_one text bytes r q (IsRequestIn.request_is _ h x) (IsRequestIn.request_is _ k y) =
    ap (λ h. Ok (request_head h, bytes)) (request_unique text h k [] [] x y).0
requests_are_one text bytes r q (IsRequestIn.request_is _ h x) (IsRequestIn.no_request _ none) =
    absurd (none h x)
requests_are_one text bytes r q (IsRequestIn.no_request _ none) (IsRequestIn.request_is _ k y) =
    absurd (none k y)
requests_are_one text bytes r q (IsRequestIn.no_request _ none) (IsRequestIn.no_request _ also) =
    refl

pub responses_are_one : ResponsesAreOne
responses_are_one text bytes r q (IsResponseIn.response_is _ h x)
    (IsResponseIn.response_is _ k y) =
    ap (λ h. Ok (response_head h, bytes)) (response_unique text h k [] [] x y).0
responses_are_one text bytes r q (IsResponseIn.response_is _ h x)
    (IsResponseIn.no_response _ none) =
    absurd (none h x)
responses_are_one text bytes r q (IsResponseIn.no_response _ none)
    (IsResponseIn.response_is _ k y) =
    absurd (none k y)
responses_are_one text bytes r q (IsResponseIn.no_response _ none)
    (IsResponseIn.no_response _ also) =
    refl

pub ruleset readings = (requests_are_one, responses_are_one)
