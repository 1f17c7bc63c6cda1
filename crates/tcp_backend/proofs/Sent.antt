-- What was written of a request to a backend that shows it.
use Rattle.std.proofs.Common.{◌≡◌, ◌⊎◌, ◌∙◌, ◌++◌, inl, inr, ℕ, List, [], take, drop, length, Bool, true, false, Option, Some, None, Result, Ok, Err, OnOk, OnErr, ap, sym, subst, refl, append_assoc, arith}
use Rattle.std.specs.Prelude.{IfErr, IfSome}
use Rattle.std.specs.Io.KnownBytes.{Appends, append_known}
use Rattle.std.proofs.Math.Seq.{take-append_seam}
use Rattle.std.proofs.lemmas.List.{append-nil, take_all, take-append-drop}
use Rattle.message_parts.specs.declared.request.Request.{Request}
use Rattle.message_text.specs.declared.persistence.Persistence.{Persistence}
use Rattle.message_text.specs.declared.persistence.Persistence.TheVariants.{Close}
use Rattle.wire.specs.declared.answer.BackendAnswer.{BackendAnswer}
use Rattle.wire.specs.declared.answer.BackendAnswer.TheVariants.{Late, NotConnected}
use Rattle.wire.specs.declared.fault.WireFault.{WireFault}
use Rattle.wire.specs.declared.fault.WireFault.TheVariants as fault
use Rattle.wire.specs.Forwards.{IsCut, Sends, Sent, fault_told}
use Rattle.wire.specs.Response.{ResponseValue}
use Rattle.wire.specs.Written.{request_text}
use Rattle.tcp_backend.specs.Answers.{answer_of}
use Rattle.tcp_backend.specs.Ends.{Gathers, HoldsFront, IsFresh}

-- a front of some bytes was written
abbrev pub Front : Option (List ℕ) → Option (List ℕ) → List ℕ → Type 0
Front a b text = (count : ℕ) × Appends a b (take count text)

-- what lies below a buffer that holds a front of a text is a front too
pub front_below : (below pending text : List ℕ) (n : ℕ) → below ++ pending ≡ take n text
    → (count : ℕ) × (Some below ≡ Some (take count text))
front_below below pending text n e =
    let whole : text ≡ below ++ (pending ++ drop n text) =
    sym (take-append-drop n text) ∙ ap (λ (t : List ℕ). t ++ drop n text) (sym e)
    ∙ append_assoc below pending (drop n text) in
    let same : take (length below) text ≡ below =
    ap (take (length below)) whole ∙ take-append_seam below (pending ++ drop n text) in
    (length below, ap (λ (t : List ℕ). Some t) (sym same))

-- the same of a text that was written whole or in part, to a buffer over an end that held nothing
pub front_held : {T E : Type 0} (r : Result T E) (a b : Option (List ℕ)) (pending text : List ℕ)
    → OnOk r (Appends a (append_known b pending) text)
    → OnErr r (Front a (append_known b pending) text) → HoldsFront a b text
front_held r None b pending text all front fresh = absurd (cc)
front_held (Ok v) (Some xs) None pending text all front fresh = absurd all
front_held (Ok v) (Some xs) (Some ys) pending text all front fresh =
    let none : xs ≡ [] = cc in
    front_below ys pending text (length text)
    (all ∙ ap (λ (t : List ℕ). t ++ text) none ∙ sym (take_all (length text) text (omega arith)))
front_held (Err e) (Some xs) None pending text all front fresh = absurd front.1
front_held (Err e) (Some xs) (Some ys) pending text all front fresh =
    let none : xs ≡ [] = cc in
    front_below ys pending text front.0
    (front.1 ∙ ap (λ (t : List ℕ). t ++ take front.0 text) none)

-- what is told of a request that was sent: not that there was no connection, and no fault but the
-- call's
abbrev IsTold : Result ResponseValue WireFault → BackendAnswer → Type 0
IsTold asked answer =
    (answer ≡ NotConnected → ⊥) × IfSome (fault_told answer) (λ f. asked ≡ Err f)

told : (asked : Result ResponseValue WireFault) (over stale : Bool)
    → IsTold asked (answer_of asked over stale)
told (Ok response) over stale = (λ e. cc, tt)
told (Err fault.Memory) over stale = (λ e. cc, tt)
told (Err fault.Bodies) over stale = (λ e. cc, tt)
told (Err fault.Read) true stale = (λ e. cc, tt)
told (Err fault.Read) false true = (λ e. cc, refl)
told (Err fault.Read) false false = (λ e. cc, refl)
told (Err fault.Write) true stale = (λ e. cc, tt)
told (Err fault.Write) false true = (λ e. cc, refl)
told (Err fault.Write) false false = (λ e. cc, refl)
told (Err fault.Early) over true = (λ e. cc, refl)
told (Err fault.Early) over false = (λ e. cc, refl)
told (Err fault.Malformed) over true = (λ e. cc, refl)
told (Err fault.Malformed) over false = (λ e. cc, refl)
told (Err fault.HeadTooLarge) over true = (λ e. cc, refl)
told (Err fault.HeadTooLarge) over false = (λ e. cc, refl)
told (Err fault.BodyTooLarge) over true = (λ e. cc, refl)
told (Err fault.BodyTooLarge) over false = (λ e. cc, refl)
told (Err fault.Coding) over true = (λ e. cc, refl)
told (Err fault.Coding) over false = (λ e. cc, refl)
told (Err fault.BothLengths) over true = (λ e. cc, refl)
told (Err fault.BothLengths) over false = (λ e. cc, refl)
told (Err fault.TurnLimit) over true = (λ e. cc, refl)
told (Err fault.TurnLimit) over false = (λ e. cc, refl)
told (Err fault.Method) over true = (λ e. cc, refl)
told (Err fault.Method) over false = (λ e. cc, refl)

-- a fault of a request that wasn't written whole is one of a cut
cut_or_whole : (asked : Result ResponseValue WireFault) (is_sent : Bool) (found : Option WireFault)
    (Whole : Type 0) → IfSome found (λ f. asked ≡ Err f) → (is_sent ≡ true → Whole)
    → (is_sent ≡ false → IfErr asked IsCut) → IfSome found (λ f. IsCut f ⊎ Whole)
cut_or_whole asked is_sent None Whole is whole cut = tt
cut_or_whole asked true (Some f) Whole is whole cut = inr (whole refl)
cut_or_whole asked false (Some f) Whole is whole cut =
    inl (subst (λ (r : Result ResponseValue WireFault). IfErr r IsCut) is (cut refl))

-- an end that held nothing, and holds this text, is gathered
gathered_whole : (old contents new : Option (List ℕ)) (text : List ℕ)
    → Appends (Some []) contents text → Gathers old contents new → Appends old new text
gathered_whole old None new text whole gathered = absurd whole
gathered_whole old (Some ys) new text whole gathered = subst (Appends old new) whole gathered

-- no fault is told
told_none : (P : WireFault → Type 0) (found : Option WireFault) → found ≡ None → IfSome found P
told_none P None none = tt
told_none P (Some f) none = absurd (cc)

-- nothing was written
pub sends_nothing : (host : List ℕ) (old new : Option (List ℕ)) (request : Request)
    (answer : BackendAnswer) → new ≡ old → fault_told answer ≡ None
    → Sends host old new request answer
sends_nothing host None new request answer same untold = tt
sends_nothing host (Some xs) new request answer same untold =
    let nothing : Appends (Some xs) new [] =
    subst (λ (it : Option (List ℕ)). Appends (Some xs) it []) (sym same) (sym (append-nil xs)) in
    record {
      persistence = Close;
      count = 0;
      front = nothing;
      none = λ is. nothing;
      whole = told_none _ (fault_told answer) untold;
    }

-- there was no connection
pub sends_unconnected : (host : List ℕ) (old new : Option (List ℕ)) (request : Request)
    (answer : BackendAnswer) → new ≡ old → (answer ≡ NotConnected) ⊎ (answer ≡ Late)
    → Sends host old new request answer
sends_unconnected host old new request answer same (inl is) =
    sends_nothing host old new request answer same (ap fault_told is)
sends_unconnected host old new request answer same (inr is) =
    sends_nothing host old new request answer same (ap fault_told is)

-- an end came back as it was handed out
pub sends_unused : (host : List ℕ) (old between new contents : Option (List ℕ)) (request : Request)
    (answer : BackendAnswer) → between ≡ old → IsFresh old contents → Gathers between contents new
    → fault_told answer ≡ None → Sends host old new request answer
sends_unused host None between new contents request answer same fresh gathered untold = tt
sends_unused host (Some xs) between new contents request answer same fresh gathered untold =
    let nothing : Appends (Some xs) new [] =
    gathered_whole (Some xs) contents new []
    (subst (λ (it : Option (List ℕ)). Appends (Some []) it []) (sym fresh) refl)
    (subst (λ (it : Option (List ℕ)). Gathers it contents new) same gathered) in
    record {
      persistence = Close;
      count = 0;
      front = nothing;
      none = λ is. nothing;
      whole = told_none _ (fault_told answer) untold;
    }

-- an end came back with what was written of the request
pub sends_gathered : (host : List ℕ) (persistence : Persistence)
    (old between new before behind : Option (List ℕ)) (request : Request)
    (asked : Result ResponseValue WireFault) (over stale is_sent : Bool) (answer : BackendAnswer)
    → between ≡ old → IsFresh old before
    → HoldsFront before behind (request_text persistence host request)
    → (is_sent ≡ true → Appends before behind (request_text persistence host request))
    → (is_sent ≡ false → IfErr asked IsCut)
    → answer ≡ answer_of asked over stale → Gathers between behind new
    → Sends host old new request answer
sends_gathered host persistence None between new before behind request asked over stale is_sent
    answer same fresh front whole cut is gathered = tt
sends_gathered host persistence (Some xs) between new before behind request asked over stale
    is_sent answer same fresh front whole cut is gathered =
    let text = request_text persistence host request in
    let part = front fresh in
    let back : Gathers (Some xs) behind new =
    subst (λ (it : Option (List ℕ)). Gathers it behind new) same gathered in
    let all : Appends before behind text → Appends (Some xs) new text =
    λ written. gathered_whole (Some xs) behind new text
    (subst (λ (it : Option (List ℕ)). Appends it behind text) fresh written) back in
    record {
      persistence = persistence;
      count = part.0;
      front = subst (λ (it : Option (List ℕ)). Gathers (Some xs) it new) part.1 back;
      none = λ none. absurd ((told asked over stale).0 (sym is ∙ none));
      whole = cut_or_whole asked is_sent (fault_told answer) (Appends (Some xs) new text)
          (subst (λ (a : BackendAnswer). IfSome (fault_told a) (λ f. asked ≡ Err f)) (sym is)
          (told asked over stale).1) (λ sent. all (whole sent)) cut;
    }
