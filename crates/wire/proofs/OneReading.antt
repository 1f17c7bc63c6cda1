-- Bytes are one message at most.
use Rattle.std.proofs.Common.{rules, arith, inl, inr, ◌≡◌, ◌+◌, ◌-◌, ◌⊎◌, ◌∙◌, sym, ap, subst, refl, ℕ, Bool, true, false, List}
use Rattle.std.specs.Prelude.{Option, Ok, Err}
use Rattle.message_reading.specs.declared.fault.Fault.{Fault}
use Rattle.message_reading.specs.Laws.{IsOne, RequestsAreOne, ResponsesAreOne}
use Rattle.message_reading.specs.Reading.{By, Reading, Then, checked}
use Rattle.message_reading.specs.HeadBytes.{head_of}
use Rattle.message_reading.specs.Chunks.{IsChunks}
use Rattle.message_reading.specs.declared.response_head.ResponseHead.{ResponseHead}
use Rattle.message_reading.specs.WholeHeads.{IsRequestIn, IsResponseIn}
use Rattle.message_reading.specs.declared.framing.Framing.{Framing}
use Rattle.message_reading.specs.declared.framing.Framing.TheVariants.{Bodiless, Sized, Chunked, ToEnd}
use Rattle.message_reading.specs.Body.{IsBody, IsWithBody, some_body}
use Rattle.message_reading.specs.Framing.{request_framing, response_framing}
use Rattle.message_reading.specs.Heads.{IsCheckedHead, IsFinalHead, IsRequestHead, IsResponseHead, behind, framed, is_final, is_interim}
use Rattle.wire.specs.Messages.{IsRequest, IsResponse, IsResponseRest, request_of, response_of}

one_value : {A : Type 0} (a b : A) (rest after : List ℕ)
    → ◌≡◌ {A = Reading A} (Ok (a, rest)) (Ok (b, after)) → (a ≡ b) × (rest ≡ after)
one_value a b rest after is = search rules

same_fault : {A B : Type 0} (f g : Fault) → ◌≡◌ {A = Reading A} (Err f) (Err g)
    → ◌≡◌ {A = Reading B} (Err f) (Err g)
same_fault f g is = search rules

not_both : {A : Type 0} (a : A) (rest : List ℕ) (f : Fault)
    → ◌≡◌ {A = Reading A} (Err f) (Ok (a, rest)) → ⊥
not_both a rest f is = search rules

then_one : {A B : Type 0} (First : List ℕ → Reading A → Type 0)
    (Next : A → List ℕ → Reading B → Type 0) → IsOne First → ((a : A) → IsOne (Next a))
    → IsOne (Then First Next)
then_one First Next one next bytes r q (Then.first_fails _ f x) (Then.first_fails _ g y) =
    same_fault f g (one bytes (Err f) (Err g) x y)
then_one First Next one next bytes r q (Then.first_fails _ f x) (Then.goes_on _ rest a _ y z) =
    absurd (not_both a rest f (one bytes (Err f) (Ok (a, rest)) x y))
then_one First Next one next bytes r q (Then.goes_on _ rest a _ x z) (Then.first_fails _ f y) =
    absurd (not_both a rest f (one bytes (Err f) (Ok (a, rest)) y x))
then_one First Next one next bytes r q (Then.goes_on _ rest a _ x z)
    (Then.goes_on _ after b _ y w) =
    let same = one_value a b rest after (one bytes (Ok (a, rest)) (Ok (b, after)) x y) in
    next b after r q (subst (λ n. Next n after r) same.0 (subst (λ l. Next a l r) same.1 z)) w

by_one : {A : Type 0} (f : List ℕ → Reading A) → IsOne (By f)
by_one f bytes r q x y = x ∙ sym y

checked_one : RequestsAreOne → IsOne IsCheckedHead
checked_one heads =
    then_one IsRequestHead (λ head. By (checked (framed head (request_framing head))))
    (then_one (By head_of) IsRequestIn (by_one head_of) heads)
    (λ head. by_one (checked (framed head (request_framing head))))

body_one : IsOne (IsChunks 0) → (framing : Framing) → IsOne (IsBody framing)
body_one chunks Bodiless bytes r q x y = x ∙ sym y
body_one chunks (Sized size) bytes r q x y = x ∙ sym y
body_one chunks Chunked bytes r q x y =
    x.2 ∙ ap some_body (chunks bytes x.0 y.0 x.1 y.1) ∙ sym y.2
body_one chunks ToEnd bytes r q x y = x ∙ sym y

made_one : {V : Type 0} (make : Option (List ℕ) → V) (framing : Framing) → IsOne (IsChunks 0)
    → IsOne (IsWithBody make framing)
made_one make framing chunks bytes r q (IsWithBody.body_fails _ f x)
    (IsWithBody.body_fails _ g y) =
    same_fault f g (body_one chunks framing bytes (Err f) (Err g) x y)
made_one make framing chunks bytes r q (IsWithBody.body_fails _ f x)
    (IsWithBody.body_read _ rest body y) =
    absurd (not_both body rest f (body_one chunks framing bytes (Err f) (Ok (body, rest)) x y))
made_one make framing chunks bytes r q (IsWithBody.body_read _ rest body x)
    (IsWithBody.body_fails _ f y) =
    absurd (not_both body rest f (body_one chunks framing bytes (Err f) (Ok (body, rest)) y x))
made_one make framing chunks bytes r q (IsWithBody.body_read _ rest body x)
    (IsWithBody.body_read _ after other y) =
    let same = one_value body other rest after
    (body_one chunks framing bytes (Ok (body, rest)) (Ok (other, after)) x y) in
    rw (same.0, same.1) refl

response_head_one : ResponsesAreOne → IsOne IsResponseHead
response_head_one heads = then_one (By head_of) IsResponseIn (by_one head_of) heads

same_head : ResponsesAreOne → (bytes rest after : List ℕ) (a b : ResponseHead)
    → IsResponseHead bytes (Ok (a, rest)) → IsResponseHead bytes (Ok (b, after))
    → (a ≡ b) × (rest ≡ after)
same_head heads bytes rest after a b x y =
    one_value a b rest after (response_head_one heads bytes (Ok (a, rest)) (Ok (b, after)) x y)

no_head : ResponsesAreOne → (bytes rest : List ℕ) (a : ResponseHead) (f : Fault)
    → IsResponseHead bytes (Err f) → IsResponseHead bytes (Ok (a, rest)) → ⊥
no_head heads bytes rest a f x y =
    not_both a rest f (response_head_one heads bytes (Err f) (Ok (a, rest)) x y)

abbrev Final : ResponseHead → Bool
Final head = is_final head.status

abbrev Interim : ResponseHead → Bool
Interim head = is_interim head.status

not_true_false : ◌≡◌ {A = Bool} true false → ⊥
not_true_false is = search rules

both_ways : (f : ResponseHead → Bool) (a b : ResponseHead) → a ≡ b → f a ≡ true
    → f b ≡ false → ⊥
both_ways f a b same is other = not_true_false (sym is ∙ ap f same ∙ other)

not_both_interim : (left fewer : ℕ) (a b : ResponseHead) → left ≡ fewer + 1 → a ≡ b
    → Interim a ≡ true → (left ≡ 0) ⊎ (Interim b ≡ false) → ⊥
not_both_interim left fewer a b more same is (inl none) =
    absurd (omega (arith, none, more))
not_both_interim left fewer a b more same is (inr other) =
    both_ways Interim a b same is other

final_one : ResponsesAreOne → (left : ℕ) → IsOne (IsFinalHead left)
final_one heads left bytes r q (IsFinalHead.head_fails _ _ f x)
    (IsFinalHead.head_fails _ _ g y) =
    same_fault f g (response_head_one heads bytes (Err f) (Err g) x y)
final_one heads left bytes r q (IsFinalHead.head_fails _ _ f x)
    (IsFinalHead.final _ _ after b y last_y) =
    absurd (no_head heads bytes after b f x y)
final_one heads left bytes r q (IsFinalHead.head_fails _ _ f x)
    (IsFinalHead.refused _ _ after b y last_y why_y) =
    absurd (no_head heads bytes after b f x y)
final_one heads left bytes r q (IsFinalHead.head_fails _ _ f x)
    (IsFinalHead.interim _ n _ after b _ fewer_y y last_y more_y rest_y) =
    absurd (no_head heads bytes after b f x y)
final_one heads left bytes r q (IsFinalHead.final _ _ rest a x last_x)
    (IsFinalHead.head_fails _ _ g y) =
    absurd (no_head heads bytes rest a g y x)
final_one heads left bytes r q (IsFinalHead.final _ _ rest a x last_x)
    (IsFinalHead.final _ _ after b y last_y) =
    let same = same_head heads bytes rest after a b x y in
    rw (ap (behind (16 - left)) same.0, same.1) refl
final_one heads left bytes r q (IsFinalHead.final _ _ rest a x last_x)
    (IsFinalHead.refused _ _ after b y last_y why_y) =
    absurd (both_ways Final a b (same_head heads bytes rest after a b x y).0 last_x last_y)
final_one heads left bytes r q (IsFinalHead.final _ _ rest a x last_x)
    (IsFinalHead.interim _ n _ after b _ fewer_y y last_y more_y rest_y) =
    absurd (both_ways Final a b (same_head heads bytes rest after a b x y).0 last_x last_y)
final_one heads left bytes r q (IsFinalHead.refused _ _ rest a x last_x why_x)
    (IsFinalHead.head_fails _ _ g y) =
    absurd (no_head heads bytes rest a g y x)
final_one heads left bytes r q (IsFinalHead.refused _ _ rest a x last_x why_x)
    (IsFinalHead.final _ _ after b y last_y) =
    absurd (both_ways Final b a (sym (same_head heads bytes rest after a b x y).0) last_y last_x)
final_one heads left bytes r q (IsFinalHead.refused _ _ rest a x last_x why_x)
    (IsFinalHead.refused _ _ after b y last_y why_y) =
    refl
final_one heads left bytes r q (IsFinalHead.refused _ _ rest a x last_x why_x)
    (IsFinalHead.interim _ n _ after b _ fewer_y y last_y more_y rest_y) =
    absurd (not_both_interim left n b a fewer_y (sym (same_head heads bytes rest after a b x y).0)
    more_y why_x)
final_one heads left bytes r q (IsFinalHead.interim _ m _ rest a _ fewer_x x last_x more_x rest_x)
    (IsFinalHead.head_fails _ _ g y) =
    absurd (no_head heads bytes rest a g y x)
final_one heads left bytes r q (IsFinalHead.interim _ m _ rest a _ fewer_x x last_x more_x rest_x)
    (IsFinalHead.final _ _ after b y last_y) =
    absurd (both_ways Final b a (sym (same_head heads bytes rest after a b x y).0) last_y last_x)
final_one heads left bytes r q (IsFinalHead.interim _ m _ rest a _ fewer_x x last_x more_x rest_x)
    (IsFinalHead.refused _ _ after b y last_y why_y) =
    absurd (not_both_interim left m a b fewer_x (same_head heads bytes rest after a b x y).0 more_x
    why_y)
final_one heads left bytes r q (IsFinalHead.interim _ m _ rest a _ fewer_x x last_x more_x rest_x)
    (IsFinalHead.interim _ n _ after b _ fewer_y y last_y more_y rest_y) =
    let same = same_head heads bytes rest after a b x y in
    let fewer : n ≡ m = omega (arith, fewer_x, fewer_y) in
    let other : IsFinalHead m rest q = subst (λ l. IsFinalHead m l q) (sym same.1)
    (subst (λ k. IsFinalHead k after q) fewer rest_y) in
    final_one heads m rest r q rest_x other

pub requests_one : RequestsAreOne → IsOne (IsChunks 0) → IsOne IsRequest
requests_one heads chunks =
    then_one IsCheckedHead (λ head. IsWithBody (request_of head.0) head.1) (checked_one heads)
    (λ head. made_one (request_of head.0) head.1 chunks)

pub responses_one : ResponsesAreOne → IsOne (IsChunks 0) → (method : List ℕ)
    → IsOne (IsResponse method)
responses_one heads chunks method =
    then_one (IsFinalHead 16) (IsResponseRest method) (final_one heads 16)
    (λ head. then_one (By (checked (response_framing method head)))
    (λ framing. IsWithBody (response_of head framing) framing)
    (by_one (checked (response_framing method head)))
    (λ framing. made_one (response_of head framing) framing chunks))
