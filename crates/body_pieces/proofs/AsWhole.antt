-- What reading a body whole gives, reading it in pieces gives.
use Rattle.std.proofs.Common.{rules, ◌≡◌, ◌∙◌, ap, refl, subst, ℕ, List, [], Bool, true, false, length}
use Rattle.std.specs.Prelude.{Option, Some, None, Ok, Err, nat_lt, if◌then◌else◌}
use Rattle.message_reading.specs.declared.fault.Fault.TheVariants.{BodyTooLarge}
use Rattle.message_reading.specs.declared.framing.Framing.{Framing}
use Rattle.message_reading.specs.declared.framing.Framing.TheVariants as framing
use Rattle.message_reading.specs.Body.{IsBody, some_body}
use Rattle.message_reading.specs.PlainBody.{sized_of}
use Rattle.message_reading.specs.Reading.{Reading}
use Rattle.body_pieces.specs.declared.rest.Rest.{Rest}
use Rattle.body_pieces.specs.declared.rest.Rest.TheVariants.{Sized, ToEnd, Size}
use Rattle.body_pieces.specs.Rests.{IsRest, rest_of}
use Rattle.body_pieces.proofs.OneRest.{chunks_as_whole}

abbrev pub Reads : Rest → List ℕ → Reading (Option (List ℕ)) → Type 0
Reads rest bytes r = (body : Reading (List ℕ)) × IsRest rest bytes body × (r ≡ some_body body)

same_rest : (a b : Rest) → ◌≡◌ {A = Option Rest} (Some a) (Some b) → a ≡ b
same_rest a b is = search rules

no_rest : (b : Rest) → ◌≡◌ {A = Option Rest} None (Some b) → ⊥
no_rest b is = search rules

-- all bytes, unless they are too many
whole_by : (bytes : List ℕ) (large : Bool) (r : Reading (Option (List ℕ)))
    → r ≡ some_body (if large then Err BodyTooLarge else Ok (bytes, []))
    → (r ≡ Err BodyTooLarge → ⊥) → Reads ToEnd bytes r
whole_by bytes true r is other = absurd (other is)
whole_by bytes false r is other = (Ok (bytes, []), refl, is)

pub as_whole : (framing : Framing) (rest : Rest) (bytes : List ℕ) (r : Reading (Option (List ℕ)))
    → rest_of framing ≡ Some rest → IsBody framing bytes r → (r ≡ Err BodyTooLarge → ⊥)
    → Reads rest bytes r
as_whole framing.Bodiless rest bytes r has is other = absurd (no_rest rest has)
as_whole (framing.Sized size) rest bytes r has is other =
    subst (λ (own : Rest). Reads own bytes r) (same_rest (Sized size) rest has)
    (sized_of size bytes, refl, is)
as_whole framing.Chunked rest bytes r has is other =
    let all = chunks_as_whole 0 bytes is.0 is.1 (λ e. other (is.2 ∙ ap some_body e)) in
    subst (λ (own : Rest). Reads own bytes r) (same_rest Size rest has) (is.0, all, is.2)
as_whole framing.ToEnd rest bytes r has is other =
    subst (λ (own : Rest). Reads own bytes r) (same_rest ToEnd rest has)
    (whole_by bytes (nat_lt 8388608 (length bytes)) r is other)
