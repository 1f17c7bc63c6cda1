-- A first piece that was read, and what was streamed behind it.
use Rattle.std.proofs.Common.{◌≡◌, ◌++◌, sym, append_assoc, subst, ℕ, List, ◌∷◌, take}
use Rattle.std.specs.Prelude.{Option, Some, None, Ok}
use Rattle.std.specs.List.{concat, flat_map}
use Rattle.std.specs.Io.KnownBytes.{Appends}
use Rattle.body_pieces.specs.declared.rest.Rest.{Rest}
use Rattle.body_pieces.specs.Beginnings.{GaveBeginning}
use Rattle.body_pieces.specs.Rests.{IsRest}
use Rattle.answer_streaming.specs.declared.delimiting.Delimiting.{Delimiting}
use Rattle.answer_streaming.specs.declared.ended.End.{End}
use Rattle.answer_streaming.specs.declared.ended.End.TheVariants.{Whole, Unwritten, Broken, Left}
use Rattle.answer_streaming.specs.Passed.{GaveWhole, IsStreamed}
use Rattle.answer_streaming.specs.Texts.{begun_text, end_text, piece_text}
use Rattle.answer_streaming.proofs.ReadSoFar.{gave_fault, gave_more}

-- a beginning, and the whole rest behind it
whole_behind : (rest mid : Rest) (old now new : Option (List ℕ)) (p q : List ℕ)
    → GaveBeginning rest old now p mid → GaveWhole mid now new q → GaveWhole rest old new (p ++ q)
whole_behind rest mid None now new p q one two = tt
whole_behind rest mid (Some xs) None new p q one two = absurd one
whole_behind rest mid (Some xs) (Some ys) None p q one two = absurd two
whole_behind rest mid (Some xs) (Some ys) (Some zs) p q one two =
    subst (λ (l : List ℕ). IsRest rest l (Ok (p ++ q, zs))) (sym one.1)
    (one.2 ys (Ok (q, zs)) two)

module _ (rest mid : Rest) (d : Delimiting) (head first : List ℕ)
    (old now new held holds : Option (List ℕ)) (gave : GaveBeginning rest old now first mid) where
  text_behind : (pieces : List (List ℕ))
      → begun_text d (head ++ piece_text d first) pieces ≡ begun_text d head (first ∷ pieces)
  text_behind pieces = append_assoc head (piece_text d first) (flat_map (piece_text d) pieces)

  pub behind_first : (end : End)
      → IsStreamed mid d (head ++ piece_text d first) now new held holds end
      → IsStreamed rest d head old new held holds end
  behind_first Whole (pieces, read, wrote) = (
    first ∷ pieces,
    whole_behind rest mid old now new first (concat pieces) gave read,
    subst (λ (t : List ℕ). Appends held holds (t ++ end_text d)) (text_behind pieces) wrote,
  )
  behind_first Unwritten (pieces, count, read, wrote) = (
    first ∷ pieces,
    count,
    whole_behind rest mid old now new first (concat pieces) gave read,
    subst (λ (t : List ℕ). Appends held holds (take count (t ++ end_text d)))
        (text_behind pieces) wrote,
  )
  behind_first (Broken f) (pieces, then, after, read, fault, wrote) = (
    first ∷ pieces,
    then,
    after,
    gave_more rest mid after old now then first (concat pieces) gave read,
    gave_fault rest mid old now first f gave fault,
    subst (λ (t : List ℕ). Appends held holds t) (text_behind pieces) wrote,
  )
  behind_first Left (pieces, count, after, read, wrote) = (
    first ∷ pieces,
    count,
    after,
    gave_more rest mid after old now new first (concat pieces) gave read,
    subst (λ (t : List ℕ). Appends held holds (take count t)) (text_behind pieces) wrote,
  )
