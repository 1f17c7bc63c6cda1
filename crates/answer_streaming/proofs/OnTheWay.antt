-- A body on its way, a piece further.
use Rattle.std.proofs.Common.{rules, zero, suc, ◌≡◌, ◌-◌, ◌+◌, ◌∙◌, ◌++◌, sym, ap, append_assoc, refl, subst, ℕ, true, List, [], ◌∷◌, length, take}
use Rattle.std.specs.Prelude.{Option, Some, None, Ok}
use Rattle.std.specs.List.{concat}
use Rattle.std.specs.Io.KnownBytes.{Appends}
use Rattle.std.proofs.KnownBytes.{Appends-trans}
use Rattle.std.proofs.lemmas.List.{append-nil, flat_map_more}
use Rattle.std.proofs.lemmas.List.Folds.{concat-append}
use Rattle.std.proofs.Math.Seq.{take-append-add}
use Rattle.message_reading.specs.declared.fault.MessageFault.{MessageFault}
use Rattle.message_reading.specs.declared.fault.MessageFault.TheVariants.{TurnLimit}
use Rattle.body_pieces.specs.declared.piece.Piece.{Piece}
use Rattle.body_pieces.specs.declared.rest.Rest.{Rest}
use Rattle.body_pieces.specs.declared.rest.Rest.TheVariants.{Sized}
use Rattle.body_pieces.specs.Beginnings.{GaveBeginning, GaveFault, IsAtItsEnd, Steps}
use Rattle.body_pieces.specs.Rests.{IsRest, is_ended}
use Rattle.answer_streaming.specs.declared.delimiting.Delimiting.{Delimiting}
use Rattle.answer_streaming.specs.declared.delimiting.Delimiting.TheVariants.{Length, Chunks, ToEnd}
use Rattle.answer_streaming.specs.declared.ended.End.TheVariants as end
use Rattle.answer_streaming.specs.Passed.{GaveWhole, IsStreamed}
use Rattle.answer_streaming.specs.Texts.{Agrees, IsDone, Takes, begun_text, behind, end_text, last_text, piece_text, whole_text}
use Rattle.answer_streaming.proofs.ReadSoFar.{ended_since, gave_fault, gave_more, gave_none, gave_turns}

pub end_behind : (d : Delimiting) (count : ℕ) → end_text (behind d count) ≡ end_text d
end_behind (Length left) count = refl
end_behind Chunks count = refl
end_behind ToEnd count = refl

-- the same is written by both
pub record IsAlike (d now : Delimiting) : Type 0 where
  pub pieces : (piece : List ℕ) → piece_text now piece ≡ piece_text d piece
  pub ends : end_text now ≡ end_text d

pub self_alike : (d : Delimiting) → IsAlike d d
self_alike d = record { pieces = λ piece. refl; ends = refl }

pub behind_alike : (d now : Delimiting) (count : ℕ) → IsAlike d now → IsAlike d (behind now count)
behind_alike d (Length left) count is = record { pieces = is.pieces; ends = is.ends }
behind_alike d Chunks count is = record { pieces = is.pieces; ends = is.ends }
behind_alike d ToEnd count is = record { pieces = is.pieces; ends = is.ends }

-- whoever writes a length may write each piece of a body of that length
pub takes_piece : (rest : Rest) (d : Delimiting) (piece : Piece) (count : ℕ) → Agrees rest d
    → Steps rest piece → count ≡ length piece.bytes.items → Takes d count
takes_piece rest (Length left) piece count agree step is =
    let all = subst (λ r. Steps r piece) agree step in
    rw is all.0
takes_piece rest Chunks piece count agree step is = tt
takes_piece rest ToEnd piece count agree step is = tt

pub agrees_more : (rest : Rest) (d : Delimiting) (piece : Piece) (count : ℕ) → Agrees rest d
    → Steps rest piece → count ≡ length piece.bytes.items → Agrees piece.rest (behind d count)
agrees_more rest (Length left) piece count agree step is =
    let all = subst (λ r. Steps r piece) agree step in
    rw is all.1
agrees_more rest Chunks piece count agree step is = tt
agrees_more rest ToEnd piece count agree step is = tt

none_left : (n : ℕ) → is_ended (Sized n) ≡ true → n ≡ 0
none_left zero e = refl
none_left (suc n) e = absurd (search rules)

-- and all of it behind the last one
pub done_last : (rest : Rest) (d : Delimiting) (piece : Piece) (count : ℕ) → Agrees rest d
    → Steps rest piece → piece.is_last ≡ true → count ≡ length piece.bytes.items
    → IsDone (behind d count)
done_last rest (Length left) piece count agree step last is =
    let all = subst (λ r. Steps r piece) agree step in
    let zero : is_ended (Sized (left - length piece.bytes.items)) ≡ true =
    subst (λ r. is_ended r ≡ true) all.1 (sym all.2 ∙ last) in
    rw is (none_left (left - length piece.bytes.items) zero)
done_last rest Chunks piece count agree step last is = tt
done_last rest ToEnd piece count agree step last is = tt

-- a beginning, behind which nothing of a body is left, is the whole
pub gave_whole : (rest after : Rest) (old new : Option (List ℕ)) (p : List ℕ)
    → GaveBeginning rest old new p after → IsAtItsEnd after old new → GaveWhole rest old new p
gave_whole rest after None new p gave last = tt
gave_whole rest after (Some xs) None p gave last = absurd gave
gave_whole rest after (Some xs) (Some ys) p gave last =
    subst (λ (l : List ℕ). IsRest rest xs (Ok (l, ys))) (append-nil p)
    (subst (λ (l : List ℕ). IsRest rest l (Ok (p ++ [], ys))) (sym gave.1)
    (gave.2 ys (Ok ([], ys)) last))

pub ruleset piece_steps = (takes_piece, agrees_more, gave_whole)

module _ (rest : Rest) (d : Delimiting) (head : List ℕ) (old held : Option (List ℕ)) where
  -- ON ITS WAY: some pieces were read and written, and this is still to be read and written
  pub record IsUnderway (mid : Option (List ℕ)) (holds : Option (List ℕ)) (after : Rest)
      (now : Delimiting) : Type 0 where
    pub pieces : List (List ℕ)
    pub read : GaveBeginning rest old mid (concat pieces) after
    pub wrote : Appends held holds (begun_text d head pieces)
    pub alike : IsAlike d now
    pub agree : Agrees after now

  text_more : (pieces : List (List ℕ)) (piece : List ℕ)
      → begun_text d head (pieces ++ piece ∷ []) ≡ begun_text d head pieces ++ piece_text d piece
  text_more pieces piece = sym (flat_map_more (piece_text d) head pieces piece)

  payload_more : (pieces : List (List ℕ)) (piece : List ℕ)
      → concat (pieces ++ piece ∷ []) ≡ concat pieces ++ piece
  payload_more pieces piece =
      concat-append pieces (piece ∷ []) ∙ ap (λ l. concat pieces ++ l) (append-nil piece)

  pub underway_start : (holds : Option (List ℕ)) (now : Delimiting) → IsAlike d now
      → Appends held holds head → Agrees rest now → IsUnderway old holds rest now
  underway_start holds now alike wrote agree = record {
    pieces = [];
    read = gave_none rest old;
    wrote = rw (append-nil head) wrote;
    alike = alike;
    agree = agree;
  }

  -- a beginning of the head was written
  pub unbegun : (then : Option (List ℕ)) → ((count : ℕ) × Appends held then (take count head))
      → IsStreamed rest d head old old held then end.Left
  unbegun then wrote =
      ([], wrote.0, rest, gave_none rest old, rw (append-nil head) wrote.1)

  module _ (mid holds new : Option (List ℕ)) (after : Rest) (now : Delimiting)
      (way : IsUnderway mid holds after now) where
    read_more : (piece : Piece) → GaveBeginning after mid new piece.bytes.items piece.rest
        → GaveBeginning rest old new (concat (way.pieces ++ piece.bytes.items ∷ [])) piece.rest
    read_more piece gave =
        subst (λ (p : List ℕ). GaveBeginning rest old new p piece.rest)
        (sym (payload_more way.pieces piece.bytes.items))
        (gave_more rest after piece.rest old mid new (concat way.pieces) piece.bytes.items way.read
        gave)

    pub underway_more : (then : Option (List ℕ)) (piece : Piece) (text : List ℕ) (on : Delimiting)
        → GaveBeginning after mid new piece.bytes.items piece.rest → Steps after piece
        → text ≡ piece.bytes.items → Appends holds then (piece_text now text)
        → on ≡ behind now (length text) → IsUnderway new then piece.rest on
    underway_more then piece text on gave step is wrote next =
        let more : Appends holds then (piece_text d piece.bytes.items) =
        subst (λ (t : List ℕ). Appends holds then t)
        (ap (piece_text now) is ∙ way.alike.pieces piece.bytes.items) wrote in
        record {
          pieces = way.pieces ++ piece.bytes.items ∷ [];
          read = read_more piece gave;
          wrote = rw (text_more way.pieces piece.bytes.items)
              (Appends-trans held holds then (begun_text d head way.pieces)
              (piece_text d piece.bytes.items) way.wrote more);
          alike = rw next (behind_alike d now (length text) way.alike);
          agree = rw next (agrees_more after now piece (length text) way.agree step
              (ap (λ (t : List ℕ). length t) is));
        }

    pub broken : (f : MessageFault) → GaveFault after mid f
        → IsStreamed rest d head old new held holds (end.Broken f)
    broken f fault = (
      way.pieces,
      mid,
      after,
      way.read,
      gave_fault rest after old mid (concat way.pieces) f
          way.read fault,
      way.wrote,
    )

    pub turned : (f : MessageFault) → f ≡ TurnLimit
        → IsStreamed rest d head old new held holds (end.Broken f)
    turned f is =
        (way.pieces, mid, after, way.read, rw is (gave_turns rest old), way.wrote)

    -- a beginning of a piece was written
    front_more : (then : Option (List ℕ)) (piece text : List ℕ) (count : ℕ) → text ≡ piece
        → Appends holds then (take count (piece_text now text))
        → Appends held then (begun_text d head way.pieces ++ take count (piece_text d piece))
    front_more then piece text count is wrote =
        Appends-trans held holds then (begun_text d head way.pieces) _ way.wrote
        (subst (λ (t : List ℕ). Appends holds then (take count t))
        (ap (piece_text now) is ∙ way.alike.pieces piece) wrote)

    pub left_behind : (then : Option (List ℕ)) (piece : Piece) (text : List ℕ)
        → GaveBeginning after mid new piece.bytes.items piece.rest → text ≡ piece.bytes.items
        → ((count : ℕ) × Appends holds then (take count (piece_text now text)))
        → IsStreamed rest d head old new held then end.Left
    left_behind then piece text gave is wrote =
        let begun : List ℕ = begun_text d head way.pieces in
        let more : List ℕ = piece_text d piece.bytes.items in (
          way.pieces ++ piece.bytes.items ∷ [],
          length begun + wrote.0,
          piece.rest,
          read_more piece gave,
          rw (text_more way.pieces piece.bytes.items, take-append-add begun more wrote.0)
              (front_more then piece.bytes.items text wrote.0 is wrote.1),
        )

    whole_more : (piece : Piece) → GaveBeginning after mid new piece.bytes.items piece.rest
        → IsAtItsEnd piece.rest mid new
        → GaveWhole rest old new (concat (way.pieces ++ piece.bytes.items ∷ []))
    whole_more piece gave last =
        gave_whole rest piece.rest old new _ (read_more piece gave)
        (ended_since rest after piece.rest old mid new (concat way.pieces) way.read last)

    text_last : (piece : List ℕ)
        → whole_text d head (way.pieces ++ piece ∷ [])
        ≡ begun_text d head way.pieces ++ last_text d piece
    text_last piece =
        ap (λ (t : List ℕ). t ++ end_text d) (text_more way.pieces piece)
        ∙ append_assoc (begun_text d head way.pieces) (piece_text d piece) (end_text d)

    last_alike : (piece text : List ℕ) → text ≡ piece → last_text now text ≡ last_text d piece
    last_alike piece text is =
        ap (last_text now) is
        ∙ ap (λ (t : List ℕ). t ++ end_text now) (way.alike.pieces piece)
        ∙ ap (λ (t : List ℕ). piece_text d piece ++ t) way.alike.ends

    -- the last piece was written, and what ends the body
    pub whole : (then : Option (List ℕ)) (piece : Piece) (text : List ℕ)
        → GaveBeginning after mid new piece.bytes.items piece.rest → IsAtItsEnd piece.rest mid new
        → text ≡ piece.bytes.items → Appends holds then (last_text now text)
        → IsStreamed rest d head old new held then end.Whole
    whole then piece text gave last is wrote = (
      way.pieces ++ piece.bytes.items ∷ [],
      whole_more piece gave last,
      rw (text_last piece.bytes.items)
          (Appends-trans held holds then (begun_text d head way.pieces)
          (last_text d piece.bytes.items) way.wrote
          (subst (λ (t : List ℕ). Appends holds then t) (last_alike piece.bytes.items text is)
          wrote)),
    )

    -- or a beginning of that
    pub unwritten : (then : Option (List ℕ)) (piece : Piece) (text : List ℕ)
        → GaveBeginning after mid new piece.bytes.items piece.rest → IsAtItsEnd piece.rest mid new
        → text ≡ piece.bytes.items
        → ((count : ℕ) × Appends holds then (take count (last_text now text)))
        → IsStreamed rest d head old new held then end.Unwritten
    unwritten then piece text gave last is wrote =
        let begun : List ℕ = begun_text d head way.pieces in
        let more : List ℕ = last_text d piece.bytes.items in (
          way.pieces ++ piece.bytes.items ∷ [],
          length begun + wrote.0,
          whole_more piece gave last,
          rw (text_last piece.bytes.items, take-append-add begun more wrote.0)
              (Appends-trans held holds then begun (take wrote.0 more) way.wrote
              (subst (λ (t : List ℕ). Appends holds then (take wrote.0 t))
              (last_alike piece.bytes.items text is) wrote.1)),
        )
