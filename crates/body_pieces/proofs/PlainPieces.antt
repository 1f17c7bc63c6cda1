-- Pieces of bodies with a length, and of bodies that run to the reader's end.
use Rattle.std.proofs.Common.{rules, arith, ◌≡◌, ◌≤◌, ◌<◌, ◌+◌, ◌-◌, ◌∙◌, ◌++◌, sym, refl, ℕ, true, false, List, [], ◌∷◌, length, take, drop, nat_lt, subst}
use Rattle.std.specs.Prelude.{Option, Some, None, Ok, Err, IfSome, if◌then◌else◌}
use Rattle.std.specs.Io.KnownBytes.{Consumes}
use Rattle.std.proofs.KnownBytes.{Consumes-nil}
use Rattle.std.proofs.lemmas.List.{append-nil, length-append}
use Rattle.std.proofs.Math.Seq.{drop-append-add, take-append-add}
use Rattle.message_reading.specs.declared.fault.Fault.TheVariants.{Early}
use Rattle.message_reading.specs.declared.fault.MessageFault.TheVariants.{Bytes}
use Rattle.message_reading.specs.PlainBody.{sized_of}
use Rattle.message_reading.specs.Chunks.{in_front}
use Rattle.body_pieces.specs.declared.rest.Rest.TheVariants.{Sized, ToEnd}
use Rattle.body_pieces.specs.Beginnings.{Begins, GaveBeginning, GaveFault, IsAtItsEnd}
use Rattle.body_pieces.proofs.JoinedBeginnings.{begun, gave}

-- the bytes of a known number, a piece further
pub sized_of_more : (left : ℕ) (part more : List ℕ) → length part ≤ left
    → sized_of left (part ++ more) ≡ in_front part (sized_of (left - length part) more)
sized_of_more left part more fits =
    let back : ℕ = left - length part in
    let sum : length part + back ≡ left = omega (arith, fits) in
    let front : take left (part ++ more) ≡ part ++ take back more =
    subst (λ n. take n (part ++ more) ≡ part ++ take back more) sum
    (take-append-add part more back) in
    let behind : drop left (part ++ more) ≡ drop back more =
    subst (λ n. drop n (part ++ more) ≡ drop back more) sum (drop-append-add part more back) in
    let same : nat_lt (length (part ++ more)) left ≡ nat_lt (length more) back =
    grind (arith, length-append part more, sum) in
    rw (same, front, behind) (elim (nat_lt (length more) back) as (λ t.
    (if t then Err Early else Ok (part ++ take back more, drop back more))
    ≡ in_front part (if t then Err Early else Ok (take back more, drop back more))) [
      | true ↦ refl
      | false ↦ refl
    ])

pub begun_sized : (left : ℕ) (part : List ℕ) → length part ≤ left
    → Begins (Sized left) part part (Sized (left - length part))
begun_sized left part fits = λ more r is. rw is (sym (sized_of_more left part more fits))

-- some of the bytes that are left, behind those of a piece
pub sized_more : (left after : ℕ) (old new : Option (List ℕ)) (before part all : List ℕ)
    → Consumes old new part → length part ≤ left → all ≡ before ++ part
    → after ≡ left - length part
    → (more : List ℕ) × (all ≡ before ++ more)
    × GaveBeginning (Sized left) old new more (Sized after)
sized_more left after old new before part all given fits same is = (
  part,
  same,
  rw is (gave (Sized left) (Sized (left - length part)) old new part part given
      (begun_sized left part fits)),
)

pub sized_fits : (left count : ℕ) (before part all : List ℕ) → length part ≡ count
    → all ≡ before ++ part → count ≤ left → length all ≤ length before + left
sized_fits left count before part all long same fits =
    rw same (omega (arith, long, fits, length-append before part))

pub sized_left : (left count : ℕ) (before part all : List ℕ) → length part ≡ count
    → all ≡ before ++ part → count ≤ left → left - count ≡ (length before + left) - length all
sized_left left count before part all long same fits =
    rw same (omega (arith, long, fits, length-append before part))

-- a reader at its end has not so many bytes
pub sized_cut : (left : ℕ) (old : Option (List ℕ)) → 0 < left → IfSome old (λ all. all ≡ [])
    → GaveFault (Sized left) old (Bytes Early)
sized_cut left None some end = search rules
sized_cut left (Some xs) some end =
    let few : nat_lt 0 left ≡ true = search rules in
    rw (end, few) refl

-- nothing of a body is left
pub none_more : (left : ℕ) (old : Option (List ℕ)) (before : List ℕ) → left ≡ 0
    → (more : List ℕ) × (before ≡ before ++ more)
    × GaveBeginning (Sized left) old old more (Sized 0)
none_more left old before zero = (
  [],
  sym (append-nil before),
  rw zero (gave (Sized 0) (Sized 0) old old [] [] (Consumes-nil old) (begun (Sized 0))),
)

-- bytes up to the end, behind those of a piece
pub end_more : (old new : Option (List ℕ)) (before part all : List ℕ) → Consumes old new part
    → all ≡ before ++ part
    → (more : List ℕ) × (all ≡ before ++ more) × GaveBeginning ToEnd old new more ToEnd
end_more old new before part all given same =
    (part, same, gave ToEnd ToEnd old new part part given (λ more r is. rw is refl))

-- the end
pub end_found : (old new : Option (List ℕ)) (part : List ℕ) → Consumes old new part
    → length part ≡ 0 → IfSome old (λ all. all ≡ []) → IsAtItsEnd ToEnd old new
end_found None new part given none end = search rules
end_found (Some xs) None part given none end = absurd given
end_found (Some xs) (Some ys) (b ∷ part) given none end = absurd (omega (arith, none))
end_found (Some xs) (Some ys) [] given none end = rw (sym given ∙ end) refl

pub nothing : (bytes : List ℕ) → Ok ([], bytes) ≡ sized_of 0 bytes
nothing bytes =
    let enough : nat_lt (length bytes) 0 ≡ false = search rules in
    rw enough refl

pub ended : (left : ℕ) (old new : Option (List ℕ)) → left ≡ 0 → IsAtItsEnd (Sized left) old new
ended left None new zero = search rules
ended left (Some xs) None zero = search rules
ended left (Some xs) (Some ys) zero = rw zero (nothing ys)

pub ruleset sized_steps = (sized_more, sized_fits, sized_left, sized_cut, none_more, ended)

pub ruleset end_steps = (end_more, end_found)
