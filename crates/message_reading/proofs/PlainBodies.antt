-- Bytes of a known number, and all bytes, that were read a piece at a time.
use Rattle.std.proofs.Common.{rules, arith, ◌≡◌, ◌≤◌, ◌<◌, ◌+◌, ◌∙◌, ◌++◌, sym, ap, append_assoc, refl, ℕ, true, false, List, [], ◌∷◌, length, take, drop, nat_lt}
use Rattle.std.specs.Prelude.{Option, Some, None, Ok, Err, IfSome}
use Rattle.std.specs.Io.KnownBytes.{Consumes}
use Rattle.std.proofs.lemmas.List.{append-nil, length-append, take_at}
use Rattle.std.proofs.Math.Seq.{drop-append_seam}
use Rattle.std.proofs.Transfers.{drop-appended}
use Rattle.message_reading.specs.declared.fault.Fault.TheVariants.{Early, BodyTooLarge}
use Rattle.message_reading.specs.declared.fault.MessageFault.TheVariants.{Bytes}
use Rattle.message_reading.specs.Reading.{By, Gives}
use Rattle.message_reading.specs.PlainBody.{all_of, sized_of}

module _ {X : Type 0} (view : X → List ℕ) (size : ℕ) where
  pub filled : (old new : Option (List ℕ)) (x : X) → Consumes old new (view x)
      → length (view x) ≡ size → Gives view (By (sized_of size)) old new (Ok x)
  filled None new x all len = search rules
  filled (Some xs) None x all len = absurd all
  filled (Some xs) (Some ys) x all len =
      let long = length-append (view x) ys in
      let enough : nat_lt (length (view x ++ ys)) size ≡ false = search rules in
      let front : take size (view x ++ ys) ≡ view x = take_at (view x) ys size len in
      let back : drop size (view x ++ ys) ≡ ys = rw (sym len) (drop-append_seam (view x) ys) in
      rw (all, enough, front, back) refl

  -- the reader has no more
  pub not_filled : (old mid new : Option (List ℕ)) (got : List ℕ) → Consumes old mid got
      → length got < size → IfSome mid (λ left. left ≡ [])
      → Gives view (By (sized_of size)) old new (Err (Bytes Early))
  not_filled None mid new got given short end = search rules
  not_filled (Some xs) None new got given short end = absurd given
  not_filled (Some xs) (Some ys) new got given short end =
      let all : xs ≡ got =
      given ∙ ap (λ (r : List ℕ). got ++ r) end ∙ append-nil got in
      let few : nat_lt (length xs) size ≡ true = rw all (search rules) in
      rw few refl

module _ {X : Type 0} (view : X → List ℕ) where
  -- the reader is at its end
  pub all_read : (old mid new : Option (List ℕ)) (x : X) (got part : List ℕ) → Consumes old mid got
      → length got ≤ 8388608 → view x ≡ got ++ part → length part ≡ 0 → Consumes mid new part
      → IfSome mid (λ left. left ≡ []) → Gives view (By all_of) old new (Ok x)
  all_read None mid new x got part given fits same none gave end = search rules
  all_read (Some xs) None new x got part given fits same none gave end = absurd given
  all_read (Some xs) (Some ys) None x got part given fits same none gave end = absurd gave
  all_read (Some xs) (Some ys) (Some zs) x got (b ∷ part) given fits same none gave end =
      absurd (omega (arith, none))
  all_read (Some xs) (Some ys) (Some zs) x got [] given fits same none gave end =
      let all : xs ≡ got = given ∙ ap (λ (r : List ℕ). got ++ r) end ∙ append-nil got in
      let whole : view x ≡ got = same ∙ append-nil got in
      let rest : zs ≡ [] = sym gave ∙ end in
      let few : nat_lt 8388608 (length xs) ≡ false = rw all (search rules) in
      rw (few, all, whole, rest) refl

  -- there are more bytes than a body may have
  pub too_many : (old mid new : Option (List ℕ)) (got piece : List ℕ) → Consumes old mid got
      → Consumes mid new piece → 8388608 < length got + length piece
      → Gives view (By all_of) old new (Err (Bytes BodyTooLarge))
  too_many None mid new got piece one two over = search rules
  too_many (Some xs) None new got piece one two over = absurd one
  too_many (Some xs) (Some ys) None got piece one two over = absurd two
  too_many (Some xs) (Some ys) (Some zs) got piece one two over =
      let all : xs ≡ got ++ (piece ++ zs) = one ∙ ap (λ (r : List ℕ). got ++ r) two in
      let front = length-append got (piece ++ zs) in
      let back = length-append piece zs in
      let many : nat_lt 8388608 (length xs) ≡ true = rw all (search rules) in
      rw many refl

-- what lies behind a front, after more was put behind it
pub longer : (front old new part : List ℕ) → old ≡ front ++ drop (length front) old
    → new ≡ old ++ part → drop (length front) new ≡ drop (length front) old ++ part
longer front old new part kept more =
    drop-appended front new (drop (length front) old ++ part)
    (more ∙ ap (λ (l : List ℕ). l ++ part) kept ∙ append_assoc front _ part)

-- and the front stays
pub stays : (front old new part : List ℕ) → old ≡ front ++ drop (length front) old
    → new ≡ old ++ part → new ≡ front ++ drop (length front) new
stays front old new part kept more =
    let got : List ℕ = drop (length front) old in
    more ∙ ap (λ (l : List ℕ). l ++ part) kept ∙ append_assoc front got part
    ∙ ap (λ (l : List ℕ). front ++ l) (sym (longer front old new part kept more))
