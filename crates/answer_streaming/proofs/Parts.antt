-- Texts that are written in two parts or three.
use Rattle.std.proofs.Common.{◌≡◌, ◌∙◌, ℕ, List, ◌++◌, sym, subst, Option, append_assoc}
use Rattle.std.specs.Prelude.{Result, Ok, Err, OnErr, OnOk}
use Rattle.std.specs.Io.KnownBytes.{Appends}
use Rattle.std.proofs.KnownBytes.{Appends-trans}
use Rattle.answer_streaming.proofs.Fronts.{Front, front_err, front_first, front_last, front_second}

module _ {T E : Type 0} (r : Result T E) (a b c : Option (List ℕ)) (x y text : List ℕ)
    (is : x ++ y ≡ text) where
  pub two_first : Front a b x → OnErr r (Front a b text)
  two_first p = front_err r a b (x ++ y) text (sym is) (front_first a b x y p)

  pub two_last : Appends a b x → OnErr r (Front b c y) → OnErr r (Front a c text)
  two_last p last = front_last r a b c x y text (sym is) p last

pub two_all : {T E : Type 0} (r : Result T E) (a b c : Option (List ℕ)) (x y text : List ℕ)
    → x ++ y ≡ text → Appends a b x → OnOk r (Appends b c y) → OnOk r (Appends a c text)
two_all (Err e) a b c x y text is p last = tt
two_all (Ok v) a b c x y text is p last =
    subst (λ (t : List ℕ). Appends a c t) is (Appends-trans a b c x y p last)

module _ {T E : Type 0} (r : Result T E) (a b c d : Option (List ℕ)) (x y z text : List ℕ)
    (is : (x ++ y) ++ z ≡ text) where
  pub three_first : Front a b x → OnErr r (Front a b text)
  three_first p = two_first r a b b x (y ++ z) text (sym (append_assoc x y z) ∙ is) p

  pub three_second : Appends a b x → Front b c y → OnErr r (Front a c text)
  three_second p q = two_first r a c c (x ++ y) z text is (front_second a b c x y p q)

  pub three_last : Appends a b x → Appends b c y → OnErr r (Front c d z) → OnErr r (Front a d text)
  three_last p q last =
      two_last r a c d (x ++ y) z text is (Appends-trans a b c x y p q) last

  pub three_all : Appends a b x → Appends b c y → OnOk r (Appends c d z) → OnOk r (Appends a d text)
  three_all p q last = two_all r a c d (x ++ y) z text is (Appends-trans a b c x y p q) last
