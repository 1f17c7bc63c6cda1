-- Bytes behind the empty lines in front: an LF stands at their end at most, and the last three
-- decide.
use Rattle.std.proofs.Common.{rules, arith, ◌≡◌, ◌≢◌, ◌≤◌, ◌+◌, ◌-◌, ◌==◌, ◌&&◌, ◌||◌, not, suc, zero, ◌∙◌, ◌++◌, All, ne_eqb, sym, ap, ap₂, subst, refl, ℕ, true, false, List, [], ◌∷◌, length, take, drop, get_or, append_assoc, take_all}
use Rattle.std.specs.Io.{StopsAt}
use Rattle.std.proofs.lemmas.List.{append-nil, length-append, take_more}
use Rattle.std.proofs.lemmas.List.Elements.{All-head, All-tail}
use Rattle.message_reading.specs.declared.progress.Progress.{Progress}
use Rattle.message_reading.specs.HeadBytes.{ended_by, ends_head, is_blank, line_ends}
use Rattle.message_reading.specs.Progress.{IsProgress}
use Rattle.message_reading.specs.ChunkLines.{ends_in_empty, is_empty_end, last_three}
use Rattle.message_reading.proofs.HeadProgress.{blank_more, ends_more, progress_more}

-- bytes without an LF in front of the last one have none there behind some of them either
pub stops_behind : (at : ℕ) (xs : List ℕ) → StopsAt xs 10 → StopsAt (drop at xs) 10
stops_behind zero xs stops = stops
stops_behind (suc at) [] stops = stops
stops_behind (suc at) (x ∷ []) stops = stops_behind at [] (search rules)
stops_behind (suc at) (x ∷ y ∷ xs) stops =
    let shorter : length (x ∷ y ∷ xs) - 1 ≡ suc (length (y ∷ xs) - 1) = omega arith in
    let front = subst (All (λ b. b ≢ 10)) (ap (λ k. take k (x ∷ y ∷ xs)) shorter) stops in
    stops_behind at (y ∷ xs) (All-tail (λ b. b ≢ 10) x _ front)

no_end : (b : ℕ) → b ≢ 10 → ended_by false b ≡ 0
no_end b other = rw (ne_eqb b 10 other) refl

-- bytes that are no LF end no line
loose_more : (text front : List ℕ) (n : ℕ) → All (λ b. b ≢ 10) front → is_blank 10 text ≡ false
    → line_ends text ≡ n
    → (is_blank 10 (text ++ front) ≡ false) × (line_ends (text ++ front) ≡ n)
unfolding line_ends
loose_more text [] n others blank lines =
    subst (λ t. (is_blank 10 t ≡ false) × (line_ends t ≡ n)) (sym (append-nil text)) (blank, lines)
loose_more text (x ∷ front) n others blank lines =
    let other : x ≢ 10 = All-head (λ b. b ≢ 10) x front others in
    let longer : is_blank 10 (text ++ x ∷ []) ≡ false =
    blank_more (0, 0, 10) x text ∙ rw blank refl in
    let none : ended_by (is_blank 10 (text ++ x ∷ [])) x ≡ 0 =
    ap (λ t. ended_by t x) longer ∙ no_end x other in
    let same : line_ends (text ++ x ∷ []) ≡ n =
    ends_more 10 x text ∙ ap₂ (λ i j. i + j) lines none ∙ omega arith in
    subst (λ t. (is_blank 10 t ≡ false) × (line_ends t ≡ n)) (append_assoc text (x ∷ []) front)
    (loose_more (text ++ x ∷ []) front n (All-tail (λ b. b ≢ 10) x front others) longer same)

all_front : (xs ys : List ℕ) → All (λ b. b ≢ 10) (xs ++ ys) → All (λ b. b ≢ 10) xs
all_front [] ys all = search rules
all_front (x ∷ xs) ys all =
    let first = All-head (λ b. b ≢ 10) x (xs ++ ys) all in
    let others = all_front xs ys (All-tail (λ b. b ≢ 10) x (xs ++ ys) all) in
    search rules

all_back : (xs ys : List ℕ) → All (λ b. b ≢ 10) (xs ++ ys) → All (λ b. b ≢ 10) ys
all_back [] ys all = all
all_back (x ∷ xs) ys all = all_back xs ys (All-tail (λ b. b ≢ 10) x (xs ++ ys) all)

progress_past : (text front : List ℕ) (a b c : ℕ) (p q : Progress) → IsProgress text p
    → p.blank ≡ false → All (λ x. x ≢ 10) (front ++ a ∷ b ∷ []) → q.blank ≡ false → q.third ≡ a
    → q.second ≡ b → q.last ≡ c → q.lines ≡ p.lines + ended_by false c
    → IsProgress (text ++ (front ++ a ∷ b ∷ c ∷ [])) q
progress_past text front a b c p q is blank others still is_third is_second is_last is_lines =
    let seen = text ++ front in
    let loose = loose_more text front p.lines (all_front front (a ∷ b ∷ []) others)
    (sym is.blank_is ∙ blank) (sym is.lines_is) in
    let two = all_back front (a ∷ b ∷ []) others in
    let one : a ≢ 10 = All-head (λ x. x ≢ 10) a (b ∷ []) two in
    let other : b ≢ 10 = All-head (λ x. x ≢ 10) b [] (All-tail (λ x. x ≢ 10) a (b ∷ []) two) in
    let long = length-append text front in
    let fit = is.lines_fit in
    let start : Progress = record {
      blank = false;
      third = (last_three (0, 0, 10) seen).0;
      second = (last_three (0, 0, 10) seen).1;
      last = (last_three (0, 0, 10) seen).2;
      lines = p.lines;
    } in
    let begun : IsProgress seen start = record {
      blank_is = sym loose.0;
      third_is = refl;
      second_is = refl;
      last_is = refl;
      lines_is = sym loose.1;
      lines_fit = omega (arith, long, fit);
    } in
    let first : Progress = record {
      blank = false;
      third = start.second;
      second = start.last;
      last = a;
      lines = p.lines;
    } in
    let none : (x : ℕ) → x ≢ 10 → p.lines ≡ p.lines + ended_by false x =
    λ x is_other. sym (ap (λ n. p.lines + n) (no_end x is_other) ∙ omega arith) in
    let after_a = progress_more seen start first a begun refl refl refl refl (none a one) in
    let second : Progress = record {
      blank = false;
      third = start.last;
      second = a;
      last = b;
      lines = p.lines;
    } in
    let after_b = progress_more (seen ++ a ∷ []) first second b after_a refl refl refl refl
    (none b other) in
    let ends : q.lines ≡ p.lines + ended_by q.blank c =
    is_lines ∙ ap (λ t. p.lines + ended_by t c) (sym still) in
    let after_c = progress_more ((seen ++ a ∷ []) ++ b ∷ []) second q c after_b still is_third
    is_second is_last ends in
    let joined : ((seen ++ a ∷ []) ++ b ∷ []) ++ c ∷ [] ≡ text ++ (front ++ a ∷ b ∷ c ∷ []) =
    append_assoc (seen ++ a ∷ []) (b ∷ []) (c ∷ []) ∙ append_assoc seen (a ∷ []) (b ∷ c ∷ [])
    ∙ append_assoc text front (a ∷ b ∷ c ∷ []) in
    subst (λ t. IsProgress t q) joined after_c

-- three bytes or more end with the last three
last_three_of : (xs : List ℕ) → 3 ≤ length xs
    → xs ≡ take (length xs - 3) xs ++ get_or xs (length xs - 3) 0 ∷ get_or xs (length xs - 2) 0
    ∷ get_or xs (length xs - 1) 0 ∷ []
last_three_of xs long =
    let n = length xs in
    let front = take (n - 3) xs in
    let all : take (n - 1 + 1) xs ≡ xs = take_all (n - 1 + 1) xs (omega arith) in
    let one = take_more xs (n - 1) 0 (omega arith) in
    let two = take_more xs (n - 2) 0 (omega arith) in
    let three = take_more xs (n - 3) 0 (omega arith) in
    let at_two : n - 2 + 1 ≡ n - 1 = omega arith in
    let at_three : n - 3 + 1 ≡ n - 2 = omega arith in
    let a = get_or xs (n - 3) 0 in
    let b = get_or xs (n - 2) 0 in
    let c = get_or xs (n - 1) 0 in
    let second : take (n - 2) xs ≡ front ++ a ∷ [] = ap (λ k. take k xs) (sym at_three) ∙ three in
    let third : take (n - 1) xs ≡ (front ++ a ∷ []) ++ b ∷ [] =
    ap (λ k. take k xs) (sym at_two) ∙ two ∙ ap (λ l. l ++ b ∷ []) second in
    sym all ∙ one ∙ ap (λ l. l ++ c ∷ []) third
    ∙ append_assoc (front ++ a ∷ []) (b ∷ []) (c ∷ [])
    ∙ append_assoc front (a ∷ []) (b ∷ c ∷ [])

-- all but the last byte of them
all_but_last : (xs : List ℕ) → 3 ≤ length xs
    → take (length xs - 1) xs
    ≡ take (length xs - 3) xs ++ get_or xs (length xs - 3) 0 ∷ get_or xs (length xs - 2) 0 ∷ []
all_but_last xs long =
    let n = length xs in
    let front = take (n - 3) xs in
    let two = take_more xs (n - 2) 0 (omega arith) in
    let three = take_more xs (n - 3) 0 (omega arith) in
    let at_two : n - 2 + 1 ≡ n - 1 = omega arith in
    let at_three : n - 3 + 1 ≡ n - 2 = omega arith in
    let a = get_or xs (n - 3) 0 in
    let b = get_or xs (n - 2) 0 in
    let second : take (n - 2) xs ≡ front ++ a ∷ [] = ap (λ k. take k xs) (sym at_three) ∙ three in
    ap (λ k. take k xs) (sym at_two) ∙ two ∙ ap (λ l. l ++ b ∷ []) second
    ∙ append_assoc front (a ∷ []) (b ∷ [])

-- the last three bytes decide
pub progress_behind : (text piece : List ℕ) (p q : Progress) → IsProgress text p → p.blank ≡ false
    → 3 ≤ length piece → StopsAt piece 10 → q.blank ≡ false
    → q.third ≡ get_or piece (length piece - 3) 0 → q.second ≡ get_or piece (length piece - 2) 0
    → q.last ≡ get_or piece (length piece - 1) 0
    → q.lines ≡ p.lines + ended_by false (get_or piece (length piece - 1) 0)
    → IsProgress (text ++ piece) q
progress_behind text piece p q is blank long stops still third second last lines =
    let others = subst (All (λ b. b ≢ 10)) (all_but_last piece long) stops in
    let past = progress_past text _ _ _ _ p q is blank others still third second last lines in
    subst (λ all. IsProgress (text ++ all) q) (sym (last_three_of piece long)) past

three_of : (three : ℕ × ℕ × ℕ) (xs : List ℕ) (a b c : ℕ)
    → last_three three (xs ++ a ∷ b ∷ c ∷ []) ≡ (a, b, c)
three_of three [] a b c = refl
three_of three (x ∷ xs) a b c = three_of (three.1, three.2, x) xs a b c

-- a line of three bytes or more ends no head
pub long_line : (text line : List ℕ) → 3 ≤ length line → StopsAt line 10
    → ends_head (text ++ line) ≡ false
unfolding ends_head ends_in_empty is_empty_end
long_line text line long stops =
    let front = take (length line - 3) line in
    let a = get_or line (length line - 3) 0 in
    let b = get_or line (length line - 2) 0 in
    let c = get_or line (length line - 1) 0 in
    let others = subst (All (λ x. x ≢ 10)) (all_but_last line long) stops in
    let two = all_back front (a ∷ b ∷ []) others in
    let one : (a == 10) ≡ false = ne_eqb a 10 (All-head (λ x. x ≢ 10) a (b ∷ []) two) in
    let other : (b == 10) ≡ false =
    ne_eqb b 10 (All-head (λ x. x ≢ 10) b [] (All-tail (λ x. x ≢ 10) a (b ∷ []) two)) in
    let joined : text ++ line ≡ (text ++ front) ++ a ∷ b ∷ c ∷ [] =
    ap (λ l. text ++ l) (last_three_of line long)
    ∙ sym (append_assoc text front (a ∷ b ∷ c ∷ [])) in
    let three : last_three (0, 0, 10) (text ++ line) ≡ (a, b, c) =
    ap (last_three (0, 0, 10)) joined ∙ three_of (0, 0, 10) (text ++ front) a b c in
    let none : ends_in_empty (text ++ line) ≡ false =
    ap is_empty_end three ∙ rw (one, other) (elim (b == 13) as
    (λ s. ((c == 10) && (false || (s && false))) ≡ false) [
      | true ↦ elim (c == 10) as (λ t. (t && false) ≡ false) [ true ↦ refl | false ↦ refl ]
      | false ↦ elim (c == 10) as (λ t. (t && false) ≡ false) [ true ↦ refl | false ↦ refl ]
    ]) in
    rw none (elim (not (is_blank 10 (text ++ line))) as (λ t. (t && false) ≡ false)
    [ true ↦ refl | false ↦ refl ])
