-- The text of a head, up to the line that ends it.
use Rattle.std.proofs.Common.{rules, arith, ◌≡◌, ◌≤◌, ◌<◌, ◌∙◌, ◌++◌, All, subst, sym, ap, refl, ℕ, true, false, List, [], ◌∷◌, length, length-append, append_assoc}
use Rattle.std.specs.Io.{StopsAt}
use Rattle.std.specs.List.{flat_map}
use Rattle.std.proofs.lemmas.Bool.{false≢true}
use Rattle.std.proofs.lemmas.List.{append-nil}
use Rattle.std.proofs.lemmas.List.Elements.{All-head, All-tail}
use Rattle.httparse.specs.Grammar.{Field, IsField, LineEnd, RequestHead, ResponseHead, crlf, lf, print_blank, print_end, print_field}
use Rattle.message_reading.specs.ChunkLines.{ends_in_empty, is_empty_end, last_three}
use Rattle.message_reading.specs.HeadBytes.{ends_head, is_blank}
use Rattle.message_reading.specs.HeadTexts.{IsHeadText}
use Rattle.message_reading.specs.Progress.{HeadPasses}
use Rattle.message_reading.specs.WholeHeads.{IsWholeRequest, IsWholeResponse}
use Rattle.message_reading.proofs.HeadCuts.{GoesBy, by_nothing, by_piece, passes_line}
use Rattle.message_reading.proofs.HeadProgress.{blank_more}
use Rattle.message_reading.proofs.LastBytes.{long_line}
use Rattle.message_reading.proofs.LineCounts.{IsHead, head_lines, not_blank, print_head, request_is, request_text, response_is, response_text}
use Rattle.message_reading.proofs.LongLines.{IsLong, end_some, end_stops, field_long, last_feed}

-- lines of which none ends a head
record Lines (seen : List ℕ) : Type 0 where
  by : GoesBy [] seen
  last : (last_three (0, 0, 10) seen).2 ≡ 10

three_behind : (three : ℕ × ℕ × ℕ) (seen piece : List ℕ)
    → last_three three (seen ++ piece) ≡ last_three (last_three three seen) piece
three_behind three [] piece = refl
three_behind three (b ∷ seen) piece = three_behind (three.1, three.2, b) seen piece

-- a line more
line_behind : (seen line : List ℕ) → Lines seen → 0 < length line → StopsAt line 10
    → ((three : ℕ × ℕ × ℕ) → (last_three three line).2 ≡ 10) → ends_head (seen ++ line) ≡ false
    → length (seen ++ line) ≤ 65536 → Lines (seen ++ line)
line_behind seen line lines some stops last none fits = record {
  by = by_piece [] (seen ++ line)
      (passes_line [] seen line lines.by some stops (omega (arith, fits))) none;
  last = ap (λ (three : ℕ × ℕ × ℕ). three.2) (three_behind (0, 0, 10) seen line)
      ∙ last (last_three (0, 0, 10) seen);
}

long_behind : (seen line : List ℕ) → Lines seen → IsLong line → length (seen ++ line) ≤ 65536
    → Lines (seen ++ line)
long_behind seen line lines is fits =
    line_behind seen line lines (omega (arith, is.long)) is.stops is.last
    (long_line seen line is.long is.stops) fits

front_fits : (front rest : List ℕ) → length (front ++ rest) ≤ 65536 → length front ≤ 65536
front_fits front rest fits = let whole = length-append front rest in omega arith

fields_behind : (fields : List Field) (seen : List ℕ) → All IsField fields → Lines seen
    → length (seen ++ flat_map print_field fields) ≤ 65536
    → Lines (seen ++ flat_map print_field fields)
fields_behind [] seen are lines fits = subst Lines (sym (append-nil seen)) lines
fields_behind (f ∷ fields) seen are lines fits =
    let line = print_field f in
    let others = flat_map print_field fields in
    let joined : (seen ++ line) ++ others ≡ seen ++ flat_map print_field (f ∷ fields) =
    append_assoc seen line others in
    let whole = subst (λ text. length text ≤ 65536) (sym joined) fits in
    let more = long_behind seen line lines (field_long f (All-head IsField f fields are))
    (front_fits (seen ++ line) others whole) in
    subst Lines joined
    (fields_behind fields (seen ++ line) (All-tail IsField f fields are) more whole)

blank_line : (seen : List ℕ) (e : LineEnd) → (last_three (0, 0, 10) seen).2 ≡ 10
    → is_blank 10 seen ≡ true → is_blank 10 (seen ++ print_end e) ≡ true
blank_line seen lf last blank = blank_more (0, 0, 10) 10 seen ∙ rw blank refl
blank_line seen crlf last blank =
    let one : is_blank 10 (seen ++ 13 ∷ []) ≡ true =
    blank_more (0, 0, 10) 13 seen ∙ rw (blank, last) refl in
    subst (λ text. is_blank 10 text ≡ true) (append_assoc seen (13 ∷ []) (10 ∷ []))
    (blank_more (0, 0, 10) 10 (seen ++ 13 ∷ []) ∙ rw one refl)

blank_is_none : (text : List ℕ) → is_blank 10 text ≡ true → ends_head text ≡ false
unfolding ends_head
blank_is_none text blank = rw blank refl

blank_behind : (ends : List LineEnd) (seen : List ℕ) → Lines seen → is_blank 10 seen ≡ true
    → length (seen ++ print_blank ends) ≤ 65536 → Lines (seen ++ print_blank ends)
blank_behind [] seen lines blank fits = subst Lines (sym (append-nil seen)) lines
blank_behind (e ∷ ends) seen lines blank fits =
    let line = print_end e in
    let joined : (seen ++ line) ++ print_blank ends ≡ seen ++ print_blank (e ∷ ends) =
    append_assoc seen line (print_blank ends) in
    let whole = subst (λ text. length text ≤ 65536) (sym joined) fits in
    let still = blank_line seen e lines.last blank in
    let more = line_behind seen line lines (end_some e) (end_stops e)
    (λ three. last_feed three [] e) (blank_is_none (seen ++ line) still)
    (front_fits (seen ++ line) (print_blank ends) whole) in
    subst Lines joined (blank_behind ends (seen ++ line) more still whole)

-- an empty line ends them
empty_behind : (seen : List ℕ) (e : LineEnd) → (last_three (0, 0, 10) seen).2 ≡ 10
    → ends_in_empty (seen ++ print_end e) ≡ true
unfolding ends_in_empty is_empty_end
empty_behind seen crlf last =
    ap is_empty_end (three_behind (0, 0, 10) seen (13 ∷ 10 ∷ [])) ∙ rw last refl
empty_behind seen lf last =
    ap is_empty_end (three_behind (0, 0, 10) seen (10 ∷ [])) ∙ rw last refl

ends_behind : (text : List ℕ) → is_blank 10 text ≡ false → ends_in_empty text ≡ true
    → ends_head text ≡ true
unfolding ends_head
ends_behind text others empty = rw (others, empty) refl

head_text : (blank : List LineEnd) (line : List ℕ) (fields : List Field) (last : LineEnd)
    → IsHead line fields → length fields ≤ 100
    → length (print_head blank line fields last) ≤ 65536
    → IsHeadText (print_head blank line fields last)
head_text blank line fields last is few fits =
    let front = print_blank blank in
    let others = flat_map print_field fields in
    let end = print_end last in
    let joined : ((front ++ line) ++ others) ++ end ≡ print_head blank line fields last =
    append_assoc (front ++ line) others end ∙ append_assoc front line (others ++ end) in
    let whole = subst (λ text. length text ≤ 65536) (sym joined) fits in
    let behind = front_fits ((front ++ line) ++ others) end whole in
    let first = front_fits (front ++ line) others behind in
    let started : Lines [] = record { by = by_nothing []; last = refl } in
    let blanks = blank_behind blank [] started refl (front_fits front line first) in
    let lines = fields_behind fields (front ++ line) is.fields_are
    (long_behind front line blanks is.first first) behind in
    let empty = empty_behind ((front ++ line) ++ others) last lines.last in
    let count = head_lines blank line fields last is in
    record {
      passes = subst (HeadPasses []) joined
          (passes_line [] ((front ++ line) ++ others) end lines.by (end_some last) (end_stops last)
          (omega (arith, whole)));
      ends = ends_behind (print_head blank line fields last)
          (not_blank blank line (others ++ end) is.shows)
          (subst (λ text. ends_in_empty text ≡ true) joined empty);
      few = omega arith;
    }

-- a head of the grammar is the text of one head
pub request_is_text : (text : List ℕ) (h : RequestHead) → IsWholeRequest text h
    → length h.fields ≤ 100 → length text ≤ 65536 → IsHeadText text
request_is_text text h whole few fits =
    let is = request_text text h whole in
    subst IsHeadText (sym is)
    (head_text h.blank _ h.fields h.last (request_is h whole.0) few
    (subst (λ text. length text ≤ 65536) is fits))

pub response_is_text : (text : List ℕ) (h : ResponseHead) → IsWholeResponse text h
    → length h.fields ≤ 100 → length text ≤ 65536 → IsHeadText text
response_is_text text h whole few fits =
    let is = response_text text h whole in
    subst IsHeadText (sym is)
    (head_text h.blank _ h.fields h.last (response_is h whole.0) few
    (subst (λ text. length text ≤ 65536) is fits))

-- it isn't empty
pub some_text : (text : List ℕ) → IsHeadText text → 0 < length text
unfolding ends_head
some_text [] is = absurd (false≢true is.ends)
some_text (b ∷ text) is = search rules
