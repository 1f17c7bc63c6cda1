-- Heads that are gathered line by line.
use Rattle.std.proofs.Common.{arith, ◌≡◌, ◌≢◌, ◌≤◌, ◌<◌, ◌+◌, ◌-◌, ◌∙◌, ◌++◌, All, sym, ap, subst, refl, ℕ, false, List, [], length, length-drop, length-take-le, append_assoc, take, drop}
use Rattle.std.specs.Io.{StopsAt}
use Rattle.std.proofs.Math.Seq.{take-add}
use Rattle.std.proofs.Transfers.{StopsAt-take}
use Rattle.std.proofs.lemmas.List.{append-nil, length-append, take_rest}
use Rattle.message_reading.specs.declared.progress.Progress.{Progress}
use Rattle.message_reading.specs.declared.fault.Fault.TheVariants.{HeadTooLarge}
use Rattle.message_reading.specs.Gather.{gather}
use Rattle.message_reading.specs.HeadBytes.{ends_head}
use Rattle.message_reading.specs.Progress.{HeadPasses, IsProgress}
use Rattle.message_reading.proofs.HeadProgress.{head_ends_in_lf}
use Rattle.message_reading.proofs.LastBytes.{long_line}
use Rattle.message_reading.proofs.Pieces.{piece_more}

-- no head ends within the piece behind these bytes, nor with it
abbrev pub GoesBy : List ℕ → List ℕ → Type 0
GoesBy text piece =
    (rest : List ℕ) → gather ends_head 65536 HeadTooLarge text (piece ++ rest)
    ≡ gather ends_head 65536 HeadTooLarge (text ++ piece) rest

pub by_nothing : (text : List ℕ) → GoesBy text []
by_nothing text rest =
    ap (λ t. gather ends_head 65536 HeadTooLarge t rest) (sym (append-nil text))

-- a line more
pub passes_line : (text front line : List ℕ) → GoesBy text front → 0 < length line
    → StopsAt line 10 → length text + length (front ++ line) ≤ 65536
    → HeadPasses text (front ++ line)
passes_line text front line by some stops room rest =
    let before = length-append text front in
    let longer = length-append front line in
    let joined : (text ++ front) ++ line ≡ text ++ (front ++ line) = append_assoc text front line in
    let split : (front ++ line) ++ rest ≡ front ++ (line ++ rest) = append_assoc front line rest in
    ap (gather ends_head 65536 HeadTooLarge text) split ∙ by (line ++ rest)
    ∙ piece_more ends_head 65536 HeadTooLarge 10 head_ends_in_lf (text ++ front) line some stops
    (omega (arith, room, before, longer)) rest
    ∙ rw joined refl

-- and no end with it
pub by_piece : (text piece : List ℕ) → HeadPasses text piece → ends_head (text ++ piece) ≡ false
    → GoesBy text piece
by_piece text piece passes none rest = passes rest ∙ rw none refl

-- where no head ends with it, the bytes pass
pub passes_by : (text piece : List ℕ) → GoesBy text piece → ends_head (text ++ piece) ≡ false
    → HeadPasses text piece
passes_by text piece by none rest = by rest ∙ sym (rw none refl)

-- some bytes, of which no head ends in the first `at`, and a line behind these
pub line_more : (text bytes : List ℕ) (at len : ℕ) (p q : Progress) → at + len ≤ length bytes
    → 0 < len → All (λ b. b ≢ 10) (take (len - 1) (take (length bytes - at) (drop at bytes)))
    → length text + (at + len) ≤ 65536 → IsProgress (text ++ take at bytes) p
    → GoesBy text (take at bytes)
    → ((seen : List ℕ) → IsProgress seen p
    → IsProgress (seen ++ take (at + len - at) (drop at bytes)) q)
    → IsProgress (text ++ take (at + len) bytes) q × HeadPasses text (take (at + len) bytes)
line_more text bytes at len p q inside some before room progress by on =
    let front = take at bytes in
    let behind = drop at bytes in
    let line = take (at + len - at) behind in
    let same : at + len - at ≡ len = omega arith in
    let is : line ≡ take len behind = ap (λ k. take k behind) same in
    let fits : len ≤ length behind = rw length-drop (omega (arith, inside)) in
    let stops : StopsAt line 10 =
    rw is (StopsAt-take behind 10 len fits (rw take_rest at before)) in
    let size : length line ≡ len = ap length is ∙ length-take-le len behind fits in
    let joined : front ++ line ≡ take (at + len) bytes =
    ap (λ l. front ++ l) is ∙ sym (take-add at len bytes) in
    let long : length (front ++ line) ≡ at + len =
    ap length joined ∙ length-take-le (at + len) bytes inside in
    let passes =
    passes_line text front line by (rw size some) stops (omega (arith, room, long)) in (
      subst (λ seen. IsProgress seen q)
          (append_assoc text front line ∙ ap (λ l. text ++ l) joined) (on (text ++ front) progress),
      subst (HeadPasses text) joined passes,
    )

-- nor with a line of three bytes or more
pub long_line_more : (text bytes : List ℕ) (at len : ℕ) → at + len ≤ length bytes → 3 ≤ len
    → All (λ b. b ≢ 10) (take (len - 1) (take (length bytes - at) (drop at bytes)))
    → ends_head (text ++ take (at + len) bytes) ≡ false
long_line_more text bytes at len inside long before =
    let front = take at bytes in
    let behind = drop at bytes in
    let line = take len behind in
    let fits : len ≤ length behind = rw length-drop (omega (arith, inside)) in
    let stops : StopsAt line 10 = StopsAt-take behind 10 len fits (rw take_rest at before) in
    let size : length line ≡ len = length-take-le len behind fits in
    let joined : (text ++ front) ++ line ≡ text ++ take (at + len) bytes =
    append_assoc text front line ∙ ap (λ l. text ++ l) (sym (take-add at len bytes)) in
    subst (λ seen. ends_head seen ≡ false) joined
    (long_line (text ++ front) line (rw size long) stops)
