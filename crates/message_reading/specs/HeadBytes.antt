-- Where a head ends.
use Rattle.std.specs.Prelude.{ℕ, Bool, true, not, ◌&&◌, ◌||◌, ◌==◌, List, [], ◌∷◌, Ok, Err, nat_lt, if◌then◌else◌, count_by}
use Rattle.message_reading.specs.declared.fault.Fault.TheVariants.{HeadTooLarge}
use Rattle.message_reading.specs.Reading.{Reading}
use Rattle.message_reading.specs.Gather.{gather}
use Rattle.message_reading.specs.ChunkLines.{ends_in_empty}

-- behind the byte `last` of empty lines this byte goes on with them
abbrev pub stays_blank : ℕ → ℕ → Bool
stays_blank last b = (b == 10) || ((b == 13) && not (last == 13))

-- nothing but empty lines, and perhaps a CR behind them
abbrev pub is_blank : ℕ → List ℕ → Bool
is_blank last [] = true
is_blank last (b ∷ bytes) = stays_blank last b && is_blank b bytes

-- the bytes behind the empty lines in front
abbrev pub after_blank : ℕ → List ℕ → List ℕ
after_blank last [] = []
after_blank last (b ∷ bytes) = if stays_blank last b then after_blank b bytes else b ∷ bytes

-- how many lines end, but for the empty ones in front
unfoldable pub line_ends : List ℕ → ℕ
line_ends text = count_by (λ b. b == 10) (after_blank 10 text)

-- an LF that is followed by LF or by CR LF ends the bytes, and not among the empty lines in front
unfoldable pub ends_head : List ℕ → Bool
ends_head text = not (is_blank 10 text) && ends_in_empty text

-- a head has its first line, 100 more and the empty one at most
abbrev pub limit_lines : Reading (List ℕ) → Reading (List ℕ)
limit_lines (Ok p) = if nat_lt 102 (line_ends p.0) then Err HeadTooLarge else Ok p
limit_lines (Err f) = Err f

-- a head of which these bytes were read, where none ends among them: they are it, or more follow
abbrev pub head_behind : List ℕ → List ℕ → Reading (List ℕ)
head_behind seen bytes =
    limit_lines (if ends_head seen then Ok (seen, bytes)
    else gather ends_head 65536 HeadTooLarge seen bytes)

-- the bytes of a head, those of empty lines before it included, of at most 65,536 bytes
abbrev pub head_of : List ℕ → Reading (List ℕ)
head_of bytes = limit_lines (gather ends_head 65536 HeadTooLarge [] bytes)

-- 1 where the byte ends a line that isn't one of the empty ones in front
abbrev pub ended_by : Bool → ℕ → ℕ
ended_by blank b = if (b == 10) && not blank then 1 else 0
