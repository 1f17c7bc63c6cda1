-- What the words give for an option.
use Rattle.std.specs.Prelude.{◌≡◌, ◌≤◌, ℕ, List, Option, Some, None, IfSome, Bool, true, false, codes}
use Rattle.std.specs.Prelude.{find, option_and_then}
use Rattle.std.specs.Option.{option_map_or}
use Rattle.std.specs.Str.{bytes_eq}
use Rattle.std.specs.Net.Addr.{IsLoopbackV4}
use Rattle.std.specs.Net.Grammar.{IsSocketV4Text}
use Rattle.std.specs.Net.Socket.{v4_ip, v4_port}
use Rattle.std.specs.declared.net.socket_addr.SocketAddrV4.{SocketAddrV4}
use Rattle.std.specs.Str.Parse.{IsNumeral, digits_value, without_leading_plus}
use Rattle.clap.specs.Words.{Row, Text, first_of, one_of}
use Rattle.clap.specs.declared.parser.matches.ValueSource.{ValueSource}
use Rattle.clap.specs.declared.parser.matches.ValueSource.TheVariants.{DefaultValue, CommandLine}
use Rattle.commands.specs.declared.serve_options.LogLines.{LogLines}
use Rattle.commands.specs.declared.serve_options.LogLines.TheVariants.{Plain, Time, Journal}
use Rattle.commands.specs.Options.{Entry, Holds, Value, address, flag, log_lines, loopback, number}
use Rattle.commands.specs.Options.{number_if_given}

-- the number that the rows have for an option lies in the range
abbrev pub HasNumber : List Row → Text → ℕ → ℕ → ℕ → Type 0
HasNumber rows id low high n = (text : Text) × (one_of id rows ≡ Some text)
    × IsNumeral 10 (without_leading_plus text)
    × (digits_value 10 (without_leading_plus text) ≡ n) × (low ≤ n) × (n ≤ high)

-- the rows have no text for an option, or the number in the range
abbrev pub HasOptional : List Row → Text → ℕ → ℕ → Option ℕ → Type 0
HasOptional rows id low high None = first_of id rows ≡ None
HasOptional rows id low high (Some n) = HasNumber rows id low high n

-- the text that the rows have for an option is that of an address with a port from 1 up
abbrev pub HasAddress : List Row → Text → SocketAddrV4 → Type 0
HasAddress rows id a = (text : Text) × (one_of id rows ≡ Some text) × IsSocketV4Text text a
    × (1 ≤ v4_port a)

-- the same of a loopback address
abbrev pub HasLoopback : List Row → Text → SocketAddrV4 → Type 0
HasLoopback rows id a = HasAddress rows id a × IsLoopbackV4 (v4_ip a)

-- the rows have no text for an option, or that of an address
abbrev pub MayHaveAddress : List Row → Text → Option SocketAddrV4 → Type 0
MayHaveAddress rows id None = first_of id rows ≡ None
MayHaveAddress rows id (Some a) = HasAddress rows id a

-- or that of a loopback address
abbrev pub MayHaveLoopback : List Row → Text → Option SocketAddrV4 → Type 0
MayHaveLoopback rows id None = first_of id rows ≡ None
MayHaveLoopback rows id (Some a) = HasLoopback rows id a

-- the word of each form of the log's lines
abbrev pub log_lines_word : LogLines → Text
log_lines_word Plain = codes "plain"
log_lines_word Time = codes "time"
log_lines_word Journal = codes "journal"

-- the rows have the word of this form
abbrev pub HasLogLines : List Row → Text → LogLines → Type 0
HasLogLines rows id lines = first_of id rows ≡ Some (log_lines_word lines)

-- the rows have a flag
abbrev pub is_set : Text → List Row → Bool
is_set id rows = option_map_or (λ text. bytes_eq text (codes "true")) (first_of id rows) false

-- a value comes from the words, and not from a default
abbrev pub is_of_words : ValueSource → Bool
is_of_words CommandLine = true
is_of_words DefaultValue = false

-- where what the rows have for an option comes from
abbrev pub source_of : Text → List Row → Option ValueSource
source_of id rows = option_and_then (λ row. row.source) (find (λ row. bytes_eq row.id id) rows)

-- the words give an option: what the rows have for it isn't its default
abbrev pub is_given : Text → List Row → Bool
is_given id rows = option_map_or is_of_words (source_of id rows) false

-- the rows have this value for an option that holds this, in its range
abbrev pub HasValue : List Row → Text → (holds : Holds) → Value holds → Type 0
HasValue rows id (number low high) n = HasNumber rows id low high n
HasValue rows id (number_if_given low high) n = HasOptional rows id low high n
HasValue rows id address a = MayHaveAddress rows id a
HasValue rows id loopback a = MayHaveLoopback rows id a
HasValue rows id log_lines lines = HasLogLines rows id lines
HasValue rows id flag is = is ≡ is_set id rows

abbrev pub Has : List Row → (e : Entry) → Value e.holds → Type 0
Has rows e value = HasValue rows e.word e.holds value

-- they have some value for it
pub record HasSome (rows : List Row) (id : Text) (holds : Holds) : Type 0 where
  pub value : Value holds
  pub has : HasValue rows id holds value

abbrev pub Lacks : List Row → Text → Holds → Type 0
Lacks rows id holds = HasSome rows id holds → ⊥

-- a value is in the range of what its option holds
abbrev pub IsWithin : (holds : Holds) → Value holds → Type 0
IsWithin (number low high) n = (low ≤ n) × (n ≤ high)
IsWithin (number_if_given low high) n = IfSome n (λ n. (low ≤ n) × (n ≤ high))
IsWithin address a = IfSome a (λ a. 1 ≤ v4_port a)
IsWithin loopback a = IfSome a (λ a. (1 ≤ v4_port a) × IsLoopbackV4 (v4_ip a))
IsWithin log_lines lines = Unit {0}
IsWithin flag is = Unit {0}
