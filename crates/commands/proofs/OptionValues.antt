-- Values of options: in their range where the words have them, and lacking where they don't.
use Rattle.std.proofs.Common.{rules, ap, Bool, false, ◌≡◌, ◌≢◌, ◌∙◌, sym, codes, ℕ, List, [], ◌∷◌, Option, Some, None}
use Rattle.std.specs.declared.net.socket_addr.SocketAddrV4.{SocketAddrV4}
use Rattle.std.specs.Option.{option_map_or}
use Rattle.std.specs.Str.{bytes_eq}
use Rattle.clap.specs.Words.{Row, first_of}
use Rattle.commands.specs.Options.{Holds, ServeRow, Value, address, flag, log_lines, loopback}
use Rattle.commands.specs.Options.{number, number_if_given, serve_rows}
use Rattle.commands.specs.ServeOptions.{AreGiven, AreServeOptions, Each}
use Rattle.commands.specs.Values.{Has, HasAddress, HasLogLines, HasLoopback, HasOptional, HasSome}
use Rattle.commands.specs.Values.{HasValue, IsWithin, Lacks, MayHaveAddress, MayHaveLoopback}
use Rattle.commands.specs.Values.{is_set}
use Rattle.commands.specs.declared.serve_options.LogLines.{LogLines}
use Rattle.commands.specs.declared.serve_options.LogLines.TheVariants.{Plain, Time, Journal}
use Rattle.commands.specs.declared.serve_options.ServeOptions.{ServeOptions}

-- a path that isn't there
pub no_path : {o : Option (List ℕ)} {path : List ℕ} → o ≡ None → o ≡ Some path → ⊥
no_path none some = let same = sym none ∙ some in search rules

-- a text that isn't a number in the range is no option's
no_optional_of : (rows : List Row) (id : List ℕ) (low high : ℕ) (t : List ℕ)
    → first_of id rows ≡ Some t → Lacks rows id (number low high)
    → (n : Option ℕ) → HasOptional rows id low high n → ⊥
no_optional_of rows id low high t is none None absent = no_path absent is
no_optional_of rows id low high t is none (Some n) has = none (record { value = n; has = has })

pub no_optional : (rows : List Row) (id : List ℕ) (low high : ℕ) (t : List ℕ)
    → first_of id rows ≡ Some t → Lacks rows id (number low high)
    → Lacks rows id (number_if_given low high)
no_optional rows id low high t is none some =
    no_optional_of rows id low high t is none some.value some.has

-- a text that is none of such an address is no option's
no_loopback_of : (rows : List Row) (id : List ℕ) (t : List ℕ) → first_of id rows ≡ Some t
    → ((a : SocketAddrV4) → HasLoopback rows id a → ⊥)
    → (a : Option SocketAddrV4) → MayHaveLoopback rows id a → ⊥
no_loopback_of rows id t is none None absent = no_path absent is
no_loopback_of rows id t is none (Some a) has = none a has

pub no_loopback : (rows : List Row) (id : List ℕ) (t : List ℕ) → first_of id rows ≡ Some t
    → ((a : SocketAddrV4) → HasLoopback rows id a → ⊥) → Lacks rows id loopback
no_loopback rows id t is none some = no_loopback_of rows id t is none some.value some.has

-- the same of an address
no_address_of : (rows : List Row) (id : List ℕ) (t : List ℕ) → first_of id rows ≡ Some t
    → ((a : SocketAddrV4) → HasAddress rows id a → ⊥)
    → (a : Option SocketAddrV4) → MayHaveAddress rows id a → ⊥
no_address_of rows id t is none None absent = no_path absent is
no_address_of rows id t is none (Some a) has = none a has

pub no_address : (rows : List Row) (id : List ℕ) (t : List ℕ) → first_of id rows ≡ Some t
    → ((a : SocketAddrV4) → HasAddress rows id a → ⊥) → Lacks rows id address
no_address rows id t is none some = no_address_of rows id t is none some.value some.has

-- a value that the rows have is in the range of its option
pub kept : (rows : List Row) (id : List ℕ) (holds : Holds) (value : Value holds)
    → HasValue rows id holds value → IsWithin holds value
kept rows id (number low high) n has = (has.4, has.5)
kept rows id (number_if_given low high) None has = tt
kept rows id (number_if_given low high) (Some n) has = (has.4, has.5)
kept rows id address None has = tt
kept rows id address (Some a) has = has.3
kept rows id loopback None has = tt
kept rows id loopback (Some a) has = (has.0.3, has.1)
kept rows id log_lines lines has = tt
kept rows id flag is has = tt

-- so are those of all options
pub each_kept : (rows : List Row) (o : ServeOptions) (table : List ServeRow)
    → Each (λ row. Has rows row.entry (row.value o)) table
    → Each (λ row. IsWithin row.entry.holds (row.value o)) table
each_kept rows o [] each = tt
each_kept rows o (row ∷ more) each =
    (kept rows row.entry.word row.entry.holds (row.value o) each.0, each_kept rows o more each.1)

-- options that the rows have are given
each_given : (rows : List Row) (o : ServeOptions) (table : List ServeRow)
    → Each (λ row. Has rows row.entry (row.value o)) table
    → Each (λ row. HasSome rows row.entry.word row.entry.holds) table
each_given rows o [] each = tt
each_given rows o (row ∷ more) each =
    (record { value = row.value o; has = each.0 }, each_given rows o more each.1)

pub given : (rows : List Row) (o : ServeOptions) → AreServeOptions rows o → AreGiven rows
given rows o are = record {
  path = o.path.now;
  path_is = are.path;
  values = each_given rows o serve_rows are.values;
  once = are.once;
}

-- without a word there is no form
pub log_lines_absent : (rows : List Row) (id : List ℕ) → first_of id rows ≡ None
    → Lacks rows id log_lines
log_lines_absent rows id is some = no_path is some.has

-- nor by a word of none
no_form : (rows : List Row) (id t : List ℕ) → first_of id rows ≡ Some t
    → t ≢ codes "plain" → t ≢ codes "time" → t ≢ codes "journal" → (lines : LogLines)
    → HasLogLines rows id lines → ⊥
no_form rows id t is plain time journal Plain has = let same = sym is ∙ has in search rules
no_form rows id t is plain time journal Time has = let same = sym is ∙ has in search rules
no_form rows id t is plain time journal Journal has = let same = sym is ∙ has in search rules

pub no_log_lines : (rows : List Row) (id t : List ℕ) → first_of id rows ≡ Some t
    → t ≢ codes "plain" → t ≢ codes "time" → t ≢ codes "journal" → Lacks rows id log_lines
no_log_lines rows id t is plain time journal some =
    no_form rows id t is plain time journal some.value some.has

-- a flag is set where its first text is `true`
pub set_by : (rows : List Row) (id t : List ℕ) (b : Bool) → first_of id rows ≡ Some t
    → b ≡ bytes_eq t (codes "true") → b ≡ is_set id rows
set_by rows id t b is same =
    same ∙ sym (ap (λ (o : Option (List ℕ)).
    option_map_or (λ text. bytes_eq text (codes "true")) o false) is)

-- and isn't where it has none
pub unset_by : (rows : List Row) (id : List ℕ) → first_of id rows ≡ None
    → false ≡ is_set id rows
unset_by rows id is =
    sym (ap (λ (o : Option (List ℕ)).
    option_map_or (λ text. bytes_eq text (codes "true")) o false) is)
