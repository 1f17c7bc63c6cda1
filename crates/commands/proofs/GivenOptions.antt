-- Options that the words give, by where their values come from.
use Rattle.std.proofs.Common.{ap, false, ◌≡◌, ◌∙◌, sym, refl, List, ℕ, Option, None, Some}
use Rattle.std.proofs.Common.{find, option_map, option_and_then}
use Rattle.std.specs.Option.{option_map_or}
use Rattle.std.specs.Str.{bytes_eq}
use Rattle.clap.specs.Facts.{Entry}
use Rattle.clap.specs.Matches.{matched_of}
use Rattle.clap.specs.Walk.{row_of}
use Rattle.clap.specs.Words.{Row, rows_of}
use Rattle.clap.specs.declared.parser.matches.Found.{Found}
use Rattle.clap.specs.declared.parser.matches.MatchedArg.{MatchedArg}
use Rattle.clap.specs.declared.parser.matches.ValueSource.{ValueSource}
use Rattle.clap.proofs.WalkLemmas.{find_row}
use Rattle.commands.specs.Values.{is_given, is_of_words, source_of}

-- the source of an entry is that of its row
same_source : (found : Option Entry)
    → option_and_then (λ (a : MatchedArg). a.source) (option_map (λ e. e.1) found)
    ≡ option_and_then (λ (r : Row). r.source) (option_map row_of found)
same_source None = refl
same_source (Some e) = refl

source_in_rows : (found : Found) (id : List ℕ)
    → option_and_then (λ (a : MatchedArg). a.source) (matched_of found id)
    ≡ source_of id (rows_of found)
source_in_rows found id =
    same_source (find (λ (e : Entry). bytes_eq e.0.now id) found.entries.items)
    ∙ ap (option_and_then (λ (r : Row). r.source)) (sym (find_row found.entries.items id))

-- an option is given where its value comes from the words
pub given_by : (found : Found) (id : List ℕ) (source : Option ValueSource)
    → source ≡ option_and_then (λ (a : MatchedArg). a.source) (matched_of found id)
    → option_map_or is_of_words source false ≡ is_given id (rows_of found)
given_by found id source is =
    ap (λ (o : Option ValueSource). option_map_or is_of_words o false)
    (is ∙ source_in_rows found id)
