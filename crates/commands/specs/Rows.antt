-- The code's rows, as their options are known to the parser.
use Rattle.std.specs.Prelude.{List, Option, None, Some, fold, option_map}
use Rattle.clap.specs.Words.{App, Rule, with_rule}
use Rattle.clap.specs.declared.builder.value_parser.ValueParser.{ValueParser}
use Rattle.clap.specs.declared.builder.value_parser.ValueParser.TheVariants as Parser
use Rattle.commands.specs.declared.rows.OptionRow.{OptionRow}
use Rattle.commands.specs.declared.rows.Takes.{Takes}
use Rattle.commands.specs.declared.rows.Takes.TheVariants.{Number, Address, Flag, Loopback, LogLines}
use Rattle.commands.specs.Rules.{rule_by}

-- what lets a value through
abbrev pub parser_of : Takes → Option ValueParser
parser_of (Number least most) = Some (Parser.Signed least most)
parser_of Address = Some Parser.String
parser_of Loopback = Some Parser.String
parser_of LogLines = Some Parser.String
parser_of Flag = None

-- the rule of a row
abbrev pub rule_of_row : OptionRow → Rule
rule_of_row row =
    rule_by row.word.now (option_map (λ text. text.now) row.default) (parser_of row.takes)

-- a command with the option of a row too
abbrev pub with_row : App → OptionRow → App
with_row app row = with_rule app (rule_of_row row)

-- and with those of all rows, one behind the other
abbrev pub with_rows : App → List OptionRow → App
with_rows app rows = fold with_row app rows
