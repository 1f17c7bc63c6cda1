-- The options of the command line, as its parser knows them.
use Rattle.std.specs.Prelude.{List, [], ◌∷◌, Option, None, Some, true, codes, map, pos}
use Rattle.std.specs.Option.{option_map_or}
use Rattle.clap.specs.Words.{Rule, Text, new_rule}
use Rattle.clap.specs.declared.builder.action.ArgAction.TheVariants.{SetTrue}
use Rattle.clap.specs.declared.builder.value_parser.ValueParser.{ValueParser}
use Rattle.clap.specs.declared.builder.value_parser.ValueParser.TheVariants as Parser
use Rattle.commands.specs.Options.{Entry, Holds, address, exchanges, flag, limit, log_lines}
use Rattle.commands.specs.Options.{loopback, number, number_if_given, serve_rows, workers}

-- an option of this name, with one value that this parser reads, and its default
abbrev pub option_rule : Text → Option Text → ValueParser → Rule
option_rule name default parser = record (new_rule name) {
  long = Some name;
  value_names = 1;
  defaults = option_map_or (λ text. text ∷ []) default [];
  parser = Some parser;
}

-- a flag of this name
abbrev pub flag_rule : Text → Rule
flag_rule name = record (new_rule name) { long = Some name; action = Some SetTrue }

-- an option that takes what a parser lets through, or nothing without one
abbrev pub rule_by : Text → Option Text → Option ValueParser → Rule
rule_by name default None = flag_rule name
rule_by name default (Some parser) = option_rule name default parser

-- what lets a value through: whether a text is an address or a form of lines is looked at once the
-- words are read
abbrev pub parser_for : Holds → Option ValueParser
parser_for (number low high) = Some (Parser.Signed (pos low) (pos high))
parser_for (number_if_given low high) = Some (Parser.Signed (pos low) (pos high))
parser_for address = Some Parser.String
parser_for loopback = Some Parser.String
parser_for log_lines = Some Parser.String
parser_for flag = None

abbrev pub rule_for : Entry → Rule
rule_for e = rule_by e.word e.default (parser_for e.holds)

abbrev pub limit_rule : Rule
limit_rule = rule_for limit

abbrev pub workers_rule : Rule
workers_rule = rule_for workers

abbrev pub exchanges_rule : Rule
exchanges_rule = rule_for exchanges

-- the options of `serve`
abbrev pub serve_rules : List Rule
serve_rules = map (λ row. rule_for row.entry) serve_rows

-- `--explain`
abbrev pub explain_rule : Rule
explain_rule = flag_rule (codes "explain")

-- `CONFIG`
abbrev pub config_rule : Rule
config_rule = record (new_rule (codes "config")) { value_names = 1; required = true }
