-- The command line, and the run that its words name.
use Rattle.std.specs.Prelude.{◌≡◌, ℕ, List, [], ◌∷◌, Option, Some, None, true, false, codes, fold}
use Rattle.clap.specs.Words.{App, HasKind, Row, Text, app_of, first_of, new_app, with_rule}
use Rattle.clap.specs.Words.{with_subcommand}
use Rattle.clap.specs.declared.builder.command.Command.{Command}
use Rattle.clap.specs.declared.builder.command.Command.TheViews.{out-Command}
use Rattle.clap.specs.declared.error.Error.{Error}
use Rattle.clap.specs.declared.error.kind.ErrorKind.TheVariants.{ArgumentConflict, MissingSubcommand}
use Rattle.clap.specs.declared.error.kind.ErrorKind.TheVariants.{ValueValidation}
use Rattle.commands.specs.declared.command_line.Run.{Run}
use Rattle.commands.specs.declared.command_line.Run.TheVariants.{Text as OfText, Load, Check, Serve}
use Rattle.commands.specs.declared.command_line.TextTask.{TextTask}
use Rattle.commands.specs.declared.command_line.TextTask.TheVariants.{Replay, Simulate}
use Rattle.commands.specs.Options.{exchanges, limit, workers}
use Rattle.commands.specs.Rules.{config_rule, exchanges_rule, explain_rule, limit_rule, serve_rules}
use Rattle.commands.specs.Rules.{workers_rule}
use Rattle.commands.specs.ServeOptions.{AreServeOptions, AreWithinRanges, gives_both}
use Rattle.commands.specs.Values.{Has, IsWithin, is_set}

-- a command over a script or a trace
abbrev pub limited_app : Text → App
limited_app name = with_rule (with_rule (new_app name) limit_rule) explain_rule

abbrev pub replay_app : App
replay_app = limited_app (codes "replay")

abbrev pub simulate_app : App
simulate_app = limited_app (codes "simulate")

abbrev pub load_app : App
load_app = with_rule (limited_app (codes "load")) workers_rule

abbrev pub check_app : App
check_app =
    with_rule (with_rule (with_rule (new_app (codes "check")) config_rule) explain_rule)
    exchanges_rule

-- the one with the options of the table, one behind the other
abbrev pub serve_app : App
serve_app = fold with_rule (with_rule (new_app (codes "serve")) config_rule) serve_rules

-- a command that has a version, and subcommands of which one is required
abbrev pub asking : Text → App
asking name = record (new_app name) {
  top = record (new_app name).top { has_version = true; subcommand_required = true };
}

-- the command line with the commands over texts
abbrev pub text_app : App
text_app =
    with_subcommand (with_subcommand (asking (codes "admission")) replay_app.top) simulate_app.top

-- the one with the commands that serve nobody
abbrev pub offline_app : App
offline_app = with_subcommand (with_subcommand text_app load_app.top) check_app.top

-- the whole command line
abbrev pub admission_app : App
admission_app = with_subcommand offline_app serve_app.top

-- the command is the one of this definition, and has no global argument
abbrev pub IsWithoutGlobals : App → Command → Type 0
IsWithoutGlobals app command =
    (app_of command ≡ app) × ((out-Command command).has_globals ≡ false)

-- the task is that of this subcommand, with the numbers that its rows have
abbrev pub IsTaskOf : Text → List Row → TextTask → Type 0
IsTaskOf name rows (Replay permits) = (name ≡ codes "replay") × Has rows limit permits
IsTaskOf name rows (Simulate permits) = (name ≡ codes "simulate") × Has rows limit permits

-- the run is that of this subcommand, with the numbers, the path and the address that its rows have
abbrev pub IsCommandOf : Text → List Row → Run → Type 0
IsCommandOf name rows (OfText task explain) =
    IsTaskOf name rows task × (explain ≡ is_set (codes "explain") rows)
IsCommandOf name rows (Load permits threads explain) =
    (name ≡ codes "load") × Has rows limit permits × Has rows workers threads
    × (explain ≡ is_set (codes "explain") rows)
IsCommandOf name rows (Check path explain at_once) =
    (name ≡ codes "check") × (first_of (codes "config") rows ≡ Some path.now)
    × (explain ≡ is_set (codes "explain") rows) × Has rows exchanges at_once
IsCommandOf name rows (Serve options) = (name ≡ codes "serve") × AreServeOptions rows options

-- the run is that of the subcommand which the words name
abbrev pub IsRunOf : Option (Text × List Row) → Run → Type 0
IsRunOf None run = ⊥
IsRunOf (Some named) run = IsCommandOf named.0 named.1 run

-- the subcommand which the words name, if they name one, is none of a run
abbrev pub NamesNoRun : Option (Text × List Row) → Type 0
NamesNoRun named = (run : Run) → IsRunOf named run → ⊥

-- the words name `serve`, and give it both options that say how many threads serve
abbrev pub NamesBoth : Option (Text × List Row) → Type 0
NamesBoth None = ⊥
NamesBoth (Some named) = (named.0 ≡ codes "serve") × (gives_both named.1 ≡ true)

-- the error is that of a mistake in words that the parser took: a value that isn't what its option
-- takes, two options that exclude each other, or no command; or memory ran out. Its status is 2,
-- and never that of help
abbrev pub IsMistake : Error → Type 0
IsMistake = HasKind (ValueValidation ∷ ArgumentConflict ∷ MissingSubcommand ∷ [])

-- the limit of a text without a limit line
abbrev pub limit_of : TextTask → ℕ
limit_of (Replay permits) = permits
limit_of (Simulate permits) = permits

-- the numbers of a run lie in their ranges
abbrev pub KeepsRanges : Run → Type 0
KeepsRanges (OfText task explain) = IsWithin limit.holds (limit_of task)
KeepsRanges (Load permits threads explain) =
    IsWithin limit.holds permits × IsWithin workers.holds threads
KeepsRanges (Check path explain at_once) = IsWithin exchanges.holds at_once
KeepsRanges (Serve options) = AreWithinRanges options
