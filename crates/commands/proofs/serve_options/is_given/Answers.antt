use Rattle.std.proofs.Common.{rules, None, Some}
use Rattle.clap.specs.Words.{found_of}
use Rattle.clap.specs.declared.parser.matches.ValueSource.TheVariants.{DefaultValue, CommandLine}
use Rattle.commands.proofs.GivenOptions.{given_by}
use Rattle.commands.proofs.serve_options.is_given.Goals as goal

pub returns-in-Some-CommandLine : goal.returns-in-Some-CommandLine
returns-in-Some-CommandLine c =
    given_by (found_of c.args.matches.now) c.args.id.now (Some CommandLine) (search rules)

pub returns-in-Some-DefaultValue : goal.returns-in-Some-DefaultValue
returns-in-Some-DefaultValue c =
    given_by (found_of c.args.matches.now) c.args.id.now (Some DefaultValue) (search rules)

pub returns-in-None : goal.returns-in-None
returns-in-None c =
    given_by (found_of c.args.matches.now) c.args.id.now None (search rules)
