use Rattle.std.proofs.Common.{rules, ◌∙◌, sym}
use Rattle.clap.specs.Words.{found_of, rows_of}
use Rattle.clap.proofs.WalkLemmas.{first_value-rows}
use Rattle.commands.proofs.OptionValues.{log_lines_absent, no_log_lines}
use Rattle.commands.proofs.serve_options.log_lines.Goals as goal

pub returns-in_err-get_str-clause-none : goal.returns-in_err-get_str-clause-none
returns-in_err-get_str-clause-none c none =
    log_lines_absent (rows_of (found_of c.args.matches.now)) c.args.id.now
    (sym (first_value-rows (found_of c.args.matches.now) c.args.id.now)
    ∙ sym c.get_str.ensures ∙ search rules)

pub returns-in-plain-clause-value : goal.returns-in-plain-clause-value
returns-in-plain-clause-value c =
    sym (first_value-rows (found_of c.args.matches.now) c.args.id.now)
    ∙ sym c.get_str.ensures ∙ search rules

pub returns-in-time-clause-value : goal.returns-in-time-clause-value
returns-in-time-clause-value c =
    sym (first_value-rows (found_of c.args.matches.now) c.args.id.now)
    ∙ sym c.get_str.ensures ∙ search rules

pub returns-in-journal-clause-value : goal.returns-in-journal-clause-value
returns-in-journal-clause-value c =
    sym (first_value-rows (found_of c.args.matches.now) c.args.id.now)
    ∙ sym c.get_str.ensures ∙ search rules

pub returns-in_default-clause-none : goal.returns-in_default-clause-none
returns-in_default-clause-none c none =
    no_log_lines (rows_of (found_of c.args.matches.now)) c.args.id.now c.in_ok-get_str.field-0.now
    (sym (first_value-rows (found_of c.args.matches.now) c.args.id.now)
    ∙ sym c.get_str.ensures ∙ search rules)
    c.in_default.not-plain c.in_default.not-time c.in_default.not-journal
