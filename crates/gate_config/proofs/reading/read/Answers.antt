use Rattle.std.proofs.Common.{rules, ◌≡◌, Err}
use Rattle.toml.specs.Data.{no_members}
use Rattle.toml.specs.View.{table_view}
use Rattle.gate_config.specs.declared.fault.ConfigFault.TheVariants as Fault
use Rattle.gate_config.specs.Settings.{settings_of}
use Rattle.gate_config.proofs.Blank.{blank_table}
use Rattle.gate_config.proofs.reading.read.Goals as goal

pub returns-clause-blank : goal.returns-clause-blank
returns-clause-blank c = λ blank utf8.
    let read = blank_table c.args.bytes.now blank in
    let whole = c.in_ok-table.ensures.ok.1 in
    let empty : table_view c.in_ok-table.table ≡ no_members = cc in
    let said : settings_of (table_view c.in_ok-table.table) ≡ Err Fault.Version = rw empty in
    c.settings_in.ensures.fault Fault.Version (tt) said

pub returns-in_err-table-clause-settings : goal.returns-in_err-table-clause-settings
returns-in_err-table-clause-settings c = search rules

pub returns-in_err-table-clause-sound : goal.returns-in_err-table-clause-sound
returns-in_err-table-clause-sound c = search rules

pub returns-in_err-table-clause-read : goal.returns-in_err-table-clause-read
returns-in_err-table-clause-read c = search rules

pub returns-in_err-table-clause-blank : goal.returns-in_err-table-clause-blank
returns-in_err-table-clause-blank c = search rules

pub returns-in_err-table-clause-refused : goal.returns-in_err-table-clause-refused
returns-in_err-table-clause-refused c = search rules

pub returns-clause-settings : goal.returns-clause-settings
returns-clause-settings c = search rules

pub returns-clause-sound : goal.returns-clause-sound
returns-clause-sound c = search rules

pub returns-clause-read : goal.returns-clause-read
returns-clause-read c = search rules

pub returns-clause-refused : goal.returns-clause-refused
returns-clause-refused c = search rules
