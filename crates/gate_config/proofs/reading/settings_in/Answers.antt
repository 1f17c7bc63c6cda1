use Rattle.std.proofs.Common.{rules, ◌≡◌, Some, codes, Err, IsErrOf}
use Rattle.toml.specs.Data.{get_member}
use Rattle.toml.specs.View.{table_view}
use Rattle.gate_config.specs.Document.{document_of}
use Rattle.gate_config.specs.Settings.{version_of}
use Rattle.gate_config.proofs.EarlyFaults.{of_document}
use Rattle.gate_config.proofs.reading.settings_in.Goals as goal

pub returns-in_err-document-clause-fault : goal.returns-in_err-document-clause-fault
returns-in_err-document-clause-fault c = λ fault of_a_key said.
    let version : version_of (get_member (codes "version") (table_view c.args.table.now))
    ≡ Some c.in-Some.version = cc in
    let key : document_of c.in-Some.version (table_view c.args.table.now) ≡ Err fault =
    of_document c.in-Some.version (table_view c.args.table.now)
    (document_of c.in-Some.version (table_view c.args.table.now)) fault of_a_key
    (rw version at said) in
    let told : IsErrOf c.read_document.result fault = c.read_document.ensures.fault fault key in
    search rules

pub returns-in_default-clause-fault : goal.returns-in_default-clause-fault
returns-in_default-clause-fault c = search rules

pub returns-in_ok-at_fault-in-Some-least_unknown_key-clause-said :
    goal.returns-in_ok-at_fault-in-Some-least_unknown_key-clause-said
returns-in_ok-at_fault-in-Some-least_unknown_key-clause-said c = search rules

pub returns-in_err-document-clause-sound : goal.returns-in_err-document-clause-sound
returns-in_err-document-clause-sound c = search rules

pub returns-in_err-document-clause-said : goal.returns-in_err-document-clause-said
returns-in_err-document-clause-said c = search rules

pub returns-in_default-clause-sound : goal.returns-in_default-clause-sound
returns-in_default-clause-sound c = search rules

pub returns-in_default-clause-said : goal.returns-in_default-clause-said
returns-in_default-clause-said c = search rules

pub returns-in_err-at_fault-in-Some-least_unknown_key-clause-sound :
    goal.returns-in_err-at_fault-in-Some-least_unknown_key-clause-sound
returns-in_err-at_fault-in-Some-least_unknown_key-clause-sound c = search rules

pub returns-in_err-at_fault-in-Some-least_unknown_key-clause-said :
    goal.returns-in_err-at_fault-in-Some-least_unknown_key-clause-said
returns-in_err-at_fault-in-Some-least_unknown_key-clause-said c = search rules

pub returns-in_err-at_fault-in-Some-least_unknown_key-clause-fault :
    goal.returns-in_err-at_fault-in-Some-least_unknown_key-clause-fault
returns-in_err-at_fault-in-Some-least_unknown_key-clause-fault c = search rules

pub returns-in_ok-at_fault-in-Some-least_unknown_key-clause-sound :
    goal.returns-in_ok-at_fault-in-Some-least_unknown_key-clause-sound
returns-in_ok-at_fault-in-Some-least_unknown_key-clause-sound c = search rules

pub returns-in_ok-at_fault-in-Some-least_unknown_key-clause-fault :
    goal.returns-in_ok-at_fault-in-Some-least_unknown_key-clause-fault
returns-in_ok-at_fault-in-Some-least_unknown_key-clause-fault c = search rules

pub returns-in-None-clause-sound : goal.returns-in-None-clause-sound
returns-in-None-clause-sound c = search rules

pub returns-in-None-clause-said : goal.returns-in-None-clause-said
returns-in-None-clause-said c = search rules

pub returns-in-None-clause-fault : goal.returns-in-None-clause-fault
returns-in-None-clause-fault c = search rules
