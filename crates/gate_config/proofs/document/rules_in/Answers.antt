use Rattle.std.proofs.Common.{rules, ◌≡◌, sym, ap, ◌∙◌, Ok, Err, IsOk}
use Rattle.toml.specs.View.{table_view}
use Rattle.gate_config.specs.Outcomes.{result_map}
use Rattle.gate_config.specs.Document.{classes_in, resolvers_of, rules_of, tables_and_rows}
use Rattle.gate_config.proofs.Documents.{no_bypasses, no_resolvers, one_fault}
use Rattle.gate_config.proofs.document.rules_in.Goals as goal

pub returns-in_err-classes-clause-said : goal.returns-in_err-classes-clause-said
returns-in_err-classes-clause-said c = search rules

pub returns-in_err-classes-clause-fault : goal.returns-in_err-classes-clause-fault
returns-in_err-classes-clause-fault c = search rules

pub returns-in_err-resolvers-clause-said : goal.returns-in_err-resolvers-clause-said
returns-in_err-resolvers-clause-said c =
    let classes : classes_in c.args.version c.args.backlog (table_view c.args.table.now)
    ≡ Ok (tables_and_rows c.in_ok-classes.classes) =
    sym c.classes_in.ensures.said ∙ ap (result_map tables_and_rows) c.in_ok-classes.was in
    let resolvers : resolvers_of (tables_and_rows c.in_ok-classes.classes).1
    (table_view c.args.table.now)
    ≡ Err c.in_err-resolvers.field-0.0 = rw c.deref.ensures.0 at c.in_err-resolvers.ensures.fault in
    let told = no_resolvers c.args.version c.args.backlog (table_view c.args.table.now)
    (tables_and_rows c.in_ok-classes.classes) c.in_err-resolvers.field-0.0 classes resolvers in
    search rules

pub returns-in_err-resolvers-clause-fault : goal.returns-in_err-resolvers-clause-fault
returns-in_err-resolvers-clause-fault c = λ fault said.
    let classes : classes_in c.args.version c.args.backlog (table_view c.args.table.now)
    ≡ Ok (tables_and_rows c.in_ok-classes.classes) =
    sym c.classes_in.ensures.said ∙ ap (result_map tables_and_rows) c.in_ok-classes.was in
    let resolvers : resolvers_of (tables_and_rows c.in_ok-classes.classes).1
    (table_view c.args.table.now)
    ≡ Err c.in_err-resolvers.field-0.0 = rw c.deref.ensures.0 at c.in_err-resolvers.ensures.fault in
    let told = no_resolvers c.args.version c.args.backlog (table_view c.args.table.now)
    (tables_and_rows c.in_ok-classes.classes) c.in_err-resolvers.field-0.0 classes resolvers in
    one_fault (rules_of c.args.version c.args.backlog (table_view c.args.table.now))
    c.from_residual-in_err-resolvers.result
    c.in_err-resolvers.field-0.0 fault (search rules) told said

pub returns-in_err-bypasses-clause-said : goal.returns-in_err-bypasses-clause-said
returns-in_err-bypasses-clause-said c = search rules

pub returns-in_err-bypasses-clause-fault : goal.returns-in_err-bypasses-clause-fault
returns-in_err-bypasses-clause-fault c = λ fault said.
    let classes : classes_in c.args.version c.args.backlog (table_view c.args.table.now)
    ≡ Ok (tables_and_rows c.in_ok-classes.classes) =
    sym c.classes_in.ensures.said ∙ ap (result_map tables_and_rows) c.in_ok-classes.was in
    let fine : IsOk
    (resolvers_of (tables_and_rows c.in_ok-classes.classes).1 (table_view c.args.table.now))
    = search rules in
    let told = no_bypasses c.args.version c.args.backlog (table_view c.args.table.now)
    (tables_and_rows c.in_ok-classes.classes) c.in_err-bypasses.field-0.0 classes fine
    c.in_err-bypasses.ensures.fault in
    one_fault (rules_of c.args.version c.args.backlog (table_view c.args.table.now))
    c.from_residual-in_err-bypasses.result
    c.in_err-bypasses.field-0.0 fault (search rules) told said

pub returns-in_err-resolvers-2-clause-said : goal.returns-in_err-resolvers-2-clause-said
returns-in_err-resolvers-2-clause-said c = search rules

pub returns-in_err-resolvers-2-clause-fault : goal.returns-in_err-resolvers-2-clause-fault
returns-in_err-resolvers-2-clause-fault c = search rules

pub returns-in_err-bypasses-2-clause-said : goal.returns-in_err-bypasses-2-clause-said
returns-in_err-bypasses-2-clause-said c = search rules

pub returns-in_err-bypasses-2-clause-fault : goal.returns-in_err-bypasses-2-clause-fault
returns-in_err-bypasses-2-clause-fault c = search rules

pub returns-clause-said : goal.returns-clause-said
returns-clause-said c = search rules

pub returns-clause-fault : goal.returns-clause-fault
returns-clause-fault c = search rules
