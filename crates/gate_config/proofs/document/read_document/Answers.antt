use Rattle.std.proofs.Common.{rules, ◌≡◌, refl, Err, IsErrOf}
use Rattle.toml.specs.View.{table_view}
use Rattle.gate_config.specs.Document.{rules_of}
use Rattle.gate_config.proofs.Documents.{IsRead, document_read, is_read, same_fault, with_rules}
use Rattle.gate_config.proofs.document.read_document.Goals as goal

pub returns-in_err-rules-clause-fault : goal.returns-in_err-rules-clause-fault
returns-in_err-rules-clause-fault c = λ fault said.
    let read : IsRead c.args.version (table_view c.args.table.now) =
    is_read _ _ _ _ _ c.in_ok-top.top c.in_ok-limit.limit c.in_ok-window.window
    c.read_top.ensures.value c.limit_in.ensures.said c.window_in.ensures.said c.in_ok-top.was
    c.in_ok-limit.was c.in_ok-window.was in
    let whole = document_read c.args.version (table_view c.args.table.now) read
    c.in_ok-top.top.front.backlog refl in
    let key : rules_of c.args.version c.in_ok-top.top.front.backlog (table_view c.args.table.now)
    ≡ Err fault =
    same_fault (rules_of c.args.version c.in_ok-top.top.front.backlog (table_view c.args.table.now))
    (with_rules read) fault (rw whole at said) in
    let told : IsErrOf c.rules_in.result fault = c.rules_in.ensures.fault fault key in
    search rules

pub returns-in_err-rules-clause-said : goal.returns-in_err-rules-clause-said
returns-in_err-rules-clause-said c =
    let read : IsRead c.args.version (table_view c.args.table.now) =
    is_read _ _ _ _ _ c.in_ok-top.top c.in_ok-limit.limit c.in_ok-window.window
    c.read_top.ensures.value c.limit_in.ensures.said c.window_in.ensures.said c.in_ok-top.was
    c.in_ok-limit.was c.in_ok-window.was in
    let whole = document_read c.args.version (table_view c.args.table.now) read
    c.in_ok-top.top.front.backlog refl in
    search rules

pub returns-clause-said : goal.returns-clause-said
returns-clause-said c =
    let read : IsRead c.args.version (table_view c.args.table.now) =
    is_read _ _ _ _ _ c.in_ok-top.top c.in_ok-limit.limit c.in_ok-window.window
    c.read_top.ensures.value c.limit_in.ensures.said c.window_in.ensures.said c.in_ok-top.was
    c.in_ok-limit.was c.in_ok-window.was in
    let whole = document_read c.args.version (table_view c.args.table.now) read
    c.in_ok-top.top.front.backlog refl in
    search rules

pub returns-clause-fault : goal.returns-clause-fault
returns-clause-fault c =
    let read : IsRead c.args.version (table_view c.args.table.now) =
    is_read _ _ _ _ _ c.in_ok-top.top c.in_ok-limit.limit c.in_ok-window.window
    c.read_top.ensures.value c.limit_in.ensures.said c.window_in.ensures.said c.in_ok-top.was
    c.in_ok-limit.was c.in_ok-window.was in
    let whole = document_read c.args.version (table_view c.args.table.now) read
    c.in_ok-top.top.front.backlog refl in
    search rules

pub returns-in_err-top-clause-said : goal.returns-in_err-top-clause-said
returns-in_err-top-clause-said c = search rules

pub returns-in_err-top-clause-fault : goal.returns-in_err-top-clause-fault
returns-in_err-top-clause-fault c = search rules

pub returns-in_err-top-clause-top : goal.returns-in_err-top-clause-top
returns-in_err-top-clause-top c = search rules

pub returns-in_err-top-clause-limit : goal.returns-in_err-top-clause-limit
returns-in_err-top-clause-limit c = search rules

pub returns-in_err-top-clause-window : goal.returns-in_err-top-clause-window
returns-in_err-top-clause-window c = search rules

pub returns-in_err-limit-clause-said : goal.returns-in_err-limit-clause-said
returns-in_err-limit-clause-said c = search rules

pub returns-in_err-limit-clause-fault : goal.returns-in_err-limit-clause-fault
returns-in_err-limit-clause-fault c = search rules

pub returns-in_err-limit-clause-top : goal.returns-in_err-limit-clause-top
returns-in_err-limit-clause-top c = search rules

pub returns-in_err-limit-clause-limit : goal.returns-in_err-limit-clause-limit
returns-in_err-limit-clause-limit c = search rules

pub returns-in_err-limit-clause-window : goal.returns-in_err-limit-clause-window
returns-in_err-limit-clause-window c = search rules

pub returns-in_err-window-clause-said : goal.returns-in_err-window-clause-said
returns-in_err-window-clause-said c = search rules

pub returns-in_err-window-clause-fault : goal.returns-in_err-window-clause-fault
returns-in_err-window-clause-fault c = search rules

pub returns-in_err-window-clause-top : goal.returns-in_err-window-clause-top
returns-in_err-window-clause-top c = search rules

pub returns-in_err-window-clause-limit : goal.returns-in_err-window-clause-limit
returns-in_err-window-clause-limit c = search rules

pub returns-in_err-window-clause-window : goal.returns-in_err-window-clause-window
returns-in_err-window-clause-window c = search rules

pub returns-in_err-rules-clause-top : goal.returns-in_err-rules-clause-top
returns-in_err-rules-clause-top c = search rules

pub returns-clause-top : goal.returns-clause-top
returns-clause-top c = search rules

pub returns-in_err-rules-clause-limit : goal.returns-in_err-rules-clause-limit
returns-in_err-rules-clause-limit c = search rules

pub returns-clause-limit : goal.returns-clause-limit
returns-clause-limit c = search rules

pub returns-in_err-rules-clause-window : goal.returns-in_err-rules-clause-window
returns-in_err-rules-clause-window c = search rules

pub returns-clause-window : goal.returns-clause-window
returns-clause-window c = search rules
