use Rattle.std.proofs.Common.{rules}
use Rattle.config_explain.proofs.explain.explain_table.Goals as goal

pub returns-in-Ok : goal.returns-in-Ok
returns-in-Ok c = λ fault of_key said.
    let told = c.settings_in.ensures.fault fault of_key said in
    search rules

pub returns-in-Err : goal.returns-in-Err
returns-in-Err c = λ fault of_key said.
    let told = c.settings_in.ensures.fault fault of_key said in
    search rules
