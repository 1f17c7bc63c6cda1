use Rattle.std.proofs.Common.{arith, rules}
use Rattle.std.proofs.lemmas.Grind.{common_steps}
use Rattle.load_driver.proofs.answers.serve.Goals as goal

pub returns-in-Nothing-clause-inside : goal.returns-in-Nothing-clause-inside
returns-in-Nothing-clause-inside g c = search rules

pub returns-in-Nothing-clause-told : goal.returns-in-Nothing-clause-told
returns-in-Nothing-clause-told g c = search rules

pub returns-in-Nothing-clause-journal : goal.returns-in-Nothing-clause-journal
returns-in-Nothing-clause-journal g c = search rules

pub returns-in-Nothing-clause-opens : goal.returns-in-Nothing-clause-opens
returns-in-Nothing-clause-opens g c = search rules

pub returns-in-Nothing-clause-text : goal.returns-in-Nothing-clause-text
returns-in-Nothing-clause-text g c = search rules

pub returns-in_err-push_str-in-NotOpen-clause-inside :
    goal.returns-in_err-push_str-in-NotOpen-clause-inside
returns-in_err-push_str-in-NotOpen-clause-inside g c = search rules

pub returns-in_err-push_str-in-NotOpen-clause-told :
    goal.returns-in_err-push_str-in-NotOpen-clause-told
returns-in_err-push_str-in-NotOpen-clause-told g c = search rules

pub returns-in_err-push_str-in-NotOpen-clause-journal :
    goal.returns-in_err-push_str-in-NotOpen-clause-journal
returns-in_err-push_str-in-NotOpen-clause-journal g c = search rules

pub returns-in_err-push_str-in-NotOpen-clause-opens :
    goal.returns-in_err-push_str-in-NotOpen-clause-opens
returns-in_err-push_str-in-NotOpen-clause-opens g c = search rules

pub returns-in_err-push_str-in-NotOpen-clause-text :
    goal.returns-in_err-push_str-in-NotOpen-clause-text
returns-in_err-push_str-in-NotOpen-clause-text g c = search rules

pub returns-in-NotOpen-clause-inside : goal.returns-in-NotOpen-clause-inside
returns-in-NotOpen-clause-inside g c = search rules

pub returns-in-NotOpen-clause-told : goal.returns-in-NotOpen-clause-told
returns-in-NotOpen-clause-told g c = search rules

pub returns-in-NotOpen-clause-journal : goal.returns-in-NotOpen-clause-journal
returns-in-NotOpen-clause-journal g c = search rules

pub returns-in-NotOpen-clause-opens : goal.returns-in-NotOpen-clause-opens
returns-in-NotOpen-clause-opens g c = search rules

pub returns-in_err-push_entries-in-Some-clause-inside :
    goal.returns-in_err-push_entries-in-Some-clause-inside
returns-in_err-push_entries-in-Some-clause-inside g c = search rules

pub returns-in_err-push_entries-in-Some-clause-told :
    goal.returns-in_err-push_entries-in-Some-clause-told
returns-in_err-push_entries-in-Some-clause-told g c = search rules

pub returns-in_err-push_entries-in-Some-clause-journal :
    goal.returns-in_err-push_entries-in-Some-clause-journal
returns-in_err-push_entries-in-Some-clause-journal g c = search rules

pub returns-in_err-push_entries-in-Some-clause-opens :
    goal.returns-in_err-push_entries-in-Some-clause-opens
returns-in_err-push_entries-in-Some-clause-opens g c = search rules

pub returns-in_err-push_entries-in-Some-clause-text :
    goal.returns-in_err-push_entries-in-Some-clause-text
returns-in_err-push_entries-in-Some-clause-text g c = search rules

pub returns-in_ok-push_entries-in-Some-clause-inside :
    goal.returns-in_ok-push_entries-in-Some-clause-inside
returns-in_ok-push_entries-in-Some-clause-inside g c = search rules

pub returns-in_ok-push_entries-in-Some-clause-told :
    goal.returns-in_ok-push_entries-in-Some-clause-told
returns-in_ok-push_entries-in-Some-clause-told g c = search rules

pub returns-in_ok-push_entries-in-Some-clause-journal :
    goal.returns-in_ok-push_entries-in-Some-clause-journal
returns-in_ok-push_entries-in-Some-clause-journal g c = search rules

pub returns-in_ok-push_entries-in-Some-clause-opens :
    goal.returns-in_ok-push_entries-in-Some-clause-opens
returns-in_ok-push_entries-in-Some-clause-opens g c = search rules

pub returns-in_ok-push_entries-in-Some-clause-text :
    goal.returns-in_ok-push_entries-in-Some-clause-text
returns-in_ok-push_entries-in-Some-clause-text g c = grind (arith, common_steps)

pub returns-in_err-push_str-in-None-clause-inside :
    goal.returns-in_err-push_str-in-None-clause-inside
returns-in_err-push_str-in-None-clause-inside g c = search rules

pub returns-in_err-push_str-in-None-clause-told : goal.returns-in_err-push_str-in-None-clause-told
returns-in_err-push_str-in-None-clause-told g c = search rules

pub returns-in_err-push_str-in-None-clause-journal :
    goal.returns-in_err-push_str-in-None-clause-journal
returns-in_err-push_str-in-None-clause-journal g c = search rules

pub returns-in_err-push_str-in-None-clause-opens : goal.returns-in_err-push_str-in-None-clause-opens
returns-in_err-push_str-in-None-clause-opens g c = search rules

pub returns-in_err-push_str-in-None-clause-text : goal.returns-in_err-push_str-in-None-clause-text
returns-in_err-push_str-in-None-clause-text g c = search rules

pub returns-in_ok-push_str-in-None-clause-inside : goal.returns-in_ok-push_str-in-None-clause-inside
returns-in_ok-push_str-in-None-clause-inside g c = search rules

pub returns-in_ok-push_str-in-None-clause-told : goal.returns-in_ok-push_str-in-None-clause-told
returns-in_ok-push_str-in-None-clause-told g c = search rules

pub returns-in_ok-push_str-in-None-clause-journal :
    goal.returns-in_ok-push_str-in-None-clause-journal
returns-in_ok-push_str-in-None-clause-journal g c = search rules

pub returns-in_ok-push_str-in-None-clause-opens : goal.returns-in_ok-push_str-in-None-clause-opens
returns-in_ok-push_str-in-None-clause-opens g c = search rules

pub push_entries-requires : goal.push_entries-requires
push_entries-requires g c = grind (arith, common_steps)
