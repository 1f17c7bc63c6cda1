use Rattle.std.proofs.Common.{rules, ◌≡◌, sym, refl, subst, true, [], map, string_bytes, IfSome}
use Rattle.clap.specs.Words.{HasKind, HasMatchesOf, fault_of, is_simple_and_free, subcommand_of}
use Rattle.commands.specs.CommandLine.{IsRunOf, admission_app}
use Rattle.commands.proofs.command_line.run_among.Goals as goal

-- the matches have the subcommand which the words name
pub returns-in-Some-clause-run : goal.returns-in-Some-clause-run
returns-in-Some-clause-run c =
    let matches =
    subst (λ app. HasMatchesOf app (map string_bytes c.args.list.now) c.in_ok-matches.matches)
    c.in_ok-command.ensures c.in_ok-matches.ensures.matches refl in
    let words = map string_bytes c.args.list.now in
    let named =
    subst (λ named. IfSome c.named_run.result (IsRunOf named)) matches.1 c.named_run.ensures.run in
    subst (λ run. IfSome run (IsRunOf (subcommand_of admission_app words))) c.in-Some.is named

pub returns-clause-none : goal.returns-clause-none
returns-clause-none c none run is =
    let matches =
    subst (λ app. HasMatchesOf app (map string_bytes c.args.list.now) c.in_ok-matches.matches)
    c.in_ok-command.ensures c.in_ok-matches.ensures.matches refl in
    c.named_run.ensures.none (search rules) run
    (subst (λ named. IsRunOf named run) (sym matches.1) is)

-- words that are taken are without fault
pub returns-in-Some-clause-faultless : goal.returns-in-Some-clause-faultless
returns-in-Some-clause-faultless c =
    subst
    (λ app. is_simple_and_free app ≡ true → fault_of app (map string_bytes c.args.list.now) ≡ [])
    c.in_ok-command.ensures c.in_ok-matches.ensures.kinds refl

pub returns-clause-faultless : goal.returns-clause-faultless
returns-clause-faultless c =
    subst
    (λ app. is_simple_and_free app ≡ true → fault_of app (map string_bytes c.args.list.now) ≡ [])
    c.in_ok-command.ensures c.in_ok-matches.ensures.kinds refl

pub returns-clause-refused : goal.returns-clause-refused
returns-clause-refused c = search rules

pub returns-in_err-matches-clause-refused : goal.returns-in_err-matches-clause-refused
returns-in_err-matches-clause-refused c =
    let kind =
    subst
    (λ app. is_simple_and_free app ≡ true
    → HasKind (fault_of app (map string_bytes c.args.list.now)) c.in_err-matches.field-0.0)
    c.in_ok-command.ensures c.in_err-matches.ensures.kinds refl in
    search rules

pub returns-in_err-command-clause-refused : goal.returns-in_err-command-clause-refused
returns-in_err-command-clause-refused c = search rules
