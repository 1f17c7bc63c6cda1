use Rattle.std.proofs.Common.{rules}
use Rattle.gate_config.proofs.document.window_in.Goals as goal

pub returns-in_err-window-clause-said : goal.returns-in_err-window-clause-said
returns-in_err-window-clause-said c = search rules

pub returns-in_err-read_window-in-Some-clause-said :
    goal.returns-in_err-read_window-in-Some-clause-said
returns-in_err-read_window-in-Some-clause-said c = search rules

pub returns-in_ok-read_window-in-Some-clause-sound :
    goal.returns-in_ok-read_window-in-Some-clause-sound
returns-in_ok-read_window-in-Some-clause-sound c = search rules

pub returns-in_ok-read_window-in-Some-clause-said :
    goal.returns-in_ok-read_window-in-Some-clause-said
returns-in_ok-read_window-in-Some-clause-said c = search rules

pub returns-in-None-clause-said : goal.returns-in-None-clause-said
returns-in-None-clause-said c = search rules

pub returns-in_err-window-clause-sound : goal.returns-in_err-window-clause-sound
returns-in_err-window-clause-sound c = search rules

pub returns-in_err-read_window-in-Some-clause-sound :
    goal.returns-in_err-read_window-in-Some-clause-sound
returns-in_err-read_window-in-Some-clause-sound c = search rules

pub returns-in-None-clause-sound : goal.returns-in-None-clause-sound
returns-in-None-clause-sound c = search rules
