use Rattle.std.proofs.Common.{rules}
use Rattle.commands.proofs.rows.Takes.wanted.Goals as goal

pub returns-in-Number : goal.returns-in-Number
returns-in-Number c = search rules

pub returns-in-Address : goal.returns-in-Address
returns-in-Address c = search rules

pub returns-in-Loopback : goal.returns-in-Loopback
returns-in-Loopback c = search rules

pub returns-in-LogLines : goal.returns-in-LogLines
returns-in-LogLines c = search rules
