use Rattle.std.proofs.Common.{rules}
use Rattle.gate_config.proofs.key_text.hex_digit.Goals as goal

pub returns-then-digit-lt10-clause-digit : goal.returns-then-digit-lt10-clause-digit
returns-then-digit-lt10-clause-digit c = search rules

pub returns-then-digit-lt10-clause-ascii : goal.returns-then-digit-lt10-clause-ascii
returns-then-digit-lt10-clause-ascii c = search rules

pub returns-else-digit-lt10-clause-digit : goal.returns-else-digit-lt10-clause-digit
returns-else-digit-lt10-clause-digit c = search rules

pub returns-else-digit-lt10-clause-ascii : goal.returns-else-digit-lt10-clause-ascii
returns-else-digit-lt10-clause-ascii c = search rules
