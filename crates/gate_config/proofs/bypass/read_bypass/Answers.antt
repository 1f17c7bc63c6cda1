use Rattle.std.proofs.Common.{rules}
use Rattle.gate_config.proofs.bypass.read_bypass.Goals as goal

pub returns-in_err-bypass_kind : goal.returns-in_err-bypass_kind
returns-in_err-bypass_kind c = search rules

pub returns-in_err-read_token-in-Method : goal.returns-in_err-read_token-in-Method
returns-in_err-read_token-in-Method c = search rules

pub returns-in_err-read_prefix-in-Prefix : goal.returns-in_err-read_prefix-in-Prefix
returns-in_err-read_prefix-in-Prefix c = search rules

pub returns-in_ok-read_token-in-Method : goal.returns-in_ok-read_token-in-Method
returns-in_ok-read_token-in-Method c = search rules

pub returns-in_ok-read_prefix-in-Prefix : goal.returns-in_ok-read_prefix-in-Prefix
returns-in_ok-read_prefix-in-Prefix c = search rules

pub returns-in-Header : goal.returns-in-Header
returns-in-Header c = search rules
