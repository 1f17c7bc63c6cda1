use Rattle.std.proofs.Common.{rules}
use Rattle.gateway_settings.proofs.Addresses.{is_address_none, is_address_read}
use Rattle.gateway_settings.proofs.address.Address.parse.Goals as goal

pub returns-in_default : goal.returns-in_default
returns-in_default c = rw (is_address_none c.args.text.now c.in_default.ensures.value)

pub returns-then-is_written : goal.returns-then-is_written
returns-then-is_written c =
    let read = is_address_read c.args.text.now c.in-Ok.socket c.in-Ok.ensures.value in
    search rules

pub returns-else-is_written : goal.returns-else-is_written
returns-else-is_written c =
    let read = is_address_read c.args.text.now c.in-Ok.socket c.in-Ok.ensures.value in
    search rules
