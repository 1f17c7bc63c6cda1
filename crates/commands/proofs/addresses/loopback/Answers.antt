use Rattle.std.proofs.Common.{rules, ◌∙◌, sym, subst, ap}
use Rattle.std.specs.Net.Addr.{IsLoopbackV4}
use Rattle.std.specs.Net.Socket.{v4_ip}
use Rattle.clap.specs.Words.{found_of, rows_of}
use Rattle.commands.proofs.GivenAddresses.{address_same}
use Rattle.commands.proofs.addresses.loopback.Goals as goal

-- the address that was read is the one that the rows have
pub returns-in-Some-clause-none : goal.returns-in-Some-clause-none
returns-in-Some-clause-none c none a has =
    let same_as =
    address_same (rows_of (found_of c.args.matches.now)) c.args.id.now a c.in-Some.address has.0
    c.in-Some.ensures.value in
    let ip = ap v4_ip same_as ∙ sym c.ip.ensures in
    let yes = c.is_loopback.ensures.1 (subst IsLoopbackV4 ip has.1) in
    search rules

pub returns-in_default-clause-value : goal.returns-in_default-clause-value
returns-in_default-clause-value c =
    let is_one = c.is_loopback.ensures.0 (search rules) in
    (c.in-Some.ensures.value, subst IsLoopbackV4 c.ip.ensures is_one)

pub returns-in_default-2-clause-none : goal.returns-in_default-2-clause-none
returns-in_default-2-clause-none c none a has = c.address.ensures.none none a has.0
