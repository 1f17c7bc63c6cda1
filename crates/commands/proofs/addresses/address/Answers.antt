use Rattle.std.proofs.Common.{rules, arith, ◌≡◌, ◌∙◌, ◌≤◌, sym, ap, List, ℕ, Option, Some}
use Rattle.std.specs.Net.Socket.{v4_port}
use Rattle.std.specs.declared.net.socket_addr.SocketAddrV4.{SocketAddrV4}
use Rattle.clap.specs.Words.{ReadsOne, found_of, one_text, rows_of}
use Rattle.clap.specs.declared.parser.matches.Found.{Found}
use Rattle.clap.proofs.WalkLemmas.{one_text-rows}
use Rattle.commands.specs.Values.{HasAddress}
use Rattle.commands.proofs.GivenAddresses.{Gives, address_reads, one_address, read_address}
use Rattle.commands.proofs.addresses.address.Goals as goal

-- an address that the rows have is the one that was read
same : (found : Found) (id : List ℕ) (a b : SocketAddrV4) (result : Option SocketAddrV4)
    → ((t : List ℕ) → one_text found id ≡ Some t → ReadsOne Gives t result)
    → result ≡ Some b → HasAddress (rows_of found) id a → a ≡ b
same found id a b result value read has =
    one_address result a b
    (address_reads _ _ result a has.0 (one_text-rows found id) value has.1 has.2) read

pub returns-in-Some-clause-none : goal.returns-in-Some-clause-none
returns-in-Some-clause-none c none a has =
    let same_as =
    same (found_of c.args.matches.now) c.args.id.now a c.in-Some.address c.get_one.result
    c.get_one.ensures.value c.in-Some.is has in
    let zero : v4_port a ≡ 0 = ap v4_port same_as ∙ sym c.port.ensures ∙ c.if-port-eq0.true in
    let least : 1 ≤ v4_port a = has.3 in
    omega arith

pub returns-in_default-clause-value : goal.returns-in_default-clause-value
returns-in_default-clause-value c =
    let read =
    read_address _ _ c.get_one.result c.in-Some.address
    (one_text-rows (found_of c.args.matches.now) c.args.id.now) c.in-Some.is
    c.get_one.ensures.none c.get_one.ensures.value in
    let least : 1 ≤ v4_port c.in-Some.address = search rules in
    (read.0, read.1, read.2, least)

pub returns-in_default-2-clause-none : goal.returns-in_default-2-clause-none
returns-in_default-2-clause-none c none a has =
    let read =
    address_reads _ _ c.get_one.result a has.0
    (one_text-rows (found_of c.args.matches.now) c.args.id.now) c.get_one.ensures.value has.1
    has.2 in
    search rules
