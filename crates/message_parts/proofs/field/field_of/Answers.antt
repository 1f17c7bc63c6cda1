use Rattle.std.proofs.Common.{rules, ◌≡◌, true, false, length, [], ◌∷◌, ne_eqb}
use Rattle.std.specs.Prelude.{codes}
use Rattle.std.proofs.lemmas.List.Elements.{All-cons, All-nil}
use Rattle.message_parts.specs.declared.field.Field.TheVariants as field
use Rattle.message_parts.specs.Names.{same_name}
use Rattle.message_parts.proofs.Fields.{Differs, is_field, is_other}
use Rattle.message_parts.proofs.field.field_of.Goals as goal

pub returns-in-2 : goal.returns-in-2
returns-in-2 c =
    let same : same_name c.args.name.now (codes "te") ≡ true = search rules in
    is_field field.Te c.args.name.now same

pub returns-in-4 : goal.returns-in-4
returns-in-4 c =
    let same : same_name c.args.name.now (codes "host") ≡ true = search rules in
    is_field field.Host c.args.name.now same

pub returns-in-6 : goal.returns-in-6
returns-in-6 c =
    let same : same_name c.args.name.now (codes "expect") ≡ true = search rules in
    is_field field.Expect c.args.name.now same

pub returns-in-7 : goal.returns-in-7
returns-in-7 c =
    let same : same_name c.args.name.now (codes "upgrade") ≡ true = search rules in
    is_field field.Upgrade c.args.name.now same

pub returns-in-7-2 : goal.returns-in-7-2
returns-in-7-2 c =
    let same : same_name c.args.name.now (codes "trailer") ≡ true = search rules in
    is_field field.Trailer c.args.name.now same

pub returns-in-10 : goal.returns-in-10
returns-in-10 c =
    let same : same_name c.args.name.now (codes "connection") ≡ true = search rules in
    is_field field.Connection c.args.name.now same

pub returns-in-10-2 : goal.returns-in-10-2
returns-in-10-2 c =
    let same : same_name c.args.name.now (codes "keep-alive") ≡ true = search rules in
    is_field field.KeepAlive c.args.name.now same

pub returns-in-14 : goal.returns-in-14
returns-in-14 c =
    let same : same_name c.args.name.now (codes "content-length") ≡ true = search rules in
    is_field field.ContentLength c.args.name.now same

pub returns-in-16 : goal.returns-in-16
unfolding same_name
returns-in-16 c =
    let same : same_name c.args.name.now (codes "proxy-connection") ≡ true = search rules in
    is_field field.ProxyConnection c.args.name.now same

pub returns-in-17 : goal.returns-in-17
returns-in-17 c =
    let same : same_name c.args.name.now (codes "transfer-encoding") ≡ true = search rules in
    is_field field.TransferEncoding c.args.name.now same

pub returns-in_default : goal.returns-in_default
returns-in_default c =
    let name = c.args.name.now in
    let none = All-nil (Differs name) in
    let te : same_name name (codes "te") ≡ false = search rules in
    is_other name (rw c.in-2.is none) (rw c.in-2.is none)
    (rw c.in-2.is (All-cons (Differs name) (codes "te") [] te none))

pub returns-in_default-2 : goal.returns-in_default-2
returns-in_default-2 c =
    let name = c.args.name.now in
    let none = All-nil (Differs name) in
    let host : same_name name (codes "host") ≡ false = search rules in
    is_other name (rw c.in-4.is (All-cons (Differs name) (codes "host") [] host none))
    (rw c.in-4.is none) (rw c.in-4.is none)

pub returns-in_default-3 : goal.returns-in_default-3
returns-in_default-3 c =
    let name = c.args.name.now in
    let none = All-nil (Differs name) in
    let expect : same_name name (codes "expect") ≡ false = search rules in
    is_other name (rw c.in-6.is (All-cons (Differs name) (codes "expect") [] expect none))
    (rw c.in-6.is none) (rw c.in-6.is none)

pub returns-in_default-4 : goal.returns-in_default-4
returns-in_default-4 c =
    let name = c.args.name.now in
    let none = All-nil (Differs name) in
    let upgrade : same_name name (codes "upgrade") ≡ false = search rules in
    let trailer : same_name name (codes "trailer") ≡ false = search rules in
    is_other name (rw c.in-7.is none)
    (rw c.in-7.is (All-cons (Differs name) (codes "upgrade") [] upgrade none))
    (rw c.in-7.is (All-cons (Differs name) (codes "trailer") [] trailer none))

pub returns-in_default-5 : goal.returns-in_default-5
returns-in_default-5 c =
    let name = c.args.name.now in
    let none = All-nil (Differs name) in
    let connection : same_name name (codes "connection") ≡ false = search rules in
    let keep_alive : same_name name (codes "keep-alive") ≡ false = search rules in
    let last = All-cons (Differs name) (codes "keep-alive") [] keep_alive none in
    let both =
    All-cons (Differs name) (codes "connection") (codes "keep-alive" ∷ []) connection last in
    is_other name (rw c.in-10.is none) (rw c.in-10.is both) (rw c.in-10.is none)

pub returns-in_default-6 : goal.returns-in_default-6
returns-in_default-6 c =
    let name = c.args.name.now in
    let none = All-nil (Differs name) in
    let content_length : same_name name (codes "content-length") ≡ false = search rules in
    is_other name (rw c.in-14.is none) (rw c.in-14.is none)
    (rw c.in-14.is (All-cons (Differs name) (codes "content-length") [] content_length none))

pub returns-in_default-7 : goal.returns-in_default-7
unfolding same_name
returns-in_default-7 c =
    let name = c.args.name.now in
    let none = All-nil (Differs name) in
    let proxy_connection : same_name name (codes "proxy-connection") ≡ false = search rules in
    is_other name (rw c.in-16.is none)
    (rw c.in-16.is (All-cons (Differs name) (codes "proxy-connection") [] proxy_connection none))
    (rw c.in-16.is none)

pub returns-in_default-8 : goal.returns-in_default-8
returns-in_default-8 c =
    let name = c.args.name.now in
    let none = All-nil (Differs name) in
    let transfer_encoding : same_name name (codes "transfer-encoding") ≡ false = search rules in
    is_other name (rw c.in-17.is none) (rw c.in-17.is none)
    (rw c.in-17.is (All-cons (Differs name) (codes "transfer-encoding") [] transfer_encoding none))

pub returns-in_default-9 : goal.returns-in_default-9
returns-in_default-9 c =
    let name = c.args.name.now in
    let none = All-nil (Differs name) in
    let two = ne_eqb (length name) 2 (search rules) in
    let four = ne_eqb (length name) 4 (search rules) in
    let six = ne_eqb (length name) 6 (search rules) in
    let seven = ne_eqb (length name) 7 (search rules) in
    let ten = ne_eqb (length name) 10 (search rules) in
    let fourteen = ne_eqb (length name) 14 (search rules) in
    let sixteen = ne_eqb (length name) 16 (search rules) in
    let seventeen = ne_eqb (length name) 17 (search rules) in
    is_other name (rw (four, six) none) (rw (ten, sixteen, seven) none)
    (rw (two, seven, seventeen, fourteen) none)
