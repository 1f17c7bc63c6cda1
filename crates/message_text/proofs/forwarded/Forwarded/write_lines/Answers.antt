use Rattle.std.proofs.Common.{◌≡◌}
use Rattle.std.proofs.KnownBytes.{Appends-trans}
use Rattle.message_fields.specs.Target.{authority_of}
use Rattle.message_text.specs.Forwarded.{seen, lent}
use Rattle.message_text.proofs.Texts.{wrote_then, forwarded_pieces}
use Rattle.message_text.proofs.Fronts.{front_err, front_first, front_last, front_second}
use Rattle.message_text.proofs.forwarded.Forwarded.write_lines.Goals as goal

pub returns-clause-all : goal.returns-clause-all
returns-clause-all g c =
    let told : lent c.args.authority ≡ authority_of c.args.self.now.target.now = c.requires.told in
    wrote_then c.write_last.result _ _ _ _ _ _
    (forwarded_pieces (seen c.args.self.now))
    (Appends-trans _ _ _ _ _
    (Appends-trans _ _ _ _ _ (rw told at c.in_ok-write_request_lines.ensures.all)
    c.in_ok-write_host.ensures.all)
    c.in_ok-write_body_length.ensures.all)
    c.write_last.ensures.all

pub returns-in_err-write_request_lines-clause-front
    : goal.returns-in_err-write_request_lines-clause-front
returns-in_err-write_request_lines-clause-front g c =
    let told : lent c.args.authority ≡ authority_of c.args.self.now.target.now = c.requires.told in
    front_err _ _ _ _ _ (forwarded_pieces (seen c.args.self.now))
    (front_first _ _ _ _ (front_first _ _ _ _ (front_first _ _ _ _
    (rw told at c.in_err-write_request_lines.ensures.front))))

pub returns-in_err-write_host-clause-front : goal.returns-in_err-write_host-clause-front
returns-in_err-write_host-clause-front g c =
    let told : lent c.args.authority ≡ authority_of c.args.self.now.target.now = c.requires.told in
    front_err _ _ _ _ _ (forwarded_pieces (seen c.args.self.now))
    (front_first _ _ _ _ (front_first _ _ _ _
    (front_second _ _ _ _ _ (rw told at c.in_ok-write_request_lines.ensures.all)
    c.in_err-write_host.ensures.front)))

pub returns-in_err-write_body_length-clause-front
    : goal.returns-in_err-write_body_length-clause-front
returns-in_err-write_body_length-clause-front g c =
    let told : lent c.args.authority ≡ authority_of c.args.self.now.target.now = c.requires.told in
    front_err _ _ _ _ _ (forwarded_pieces (seen c.args.self.now))
    (front_first _ _ _ _
    (front_second _ _ _ _ _
    (Appends-trans _ _ _ _ _ (rw told at c.in_ok-write_request_lines.ensures.all)
    c.in_ok-write_host.ensures.all)
    c.in_err-write_body_length.ensures.front))

pub returns-clause-front : goal.returns-clause-front
returns-clause-front g c =
    let told : lent c.args.authority ≡ authority_of c.args.self.now.target.now = c.requires.told in
    front_last c.write_last.result _ _ _ _ _ _
    (forwarded_pieces (seen c.args.self.now))
    (Appends-trans _ _ _ _ _
    (Appends-trans _ _ _ _ _ (rw told at c.in_ok-write_request_lines.ensures.all)
    c.in_ok-write_host.ensures.all)
    c.in_ok-write_body_length.ensures.all)
    c.write_last.ensures.front
