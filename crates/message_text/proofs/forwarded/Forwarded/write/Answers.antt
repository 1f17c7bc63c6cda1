use Rattle.std.proofs.Common.{◌≡◌, []}
use Rattle.std.specs.Prelude.{unwrap_or}
use Rattle.std.proofs.KnownBytes.{Appends-trans}
use Rattle.message_text.specs.Forwarded.{seen, lent}
use Rattle.message_text.proofs.Texts.{wrote_then, forwarded_whole}
use Rattle.message_text.proofs.Fronts.{front_err, front_first, front_last, front_second}
use Rattle.message_text.proofs.forwarded.Forwarded.write.Goals as goal

pub returns-clause-all : goal.returns-clause-all
returns-clause-all g c =
    let body : c.bytes_of.result.now ≡ unwrap_or (lent c.args.self.now.body) [] =
    c.bytes_of.ensures in
    wrote_then c.write_and_flush.result _ _ _ _ _ _ (forwarded_whole (seen c.args.self.now))
    (Appends-trans _ _ _ _ _ c.in_ok-write_first.ensures.all c.in_ok-write_lines.ensures.all)
    (rw body at c.write_and_flush.ensures.all)

pub returns-in_err-write_first-clause-front : goal.returns-in_err-write_first-clause-front
returns-in_err-write_first-clause-front g c =
    front_err _ _ _ _ _ (forwarded_whole (seen c.args.self.now))
    (front_first _ _ _ _ (front_first _ _ _ _ c.in_err-write_first.ensures.front))

pub returns-in_err-write_lines-clause-front : goal.returns-in_err-write_lines-clause-front
returns-in_err-write_lines-clause-front g c =
    front_err _ _ _ _ _ (forwarded_whole (seen c.args.self.now))
    (front_first _ _ _ _
    (front_second _ _ _ _ _ c.in_ok-write_first.ensures.all c.in_err-write_lines.ensures.front))

pub returns-clause-front : goal.returns-clause-front
returns-clause-front g c =
    let body : c.bytes_of.result.now ≡ unwrap_or (lent c.args.self.now.body) [] =
    c.bytes_of.ensures in
    front_last c.write_and_flush.result _ _ _ _ _ _ (forwarded_whole (seen c.args.self.now))
    (Appends-trans _ _ _ _ _ c.in_ok-write_first.ensures.all c.in_ok-write_lines.ensures.all)
    (rw body at c.write_and_flush.ensures.front)
