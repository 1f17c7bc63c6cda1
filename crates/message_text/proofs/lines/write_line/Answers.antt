use Rattle.std.proofs.KnownBytes.{Appends-trans}
use Rattle.message_text.specs.Line.{line_of}
use Rattle.message_text.proofs.Fronts.{front_err, front_first, front_last, front_second}
use Rattle.message_text.proofs.Texts.{line_pieces}
use Rattle.message_text.proofs.lines.write_line.Goals as goal

pub returns-in_err-write_all-clause-front : goal.returns-in_err-write_all-clause-front
returns-in_err-write_all-clause-front g c =
    front_err _ _ _ _ _ (line_pieces (line_of c.args.name.now c.args.value.now))
    (front_first _ _ _ _ (front_first _ _ _ _ (front_first _ _ _ _
    c.in_err-write_all.ensures.front)))

pub returns-in_err-write_all-2-clause-front : goal.returns-in_err-write_all-2-clause-front
returns-in_err-write_all-2-clause-front g c =
    front_err _ _ _ _ _ (line_pieces (line_of c.args.name.now c.args.value.now))
    (front_first _ _ _ _ (front_first _ _ _ _
    (front_second _ _ _ _ _ c.in_ok-write_all.ensures.all c.in_err-write_all-2.ensures.front)))

pub returns-in_err-write_all-3-clause-front : goal.returns-in_err-write_all-3-clause-front
returns-in_err-write_all-3-clause-front g c =
    front_err _ _ _ _ _ (line_pieces (line_of c.args.name.now c.args.value.now))
    (front_first _ _ _ _ (front_second _ _ _ _ _
    (Appends-trans _ _ _ _ _ c.in_ok-write_all.ensures.all c.in_ok-write_all-2.ensures.all)
    c.in_err-write_all-3.ensures.front))

pub returns-clause-front : goal.returns-clause-front
returns-clause-front g c =
    front_last c.write_all-4.result _ _ _ _ _ _
    (line_pieces (line_of c.args.name.now c.args.value.now))
    (Appends-trans _ _ _ _ _
    (Appends-trans _ _ _ _ _ c.in_ok-write_all.ensures.all c.in_ok-write_all-2.ensures.all)
    c.in_ok-write_all-3.ensures.all)
    c.write_all-4.ensures.front
