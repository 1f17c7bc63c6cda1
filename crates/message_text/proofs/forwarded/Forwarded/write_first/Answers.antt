use Rattle.std.proofs.Common.{◌≡◌}
use Rattle.std.proofs.KnownBytes.{Appends-trans}
use Rattle.message_text.specs.Forwarded.{first_text, seen}
use Rattle.message_text.proofs.Texts.{wrote_then, first_pieces}
use Rattle.message_text.proofs.Fronts.{front_err, front_first, front_last, front_second}
use Rattle.message_text.proofs.forwarded.Forwarded.write_first.Goals as goal

pub returns-clause-all : goal.returns-clause-all
returns-clause-all g c =
    let one : c.as_slice.result.now ≡ c.args.self.now.method.now = c.as_slice.ensures in
    let two : c.as_slice-2.result.now ≡ c.args.self.now.method.now = c.as_slice-2.ensures in
    wrote_then c.write_all-4.result _ _ _ _ _ _ (first_pieces (seen c.args.self.now))
    (Appends-trans _ _ _ _ _
    (Appends-trans _ _ _ _ _ (rw one at c.in_ok-write_all.ensures.all)
    c.in_ok-write_all-2.ensures.all)
    (rw two at c.in_ok-write_target.ensures.all))
    c.write_all-4.ensures.all

pub returns-in_err-write_all-clause-front : goal.returns-in_err-write_all-clause-front
returns-in_err-write_all-clause-front g c =
    let one : c.as_slice.result.now ≡ c.args.self.now.method.now = c.as_slice.ensures in
    front_err _ _ _ _ _ (first_pieces (seen c.args.self.now))
    (front_first _ _ _ _ (front_first _ _ _ _ (front_first _ _ _ _
    (rw one at c.in_err-write_all.ensures.front))))

pub returns-in_err-write_all-2-clause-front : goal.returns-in_err-write_all-2-clause-front
returns-in_err-write_all-2-clause-front g c =
    let one : c.as_slice.result.now ≡ c.args.self.now.method.now = c.as_slice.ensures in
    front_err _ _ _ _ _ (first_pieces (seen c.args.self.now))
    (front_first _ _ _ _ (front_first _ _ _ _
    (front_second _ _ _ _ _ (rw one at c.in_ok-write_all.ensures.all)
    c.in_err-write_all-2.ensures.front)))

pub returns-in_err-write_target-clause-front : goal.returns-in_err-write_target-clause-front
returns-in_err-write_target-clause-front g c =
    let one : c.as_slice.result.now ≡ c.args.self.now.method.now = c.as_slice.ensures in
    let two : c.as_slice-2.result.now ≡ c.args.self.now.method.now = c.as_slice-2.ensures in
    front_err _ _ _ _ _ (first_pieces (seen c.args.self.now))
    (front_first _ _ _ _
    (front_second _ _ _ _ _
    (Appends-trans _ _ _ _ _ (rw one at c.in_ok-write_all.ensures.all)
    c.in_ok-write_all-2.ensures.all)
    (rw two at c.in_err-write_target.ensures.front)))

pub returns-clause-front : goal.returns-clause-front
returns-clause-front g c =
    let one : c.as_slice.result.now ≡ c.args.self.now.method.now = c.as_slice.ensures in
    let two : c.as_slice-2.result.now ≡ c.args.self.now.method.now = c.as_slice-2.ensures in
    front_last c.write_all-4.result _ _ _ _ _ _ (first_pieces (seen c.args.self.now))
    (Appends-trans _ _ _ _ _
    (Appends-trans _ _ _ _ _ (rw one at c.in_ok-write_all.ensures.all)
    c.in_ok-write_all-2.ensures.all)
    (rw two at c.in_ok-write_target.ensures.all))
    c.write_all-4.ensures.front

pub returns-in-Some-clause-front : goal.returns-in-Some-clause-front
returns-in-Some-clause-front g c =
    let same : c.in-Some.line.now ≡ first_text (seen c.args.self.now) = c.in-Some.ensures in
    rw same at c.write_all.ensures.front
