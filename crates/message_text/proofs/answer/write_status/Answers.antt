use Rattle.std.proofs.Common.{◌≡◌, ◌++◌, rules}
use Rattle.std.specs.Prelude.{codes, decimal}
use Rattle.std.proofs.KnownBytes.{Appends-trans}
use Rattle.message_text.specs.Answer.{phrase_of, status_text}
use Rattle.message_text.proofs.Fronts.{front_err, front_first, front_last, front_second}
use Rattle.message_text.proofs.Texts.{status_pieces}
use Rattle.message_text.proofs.answer.write_status.Goals as goal

pub returns-in-Some-clause-front : goal.returns-in-Some-clause-front
returns-in-Some-clause-front g c =
    let same : c.in-Some.line.now ≡ status_text c.args.status = c.in-Some.ensures in
    rw same at c.write_all.ensures.front

pub returns-in_err-write_all-clause-front : goal.returns-in_err-write_all-clause-front
returns-in_err-write_all-clause-front g c =
    let one = codes "HTTP/1.1 " in
    let two = decimal c.args.status in
    let three = codes " " in
    let four = phrase_of c.args.status in
    front_err _ _ _ _ _ (status_pieces c.args.status)
    (front_first _ _ (((one ++ two) ++ three) ++ four) (codes "\r\n")
    (front_first _ _ ((one ++ two) ++ three) four
    (front_first _ _ (one ++ two) three
    (front_first _ _ one two c.in_err-write_all.ensures.front))))

pub returns-in_err-write_decimal-clause-front : goal.returns-in_err-write_decimal-clause-front
returns-in_err-write_decimal-clause-front g c =
    let one = codes "HTTP/1.1 " in
    let two = decimal c.args.status in
    let three = codes " " in
    let four = phrase_of c.args.status in
    let number : c.from.result ≡ c.args.status = search rules in
    front_err _ _ _ _ _ (status_pieces c.args.status)
    (front_first _ _ (((one ++ two) ++ three) ++ four) (codes "\r\n")
    (front_first _ _ ((one ++ two) ++ three) four
    (front_first _ _ (one ++ two) three
    (front_second _ _ _ one two c.in_ok-write_all.ensures.all
    (rw number at c.in_err-write_decimal.ensures.front)))))

pub returns-in_err-write_all-2-clause-front : goal.returns-in_err-write_all-2-clause-front
returns-in_err-write_all-2-clause-front g c =
    let one = codes "HTTP/1.1 " in
    let two = decimal c.args.status in
    let three = codes " " in
    let four = phrase_of c.args.status in
    let number : c.from.result ≡ c.args.status = search rules in
    front_err _ _ _ _ _ (status_pieces c.args.status)
    (front_first _ _ (((one ++ two) ++ three) ++ four) (codes "\r\n")
    (front_first _ _ ((one ++ two) ++ three) four
    (front_second _ _ _ (one ++ two) three
    (Appends-trans _ _ _ one two c.in_ok-write_all.ensures.all
    (rw number at c.in_ok-write_decimal.ensures.all))
    c.in_err-write_all-2.ensures.front)))

pub returns-in_err-write_all-3-clause-front : goal.returns-in_err-write_all-3-clause-front
returns-in_err-write_all-3-clause-front g c =
    let one = codes "HTTP/1.1 " in
    let two = decimal c.args.status in
    let three = codes " " in
    let four = phrase_of c.args.status in
    let number : c.from.result ≡ c.args.status = search rules in
    let phrase : c.as_bytes.result.now ≡ phrase_of c.args.status = search rules in
    front_err _ _ _ _ _ (status_pieces c.args.status)
    (front_first _ _ (((one ++ two) ++ three) ++ four) (codes "\r\n")
    (front_second _ _ _ ((one ++ two) ++ three) four
    (Appends-trans _ _ _ (one ++ two) three
    (Appends-trans _ _ _ one two c.in_ok-write_all.ensures.all
    (rw number at c.in_ok-write_decimal.ensures.all))
    c.in_ok-write_all-2.ensures.all)
    (rw phrase at c.in_err-write_all-3.ensures.front)))

pub returns-clause-front : goal.returns-clause-front
returns-clause-front g c =
    let one = codes "HTTP/1.1 " in
    let two = decimal c.args.status in
    let three = codes " " in
    let four = phrase_of c.args.status in
    let number : c.from.result ≡ c.args.status = search rules in
    let phrase : c.as_bytes.result.now ≡ phrase_of c.args.status = search rules in
    front_last c.write_all-5.result _ _ _ (((one ++ two) ++ three) ++ four) (codes "\r\n") _
    (status_pieces c.args.status)
    (Appends-trans _ _ _ ((one ++ two) ++ three) four
    (Appends-trans _ _ _ (one ++ two) three
    (Appends-trans _ _ _ one two c.in_ok-write_all.ensures.all
    (rw number at c.in_ok-write_decimal.ensures.all))
    c.in_ok-write_all-2.ensures.all)
    (rw phrase at c.in_ok-write_all-3.ensures.all))
    c.write_all-5.ensures.front
