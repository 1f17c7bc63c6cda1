use Rattle.std.proofs.Common.{◌≡◌, [], refl}
use Rattle.std.specs.Prelude.{codes, if◌then◌else◌}
use Rattle.message_fields.specs.Target.{local_part, wants_slash}
use Rattle.message_text.proofs.Fronts.{front_err, front_first, front_last}
use Rattle.message_text.proofs.forwarded.write_turned.Goals as goal

pub returns-in_err-write_all-clause-front : goal.returns-in_err-write_all-clause-front
returns-in_err-write_all-clause-front g c =
    let slash : c.leading_slash.result.now ≡ if wants_slash c.args.target.now then codes "/" else []
    = c.leading_slash.ensures in
    front_err _ _ _ _ _ refl
    (front_first _ _ _ (local_part c.args.target.now)
    (rw slash at c.in_err-write_all.ensures.front))

pub returns-clause-front : goal.returns-clause-front
returns-clause-front g c =
    let slash : c.leading_slash.result.now ≡ if wants_slash c.args.target.now then codes "/" else []
    = c.leading_slash.ensures in
    let local : c.local_part.result.now ≡ local_part c.args.target.now = c.local_part.ensures in
    front_last c.write_all-2.result _ _ _ _ _ _ refl (rw slash at c.in_ok-write_all.ensures.all)
    (rw local at c.write_all-2.ensures.front)
