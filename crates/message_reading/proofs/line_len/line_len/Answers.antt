use Rattle.std.proofs.Common.{arith, ◌≡◌, ◌≢◌, ◌≤◌, ◌+◌, ◌-◌, All, Some, None, length, subst, sym, take}
use Rattle.std.proofs.lemmas.Grind.{common_steps}
use Rattle.message_reading.proofs.LineFeeds.{none_in_front, none_to_first, none_to_next}
use Rattle.message_reading.proofs.line_len.line_len.Goals as goal

pub returns-then-place-lt-LANES-clause-before : goal.returns-then-place-lt-LANES-clause-before
returns-then-place-lt-LANES-clause-before c =
    let bytes = c.args.bytes.now in
    let at = c.loop-at.at in
    let place = c.first_line_feed-place.result in
    let none = none_to_first bytes at place (omega arith) c.first_line_feed-place.ensures
    c.loop-at.invariant.others in
    let same : at + place + 1 - 1 ≡ at + place = omega arith in
    subst (λ n. All (λ b. b ≢ 10) (take n bytes)) (sym same)
    (none_in_front bytes (at + place) (omega arith) none)

pub loop-at-preserved : goal.loop-at-preserved
loop-at-preserved c =
    let bytes = c.args.bytes.now in
    let at = c.loop-at.at in
    let place = c.first_line_feed-place.result in
    let none = none_to_first bytes at place (omega arith) c.first_line_feed-place.ensures
    c.loop-at.invariant.others in
    record {
      others = λ k early. none k (omega (arith, early));
      inside = omega arith;
    }

pub returns-in-Some-clause-before : goal.returns-in-Some-clause-before
returns-in-Some-clause-before c =
    let bytes = c.args.bytes.now in
    let at = c.loop-at.at in
    let more = c.in-Some.more in
    let none = none_to_next bytes at (Some more) c.loop-at.invariant.inside c.in-Some.ensures
    c.loop-at.invariant.others in
    let same : at + more + 1 - 1 ≡ at + more = omega arith in
    let inside : at + more ≤ length bytes = grind (arith, common_steps) in
    subst (λ n. All (λ b. b ≢ 10) (take n bytes)) (sym same)
    (none_in_front bytes (at + more) inside none)

pub returns-in-None-clause-before : goal.returns-in-None-clause-before
returns-in-None-clause-before c =
    let bytes = c.args.bytes.now in
    let at = c.loop-at.at in
    let none = none_to_next bytes at None c.loop-at.invariant.inside c.in-None.ensures
    c.loop-at.invariant.others in
    none_in_front bytes (length bytes - 1) (omega arith) (λ k early. none k (omega (arith, early)))
