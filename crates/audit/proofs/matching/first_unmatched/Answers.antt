use Rattle.std.proofs.Common.{arith, refl}
use Rattle.std.proofs.lemmas.Bool.{false≢true}
use Rattle.audit.specs.Permits.{IsMatched}
use Rattle.lemmas.proofs.Walks.{EachBefore-there, EachBefore-all}
use Rattle.audit.proofs.FirstPlaces.{stops_there}
use Rattle.audit.proofs.matching.first_unmatched.Goals as goal

pub returns-then-not-is_matched : goal.returns-then-not-is_matched
returns-then-not-is_matched c =
    stops_there (IsMatched c.args.entries.now) c.args.entries.now c.loop-number.number
    c.loop-number-test.true c.loop-number.invariant.matched
    (λ entry here matched. false≢true ((c.if-not-is_matched.ensures entry here).1 matched))

pub loop-number-preserved : goal.loop-number-preserved
loop-number-preserved c = record {
  matched =
      EachBefore-there (IsMatched c.args.entries.now) c.args.entries.now c.loop-number.number
      c.loop-number.invariant.matched
      (λ entry here. (c.if-not-is_matched.ensures entry here).0 refl);
  owed = c.mark_owed.ensures;
}

pub returns : goal.returns
returns c =
    EachBefore-all (IsMatched c.args.entries.now) c.args.entries.now c.loop-number.number
    (omega arith) c.loop-number.invariant.matched
