use Rattle.std.proofs.Common.{◌==◌, rules, tests, length, nat_lt}
use Rattle.std.proofs.lemmas.Iterator.{YieldsList-from_slice, YieldsList-from_zip}
use Rattle.std.proofs.lemmas.Iterator.Consumers.{YieldsList-at, YieldsList-from_filter, count_from_yields_List}
use Rattle.std.proofs.lemmas.Iterator.Search.{YieldsList-from_take_while}
use Rattle.std.proofs.lemmas.Iterator.Splits.{YieldsList-from_slice_split}
use Rattle.script.specs.Words.{words}
use Rattle.script.specs.Forms.{wanted_at}
use Rattle.line_explain.specs.Outside.{is_within}
use Rattle.line_explain.proofs.value.count_within.Goals as goal

-- the words that are split off, beside the places, as long as they are in their ranges
pub returns : goal.returns
returns c =
    count_from_yields_List c.take_while.result _ c.count.ensures.ran
    (YieldsList-from_take_while _
    (λ pair. is_within (words c.args.line.now) (wanted_at pair.1) pair.0)
    (YieldsList-at c.take_while.ensures.source (YieldsList-from_zip
    (YieldsList-at c.zip.ensures.first (YieldsList-from_filter _ (λ part. nat_lt 0 (length part))
    (YieldsList-at c.filter.ensures.source (YieldsList-from_slice_split _ (λ byte. byte == 32) _
    c.split.ensures.rest c.split.ensures.done c.split.ensures.closure
    (λ x b q k. search (rules, tests)))) c.filter.ensures.closure
    (λ x b q k. search (rules, tests))))
    (YieldsList-from_slice c.args.form.now cc)))
    c.take_while.ensures.closure c.take_while.ensures.done (λ x b q k. search (rules, tests)))
