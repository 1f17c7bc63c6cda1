use Rattle.std.proofs.Common.{◌∙◌, ap, rules, tests, find, option_map}
use Rattle.std.proofs.lemmas.Iterator.{YieldsList-from_slice}
use Rattle.std.proofs.lemmas.Iterator.Search.{find_from_yields_List}
use Rattle.script.specs.Words.{words}
use Rattle.script.specs.Forms.{form_of}
use Rattle.line_explain.specs.Outside.{is_whole}
use Rattle.line_explain.proofs.Reaching.{find_of_map}
use Rattle.line_explain.proofs.value.form_had.Goals as goal

-- the form of the code's that is found is the one that is found among the forms
pub returns : goal.returns
returns c =
    let ws = words c.args.line.now in
    ap (option_map form_of) (c.copied.ensures
    ∙ find_from_yields_List (λ form. is_whole ws (form_of form)) _ _ c.find-found.result
    c.find-found.ensures.ran (YieldsList-from_slice c.line_forms.result.now cc)
    (λ x b q k. search (rules, tests)))
    ∙ find_of_map (is_whole ws) form_of c.line_forms.result.now
    ∙ ap (find (is_whole ws)) c.line_forms.ensures
