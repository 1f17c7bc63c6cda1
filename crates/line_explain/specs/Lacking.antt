-- The memory of explanations.
use Rattle.std.specs.Prelude.{◌≡◌, ℕ}
use Rattle.counted_io.specs.Count.{raised}
use Rattle.line_explain.specs.declared.explainer.LineExplainer.{LineExplainer}

-- how often there was none for the words
abbrev pub lacked_by : LineExplainer → ℕ
lacked_by explainer = explainer.lacked

-- there was none once more
abbrev pub HasLacked : LineExplainer → LineExplainer → Type 0
HasLacked old new = lacked_by new ≡ raised (lacked_by old)
