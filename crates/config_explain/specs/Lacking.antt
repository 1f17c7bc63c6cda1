-- The memory of explanations.
use Rattle.std.specs.Prelude.{◌≡◌, ℕ}
use Rattle.counted_io.specs.Count.{raised}
use Rattle.config_explain.specs.declared.explainer.Explainer.{Explainer}

-- how often there was none for the words
abbrev pub lacked_by : Explainer → ℕ
lacked_by explainer = explainer.lacked

-- there was none once more
abbrev pub HasLacked : Explainer → Explainer → Type 0
HasLacked old new = lacked_by new ≡ raised (lacked_by old)
