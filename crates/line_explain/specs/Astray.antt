-- Which word of a line no form can go on with.
use Rattle.std.specs.Prelude.{ℕ, max, List, fold}
use Rattle.std.specs.List.{common_prefix_len}
use Rattle.script.specs.declared.forms.TextKind.{TextKind}
use Rattle.script.specs.Forms.{Wanted, fits}
use Rattle.script.specs.LineForms.{forms_of}

-- how many words of a line stand where a form wants them, from the first one on
abbrev pub reach : List (List ℕ) → List Wanted → ℕ
reach words form = common_prefix_len (λ word wanted. fits wanted word) words form

-- ASTRAY: the place, counted from 0, of the first word that no form can go on with, or at which the
-- line ends too early: as many words stand before it as the form has that goes furthest
abbrev pub astray : TextKind → List (List ℕ) → ℕ
astray kind words = fold (λ furthest form. max furthest (reach words form)) 0 (forms_of kind)
