-- The forms of lines: what stands at each place.
use Rattle.std.specs.Prelude.{◌^◌, ◌-◌, List, [], ◌∷◌, ◌++◌, codes}
use Rattle.limit_laws.specs.Facts.{hour}
use Rattle.windowed.specs.Totals.{most_samples}
use Rattle.script.specs.declared.forms.TextKind.{TextKind}
use Rattle.script.specs.declared.forms.TextKind.TheVariants.{Script, Trace}
use Rattle.script.specs.declared.place.RangeEnd.TheVariants.{At, Of}
use Rattle.script.specs.Forms.{Wanted, one_of, number, name, class, word, from_to, any_number}
use Rattle.script.specs.LimitLine.{limit_forms}

-- the lines that set
abbrev pub settings : List (List Wanted)
settings =
    limit_forms
    ++ (word (codes "window") ∷ from_to 1 most_samples ∷ from_to 1 hour ∷ number (Of 2) (At hour)
    ∷ from_to 0 hour ∷ [])
    ∷ (word (codes "share") ∷ name ∷ from_to 1 1000 ∷ [])
    ∷ (word (codes "class") ∷ name ∷ from_to 1 100 ∷ [])
    ∷ (word (codes "places") ∷ name ∷ from_to 0 10000 ∷ [])
    ∷ (word (codes "backlog") ∷ from_to 0 10000 ∷ [])
    ∷ (word (codes "keep") ∷ from_to 1 1000000 ∷ [])
    ∷ (word (codes "keep") ∷ from_to 1 1000000 ∷ word (codes "rolling") ∷ [])
    ∷ (word (codes "promote") ∷ one_of (codes "newest" ∷ codes "all" ∷ []) ∷ [])
    ∷ (word (codes "timeout") ∷ from_to 1 hour ∷ [])
    ∷ []

abbrev pub outcome : Wanted
outcome = one_of (codes "success" ∷ codes "ignored" ∷ codes "dropped" ∷ [])

-- what a script asks of a limiter
abbrev pub requests : List (List Wanted)
requests =
    (word (codes "acquire") ∷ class ∷ any_number ∷ [])
    ∷ (word (codes "acquire") ∷ class ∷ any_number ∷ word (codes "wait") ∷ [])
    ∷ (word (codes "bypass") ∷ any_number ∷ [])
    ∷ (word (codes "end") ∷ any_number ∷ outcome ∷ any_number ∷ [])
    ∷ (word (codes "claim") ∷ any_number ∷ [])
    ∷ (word (codes "giveup") ∷ any_number ∷ [])
    ∷ (word (codes "set") ∷ from_to 0 (2 ^ 32 - 1) ∷ any_number ∷ [])
    ∷ (word (codes "reset") ∷ any_number ∷ [])
    ∷ (word (codes "look") ∷ class ∷ [])
    ∷ []

-- the calls of a trace
abbrev pub calls : List (List Wanted)
calls =
    (word (codes "arrive") ∷ class ∷ any_number ∷ from_to 0 hour ∷ outcome ∷ [])
    ∷ (word (codes "arrive") ∷ class ∷ any_number ∷ from_to 0 hour ∷ outcome
    ∷ word (codes "wait") ∷ [])
    ∷ (word (codes "bypass") ∷ any_number ∷ [])
    ∷ []

-- THE FORMS of a text's lines
abbrev pub forms_of : TextKind → List (List Wanted)
forms_of Script = settings ++ requests
forms_of Trace = settings ++ calls
