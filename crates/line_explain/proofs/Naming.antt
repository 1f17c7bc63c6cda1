-- A word is named by a line of its parts.
use Rattle.std.proofs.Common.{◌≡◌, ◌∙◌, ◌++◌, ap, ℕ, List, [], Option}
use Rattle.std.specs.Prelude.{slice_get}
use Rattle.script.specs.declared.fault_kind.FaultKind.{FaultKind}
use Rattle.script.specs.declared.forms.TextKind.{TextKind}
use Rattle.line_explain.specs.Named.{IsNamed, NamesWord, number_at, shown_as, word_line}

pub names_word : (kind : TextKind) (why : FaultKind) (ws : List (List ℕ)) (place number : ℕ)
    (found : Option (List ℕ)) (shown word wanted before said : List ℕ)
    → IsNamed kind why ws place → number ≡ number_at place → found ≡ slice_get ws place
    → word ≡ shown_as found shown → before ≡ [] → said ≡ before ++ word_line number word wanted
    → NamesWord kind why ws said
names_word kind why ws place number found shown word wanted before said named counted is shows none
    told = (
      place,
      named,
      shown,
      wanted,
      told ∙ ap (λ b. b ++ word_line number word wanted) none
          ∙ ap (λ n. word_line n word wanted) counted
          ∙ ap (λ w. word_line (number_at place) w wanted)
          (shows ∙ ap (λ o. shown_as o shown) is),
    )
