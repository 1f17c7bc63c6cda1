-- How many descriptors a gateway wants.
use Rattle.std.specs.Prelude.{◌≡◌, ◌<◌, ◌+◌, ◌*◌, ℕ, List, [], ◌∷◌, Option, None, Some, codes, decimal}
use Rattle.std.specs.List.{concat}
use Rattle.gateway_settings.specs.declared.settings.Settings.{Settings}
use Rattle.serve_command.specs.declared.descriptors.TooFewDescriptors.{TooFewDescriptors}

-- two for each thread that serves clients, one for each connection to the backend that may be kept,
-- and 8 for the program itself
abbrev pub wanted_by : ℕ → ℕ → ℕ
wanted_by threads backends = 2 * threads + backends + 8

-- fewer are given than so many exchanges at once want, where there is a number of them
abbrev pub AreFewFor : Option ℕ → ℕ → TooFewDescriptors → Type 0
AreFewFor None backends few = ⊥
AreFewFor (Some exchanges) backends few =
    (few.wanted ≡ wanted_by exchanges backends) × (few.given < few.wanted)

-- or than those of the settings do
abbrev pub LackDescriptors : Settings → TooFewDescriptors → Type 0
LackDescriptors s few = AreFewFor s.exchanges s.backends few

-- the text of that
abbrev pub few_descriptors_text : TooFewDescriptors → List ℕ
few_descriptors_text few = concat (
    codes "descriptors: "
    ∷ decimal few.wanted
    ∷ codes " are wanted, "
    ∷ decimal few.given
    ∷ codes " are given"
    ∷ []
    )
