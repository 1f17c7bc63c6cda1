-- Words put behind one another.
use Rattle.std.proofs.Common.{◌≡◌, ◌∙◌, ap, subst, ◌++◌, ℕ, Bool, List, Option, option_map, Result, Ok, Err, OnOk}
use Rattle.gate_config.specs.declared.fault.KeyAtFault.{KeyAtFault}
use Rattle.gate_config.specs.declared.key.Section.{Section}
use Rattle.gate_config.specs.Rows.{section_of}
use Rattle.config_explain.specs.declared.members.Member.{Member}
use Rattle.config_explain.specs.Explained.{ExplainsKey, ShowsPlace, key_line, member_line, range_line}

-- a key is explained by its place, itself and its range
pub key_explained : {T E : Type 0} (at : KeyAtFault) (is_missing : Bool) (section : Section)
    (member : Option Member) (held old a b new : List ℕ) (r : Result T E)
    → section ≡ section_of at.key → option_map (λ m. m.place) member ≡ at.member
    → ShowsPlace section member old a → b ≡ a ++ key_line at.key is_missing held
    → OnOk r (new ≡ b ++ range_line at) → OnOk r (ExplainsKey at is_missing old new)
key_explained at is_missing section member held old a b new (Ok x) its same shown told range =
    let place : ShowsPlace (section_of at.key) member old a =
    subst (λ s. ShowsPlace s member old a) its shown in (
      member,
      same,
      place.0,
      held,
      range ∙ ap (λ words. words ++ range_line at)
          (told ∙ ap (λ words. words ++ key_line at.key is_missing held) place.1),
    )
key_explained at is_missing section member held old a b new (Err e) its same shown told range = tt

-- a place is shown by its member and a line
pub place_shown : {T E : Type 0} (section : Section) (member : Option Member)
    (old a line new : List ℕ) (r : Result T E) → a ≡ old ++ member_line section member
    → OnOk r (new ≡ a ++ line) → OnOk r (ShowsPlace section member old new)
place_shown section member old a line new (Ok x) first second =
    (line, second ∙ ap (λ words. words ++ line) first)
place_shown section member old a line new (Err e) first second = tt
