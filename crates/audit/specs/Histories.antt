-- Histories that a gate keeps.
use Rattle.std.specs.Prelude.{◌≡◌, ◌↔◌, List}
use Rattle.limit_laws.specs.Algorithm.{IsLawful}
use Rattle.limiter_core.specs.declared.event.Entry.{Entry}
use Rattle.limiter_core.specs.History.{Gate, Image}
use Rattle.limiter_core.specs.Legal.{IsLegal}
use Rattle.limiter_core.specs.Bound.{IsSound}
use Rattle.audit.specs.Firsts.{EachHas}
use Rattle.audit.specs.Permits.{HandsOutNamed, IsMatched}
use Rattle.audit.specs.Accepted.{IsMatchedHistory}

-- the history of a lawful gate from the first entry on: legal, from a sound opening with number 0
pub record IsWholeHistory {S : Type 0}
    (g : Gate S) (o : Image S) (entries : List Entry) : Type 0 where
  pub lawful : IsLawful g.rules
  pub sound : IsSound g o
  pub first : o.next ≡ 0
  pub legal : IsLegal g o entries

-- it hands out no permit of a later number
abbrev pub WholeHandsOutNamed : {S : Type 0} → Gate S → Type 0
WholeHandsOutNamed {S} g = (o : Image S) (entries : List Entry)
    → IsWholeHistory g o entries → HandsOutNamed entries

-- and each of its entries is matched just where the plain words hold of it: each ending ends a
-- permit that an earlier entry handed out just so, no two name the same number, and none is lost
abbrev pub WholeIsMatchedPlainly : {S : Type 0} → Gate S → Type 0
WholeIsMatchedPlainly {S} g = (o : Image S) (entries : List Entry)
    → IsWholeHistory g o entries
    → (EachHas (IsMatched entries) entries ↔ IsMatchedHistory entries)
