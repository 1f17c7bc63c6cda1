-- The head behind some of its bytes, while a reader gives more of them.
use Rattle.std.proofs.Common.{rules, ◌≡◌, ◌≤◌, ◌∙◌, ◌++◌, sym, ap, refl, ℕ, true, false, List, [], ◌∷◌, length, nat_le, Vec, Global}
use Rattle.std.specs.Prelude.{⊤, Option, Some, None, Result, Err}
use Rattle.std.specs.Io.KnownBytes.{Consumes}
use Rattle.message_reading.specs.declared.fault.Fault.TheVariants.{HeadTooLarge}
use Rattle.message_reading.specs.declared.fault.MessageFault.{MessageFault}
use Rattle.message_reading.specs.declared.fault.MessageFault.TheVariants.{Bytes}
use Rattle.message_reading.specs.Reading.{By, Gives}
use Rattle.message_reading.specs.Gather.{gather}
use Rattle.message_reading.specs.HeadBytes.{ends_head, head_behind, limit_lines}
use Rattle.message_reading.specs.Progress.{HeadPasses}

-- the head behind the first bytes is that behind those seen
abbrev pub LeadsTo : List ℕ → Option (List ℕ) → Option (List ℕ) → List ℕ → Type 0
LeadsTo first None new seen = ⊤
LeadsTo first (Some xs) None seen = ⊥
LeadsTo first (Some xs) (Some ys) seen = head_behind first xs ≡ head_behind seen ys

-- a piece more
pub leads_more : (first : List ℕ) (old mid new : Option (List ℕ)) (seen piece : List ℕ)
    → LeadsTo first old mid seen → Consumes mid new piece → HeadPasses seen piece
    → ends_head seen ≡ false → LeadsTo first old new (seen ++ piece)
leads_more first None mid new seen piece leads gave passes none = tt
leads_more first (Some xs) None new seen piece leads gave passes none = absurd leads
leads_more first (Some xs) (Some ys) None seen piece leads gave passes none = absurd gave
leads_more first (Some xs) (Some ys) (Some zs) seen piece leads gave passes none =
    leads ∙ ap (head_behind seen) gave ∙ rw none (ap limit_lines (passes zs))

abbrev GivesHead : List ℕ → Option (List ℕ) → Option (List ℕ)
    → Result (Vec ℕ Global) MessageFault → Type 0
GivesHead first =
    Gives {X = Vec ℕ Global} {V = List ℕ} (λ head. head.items) (By (head_behind first))

-- as many bytes as a head may have
pub too_many : (first : List ℕ) (old new : Option (List ℕ)) (seen : List ℕ)
    → LeadsTo first old new seen → ends_head seen ≡ false → 65536 ≤ length seen
    → GivesHead first old new (Err (Bytes HeadTooLarge))
too_many first None new seen leads none full = tt
too_many first (Some xs) None seen leads none full = absurd leads
too_many first (Some xs) (Some ys) seen leads none full =
    let over : nat_le 65536 (length seen) ≡ true = search rules in
    sym (leads ∙ rw none (go ys over))
  where
    go : (ys : List ℕ) → nat_le 65536 (length seen) ≡ true
        → limit_lines (gather ends_head 65536 HeadTooLarge seen ys) ≡ Err HeadTooLarge
    go [] over = rw over refl
    go (y ∷ ys) over = rw over refl
