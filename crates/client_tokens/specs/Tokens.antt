-- What a token of a bound listener tells.
use Rattle.std.specs.Prelude.{Option, None, Some, replicate}
use Rattle.client_tokens.specs.declared.token.BoundToken.{BoundToken}
use Rattle.client_tokens.specs.declared.token.Met.{Met}
use Rattle.client_tokens.specs.Roll.{Roll, Seen}

-- a client of whom no bytes are known
abbrev pub unseen : Seen
unseen = record { sent = None; written = None }

-- so many of them came, and so many were left
abbrev pub roll_by : Option Met → Option Roll
roll_by None = None
roll_by (Some met) =
    Some (record { came = replicate met.came unseen; left = replicate met.left unseen })

abbrev pub roll_on : BoundToken → Option Roll
roll_on token = roll_by token.met
