-- What is shown of the ends that are written to.
use Rattle.std.specs.Prelude.{◌≡◌, ℕ, List, [], take, Option, Some, None, ⊤}
use Rattle.std.specs.Io.KnownBytes.{Appends}
use Rattle.tcp_backend.specs.declared.pool.ReadyConnection.{ReadyConnection}

-- the end of a connection that may carry another request
abbrev pub end_kept : {S E : Type 0} → ReadyConnection S E → E
end_kept connection = connection.end

-- an end to which nothing was written held this, and holds a beginning of a text since
abbrev pub HoldsFront : Option (List ℕ) → Option (List ℕ) → List ℕ → Type 0
HoldsFront old new text = old ≡ Some [] → (count : ℕ) × (new ≡ Some (take count text))

-- where it is shown what was written, an end that is handed out shows that nothing was yet
abbrev pub IsFresh : Option (List ℕ) → Option (List ℕ) → Type 0
IsFresh None contents = ⊤
IsFresh (Some written) contents = contents ≡ Some []

-- what an end shows that is taken back stands behind what was shown before
abbrev pub Gathers : Option (List ℕ) → Option (List ℕ) → Option (List ℕ) → Type 0
Gathers old None new = ⊤
Gathers old (Some bytes) new = Appends old new bytes
