-- The fields by which a message is framed and passed on.
use Rattle.std.specs.Prelude.{◌≡◌, ℕ, List, [], ◌∷◌, All, codes}
use Rattle.message_parts.specs.declared.field.Field.{Field}
use Rattle.message_parts.specs.declared.field.Field.TheVariants as field
use Rattle.message_parts.specs.Names.{same_name}

-- the name of a field; of any other none
abbrev pub name_of : Field → List ℕ
name_of field.Host = codes "host"
name_of field.Expect = codes "expect"
name_of field.Connection = codes "connection"
name_of field.ProxyConnection = codes "proxy-connection"
name_of field.KeepAlive = codes "keep-alive"
name_of field.Upgrade = codes "upgrade"
name_of field.Te = codes "te"
name_of field.Trailer = codes "trailer"
name_of field.TransferEncoding = codes "transfer-encoding"
name_of field.ContentLength = codes "content-length"
name_of field.Other = []

-- the names of fields that say how one connection is used
abbrev pub connection_names : List (List ℕ)
connection_names =
    codes "connection" ∷ codes "proxy-connection" ∷ codes "keep-alive" ∷ codes "upgrade" ∷ []

-- the names of fields that say how the body is sent over one connection
abbrev pub coding_names : List (List ℕ)
coding_names =
    codes "te" ∷ codes "trailer" ∷ codes "transfer-encoding" ∷ codes "content-length" ∷ []

-- the names of the two others
abbrev pub request_names : List (List ℕ)
request_names = codes "host" ∷ codes "expect" ∷ []

-- among these names a name is told apart as the field's is
abbrev pub TellsAmong : List (List ℕ) → Field → List ℕ → Type 0
TellsAmong names field name =
    All (λ known. same_name name known ≡ same_name (name_of field) known) names

-- the name is the field's, or is of no field
pub record IsFieldOf (field : Field) (name : List ℕ) : Type 0 where
  pub of_request : TellsAmong request_names field name
  pub of_connection : TellsAmong connection_names field name
  pub of_coding : TellsAmong coding_names field name
