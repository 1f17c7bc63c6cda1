-- How a message that was read says where its body ends: in one way.
use Rattle.std.specs.Prelude.{◌≡◌, ◌≤◌, ◌⊎◌, ℕ, true, false, List, Ok, codes, bytes_eq}
use Rattle.std.specs.List.{list_all}
use Rattle.message_parts.specs.Header.{Header}
use Rattle.message_fields.specs.Lines.{count_named, is_chunked_alone}
use Rattle.message_fields.specs.Parts.{parts_named}
use Rattle.message_text.specs.Answer.{is_bodiless}
use Rattle.message_parts.specs.declared.request.Request.{Request}
use Rattle.wire.specs.Messages.{IsRequest, IsResponse}
use Rattle.wire.specs.Response.{ResponseValue}

-- no coding stands beside a length, a coding is `chunked` alone, and all parts of all lines of
-- Content-Length are one text
pub record IsUnambiguous (lines : List Header) : Type 0 where
  pub apart : (count_named (codes "transfer-encoding") lines ≡ 0)
      ⊎ (count_named (codes "content-length") lines ≡ 0)
  pub coding : (count_named (codes "transfer-encoding") lines ≡ 0)
      ⊎ (is_chunked_alone lines ≡ true)
  pub lengths : (one : List ℕ)
      × (list_all (bytes_eq one) (parts_named (codes "content-length") lines) ≡ true)

-- so is each request that is read
abbrev pub RequestsAreUnambiguous : Type 0
RequestsAreUnambiguous =
    (bytes rest : List ℕ) (request : Request) → IsRequest bytes (Ok (request, rest))
    → IsUnambiguous request.headers

-- and each response whose lengths tell of its body
abbrev pub ResponsesAreUnambiguous : Type 0
ResponsesAreUnambiguous =
    (method bytes rest : List ℕ) (response : ResponseValue)
    → is_bodiless method response.status ≡ false
    → IsResponse method bytes (Ok (response, rest)) → IsUnambiguous response.headers

-- a request that is read has one line of Host at most
abbrev pub RequestsHaveOneHost : Type 0
RequestsHaveOneHost =
    (bytes rest : List ℕ) (request : Request) → IsRequest bytes (Ok (request, rest))
    → count_named (codes "host") request.headers ≤ 1
