-- A request as it is forwarded.
use Rattle.std.specs.Prelude.{ℕ, Bool, ◌==◌, List, [], ◌∷◌, ◌++◌, map, codes, Option, None, Some, option_map, unwrap_or, if◌then◌else◌}
use Rattle.std.specs.Borrow.{Bor}
use Rattle.std.specs.List.{concat}
use Rattle.message_parts.specs.Header.{Header}
use Rattle.message_fields.specs.Lines.{is_named, count_named}
use Rattle.message_fields.specs.Passed.{request_lines}
use Rattle.message_fields.specs.Target.{authority_of, forwarded_target}
use Rattle.message_text.specs.declared.forwarded.Forwarded.{Forwarded}
use Rattle.message_text.specs.declared.persistence.Persistence.{Persistence}
use Rattle.message_text.specs.Line.{line_of, lines_text, length_line, close_lines}

-- bytes that are lent, where there are any
abbrev pub lent : Option (Bor (List ℕ)) → Option (List ℕ)
lent bytes = option_map (λ bytes. bytes.now) bytes

-- what a request is forwarded from; `is_old` where it is in HTTP/1.0
pub record ForwardedValue : Type 0 where
  pub method : List ℕ
  pub target : List ℕ
  pub is_old : Bool
  pub headers : List Header
  pub body : Option (List ℕ)
  pub backend : List ℕ
  pub persistence : Persistence

-- what is seen of a request that is to be forwarded
abbrev pub seen : Forwarded → ForwardedValue
seen request = record {
  method = request.method.now;
  target = request.target.now;
  is_old = request.is_old;
  headers = request.headers.now;
  body = lent request.body;
  backend = request.backend.now;
  persistence = request.persistence;
}

-- a line of a request whose target has this authority, if it has one, which Host then tells
abbrev pub hosted : Option (List ℕ) → Header → Header
hosted None line = line
hosted (Some authority) line =
    if is_named (codes "host") line then line_of line.name authority else line

-- a request without Host gets one: the authority of its target, or the backend
abbrev pub host_lines : ForwardedValue → List Header
host_lines request =
    if count_named (codes "host") request.headers == 0
    then line_of (codes "Host") (unwrap_or (authority_of request.target) request.backend) ∷ []
    else []

-- the length of a body, where there is one
abbrev pub length_lines : Option (List ℕ) → List Header
length_lines None = []
length_lines (Some body) = length_line body ∷ []

-- the line that tells of the gateway, with the version of the request that it got
unfoldable pub via_line : Bool → Header
via_line is_old =
    line_of (codes "Via") (if is_old then codes "1.0 admission" else codes "1.1 admission")

-- the lines that are forwarded
unfoldable pub forwarded_lines : ForwardedValue → List Header
forwarded_lines request =
    map (hosted (authority_of request.target)) (request_lines request.headers)
    ++ host_lines request ++ length_lines request.body
    ++ via_line request.is_old ∷ close_lines request.persistence

-- the first line of a request as it is forwarded
abbrev pub first_text : ForwardedValue → List ℕ
first_text request =
    concat (request.method ∷ codes " " ∷ forwarded_target request.method request.target
    ∷ codes " HTTP/1.1\r\n" ∷ [])

-- the request as it is forwarded
unfoldable pub forwarded_text : ForwardedValue → List ℕ
forwarded_text request =
    concat (first_text request ∷ lines_text (forwarded_lines request)
    ∷ codes "\r\n" ∷ unwrap_or request.body [] ∷ [])
