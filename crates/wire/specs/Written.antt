-- The texts of messages that are written.
use Rattle.std.specs.Prelude.{ℕ, Bool, true, false, List}
use Rattle.message_parts.specs.declared.request.Request.{Request}
use Rattle.message_parts.specs.declared.request.Version.{Version}
use Rattle.message_parts.specs.declared.request.Version.TheVariants.{Http10}
use Rattle.wire.specs.Response.{ResponseValue}
use Rattle.message_text.specs.declared.persistence.Persistence.{Persistence}
use Rattle.message_text.specs.Forwarded.{ForwardedValue, forwarded_text}
use Rattle.message_text.specs.Answer.{AnswerValue, answer_text}

-- the version is HTTP/1.0
abbrev pub is_old : Version → Bool
is_old Http10 = true
is_old _ = false

-- a request on its way to the backend of this address, by a connection that ends with it or not
abbrev pub forwarded : Persistence → List ℕ → Request → ForwardedValue
forwarded persistence backend request = record {
  method = request.method;
  target = request.target;
  is_old = is_old request.version;
  headers = request.headers;
  body = request.body;
  backend = backend;
  persistence = persistence;
}

-- the text of a request that is forwarded to the backend of this address
abbrev pub request_text : Persistence → List ℕ → Request → List ℕ
request_text persistence backend request = forwarded_text (forwarded persistence backend request)

-- a response on its way to a client that asked by this method, whose connection ends with it or not
abbrev pub answered : Persistence → List ℕ → ResponseValue → AnswerValue
answered persistence method response = record {
  method = method;
  status = response.status;
  headers = response.headers;
  body = response.body;
  persistence = persistence;
}

-- the text of a response to a request of this method
abbrev pub response_text : Persistence → List ℕ → ResponseValue → List ℕ
response_text persistence method response = answer_text (answered persistence method response)
