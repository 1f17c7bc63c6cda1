-- The first lines of answers with the commonest statuses.
use Rattle.std.proofs.Common.{◌≡◌, refl}
use Rattle.std.specs.Fmt.{digits}
use Rattle.std.specs.Prelude.{codes}
use Rattle.message_text.specs.Answer.{phrase_of, status_text}

pub line_200 : codes "HTTP/1.1 200 OK\r\n" ≡ status_text 200
unfolding status_text phrase_of digits
line_200 = refl

pub line_204 : codes "HTTP/1.1 204 No Content\r\n" ≡ status_text 204
unfolding status_text phrase_of digits
line_204 = refl

pub line_302 : codes "HTTP/1.1 302 Found\r\n" ≡ status_text 302
unfolding status_text phrase_of digits
line_302 = refl

pub line_304 : codes "HTTP/1.1 304 Not Modified\r\n" ≡ status_text 304
unfolding status_text phrase_of digits
line_304 = refl

pub line_404 : codes "HTTP/1.1 404 Not Found\r\n" ≡ status_text 404
unfolding status_text phrase_of digits
line_404 = refl

pub line_429 : codes "HTTP/1.1 429 Too Many Requests\r\n" ≡ status_text 429
unfolding status_text phrase_of digits
line_429 = refl
