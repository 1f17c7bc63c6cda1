use Rattle.std.proofs.Common.{rules, ◌≡◌, true}
use Rattle.std.specs.Prelude.{codes}
use Rattle.message_parts.proofs.SameName.{usual_length, written_so}
use Rattle.message_parts.proofs.names.is_content_length.Goals as goal

pub returns-then-is_word : goal.returns-then-is_word
returns-then-is_word c =
    let found : c.is_word.result ≡ true = search rules in
    let is : c.args.name.now ≡ codes "Content-Length" = search rules in
    written_so _ _ (codes "Content-Length") (codes "content-length") found is usual_length
