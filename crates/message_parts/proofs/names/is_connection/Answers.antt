use Rattle.std.proofs.Common.{rules, ◌≡◌, true}
use Rattle.std.specs.Prelude.{codes}
use Rattle.message_parts.proofs.SameName.{usual_connection, written_so}
use Rattle.message_parts.proofs.names.is_connection.Goals as goal

pub returns-then-is_word : goal.returns-then-is_word
returns-then-is_word c =
    let found : c.is_word.result ≡ true = search rules in
    let is : c.args.name.now ≡ codes "Connection" = search rules in
    written_so _ _ (codes "Connection") (codes "connection") found is usual_connection
