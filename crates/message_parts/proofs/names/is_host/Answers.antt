use Rattle.std.proofs.Common.{rules, ◌≡◌, true}
use Rattle.std.specs.Prelude.{codes}
use Rattle.message_parts.proofs.SameName.{usual_host, written_so}
use Rattle.message_parts.proofs.names.is_host.Goals as goal

pub returns-then-is_word : goal.returns-then-is_word
returns-then-is_word c =
    let found : c.is_word.result ≡ true = search rules in
    let is : c.args.name.now ≡ codes "Host" = search rules in
    written_so _ _ (codes "Host") (codes "host") found is usual_host
