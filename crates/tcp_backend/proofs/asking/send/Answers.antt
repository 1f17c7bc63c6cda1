use Rattle.std.proofs.Common.{◌≡◌, rules}
use Rattle.counted_io.specs.Counted.{inner_of}
use Rattle.lent_io.specs.Through.{held_by, pending_of, writer_below}
use Rattle.tcp_backend.specs.Sent.{end_of}
use Rattle.tcp_backend.proofs.Sent.{front_held}
use Rattle.tcp_backend.proofs.asking.send.Goals as goal

pub returns-clause-front : goal.returns-clause-front
returns-clause-front g c =
    let below = inner_of c.write_request-written.new.writer in
    let first : held_by (λ writer. g.E.RequestOutlet.contents (end_of writer))
    (inner_of c.new-writer.result) ≡ g.E.RequestOutlet.contents c.args.end = search rules in
    let last : c.into_parts-stream.result.1 ≡ end_of (writer_below below) = search rules in
    rw last
    (front_held c.write_request-written.result _ _ (pending_of below) _
    (rw first at c.write_request-written.ensures.all)
    (rw first at c.write_request-written.ensures.front))
