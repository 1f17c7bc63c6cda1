use Rattle.std.proofs.Common.{rules, ◌≡◌, ◌∙◌, [], true, ap, length, sym}
use Rattle.std.specs.Io.KnownBytes.{append_known}
use Rattle.counted_io.specs.Counted.{fresh, inner_of}
use Rattle.timed_io.specs.Client.{unread_of, written_of}
use Rattle.lent_io.specs.Through.{pending_of}
use Rattle.listening.specs.Seen.{seen_at}
use Rattle.handling.specs.Handled.{counted_by, ends_at}
use Rattle.handling.proofs.Uncalled.{begun}
use Rattle.handling.proofs.turn.serve_client.Goals as goal

pub returns : goal.returns
returns g c =
    let remaining = g.I.Inlet.remaining in
    let contents = g.O.Outlet.contents in
    let opened = c.open-opened.ensures in
    let made = c.handle-told.ensures in
    let to = c.handle-told.new.writer in
    let closed = c.close-left.ensures in
    let lingered = c.linger_behind-ends.ensures in
    let same = c.with_sent-told.ensures in
    let ends = ends_at (unread_of remaining) (written_of contents) c.handle-told.new.reader to in
    record {
      ends = ends;
      first = c.handle-told.result;
      sent = c.close-left.result.is_sent;
      handled =
          begun (g.H.Handler.handles c.args.by.now c.args.handler.now c.handle-told.new.self) _ _
          (seen_at remaining contents c.args.client.ends) ends c.handle-told.result
          (ap (counted_by (unread_of remaining)) opened.unread ∙ ap fresh opened.reader)
          (ap (counted_by (written_of contents)) opened.unwritten ∙ ap fresh opened.writer)
          made.handled;
      same = same;
      ended = (
        pending_of (inner_of to),
        ap (λ end. append_known (contents end) (pending_of (inner_of to)))
            (sym (lingered.to ∙ closed.to)),
        λ (sent : c.close-left.result.is_sent ≡ true).
            let none : pending_of (inner_of to) ≡ [] = search rules in
            none,
      );
      unread = λ is.
          ap remaining (lingered.kept is)
          ∙ sym (closed.unread (ap length (made.drained _ (sym (ap g.H.Protocol.Protocol.kept same)
          ∙ is))));
    }
