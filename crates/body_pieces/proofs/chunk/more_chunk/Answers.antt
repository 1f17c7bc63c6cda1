use Rattle.std.proofs.Common.{rules, ◌<◌}
use Rattle.counted_io.specs.Counted.{inner_of}
use Rattle.body_pieces.specs.declared.rest.Rest.TheVariants.{Size, Chunk}
use Rattle.body_pieces.proofs.ChunkPieces.{more_behind, opened_chunk}
use Rattle.body_pieces.proofs.chunk.more_chunk.Goals as goal

pub returns-clause-more : goal.returns-clause-more
returns-clause-more g c =
    let old = g.R.Read.remaining (inner_of c.args.reader.now) in
    let mid = g.R.Read.remaining (inner_of c.open_chunk.new.reader) in
    let new = g.R.Read.remaining (inner_of c.more_in_chunk.new.reader) in
    let some : 0 < c.in_ok-size.size = search rules in
    more_behind Size (Chunk c.in_ok-size.size) old mid new c.args.bytes.items
    c.more_in_chunk.result
    (opened_chunk old mid c.in_ok-size.size some c.in_ok-size.ensures.open)
    c.more_in_chunk.ensures.more
