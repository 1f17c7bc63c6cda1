use Rattle.counted_io.specs.Counted.{inner_of}
use Rattle.body_pieces.specs.declared.rest.Rest.TheVariants.{Size, Chunk}
use Rattle.body_pieces.proofs.ChunkPieces.{more_behind}
use Rattle.body_pieces.proofs.chunk.more_behind.Goals as goal

pub returns-clause-more : goal.returns-clause-more
returns-clause-more g c =
    let old = g.R.Read.remaining (inner_of c.args.reader.now) in
    let mid = g.R.Read.remaining (inner_of c.end_chunk.new.reader) in
    let new = g.R.Read.remaining (inner_of c.more_chunk.new.reader) in
    more_behind (Chunk 0) Size old mid new c.args.bytes.items c.more_chunk.result
    c.in_ok-end_chunk.ensures.ended c.more_chunk.ensures.more
