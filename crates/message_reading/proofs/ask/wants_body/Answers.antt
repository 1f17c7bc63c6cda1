use Rattle.std.proofs.Common.{rules}
use Rattle.message_reading.proofs.ask.wants_body.Goals as goal

pub returns-in-Sized : goal.returns-in-Sized
returns-in-Sized c = search rules

pub returns-in-Chunked : goal.returns-in-Chunked
returns-in-Chunked c = search rules

pub returns-in-Bodiless : goal.returns-in-Bodiless
returns-in-Bodiless c = search rules
