use Rattle.std.proofs.Common.{rules}
use Rattle.message_parts.proofs.bytes.Bytes.from_slice.Goals as goal

pub returns-in_err-from_slice : goal.returns-in_err-from_slice
returns-in_err-from_slice c = search rules

pub returns : goal.returns
returns c = search rules
