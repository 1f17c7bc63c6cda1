-- What became of an operator's request.
use Rattle.std.specs.Prelude.{Bool, ◌&&◌, is_some}
use Rattle.proxy.specs.declared.told.CallCounts.{CallCounts}
use Rattle.operator_serving.specs.declared.attending.Attended.{Attended}

-- whether a request was read whole
abbrev pub was_read : Attended → Bool
was_read x = x.is_read

-- whether all that was to be written was written, and flushed where that is an answer
abbrev pub was_written : Attended → Bool
was_written x = x.is_written

-- whether there is an answer, and all of it was written and flushed
abbrev pub was_answered : Attended → Bool
was_answered x = is_some x.answer && x.is_written

-- how its reader and its writer had been called at its end
abbrev pub reads_of : Attended → CallCounts
reads_of x = x.reads

abbrev pub writes_of : Attended → CallCounts
writes_of x = x.writes

-- whether it is told that all that was written was sent
abbrev pub is_all_sent : Attended → Bool
is_all_sent x = x.is_sent

abbrev pub with_sent : Bool → Attended → Attended
with_sent sent x = record {
  is_read = x.is_read;
  answer = x.answer;
  is_written = x.is_written;
  reads = x.reads;
  writes = x.writes;
  is_sent = sent;
}
