-- A client that is served.
use Rattle.std.specs.Prelude.{List, ℕ, Option}
use Rattle.counted_io.specs.declared.counted.Counted.{Counted}
use Rattle.counted_io.specs.Counted.{inner_of}
use Rattle.lent_io.specs.declared.reading.BufferedRead.{BufferedRead}
use Rattle.lent_io.specs.declared.writing.BufferedWrite.{BufferedWrite}
use Rattle.lent_io.specs.Through.{held_by, left_of, reader_below, writer_below}
use Rattle.timed_io.specs.declared.client_ends.ClientEnds.{ClientEnds}
use Rattle.timed_io.specs.declared.connection.Lent.{Lent}
use Rattle.timed_io.specs.declared.patient_read.PatientRead.{PatientRead}
use Rattle.timed_io.specs.declared.reading.TimedReader.{TimedReader}
use Rattle.timed_io.specs.declared.uninterrupted.Uninterrupted.{Uninterrupted}
use Rattle.timed_io.specs.declared.writing.TimedWriter.{TimedWriter}
use Rattle.timed_io.specs.Lent.{end_of}
use Rattle.timed_io.specs.Timed.{patient_in, reader_in, uninterrupted_in, writer_in}

-- the end of a connection that is read, and the one that is written
abbrev pub from_of : {I O : Type 0} → ClientEnds I O → I
from_of ends = ends.from

abbrev pub to_of : {I O : Type 0} → ClientEnds I O → O
to_of ends = ends.to

-- what a client has left to send, where its end tells that: what lies in the buffer, and the rest
abbrev pub unread_of : {S I C P : Type 0} → (I → Option (List ℕ))
    → BufferedRead (Uninterrupted (TimedReader (PatientRead (Lent S I) P) C)) → Option (List ℕ)
unread_of remaining reader =
    left_of (λ below. remaining (end_of (patient_in (reader_in (uninterrupted_in below))))) reader

-- what was written to a client, where its end tells that: what was sent, and what lies in the
-- buffer
abbrev pub written_of : {S O C : Type 0} → (O → Option (List ℕ))
    → BufferedWrite (Uninterrupted (TimedWriter (Lent S O) C)) → Option (List ℕ)
written_of contents writer =
    held_by (λ below. contents (end_of (writer_in (uninterrupted_in below)))) writer

-- the end by which a client is read, and the one by which it is written to
abbrev pub inlet_in : {S I C P : Type 0}
    → Counted (BufferedRead (Uninterrupted (TimedReader (PatientRead (Lent S I) P) C))) → I
inlet_in reader =
    end_of (patient_in (reader_in (uninterrupted_in (reader_below (inner_of reader)))))

abbrev pub outlet_in : {S O C : Type 0}
    → Counted (BufferedWrite (Uninterrupted (TimedWriter (Lent S O) C))) → O
outlet_in writer = end_of (writer_in (uninterrupted_in (writer_below (inner_of writer))))
