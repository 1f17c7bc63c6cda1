use Rattle.serving.proofs.Visit.{cuts_are_one, visits_read_once}
use Rattle.serving.proofs.laws.a_visit_reads_each_byte_once.Goals as goal

pub returns-clause-read : goal.returns-clause-read
returns-clause-read c = visits_read_once

pub returns-clause-once : goal.returns-clause-once
returns-clause-once c = cuts_are_one c.messages_have_one_reading.ensures.requests
