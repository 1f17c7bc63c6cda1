use Rattle.wire.proofs.OneReading.{requests_one, responses_one}
use Rattle.wire.proofs.laws.messages_have_one_reading.Goals as goal

pub returns-clause-requests : goal.returns-clause-requests
returns-clause-requests c =
    requests_one c.heads_have_one_reading.ensures.requests c.chunks_have_one_reading.ensures

pub returns-clause-responses : goal.returns-clause-responses
returns-clause-responses c =
    responses_one c.heads_have_one_reading.ensures.responses c.chunks_have_one_reading.ensures
