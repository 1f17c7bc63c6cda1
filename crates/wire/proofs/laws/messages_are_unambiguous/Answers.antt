use Rattle.wire.proofs.Unambiguous.{requests_unambiguous, requests_have_one_host, responses_unambiguous}
use Rattle.wire.proofs.laws.messages_are_unambiguous.Goals as goal

pub returns-clause-requests : goal.returns-clause-requests
returns-clause-requests c = requests_unambiguous

pub returns-clause-hosts : goal.returns-clause-hosts
returns-clause-hosts c = requests_have_one_host

pub returns-clause-responses : goal.returns-clause-responses
returns-clause-responses c = responses_unambiguous
