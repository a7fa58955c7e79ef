use Rattle.wire_bytes.proofs.Lawful.{only_one}
use Rattle.xdlms_apdu.specs.Requests.{SpellsRequest}
use Rattle.xdlms_apdu.specs.Responses.{SpellsResponse}
use Rattle.xdlms_apdu.proofs.FormatLaws.{request_lawful, response_lawful}
use Rattle.xdlms_apdu.proofs.laws.no_spelling_begins_another.Goals as goal

pub returns-clause-request : goal.returns-clause-request
unfolding SpellsRequest
returns-clause-request c = only_one request_lawful

pub returns-clause-response : goal.returns-clause-response
unfolding SpellsResponse
returns-clause-response c = only_one response_lawful
