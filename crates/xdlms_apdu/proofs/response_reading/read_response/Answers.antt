use Rattle.wire_bytes.proofs.Lawful.{found, read_again}
use Rattle.wire_bytes.proofs.OutcomeLemmas.{gives_found, gives_only}
use Rattle.xdlms_apdu.specs.Responses.{response_of, response_format, SpellsResponse}
use Rattle.xdlms_apdu.specs.declared.fault.ApduFault.TheVariants.{Unreadable, Memory}
use Rattle.xdlms_apdu.specs.declared.response.Response.{Response}
use Rattle.xdlms_apdu.proofs.FormatLaws.{response_lawful}
use Rattle.xdlms_apdu.proofs.response_reading.read_response.Goals as goal

pub returns-clause-found : goal.returns-clause-found
unfolding response_of SpellsResponse
returns-clause-found c =
    let bytes = c.args.bytes.now in
    gives_found (λ (r : Response). response_format.Spells r bytes) Memory (λ (r : Response). r)
    c.read_whole.result (response_of bytes) c.read_whole.ensures
    (found Unreadable response_lawful bytes)

pub returns-clause-unique : goal.returns-clause-unique
unfolding response_of SpellsResponse
returns-clause-unique c = λ r s.
    gives_only Memory (λ (q : Response). q) c.read_whole.result (response_of c.args.bytes.now) r
    c.read_whole.ensures (read_again Unreadable response_lawful c.args.bytes.now r s)
