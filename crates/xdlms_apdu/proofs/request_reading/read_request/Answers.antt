use Rattle.wire_bytes.proofs.Lawful.{found, read_again}
use Rattle.wire_bytes.proofs.OutcomeLemmas.{gives_found, gives_only}
use Rattle.xdlms_apdu.specs.Requests.{request_of, request_format, SpellsRequest}
use Rattle.xdlms_apdu.specs.declared.fault.ApduFault.TheVariants.{Unreadable, Memory}
use Rattle.xdlms_apdu.specs.declared.request.Request.{Request}
use Rattle.xdlms_apdu.proofs.FormatLaws.{request_lawful}
use Rattle.xdlms_apdu.proofs.request_reading.read_request.Goals as goal

pub returns-clause-found : goal.returns-clause-found
unfolding request_of SpellsRequest
returns-clause-found c =
    let bytes = c.args.bytes.now in
    gives_found (λ (r : Request). request_format.Spells r bytes) Memory (λ (r : Request). r)
    c.read_whole.result (request_of bytes) c.read_whole.ensures
    (found Unreadable request_lawful bytes)

pub returns-clause-unique : goal.returns-clause-unique
unfolding request_of SpellsRequest
returns-clause-unique c = λ r s.
    gives_only Memory (λ (q : Request). q) c.read_whole.result (request_of c.args.bytes.now) r
    c.read_whole.ensures (read_again Unreadable request_lawful c.args.bytes.now r s)
