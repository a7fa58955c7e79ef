use Rattle.wire_bytes.proofs.ByteLaws.{bytes_all}
use Rattle.wire_bytes.proofs.Lawful.{read_again, text_again}
use Rattle.xdlms_apdu.specs.Requests.{request_of, request_text, SpellsRequest}
use Rattle.xdlms_apdu.specs.declared.fault.ApduFault.TheVariants.{Unreadable}
use Rattle.xdlms_apdu.proofs.FormatLaws.{request_lawful}
use Rattle.xdlms_apdu.proofs.laws.text_of_request_spells.Goals as goal

pub returns-clause-spelled : goal.returns-clause-spelled
unfolding request_text SpellsRequest
returns-clause-spelled c = λ bytes request are s.
    text_again request_lawful bytes request (bytes_all bytes are) s

pub returns-clause-fit : goal.returns-clause-fit
unfolding request_text SpellsRequest
returns-clause-fit c = request_lawful.written

pub returns-clause-read_back : goal.returns-clause-read_back
unfolding request_of request_text
returns-clause-read_back c = λ request fit.
    read_again Unreadable request_lawful (request_text request) request
    (request_lawful.written request fit)
