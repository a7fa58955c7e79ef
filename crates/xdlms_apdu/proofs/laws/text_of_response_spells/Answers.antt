use Rattle.wire_bytes.proofs.ByteLaws.{bytes_all}
use Rattle.wire_bytes.proofs.Lawful.{read_again, text_again}
use Rattle.xdlms_apdu.specs.Responses.{response_of, response_text, SpellsResponse}
use Rattle.xdlms_apdu.specs.declared.fault.ApduFault.TheVariants.{Unreadable}
use Rattle.xdlms_apdu.proofs.FormatLaws.{response_lawful}
use Rattle.xdlms_apdu.proofs.laws.text_of_response_spells.Goals as goal

pub returns-clause-spelled : goal.returns-clause-spelled
unfolding response_text SpellsResponse
returns-clause-spelled c = λ bytes response are s.
    text_again response_lawful bytes response (bytes_all bytes are) s

pub returns-clause-fit : goal.returns-clause-fit
unfolding response_text SpellsResponse
returns-clause-fit c = response_lawful.written

pub returns-clause-read_back : goal.returns-clause-read_back
unfolding response_of response_text
returns-clause-read_back c = λ response fit.
    read_again Unreadable response_lawful (response_text response) response
    (response_lawful.written response fit)
