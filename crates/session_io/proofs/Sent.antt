-- The values that are passed to the threads of sessions and workers are `Send`.
use denote.Param.Send.{IsSend, sendable}
use Rattle.std.proofs.Crossing.{crosses}
use Rattle.wire_bytes.proofs.octets.Octets.TheSendSync.{the_send as octets_send}
use Rattle.cosem_axdr.proofs.value.Items.TheLaws.TheKnot.{send-Data, send-Items}
use Rattle.cosem_names.proofs.service.AttributeSelection.TheSendSync.{the_send as selection_send}
use Rattle.lane_sampler.proofs.samples.Block.TheSendSync.{the_send as block_send}
use Rattle.cosem_names.specs.contracts.service.GetResult as get_result
use Rattle.relay_events.specs.contracts.event.Event as event
use Rattle.relay_events.specs.contracts.reply.Reply as reply

pub event_send : IsSend event.the_row
event_send = search (
  sendable,
  crosses,
  send-Data,
  send-Items,
  octets_send,
  selection_send,
  block_send,
) depth 40 fits 100000

get_result_send : IsSend get_result.the_row
get_result_send = search (sendable, crosses, send-Data, send-Items, octets_send) depth
    40 fits 100000

pub reply_send : IsSend reply.the_row
reply_send = search (sendable, crosses, send-Data, send-Items, octets_send, get_result_send) depth
    40 fits 100000
