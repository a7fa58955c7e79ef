-- A recorder in a lock is `Send`.
use denote.RattleType.{RattleType}
use denote.Param.Send.{IsSend, sendable, recorded_send, struct_send}
use denote.Struct.Declared.{shape}
use Rattle.std.proofs.Crossing.{crosses}
use Rattle.std_heap.specs.contracts.Global as Heap
use Rattle.std_heap.specs.contracts.GlobalAllocator.TheImpl.{ghosts}
use Rattle.circular_buffer.proofs.cells.Cells.TheSendSync.{the_send as cells_send}
use Rattle.circular_buffer.proofs.cells.Deed.TheSendSync.{the_send as deed_send}
use Rattle.circular_buffer.specs.contracts.heap.HeapCircularBuffer as ring
use Rattle.wire_bytes.proofs.octets.Octets.TheSendSync.{the_send as octets_send}
use Rattle.cosem_axdr.proofs.value.Items.TheLaws.TheKnot.{send-Data, send-Items}
use Rattle.cosem_names.proofs.service.AttributeSelection.TheSendSync.{the_send as selection_send}
use Rattle.lane_sampler.proofs.samples.Block.TheSendSync.{the_send as block_send}
use Rattle.relay_core.proofs.relay.RelayCore.TheSendSync.{the_field_send as core_field_send}
use Rattle.relay_core.proofs.parts.Parts.TheSendSync.{the_field_send as parts_field_send}
use Rattle.relay_events.specs.contracts.event.Event as event
use Rattle.relay_recorder.specs.contracts.kept.RecordedEvent as kept_event
use Rattle.relay_recorder.specs.contracts.kept.RecordedEvent.TheInside as event_inside
use Rattle.relay_recorder.specs.contracts.recorder.Recorder as recorder
use Rattle.relay_recorder.specs.contracts.recorder.Recorder.TheInside as inside
use Rattle.shared_meter.specs.contracts.kept.Kept as kept

event_field_send : IsSend (event.the_field).row
event_field_send = search (
  sendable,
  crosses,
  send-Data,
  send-Items,
  octets_send,
  selection_send,
  block_send,
) depth 40 fits 100000

ring_over : (T : RattleType) → IsSend T → IsSend (ring.the_row T Heap.the_row ghosts)
ring_over T s = search (sendable, crosses, cells_send, deed_send) depth 20

event_within : IsSend event_inside.the_row
event_within = recorded_send (event_inside.the_field).row _ _ (event_inside.the_type).to_one
    (struct_send (shape event_inside.the_type) (event_field_send, (parts_field_send, tt)))

kept_event_send : IsSend kept_event.the_row
kept_event_send = search (sendable, crosses, event_within) depth 40 fits 100000

inside_send : IsSend inside.the_row
inside_send = search (sendable, crosses, core_field_send, ring_over, kept_event_send) depth 40 fits
    100000

recorder_send : IsSend recorder.the_row
recorder_send = search (sendable, crosses, inside_send) depth 40 fits 100000

pub kept_send : IsSend kept.the_row
kept_send = search (sendable, crosses, recorder_send) depth 40 fits 100000
