-- A port and a note are `Send` if the value is.
use denote.RattleType.{RattleType}
use denote.Param.Send.{IsSend, sendable}
use Rattle.std.proofs.Crossing.{crosses}
use Rattle.atomic_table.proofs.owned.Table.TheSendSync.{the_send as table_send, the_sync as table_sync}
use Rattle.atomic_table.proofs.shared.Seat.TheSendSync.{the_send as seat_send}
use Rattle.turn_lock.specs.declared.turned.Turned.{Ghosts}
use Rattle.turn_lock.specs.contracts.port.Port as port
use Rattle.turn_lock.specs.contracts.port.Note as note

pub port_send : (T E R O : RattleType) (g : Ghosts T.Denot E.Denot R.Denot O.Denot) → IsSend T
    → IsSend (port.the_row T E R O g)
port_send T E R O g s = search (sendable, crosses, table_send, table_sync, seat_send) depth 20

pub note_send : (T E R O : RattleType) (g : Ghosts T.Denot E.Denot R.Denot O.Denot) → IsSend T
    → IsSend (note.the_row T E R O g)
note_send T E R O g s = search (sendable, crosses, seat_send) depth 20
