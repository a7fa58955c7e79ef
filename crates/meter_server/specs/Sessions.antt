-- The session of a client: what it did with its streams and its port.
--     AreAsked        events that a session asks first
--     AsksThrough     the calls of a session's port
--     ServesClient    a whole session
use Rattle.std.specs.Prelude.{◌≡◌, ℕ, List, ◌++◌, Option, Result}
use Rattle.counted_io.specs.Counted.{IsWhole, failures_of, reads_of, stream_of}
use Rattle.counted_io.specs.declared.counted.Counted.{Counted}
use Rattle.relay_events.specs.declared.event.Event.{Event}
use Rattle.relay_events.specs.declared.reply.Reply.{Reply}
use Rattle.session_core.specs.Backwards.{Asks}
use Rattle.session_core.specs.declared.end.SessionEnd.{SessionEnd}
use Rattle.session_io.specs.Serving.{ServesSession}
use Rattle.session_io.specs.Sides.{input_of, outlets_of}
use Rattle.session_io.specs.declared.fault.ServeFault.{ServeFault}
use Rattle.shared_meter.specs.Handed.{MeterPort}
use Rattle.meter_server.specs.ServingAll.{events_by}
use Rattle.turn_lock.specs.declared.call_fault.CallFault.{CallFault}

-- whether the events are the first of a session with some input, if the management client has this
-- password
pub record AreAsked (password : List ℕ) (events : List Event) : Type 0 where
  pub input : List ℕ
  pub later : List Event
  pub all : Asks password input ≡ events ++ later

-- whether q is the state of the port p after a session: its new calls are exactly those of the
-- session
pub record AsksThrough (password : List ℕ) (p q : MeterPort) : Type 0 where
  pub asked : List Event
  pub are : AreAsked password asked
  pub entered : events_by p.known.number q ≡ events_by p.known.number p ++ asked

-- Whether the session of a client went through the port p, which it left as q. `reader` and
-- `writer` are the client's streams, from which nothing had been read and to which nothing had been
-- written, and `read` and `written` what the session left of them. Each call of the port is a step,
-- and the management client has this password.
pub record ServesClient {I O : Type 0} (remaining : I → Option (List ℕ))
    (contents : O → Option (List ℕ))
    (steps : MeterPort → Event → Result Reply CallFault → MeterPort → Type 0)
    (password : List ℕ) (p q : MeterPort) : Type 0 where
  pub reader : Counted I
  pub writer : Counted O
  pub unread : reads_of reader ≡ 0
  pub whole : IsWhole reader × IsWhole writer
  pub end : Result SessionEnd ServeFault
  pub read : Counted I
  pub written : Counted O
  pub serves : ServesSession steps password
      (record {
        input = input_of (λ c. remaining (stream_of c)) reads_of failures_of reader;
        outlets = outlets_of (λ c. contents (stream_of c)) failures_of writer p;
      })
      end
      (record {
        input = input_of (λ c. remaining (stream_of c)) reads_of failures_of read;
        outlets = outlets_of (λ c. contents (stream_of c)) failures_of written q;
      })
