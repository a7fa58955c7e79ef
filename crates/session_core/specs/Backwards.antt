-- One client session, defined by looking back over the earlier frames (IEC 62056-5-3). A list of
-- earlier frames begins with the last of them.
--     link_of        the association before a frame
--     Transfer       a long SET or ACTION, seen backwards
--     incoming_of    the long SET or ACTION before a frame
--     LongGet        a long GET, seen backwards
--     outgoing_of    the long GET before a frame, which also depends on the replies
--     Asks           the events of an input
--     Answers        the bytes of the answers, for the replies to the events
--     end_of         how the session ends
use Rattle.std.specs.Prelude.{ℕ, ◌+◌, ◌==◌, ◌&&◌, nat_lt, not, Bool, true, if◌then◌else◌, cond, Option, Some, None, option_and_then, option_map, List, [], ◌∷◌, ◌++◌, length, map, filter, find}
use Rattle.std.specs.List.{list_any}
use Rattle.relay_events.specs.declared.event.Event.{Event}
use Rattle.relay_events.specs.declared.reply.Reply.{Reply}
use Rattle.session_core.specs.Association.{link_by_opening}
use Rattle.session_core.specs.Incoming.{is_of}
use Rattle.session_core.specs.Outcome.{turn_event}
use Rattle.session_core.specs.Outgoing.{transfer_after, reply_transfer}
use Rattle.session_core.specs.Roles.{Role, starts, follows, gets, gets_next, stops}
use Rattle.session_core.specs.Rules.{is_aarq, is_heard, is_closing, role_in, turn_of, outcome_of_turn}
use Rattle.session_core.specs.Standard.{management_device}
use Rattle.session_core.specs.Walks.{asks_along, answers_along}
use Rattle.session_core.specs.declared.asked.ReplyForm.{ReplyForm}
use Rattle.session_core.specs.declared.incoming.Incoming.{Incoming}
use Rattle.session_core.specs.declared.incoming.LongService.{LongService}
use Rattle.session_core.specs.declared.incoming.Purpose.{Purpose}
use Rattle.session_core.specs.declared.end.SessionEnd.{SessionEnd}
use Rattle.session_core.specs.declared.end.SessionEnd.TheVariants as ending
use Rattle.session_core.specs.declared.link.Link.{Link}
use Rattle.wrapper_frame.specs.Header.{head_of}
use Rattle.wrapper_frame.specs.Messages.{frames_of, rest_of}
use Rattle.wrapper_frame.specs.declared.header.Head.{Head}
use Rattle.wrapper_frame.specs.declared.header.Head.TheVariants as head
use Rattle.wrapper_frame.specs.declared.parts.Frame.{Frame}
use Rattle.xdlms_apdu.specs.declared.block.DataBlock.{DataBlock}
use Rattle.xdlms_blocks.specs.Limits.{max_joined}
use Rattle.xdlms_blocks.specs.Transfer.{Sending}

-- the last item that passes the test
abbrev pub last_match : {X : Type 0} → (X → Bool) → List X → Option X
last_match test earlier = find test earlier

-- the items after the last one that passes the test
abbrev pub after_last_match : {X : Type 0} → (X → Bool) → List X → List X
after_last_match test [] = []
after_last_match test (x ∷ earlier) = cond (test x) [] (x ∷ after_last_match test earlier)

-- ---- the association

-- the association that the last AARQ opened, if it was accepted
abbrev pub opened_link : List ℕ → List Frame → Option Link
opened_link password earlier = option_and_then (link_by_opening password)
    (last_match is_aarq earlier)

-- an association, or none if one of the later frames released it
abbrev pub unreleased_link : Option Link → List Frame → Option Link
unreleased_link None later = None
unreleased_link (Some link) later = if list_any (is_closing link) later then None else Some link

-- the association before a frame: the one that was opened last, if no later frame released it
unfoldable pub link_of : List ℕ → List Frame → Option Link
link_of password earlier =
    unreleased_link (opened_link password earlier) (after_last_match is_aarq earlier)

-- the roles of the client's requests since its association was opened
abbrev pub requests_of : Link → List Frame → List Role
requests_of link earlier =
    map (role_in link) (filter (is_heard link) (after_last_match is_aarq earlier))

-- ---- a long SET or ACTION

-- A later request of a long SET or ACTION.
pub record LaterRequest : Type 0 where
  pub service : LongService
  pub block : DataBlock

-- A long SET or ACTION, seen backwards: the purpose and the block of its first request, and its
-- later requests, the last of them first.
pub record Transfer : Type 0 where
  pub purpose : Purpose
  pub first_block : DataBlock
  pub later : List LaterRequest

-- a transfer that has only its first request
abbrev pub new_transfer : Purpose → DataBlock → Transfer
new_transfer purpose block = record { purpose = purpose; first_block = block; later = [] }

-- a transfer with one more later request
abbrev pub extended_transfer : LaterRequest → Transfer → Transfer
extended_transfer request transfer =
    record {
      purpose = transfer.purpose;
      first_block = transfer.first_block;
      later = request ∷ transfer.later;
    }

-- the transfer that the last of these requests belongs to: a first request begins a transfer, a
-- later one belongs to the transfer before it, and any other request ends it
abbrev pub last_transfer : List Role → Option Transfer
last_transfer [] = None
last_transfer (starts purpose block ∷ earlier) = Some (new_transfer purpose block)
last_transfer (follows service block ∷ earlier) =
    option_map (extended_transfer (record { service = service; block = block }))
    (last_transfer earlier)
last_transfer (gets form ∷ earlier) = None
last_transfer (gets_next number ∷ earlier) = None
last_transfer (stops ∷ earlier) = None

-- the number of blocks: one for the first request, and one for each of these later ones
abbrev pub block_count : {X : Type 0} → List X → ℕ
block_count [] = 1
block_count (request ∷ earlier) = block_count earlier + 1

-- whether a block has this number and is not the last
abbrev pub is_inner_block : ℕ → DataBlock → Bool
is_inner_block number block = block.number == number && not block.last

-- whether a later request continues a transfer of this purpose: it is of the same service, and its
-- block has this number and is not the last
abbrev pub is_continuation : Purpose → ℕ → LaterRequest → Bool
is_continuation purpose number request =
    is_of request.service purpose && is_inner_block number request.block

-- whether each later request continues the transfer, with the next block
abbrev pub is_in_order : Purpose → List LaterRequest → Bool
is_in_order purpose [] = true
is_in_order purpose (request ∷ earlier) =
    is_in_order purpose earlier && is_continuation purpose (block_count earlier + 1) request

-- the raw bytes of the first block and of the later ones, one after the other
abbrev pub joined_bytes : DataBlock → List LaterRequest → List ℕ
joined_bytes first_block [] = first_block.raw
joined_bytes first_block (request ∷ earlier) =
    joined_bytes first_block earlier ++ request.block.raw

-- the bytes of a transfer so far
abbrev pub bytes_of : Transfer → List ℕ
bytes_of transfer = joined_bytes transfer.first_block transfer.later

-- whether the joined bytes are too many
abbrev pub is_too_long : List ℕ → Bool
is_too_long bytes = nat_lt max_joined (length bytes)

-- whether the first request has block 1, and more blocks follow it
abbrev pub has_first_block : Transfer → Bool
has_first_block transfer = is_inner_block 1 transfer.first_block

-- whether the later requests have the blocks that follow it, in their order
abbrev pub has_later_blocks : Transfer → Bool
has_later_blocks transfer = is_in_order transfer.purpose transfer.later

-- whether all blocks together are not too long
abbrev pub has_room : Transfer → Bool
has_room transfer = not (is_too_long (bytes_of transfer))

-- whether a transfer is in progress
abbrev pub is_in_progress : Transfer → Bool
is_in_progress transfer =
    has_first_block transfer && has_later_blocks transfer && has_room transfer

-- a transfer as a session keeps it, with the number of its last block
abbrev pub kept_transfer : Transfer → Incoming
kept_transfer transfer =
    record {
      purpose = transfer.purpose;
      blocks = record {
        number = block_count transfer.later;
        bytes = bytes_of transfer;
        is_open = true;
      };
    }

-- what a session keeps of a transfer: nothing, unless it is in progress
abbrev pub incoming_by_transfer : Transfer → Option Incoming
incoming_by_transfer transfer =
    if is_in_progress transfer then Some (kept_transfer transfer) else None

-- the transfer in progress after these requests
abbrev pub incoming_among : List Role → Option Incoming
incoming_among requests = option_and_then incoming_by_transfer (last_transfer requests)

-- the long SET or ACTION in progress before a frame
unfoldable pub incoming_of : List ℕ → List Frame → Option Incoming
incoming_of password earlier =
    option_and_then (λ link. incoming_among (requests_of link earlier)) (link_of password earlier)

-- ---- a long GET

-- An earlier frame, with the reply to its event, if it had one.
pub record Past : Type 0 where
  pub frame : Frame
  pub reply : Option Reply

-- The role of an earlier request, with the reply to its event, if it had one.
pub record Exchange : Type 0 where
  pub role : Role
  pub reply : Option Reply

-- the frames without their replies
abbrev pub frames_past : List Past → List Frame
frames_past past = map (λ p. p.frame) past

-- the client's requests since its association was opened, with the replies
abbrev pub exchanges_of : Link → List Past → List Exchange
exchanges_of link past =
    map (λ p. record { role = role_in link p.frame; reply = p.reply })
    (filter (λ p. is_heard link p.frame) (after_last_match (λ p. is_aarq p.frame) past))

-- A long GET, seen backwards: the text that it sends in blocks, and the block numbers that its
-- GET-nexts name, the last of them first.
pub record LongGet : Type 0 where
  pub text : Sending
  pub named_blocks : List ℕ

-- the long GET that a GET begins, if its reply is too long for one PDU
abbrev pub new_long_get : Link → ReplyForm → Option Reply → Option LongGet
new_long_get link form reply =
    option_map (λ text. record { text = text; named_blocks = [] })
    (option_and_then (reply_transfer (record { link = link; form = form })) reply)

-- a long GET with one more GET-next
abbrev pub extended_long_get : ℕ → LongGet → LongGet
extended_long_get number get = record { text = get.text; named_blocks = number ∷ get.named_blocks }

-- the long GET that a request with its reply belongs to: a GET begins one, a GET-next belongs to
-- the one before it, and any other request ends it
abbrev pub long_get_with : Link → Role → Option Reply → Option LongGet → Option LongGet
long_get_with link (gets form) reply earlier = new_long_get link form reply
long_get_with link (gets_next number) reply earlier =
    option_map (extended_long_get number) earlier
long_get_with link (starts purpose block) reply earlier = None
long_get_with link (follows service block) reply earlier = None
long_get_with link stops reply earlier = None

-- the long GET that the last of these requests belongs to
abbrev pub last_long_get : Link → List Exchange → Option LongGet
last_long_get link [] = None
last_long_get link (exchange ∷ earlier) =
    long_get_with link exchange.role exchange.reply (last_long_get link earlier)

-- whether each GET-next names the block that was sent last before it
abbrev pub is_named_in_order : List ℕ → Bool
is_named_in_order [] = true
is_named_in_order (number ∷ earlier) =
    is_named_in_order earlier && number == block_count earlier

-- what a session keeps of a long GET: nothing, unless it is in order and blocks are left
abbrev pub outgoing_by_get : LongGet → Option Sending
outgoing_by_get get =
    if is_named_in_order get.named_blocks then transfer_after
    (block_count get.named_blocks) get.text
    else None

-- the transfer in progress after these requests
abbrev pub outgoing_among : Link → List Exchange → Option Sending
outgoing_among link exchanges = option_and_then outgoing_by_get (last_long_get link exchanges)

-- the long GET in progress before a frame
unfoldable pub outgoing_of : List ℕ → List Past → Option Sending
outgoing_of password past =
    option_and_then (λ link. outgoing_among link (exchanges_of link past))
    (link_of password (frames_past past))

-- ---- a whole session

-- the frames that are addressed to the server
abbrev pub to_server : List Frame → List Frame
to_server frames = filter (λ f. f.dst == management_device) frames

-- the events of frames that follow these, in order
abbrev pub asks_after : List ℕ → List Frame → List Frame → List Event
asks_after password = asks_along
    (λ earlier f. turn_event
    (turn_of password (link_of password earlier) (incoming_of password earlier) f))
    (λ earlier f. f ∷ earlier)

-- the answers to frames that follow these, in order
abbrev pub answers_after : List ℕ → List Past → List Frame → List Reply → List (List ℕ)
answers_after password = answers_along
    (λ past f. outcome_of_turn (outgoing_of password past)
    (turn_of password (link_of password (frames_past past))
    (incoming_of password (frames_past past)) f))
    (λ past f reply. record { frame = f; reply = reply } ∷ past)

-- the events of an input, in order
unfoldable pub Asks : List ℕ → List ℕ → List Event
Asks password input = asks_after password [] (to_server (frames_of input))

-- the answers to an input, in order, up to the first event without a reply
unfoldable pub Answers : List ℕ → List ℕ → List Reply → List (List ℕ)
Answers password input replies = answers_after password [] (to_server (frames_of input)) replies

-- the end of a session, by the header after its frames and the bytes left there
abbrev pub end_by : Head → List ℕ → SessionEnd
end_by head.Part [] = ending.Closed
end_by head.Part (byte ∷ bytes) = ending.Cut
end_by (head.Whole n) rest = ending.Cut
end_by head.BadVersion rest = ending.BadVersion
end_by head.TooLong rest = ending.TooLong

-- how the session of an input ends
unfoldable pub end_of : List ℕ → SessionEnd
end_of input = end_by (head_of (rest_of input)) (rest_of input)
