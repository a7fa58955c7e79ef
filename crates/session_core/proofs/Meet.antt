-- The session defined by looking back is the session that keeps its state: each definition over one
-- more frame is the rule of that frame, applied to the definition over the frames before it.
use Rattle.std.proofs.Common.{◌≡◌, ℕ, ◌+◌, ◌*◌, ◌==◌, ◌&&◌, ◌||◌, not, nat_lt, nat_le, Bool, true, false, cond, Option, Some, None, List, [], ◌∷◌, ◌++◌, length, map, refl, sym, ◌∙◌, ap, arith, length-append}
use Rattle.std.specs.Prelude.{if◌then◌else◌, option_and_then, option_map, option_to_list, filter, find}
use Rattle.std.specs.List.{list_any}
use Rattle.std.proofs.lemmas.Bool.{le-leb, leb-true}
use Rattle.relay_events.specs.declared.event.Event.{Event}
use Rattle.relay_events.specs.declared.reply.Reply.{Reply}
use Rattle.session_core.specs.Answers.{answer_text, due_text}
use Rattle.session_core.specs.Association.{link_by_opening}
use Rattle.session_core.specs.Backwards.{after_last_match, unreleased_link, link_of, requests_of, LaterRequest, Transfer, new_transfer, extended_transfer, last_transfer, block_count, is_inner_block, is_in_order, joined_bytes, is_too_long, incoming_by_transfer, incoming_among, incoming_of, Past, Exchange, frames_past, exchanges_of, LongGet, extended_long_get, last_long_get, is_named_in_order, outgoing_by_get, outgoing_among, outgoing_of, Asks, Answers, to_server}
use Rattle.session_core.specs.Incoming.{no_blocks, after_by_fault, block_after, transfer_of, later_after}
use Rattle.xdlms_blocks.specs.Joining.{joining_after_block}
use Rattle.xdlms_blocks.specs.Limits.{max_joined}
use Rattle.xdlms_blocks.specs.declared.fault.BlockFault.TheVariants.{WrongNumber, TooLong}
use Rattle.session_core.specs.Outcome.{Outcome, asks, says, turn_event}
use Rattle.session_core.specs.Outgoing.{transfer_after, reply_transfer, sending_by_fault, transfer_after_next}
use Rattle.session_core.specs.Roles.{Role, starts, follows, gets, gets_next, stops, role_of_request, role_of}
use Rattle.session_core.specs.Rules.{is_aarq, is_heard, is_release, is_closing, call_in, role_in, turn_of, link_in, link_after, incoming_by_role, incoming_in, incoming_after, outgoing_by_role, outgoing_in, outgoing_after, outcome_of_turn, outcome_at, state_after, reply_text}
use Rattle.session_core.specs.Running.{Known, event_at, known_after, known_in, new_state, asks_on, answers_on}
use Rattle.session_core.specs.Walks.{asks_along, answers_from, answers_along}
use Rattle.session_core.specs.declared.call.Call.{Call}
use Rattle.session_core.specs.declared.call.Call.TheVariants as call
use Rattle.session_core.specs.declared.incoming.Incoming.{Incoming}
use Rattle.session_core.specs.declared.incoming.LongService.{LongService}
use Rattle.session_core.specs.declared.incoming.LongService.TheVariants as service
use Rattle.session_core.specs.declared.incoming.Purpose.{Purpose}
use Rattle.session_core.specs.declared.incoming.Purpose.TheVariants as purpose
use Rattle.session_core.specs.declared.link.Link.{Link}
use Rattle.session_core.specs.declared.state.State.{State}
use Rattle.wrapper_frame.specs.Messages.{frames_of}
use Rattle.wrapper_frame.specs.declared.parts.Frame.{Frame}
use Rattle.xdlms_apdu.specs.declared.block.DataBlock.{DataBlock}
use Rattle.xdlms_blocks.specs.Transfer.{Sending, Joining}

-- ---- the association

unreleased_none : (link : Option Link) → unreleased_link link [] ≡ link
unreleased_none None = refl
unreleased_none (Some link) = refl

unreleased_by : (closes others : Bool) (f : Frame) (link : Link)
    → (if closes || others then None else Some link)
    ≡ option_and_then (λ (l : Link). if closes then None else Some l)
    (if others then None else Some link)
unreleased_by true true f link = refl
unreleased_by true false f link = refl
unreleased_by false true f link = refl
unreleased_by false false f link = refl

unreleased_more : (f : Frame) (later : List Frame) (link : Option Link)
    → unreleased_link link (f ∷ later) ≡ link_in f (unreleased_link link later)
unreleased_more f later None = refl
unreleased_more f later (Some link) =
    elim (list_any (is_closing link) later) as
    (λ b. (if is_closing link f || b then None else Some link)
    ≡ link_in f (if b then None else Some link)) [
      | true ↦ elim (is_closing link f) as (λ c. (if c || true then None else Some link)
          ≡ None) [ true ↦ refl | false ↦ refl ]
      | false ↦ elim (is_closing link f) as (λ c. (if c || false then None else Some link)
          ≡ (if c then None else Some link)) [ true ↦ refl | false ↦ refl ]
    ]

link_step : (password : List ℕ) (f : Frame) (last : Option Frame) (later : List Frame) (o : Bool)
    → unreleased_link (option_and_then (link_by_opening password) (cond o (Some f) last))
    (cond o [] (f ∷ later))
    ≡ (if o then link_by_opening password f else link_in f
    (unreleased_link (option_and_then (link_by_opening password) last) later))
link_step password f last later true = unreleased_none (link_by_opening password f)
link_step password f last later false = unreleased_more f later
    (option_and_then (link_by_opening password) last)

-- the association after one more frame
pub link_more : (password : List ℕ) (f : Frame) (earlier : List Frame)
    → link_of password (f ∷ earlier) ≡ link_after password f (link_of password earlier)
unfolding link_of link_after
link_more password f earlier = link_step password f (find is_aarq earlier)
    (after_last_match is_aarq earlier) (is_aarq f)

-- ---- a long SET or ACTION

-- a transfer in progress
abbrev going : Purpose → ℕ → List ℕ → Option Incoming
going p n bytes = Some (record {
  purpose = p;
  blocks = record { number = n; bytes = bytes; is_open = true };
})

and_true : (b : Bool) → (b && true) ≡ b
and_true true = refl
and_true false = refl

never : (b : Bool) (incoming : Option Incoming) → (if b && false then incoming else None) ≡ None
never true incoming = refl
never false incoming = refl

last_by : (last : Bool) (incoming : Option Incoming) → (if last then None else incoming)
    ≡ (if not last && true then incoming else None)
last_by true incoming = refl
last_by false incoming = refl

-- the transfer after a block, by whether its number is right and whether it is too long
added_by : (p : Purpose) (block : DataBlock) (j : Joining) (right long : Bool)
    → after_by_fault p block j (if not right then Some WrongNumber else if long then Some
    TooLong else None)
    ≡ (if right && not block.last && not long then Some
    (record { purpose = p; blocks = joining_after_block false block.raw j }) else None)
added_by p block j false long = refl
added_by p block j true true = sym (never (not block.last)
    (Some (record { purpose = p; blocks = joining_after_block false block.raw j })))
added_by p block j true false = last_by block.last
    (Some (record { purpose = p; blocks = joining_after_block false block.raw j }))

added : (p : Purpose) (block : DataBlock) (n : ℕ) (bytes : List ℕ)
    → block_after p block (record { number = n; bytes = bytes; is_open = true })
    ≡ (if is_inner_block (n + 1) block && not (is_too_long (bytes ++ block.raw)) then going p (n
    + 1) (bytes ++ block.raw) else None)
unfolding block_after
added p block n bytes =
    added_by p block (record { number = n; bytes = bytes; is_open = true }) (block.number == n
    + 1) (nat_lt max_joined (length bytes + length block.raw))
    ∙ ap (λ (size : ℕ). if is_inner_block (n + 1) block
    && not (nat_lt max_joined size) then going p (n + 1) (bytes ++ block.raw) else None)
    (sym (length-append bytes block.raw))

-- the transfer after a first request
first_block : (p : Purpose) (block : DataBlock) → incoming_by_transfer (new_transfer p block)
    ≡ block_after p block no_blocks
first_block p block =
    ap (λ (b : Bool). if b && not (is_too_long block.raw) then going p 1 block.raw else None)
    (and_true (is_inner_block 1 block))
    ∙ sym (added p block 0 [])

-- bytes that are too many are still too many with more
longer : (bytes raw : List ℕ) → is_too_long bytes ≡ true → is_too_long (bytes ++ raw) ≡ true
longer bytes raw e =
    let h = leb-true (max_joined + 1) (length bytes) e in
    le-leb (max_joined + 1) (length (bytes ++ raw)) (omega (arith, length-append bytes raw))

-- the transfer after one more block of its service, by whether the bytes before were too many
later_long : (K : Option Incoming → Option Incoming) (p : Purpose) (n : ℕ) (bytes : List ℕ)
    (block : DataBlock) (long : Bool) → is_too_long bytes ≡ long
    → K None ≡ None → K (going p n bytes) ≡ block_after p block
    (record { number = n; bytes = bytes; is_open = true })
    → (if is_inner_block (n + 1) block && not (is_too_long (bytes ++ block.raw)) then going p (n
    + 1) (bytes ++ block.raw) else None) ≡ K (if not long then going p n bytes else None)
later_long K p n bytes block true e none some =
    ap (λ (b : Bool). if is_inner_block (n + 1) block
    && not b then going p (n + 1) (bytes ++ block.raw) else None) (longer bytes block.raw e)
    ∙ never (is_inner_block (n + 1) block) (going p (n + 1) (bytes ++ block.raw))
    ∙ sym none
later_long K p n bytes block false e none some = sym (added p block n bytes) ∙ sym some

later_block : (K : Option Incoming → Option Incoming) (p : Purpose) (first others : Bool) (n : ℕ)
    (bytes : List ℕ) (block : DataBlock)
    → K None ≡ None → K (going p n bytes) ≡ block_after p block
    (record { number = n; bytes = bytes; is_open = true })
    → (if first && (others && is_inner_block (n + 1) block)
    && not (is_too_long (bytes ++ block.raw)) then going p (n + 1) (bytes
    ++ block.raw) else None)
    ≡ K (if first && others && not (is_too_long bytes) then going p n bytes else None)
later_block K p false others n bytes block none some = sym none
later_block K p true false n bytes block none some = sym none
later_block K p true true n bytes block none some =
    later_long K p n bytes block (is_too_long bytes) refl none some

-- the transfer after a block of the other service
other_block : (K : Option Incoming → Option Incoming) (next : Option Incoming) (p : Purpose)
    (first others short next_short : Bool) (n : ℕ) (bytes : List ℕ)
    → K None ≡ None → K (going p n bytes) ≡ None
    → (if first && (others && false) && next_short then next else None)
    ≡ K (if first && others && short then going p n bytes else None)
other_block K next p false others short next_short n bytes none some = sym none
other_block K next p true false short next_short n bytes none some = sym none
other_block K next p true true true next_short n bytes none some = sym some
other_block K next p true true false next_short n bytes none some = sym none

-- a transfer by its parts
abbrev transfer : Purpose → DataBlock → List LaterRequest → Transfer
transfer p first later = record { purpose = p; first_block = first; later = later }

abbrev request : LongService → DataBlock → LaterRequest
request s block = record { service = s; block = block }

-- the transfer after one more later request
follows_block : (s : LongService) (block : DataBlock) (p : Purpose) (first : DataBlock)
    (later : List LaterRequest)
    → incoming_by_transfer (extended_transfer (request s block) (transfer p first later))
    ≡ later_after block (transfer_of s (incoming_by_transfer (transfer p first later)))
follows_block service.Set block (purpose.Set target) first later =
    later_block (λ i. later_after block (transfer_of service.Set i)) (purpose.Set target)
    (is_inner_block 1 first) (is_in_order (purpose.Set target) later) (block_count later)
    (joined_bytes first later) block refl refl
follows_block service.Set block (purpose.Action method) first later =
    other_block (λ i. later_after block (transfer_of service.Set i)) _ (purpose.Action method)
    (is_inner_block 1 first) (is_in_order (purpose.Action method) later) _ _ (block_count later)
    (joined_bytes first later) refl refl
follows_block service.Action block (purpose.Set target) first later =
    other_block (λ i. later_after block (transfer_of service.Action i)) _ (purpose.Set target)
    (is_inner_block 1 first) (is_in_order (purpose.Set target) later) _ _ (block_count later)
    (joined_bytes first later) refl refl
follows_block service.Action block (purpose.Action method) first later =
    later_block (λ i. later_after block (transfer_of service.Action i)) (purpose.Action method)
    (is_inner_block 1 first) (is_in_order (purpose.Action method) later) (block_count later)
    (joined_bytes first later) block refl refl

follows_more : (s : LongService) (block : DataBlock) (t : Option Transfer)
    → option_and_then incoming_by_transfer (option_map (extended_transfer (request s block)) t)
    ≡ later_after block (transfer_of s (option_and_then incoming_by_transfer t))
follows_more service.Set block None = refl
follows_more service.Action block None = refl
follows_more s block (Some t) = follows_block s block t.purpose t.first_block t.later

-- the transfer after one more request
role_more : (role : Role) (roles : List Role) → incoming_among (role ∷ roles)
    ≡ incoming_by_role role (incoming_among roles)
role_more (starts p block) roles = first_block p block
role_more (follows s block) roles = follows_more s block (last_transfer roles)
role_more (gets form) roles = refl
role_more (gets_next number) roles = refl
role_more stops roles = refl

-- the transfer after one more request, which may release the association
call_more : (c : Call) (roles : List Role) → (if is_release c then None else incoming_among
    (role_of c ∷ roles)) ≡ incoming_by_role (role_of c) (incoming_among roles)
call_more call.Release roles = refl
call_more (call.Service r) roles = role_more (role_of_request r) roles
call_more (call.Refused exception) roles = refl

-- a function of an association that a frame may release
and_then_unless : {X : Type 0} (G : Link → Option X) (gone : Bool) (link : Link)
    → option_and_then G (if gone then None else Some link) ≡ (if gone then None else G link)
and_then_unless G true link = refl
and_then_unless G false link = refl

-- the requests after one more frame, by whether it is the client's
heard_by : (link : Link) (f : Frame) (fs : List Frame) (here : Bool)
    → (if here && is_release (call_in link f) then None else incoming_among
    (map (role_in link) (cond here (f ∷ filter (is_heard link) fs)
    (filter (is_heard link) fs))))
    ≡ (if here then incoming_by_role (role_in link f)
    (incoming_among (map (role_in link) (filter (is_heard link) fs))) else incoming_among
    (map (role_in link) (filter (is_heard link) fs)))
heard_by link f fs false = refl
heard_by link f fs true = call_more (call_in link f)
    (map (role_in link) (filter (is_heard link) fs))

-- the transfer among the frames of an association
abbrev incoming_since : List Frame → Link → Option Incoming
incoming_since fs link = incoming_among (map (role_in link) (filter (is_heard link) fs))

heard_more : (f : Frame) (fs : List Frame) (link : Option Link)
    → option_and_then (incoming_since (f ∷ fs)) (link_in f link)
    ≡ incoming_in link f (option_and_then (incoming_since fs) link)
heard_more f fs None = refl
heard_more f fs (Some link) = and_then_unless (incoming_since (f ∷ fs)) (is_closing link f) link
    ∙ heard_by link f fs (is_heard link f)

opened_none : (link : Option Link) → option_and_then (incoming_since []) link ≡ None
opened_none None = refl
opened_none (Some link) = refl

incoming_step : (password : List ℕ) (f : Frame) (fs : List Frame) (link : Option Link) (o : Bool)
    → option_and_then (incoming_since (cond o [] (f ∷ fs)))
    (if o then link_by_opening password f else link_in f link)
    ≡ (if o then None else incoming_in link f (option_and_then (incoming_since fs) link))
incoming_step password f fs link true = opened_none (link_by_opening password f)
incoming_step password f fs link false = heard_more f fs link

-- the transfer after one more frame, if the association is known
incoming_at_link : (password : List ℕ) (f : Frame) (earlier : List Frame) (link : Option Link)
    → option_and_then (λ (l : Link). incoming_among (requests_of l (f ∷ earlier)))
    (link_after password f link)
    ≡ incoming_after link f (option_and_then (λ (l : Link). incoming_among (requests_of l earlier))
    link)
unfolding link_after incoming_after
incoming_at_link password f earlier link = incoming_step password f
    (after_last_match is_aarq earlier)
    link (is_aarq f)

-- the long SET or ACTION after one more frame
pub incoming_more : (password : List ℕ) (f : Frame) (earlier : List Frame)
    → incoming_of password (f ∷ earlier) ≡ incoming_after (link_of password earlier) f
    (incoming_of password earlier)
unfolding incoming_of
incoming_more password f earlier =
    ap (option_and_then (λ (l : Link). incoming_among (requests_of l (f ∷ earlier))))
    (link_more password f earlier)
    ∙ incoming_at_link password f earlier (link_of password earlier)

-- ---- a long GET

-- a text that is all sent stays all sent
all_sent : (number : ℕ) (s : Sending) → nat_le (length s.text) (number * s.size) ≡ true
    → nat_le (length s.text) ((number + 1) * s.size) ≡ true
all_sent number s e =
    let h = leb-true (length s.text) (number * s.size) e in
    le-leb (length s.text) ((number + 1) * s.size) (omega arith)

none_by : (b : Bool) → (if b then None else None) ≡ (let none : Option Sending = None in none)
none_by true = refl
none_by false = refl

next_by : (right : Bool) (number : ℕ) (s : Sending)
    → (if right then transfer_after (number + 1) s else None)
    ≡ sending_by_fault (record {
      text = s.text;
      number = number;
      size = s.size;
      is_open = true;
    }) (if right then None else Some WrongNumber)
next_by true number s = refl
next_by false number s = refl

next_sent : (named number : ℕ) (s : Sending) (all : Bool) → nat_le (length s.text) (number * s.size)
    ≡ all
    → (if named == number then transfer_after (number + 1) s else None)
    ≡ transfer_after_next named (if all then None else Some
    (record { text = s.text; number = number; size = s.size; is_open = true }))
unfolding transfer_after_next
next_sent named number s true e =
    ap (λ (b : Bool). if named == number then (if b then None else Some
    (record { text = s.text; number = number + 1; size = s.size; is_open = true })) else None)
    (all_sent number s e)
    ∙ none_by (named == number)
next_sent named number s false e = next_by (named == number) number s

-- the transfer after one more GET-next
next_named : (named number : ℕ) (s : Sending) (others : Bool)
    → (if others && named == number then transfer_after (number + 1) s else None)
    ≡ transfer_after_next named (if others then transfer_after number s else None)
unfolding transfer_after_next
next_named named number s false = refl
next_named named number s true = next_sent named number s (nat_le (length s.text) (number * s.size))
    refl

next_more : (named : ℕ) (get : Option LongGet)
    → option_and_then outgoing_by_get (option_map (extended_long_get named) get)
    ≡ transfer_after_next named (option_and_then outgoing_by_get get)
unfolding transfer_after_next
next_more named None = refl
next_more named (Some get) = next_named named (block_count get.named_blocks) get.text
    (is_named_in_order get.named_blocks)

-- the long GET that a text begins
new_get : (text : Option Sending) → option_and_then outgoing_by_get
    (option_map (λ (t : Sending). record { text = t; named_blocks = [] }) text)
    ≡ option_and_then (transfer_after 1) text
new_get None = refl
new_get (Some text) = refl

-- the long GET after one more request
get_more : (link : Link) (role : Role) (reply : Option Reply) (calls : List Exchange)
    → outgoing_among link (record { role = role; reply = reply } ∷ calls)
    ≡ outgoing_by_role link role reply (outgoing_among link calls)
get_more link (starts p block) reply calls = refl
get_more link (follows s block) reply calls = refl
get_more link (gets form) None calls = refl
get_more link (gets form) (Some reply) calls =
    new_get (reply_transfer (record { link = link; form = form }) reply)
get_more link (gets_next number) reply calls = next_more number (last_long_get link calls)
get_more link stops reply calls = refl

outgoing_call : (link : Link) (c : Call) (reply : Option Reply) (calls : List Exchange)
    → (if is_release c then None else outgoing_among link
    (record { role = role_of c; reply = reply } ∷ calls))
    ≡ outgoing_by_role link (role_of c) reply (outgoing_among link calls)
outgoing_call link call.Release reply calls = refl
outgoing_call link (call.Service r) reply calls = get_more link (role_of_request r) reply calls
outgoing_call link (call.Refused exception) reply calls = refl

-- whether an earlier frame is the client's
abbrev is_heard_past : Link → Past → Bool
is_heard_past link p = is_heard link p.frame

abbrev as_exchange : Link → Past → Exchange
as_exchange link p = record { role = role_in link p.frame; reply = p.reply }

abbrev outgoing_since : List Past → Link → Option Sending
outgoing_since past link = outgoing_among link
    (map (as_exchange link) (filter (is_heard_past link) past))

past_by : (link : Link) (p : Past) (past : List Past) (here : Bool)
    → (if here && is_release (call_in link p.frame) then None else outgoing_among link
    (map (as_exchange link) (cond here (p ∷ filter (is_heard_past link) past)
    (filter (is_heard_past link) past))))
    ≡ (if here then outgoing_by_role link (role_in link p.frame) p.reply (outgoing_since past link)
    else outgoing_since past link)
past_by link p past false = refl
past_by link p past true = outgoing_call link (call_in link p.frame) p.reply
    (map (as_exchange link) (filter (is_heard_past link) past))

past_more : (p : Past) (past : List Past) (link : Option Link)
    → option_and_then (outgoing_since (p ∷ past)) (link_in p.frame link)
    ≡ outgoing_in link p.frame p.reply (option_and_then (outgoing_since past) link)
past_more p past None = refl
past_more p past (Some link) = and_then_unless (outgoing_since (p ∷ past)) (is_closing link p.frame)
    link ∙ past_by link p past (is_heard link p.frame)

none_sent : (link : Option Link) → option_and_then (outgoing_since []) link ≡ None
none_sent None = refl
none_sent (Some link) = refl

outgoing_step : (password : List ℕ) (p : Past) (past : List Past) (link : Option Link) (o : Bool)
    → option_and_then (outgoing_since (cond o [] (p ∷ past)))
    (if o then link_by_opening password p.frame else link_in p.frame link)
    ≡ (if o then None else outgoing_in link p.frame p.reply
    (option_and_then (outgoing_since past) link))
outgoing_step password p past link true = none_sent (link_by_opening password p.frame)
outgoing_step password p past link false = past_more p past link

outgoing_at_link : (password : List ℕ) (p : Past) (past : List Past) (link : Option Link)
    → option_and_then (λ (l : Link). outgoing_among l (exchanges_of l (p ∷ past)))
    (link_after password p.frame link)
    ≡ outgoing_after link p.frame p.reply (option_and_then (λ (l : Link). outgoing_among l
    (exchanges_of l past)) link)
unfolding link_after outgoing_after
outgoing_at_link password p past link = outgoing_step password p
    (after_last_match (λ (q : Past). is_aarq q.frame) past) link (is_aarq p.frame)

-- the long GET after one more frame and the reply to its event
pub outgoing_more : (password : List ℕ) (p : Past) (past : List Past)
    → outgoing_of password (p ∷ past) ≡ outgoing_after (link_of password (frames_past past)) p.frame
    p.reply (outgoing_of password past)
unfolding outgoing_of
outgoing_more password p past =
    ap (option_and_then (λ (l : Link). outgoing_among l (exchanges_of l (p ∷ past))))
    (link_more password p.frame (frames_past past))
    ∙ outgoing_at_link password p past (link_of password (frames_past past))

-- ---- two walks whose states correspond

same_asks : {S T : Type 0} (h : S → T) (event_s : S → Frame → Option Event) (next_s : S → Frame
    → S) (event_t : T → Frame → Option Event) (next_t : T → Frame → T)
    → ((s : S) (f : Frame) → event_s s f ≡ event_t (h s) f)
    → ((s : S) (f : Frame) → h (next_s s f) ≡ next_t (h s) f)
    → (s : S) (fs : List Frame) → asks_along event_s next_s s fs
    ≡ asks_along event_t next_t (h s) fs
same_asks h event_s next_s event_t next_t e n s [] = refl
same_asks {T = T} h event_s next_s event_t next_t e n s (f ∷ fs) =
    ap (λ (event : Option Event). option_to_list event ++ asks_along event_s next_s (next_s s f) fs)
    (e s f)
    ∙ ap (λ (events : List Event). option_to_list (event_t (h s) f) ++ events)
    (same_asks h event_s next_s event_t next_t e n (next_s s f) fs
    ∙ ap (λ (t : T). asks_along event_t next_t t fs) (n s f))

pub same_from : (outcome : Outcome) (later_s later_t : Option Reply → List Reply → List (List ℕ))
    → ((reply : Option Reply) (replies : List Reply) → later_s reply replies
    ≡ later_t reply replies)
    → (replies : List Reply) → answers_from outcome later_s replies
    ≡ answers_from outcome later_t replies
same_from (says to answer) later_s later_t same replies =
    ap (λ (texts : List (List ℕ)). due_text to (answer_text answer) ∷ texts) (same None replies)
same_from (asks event asked) later_s later_t same [] = refl
same_from (asks event asked) later_s later_t same (reply ∷ replies) =
    ap (λ (texts : List (List ℕ)). reply_text asked reply ∷ texts) (same (Some reply) replies)

same_answers : {S T : Type 0} (h : S → T) (outcome_s : S → Frame → Outcome) (next_s : S → Frame
    → Option Reply → S) (outcome_t : T → Frame → Outcome) (next_t : T → Frame → Option Reply → T)
    → ((s : S) (f : Frame) → outcome_s s f ≡ outcome_t (h s) f)
    → ((s : S) (f : Frame) (reply : Option Reply) → h (next_s s f reply) ≡ next_t (h s) f reply)
    → (s : S) (fs : List Frame) (replies : List Reply) → answers_along outcome_s next_s s fs replies
    ≡ answers_along outcome_t next_t (h s) fs replies
same_answers h outcome_s next_s outcome_t next_t e n s [] replies = refl
same_answers {T = T} h outcome_s next_s outcome_t next_t e n s (f ∷ fs) replies =
    ap (λ (outcome : Outcome). answers_from outcome
    (λ reply rest. answers_along outcome_s next_s (next_s s f reply) fs rest) replies) (e s f)
    ∙ same_from (outcome_t (h s) f) _ _
    (λ reply rest. same_answers h outcome_s next_s outcome_t next_t e n (next_s s f reply) fs rest
    ∙ ap (λ (t : T). answers_along outcome_t next_t t fs rest) (n s f reply))
    replies

-- ---- both sessions

-- the association and the long SET or ACTION, by looking back
abbrev known_of : List ℕ → List Frame → Known
known_of password earlier = record {
  link = link_of password earlier;
  incoming = incoming_of password earlier;
}

abbrev state_of : List ℕ → List Past → State
state_of password past = record {
  link = link_of password (frames_past past);
  incoming = incoming_of password (frames_past past);
  outgoing = outgoing_of password past;
}

known_more : (password : List ℕ) (earlier : List Frame) (f : Frame)
    → known_of password (f ∷ earlier) ≡ known_after password (known_of password earlier) f
known_more password earlier f =
    let a = link_more password f earlier in
    let b = incoming_more password f earlier in
    cc

state_more : (password : List ℕ) (past : List Past) (f : Frame) (reply : Option Reply)
    → state_of password (record { frame = f; reply = reply } ∷ past)
    ≡ state_after password (state_of password past) f reply
state_more password past f reply =
    let a = link_more password f (frames_past past) in
    let b = incoming_more password f (frames_past past) in
    let c = outgoing_more password (record { frame = f; reply = reply }) past in
    cc

known_none : (password : List ℕ) → known_of password [] ≡ known_in new_state
unfolding link_of incoming_of
known_none password = refl

state_none : (password : List ℕ) → state_of password [] ≡ new_state
unfolding link_of incoming_of outgoing_of
state_none password = refl

-- the events are equal
pub same_events : (password input : List ℕ) → Asks password input
    ≡ asks_on password (known_in new_state) (to_server (frames_of input))
unfolding Asks
same_events password input =
    same_asks (known_of password) (λ earlier f. turn_event
    (turn_of password (link_of password earlier) (incoming_of password earlier) f))
    (λ earlier f. f ∷ earlier) (event_at password) (known_after password) (λ earlier f. refl)
    (known_more password) []
    (to_server (frames_of input))
    ∙ ap (λ (k : Known). asks_on password k (to_server (frames_of input))) (known_none password)

-- the answers are equal
pub same_texts : (password input : List ℕ) (replies : List Reply) → Answers password input replies
    ≡ answers_on password new_state (to_server (frames_of input)) replies
unfolding Answers
same_texts password input replies =
    same_answers (state_of password) (λ past f. outcome_of_turn (outgoing_of password past)
    (turn_of password (link_of password (frames_past past))
    (incoming_of password (frames_past past)) f))
    (λ past f reply. record { frame = f; reply = reply } ∷ past) (outcome_at password)
    (state_after password) (λ past f. refl) (state_more password) []
    (to_server (frames_of input)) replies
    ∙ ap (λ (s : State). answers_on password s (to_server (frames_of input)) replies)
    (state_none password)
