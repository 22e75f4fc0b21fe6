-- The line of an entry in words (own): its cycle, and what it records, by the outstanding requests before it.
use Rattle.std.specs.Prelude.{ℕ, ◌+◌, ◌%◌, ◌^◌, ◌==◌, ◌&&◌, ◌||◌, Bool, true, false, List, [], ◌∷◌, ◌++◌, length, codes, decimal, Option, Some, None, if◌then◌else◌}
use Rattle.std.specs.Option.{is_some}
use Rattle.std.specs.Int.{to_be_bytes, w32}
use Rattle.fw_words.specs.Quadlet.{quadlet_at}
use Rattle.fw_async.specs.Heads.{head_of}
use Rattle.fw_async.specs.declared.packet.Head.{Head}
use Rattle.fw_async.specs.declared.packet.Packet.{Packet}
use Rattle.fw_async.specs.declared.packet.Packet.TheVariants.{WriteQuadlet, WriteBlock, WriteReply, ReadQuadlet, ReadBlock, ReadQuadletReply, ReadBlockReply, CycleStart, Lock, LockReply}
use Rattle.fw_cip.specs.declared.packet.CipHeader.{CipHeader}
use Rattle.fw_cip.specs.declared.packet.IsoPacket.{IsoPacket}
use Rattle.fw_csr.specs.declared.offset.TheConstants.{REGISTER_SPACE}
use Rattle.fw_words.specs.declared.swap.Swap.{Swap}
use Rattle.fw_words.specs.Swaps.{quadlet_swap}
use Rattle.fw_words.specs.declared.swap.TheConstants.{COMPARE_SWAP}
use Rattle.fw_log_entry.specs.declared.entry.EventEntry.{EventEntry}
use Rattle.fw_log_entry.specs.declared.entry.OutcomeEntry.{OutcomeEntry}
use Rattle.fw_log_entry.specs.declared.entry.ShownEntry.{ShownEntry}
use Rattle.fw_log_entry.specs.declared.entry.Entry.{Entry}
use Rattle.fw_log_entry.specs.declared.entry.Entry.TheVariants.{Reset, Async, Iso, Event, Outcome, Shown, End}
use Rattle.fw_log_entry.specs.declared.entry.Timed.{Timed}
use Rattle.fw_text.specs.Texts.{hex, blank_hex, quadlet_text, quadlets_text, named}
use Rattle.fw_log_entry.specs.Rows.{event_form, has_tape}
use Rattle.fw_log_entry.specs.declared.codes.TheConstants.{NO_DEVICE}
use Rattle.fw_log_entry.specs.declared.codes.outcome.TheConstants as Outcomes
use Rattle.fw_log_names.specs.Names.{tcode_name, rcode_name, function_name, system_name, format_name, event_name, event_saying, outcome_name, node_text}
use Rattle.fw_log_registers.specs.declared.register.NamedRegister.TheVariants.{FcpCommand, FcpResponse}
use Rattle.fw_log_registers.specs.declared.place.RegisterPlace.{RegisterPlace}
use Rattle.fw_log_registers.specs.declared.place.RegisterPlace.TheVariants.{Named}
use Rattle.fw_log_registers.specs.declared.told.RegisterValue.TheVariants.{Word as TheWord, Swap as TheSwap}
use Rattle.fw_log_registers.specs.Places.{place_of}
use Rattle.fw_log_registers.specs.Words.{place_text, told_text, word_text}
use Rattle.fw_log_frames.specs.Frames.{frame_text}
use Rattle.fw_log_requests.specs.declared.asked.Answer.TheVariants.{Write as WriteResponse, ReadQuadlet as ReadQuadletResponse, ReadBlock as ReadBlockResponse, Lock as LockResponse}
use Rattle.fw_log_requests.specs.declared.asked.Asked.{Asked}
use Rattle.fw_log_requests.specs.Requests.{answered}
use Rattle.fw_log_explain.specs.Resets.{reset_text}

-- frames are written there
unfoldable pub takes_frames : RegisterPlace → Bool
takes_frames (Named FcpCommand index) = true
takes_frames (Named FcpResponse index) = true
takes_frames _ = false

-- a block: how many bytes, and their digits
unfoldable pub block_text : List ℕ → List ℕ
block_text bytes = codes " data_length " ++ decimal (length bytes) ++ blank_hex bytes

-- the quadlet that a quadlet write carries to a place
unfoldable pub written_quadlet : RegisterPlace → ℕ → List ℕ
written_quadlet place value = if takes_frames place then frame_text (to_be_bytes w32 value) else word_text place value

-- the bytes that a block write carries to a place
unfoldable pub written_block : RegisterPlace → List ℕ → List ℕ
written_block place bytes = if takes_frames place then frame_text bytes else block_text bytes

-- where a request is
unfoldable pub at_text : RegisterPlace → List ℕ
at_text place = codes " " ++ place_text place

-- a lock's function
unfoldable pub function_text : ℕ → List ℕ
function_text function = codes " " ++ named (function_name function) (codes "extended_tcode") function

-- the two words of a swap, and what it changes
unfoldable pub swap_text : RegisterPlace → Swap → List ℕ
swap_text place s = quadlet_text s.argument ++ codes " to" ++ quadlet_text s.new ++ told_text (TheSwap s.argument s.new) place

-- a lock request: of a quadlet compare_swap its two words and what it changes, of another its quadlets
unfoldable pub lock_text : RegisterPlace → ℕ → List ℕ → Option Swap → List ℕ
lock_text place function bytes None = function_text function ++ at_text place ++ quadlets_text bytes
lock_text place function bytes (Some s) = function_text function ++ at_text place ++ swap_text place s

-- the response code
unfoldable pub rcode_text : ℕ → List ℕ
rcode_text rcode = codes " " ++ named (rcode_name rcode) (codes "rcode") rcode

-- where the request was that a response answers
unfoldable pub asked_text : Option Asked → List ℕ
asked_text None = []
asked_text (Some q) = at_text (place_of q.offset)

-- no outstanding request is answered
unfoldable pub unasked_text : Option Asked → List ℕ
unasked_text None = codes ", no request stands"
unasked_text (Some q) = []

-- what a response brings, if it is complete
abbrev pub complete_text : ℕ → List ℕ → List ℕ
complete_text rcode brought = if rcode == 0 then brought else []

-- a response: its code, where the request was, and what it brings
unfoldable pub response_text : Option Asked → ℕ → List ℕ → List ℕ
response_text q rcode brought = rcode_text rcode ++ asked_text q ++ complete_text rcode brought ++ unasked_text q

-- the word that a read brings
unfoldable pub read_text : Option Asked → ℕ → List ℕ
read_text None value = quadlet_text value
read_text (Some q) value = word_text (place_of q.offset) value

-- what a quadlet compare_swap did that found this word: it was made if the word is its argument
unfoldable pub made_text : RegisterPlace → Swap → ℕ → List ℕ
made_text place s old =
    if old == s.argument then codes ", swap made" ++ told_text (TheSwap s.argument s.new) place else codes ", no swap" ++ told_text (TheWord old) place

-- the word that a swap found, and what it did
unfoldable pub swapped_text : RegisterPlace → Swap → ℕ → List ℕ
swapped_text place s old = quadlet_text old ++ made_text place s old

-- what a lock brings of a quadlet compare_swap, or of another lock: the old value
unfoldable pub found_text : RegisterPlace → Option Swap → ℕ → List ℕ → List ℕ
found_text place None function bytes = quadlets_text bytes
found_text place (Some s) function bytes =
    if (function == COMPARE_SWAP) && (length bytes == 4) then swapped_text place s (quadlet_at bytes 0) else quadlets_text bytes

-- the old word that a lock response shows, by the request that it answers
unfoldable pub old_text : Option Asked → ℕ → List ℕ → List ℕ
old_text None function bytes = quadlets_text bytes
old_text (Some q) function bytes = found_text (place_of q.offset) q.swap function bytes

-- a lock response
unfoldable pub locked_text : Option Asked → ℕ → ℕ → List ℕ → List ℕ
locked_text q rcode function bytes =
    rcode_text rcode ++ function_text function ++ asked_text q ++ complete_text rcode (old_text q function bytes) ++ unasked_text q

-- what stands after the name of a response, by the outstanding requests before it
unfoldable pub response_details : List Asked → Packet → List ℕ
response_details list (WriteReply h rcode) = response_text (answered WriteResponse h list) rcode []
response_details list (ReadQuadletReply h rcode value) = response_text (answered ReadQuadletResponse h list) rcode (read_text (answered ReadQuadletResponse h list) value)
response_details list (ReadBlockReply h rcode bytes) = response_text (answered ReadBlockResponse h list) rcode (block_text bytes)
response_details list (LockReply h rcode function bytes) = locked_text (answered LockResponse h list) rcode function bytes
response_details list _ = []

-- what stands after the name of a packet, by the outstanding requests before it
unfoldable pub details : List Asked → Packet → List ℕ
details list (WriteQuadlet h offset value) = at_text (place_of offset) ++ written_quadlet (place_of offset) value
details list (WriteBlock h offset bytes) = at_text (place_of offset) ++ written_block (place_of offset) bytes
details list (ReadQuadlet h offset) = at_text (place_of offset)
details list (ReadBlock h offset len) = at_text (place_of offset) ++ codes " data_length " ++ decimal len
details list (CycleStart h offset time) = at_text (place_of offset) ++ word_text (place_of offset) time
details list (Lock h offset function bytes) = lock_text (place_of offset) function bytes (quadlet_swap function bytes)
details list response = response_details list response

-- from whom a packet goes to whom, and its label
unfoldable pub head_text : Head → List ℕ
head_text h = node_text h.source ++ codes " to " ++ node_text h.destination ++ codes " label " ++ decimal h.tl

-- an asynchronous packet: from whom to whom, its label and its name, and what stands after
unfoldable pub packet_text : List Asked → Packet → List ℕ
packet_text list p = head_text (head_of p) ++ codes " " ++ tcode_name p ++ details list p

-- the format of an isochronous packet with its time stamp, or FMT and FDF
unfoldable pub format_text : Option (List ℕ) → CipHeader → List ℕ
format_text (Some name) cip = name ++ codes " SYT " ++ hex 4 (cip.fdf % 2 ^ 16)
format_text None cip = codes "FMT " ++ decimal cip.fmt ++ codes " FDF " ++ hex 6 cip.fdf

-- whether a packet has a block
unfoldable pub block_word : Bool → List ℕ
block_word has = if has then codes " block" else codes " empty"

-- the stream that a packet is of: its channel, SID and DBC
unfoldable pub stream_text : IsoPacket → List ℕ
stream_text p = codes "isochronous channel " ++ decimal p.channel ++ codes " SID " ++ decimal p.cip.sid ++ codes " DBC " ++ decimal p.cip.dbc

-- an isochronous packet: its channel, SID, DBC and format, and whether it has a block
unfoldable pub iso_text : IsoPacket → List ℕ
iso_text p = stream_text p ++ codes " " ++ format_text (format_name p.cip) p.cip ++ block_word (is_some p.block)

-- the device of an event, if it has one
unfoldable pub device_text : ℕ → List ℕ
device_text device = if device == NO_DEVICE then [] else codes " device " ++ decimal device

-- what an event says
unfoldable pub saying_text : Option (List ℕ) → List ℕ
saying_text None = []
saying_text (Some saying) = saying

-- the tape and the system that are inserted
unfoldable pub tape_text : EventEntry → List ℕ
tape_text e = if has_tape (event_form e.code) then codes " tape " ++ decimal e.tape ++ codes ", system " ++ named (system_name e.system) (codes "lines") e.system else []

-- an event: its name, its device, and what it says
unfoldable pub event_text : EventEntry → List ℕ
event_text e = codes "event " ++ named (event_name e.code) (codes "code") e.code ++ device_text e.device ++ codes ": " ++ saying_text (event_saying e.code) ++ tape_text e

-- the value of an outcome, by its code
unfoldable pub value_text : ℕ → ℕ → List ℕ
value_text code value =
    if (code == Outcomes.CONNECTED) || (code == Outcomes.RESTORED) then codes ", channel " ++ decimal value
    else if code == Outcomes.NO_CHANNEL then codes ", CHANNELS_AVAILABLE" ++ quadlet_text value
    else if code == Outcomes.NO_UNITS then codes ", units left " ++ decimal value
    else if (code == Outcomes.PLUG_FULL) || (code == Outcomes.INPUT_BUSY) then codes ", plug word" ++ quadlet_text value
    else if code == Outcomes.NO_PLUG then codes ", answer" ++ rcode_text value
    else if code == Outcomes.ABSENT then codes ", missing device " ++ decimal value
    else if code == Outcomes.RESET then codes ", epoch " ++ decimal value
    else if code == Outcomes.LATE then codes ", at cycle " ++ decimal value
    else []

-- the name of an outcome
unfoldable pub ended_text : ℕ → List ℕ
ended_text code = codes "outcome " ++ named (outcome_name code) (codes "code") code

-- the device and the slot of an outcome
unfoldable pub slot_text : ℕ → ℕ → List ℕ
slot_text device slot = codes " device " ++ decimal device ++ codes " slot " ++ decimal slot

-- an outcome: its name, device and slot, and its value
unfoldable pub outcome_text : OutcomeEntry → List ℕ
outcome_text o = ended_text o.code ++ slot_text o.device o.slot ++ value_text o.code o.value

-- where a shown word stands, by its offset from FFFF F000 0000 on
abbrev pub shown_place : ShownEntry → RegisterPlace
shown_place s = place_of (REGISTER_SPACE + s.offset)

-- the device that shows a word
unfoldable pub shown_device : ℕ → List ℕ
shown_device device = codes "shown device " ++ decimal device

-- a shown word: its device, where it stands, and what it says
unfoldable pub shown_text : ShownEntry → List ℕ
shown_text s = shown_device s.device ++ at_text (shown_place s) ++ word_text (shown_place s) s.word

-- what an entry records
unfoldable pub what_text : List Asked → Entry → List ℕ
what_text list (Reset r) = reset_text r
what_text list (Async p) = packet_text list p
what_text list (Iso p) = iso_text p
what_text list (Event e) = event_text e
what_text list (Outcome o) = outcome_text o
what_text list (Shown s) = shown_text s
what_text list End = codes "end"

-- the line of an entry: its cycle, what it records, and a line feed
abbrev pub line : List Asked → Timed → List ℕ
line list t = decimal t.cycle ++ codes " " ++ what_text list t.what ++ 10 ∷ []
