-- The verdict on an entry, as tests in their order.
use Rattle.fw_log_entry.specs.declared.codes.event.TheConstants.{SECOND_OVER, WITHHELD}
use Rattle.fw_log_entry.specs.declared.entry.Entry.{Entry}
use Rattle.fw_log_entry.specs.declared.entry.EventEntry.{EventEntry}
use Rattle.fw_log_entry.specs.declared.entry.ShownEntry.{ShownEntry}
use Rattle.std.specs.Prelude.{ℕ, ◌-◌, ◌==◌, nat_le, not, ◌&&◌, ◌||◌, Option, Some, None, is_some, option_map, if◌then◌else◌}
use Rattle.fw_words.specs.Quadlet.{quadlet_at}
use Rattle.fw_log_entry.specs.Network.{device_of_id}
use Rattle.fw_model_account.specs.Account.{Account, Operation, Reads, Locks, Request}
use Rattle.fw_model_account.specs.Fold.{next_account}
use Rattle.fw_model_account.specs.Packets.{is_quadlet_swap, is_reply_to}
use Rattle.fw_model_account.specs.Words.{register_of, word_of, first_address}
use Rattle.fw_model_audit.specs.Looked.{Response, Looked, Asks, Replies, Shows, Happens, Other, looked, is_watched, register_shown}
use Rattle.fw_model_audit.specs.Faults.{shown_id}
use Rattle.fw_model_audit.specs.declared.fault.AuditFault.{AuditFault}
use Rattle.fw_model_audit.specs.declared.fault.AuditFault.TheVariants.{NoNode, Overlap, Orphan, NotAllowed, WrongWord, NoMove, NoEvent}

-- ---- requests

-- the verdict on a request: its requester is a node that has none outstanding
abbrev pub judged_request : Account → ℕ → Option ℕ → Option AuditFault
judged_request l id None = Some (NoNode id)
judged_request l id (Some c) = if is_some (l.outstanding c) then Some (Overlap id) else None

-- ---- words

-- the watched offset that an address is
abbrev pub watched_offset : ℕ → Option ℕ
watched_offset address = if nat_le first_address address && is_watched (address - first_address) then Some (address - first_address) else None

-- the answer is not allowed, if its offset is watched
abbrev pub not_allowed : ℕ → Option ℕ → Option AuditFault
not_allowed id None = None
not_allowed id (Some offset) = Some (NotAllowed id offset)

-- the word that is due at a watched register, and the one that is found
abbrev pub judged_word : ℕ → ℕ → ℕ → Option ℕ → Option AuditFault
judged_word id offset found None = Some (NotAllowed id offset)
judged_word id offset found (Some expected) = if found == expected then None else Some (WrongWord found expected)

-- at an address, if it is watched
abbrev pub judged_at : ℕ → ℕ → Option ℕ → Option ℕ → Option AuditFault
judged_at id found None expected = None
judged_at id found (Some offset) expected = judged_word id offset found expected

-- the verdict on a quadlet that a response shows at an address
abbrev pub judged_quadlet : Account → ℕ → ℕ → ℕ → Option ℕ → Option AuditFault
judged_quadlet l id target address None = not_allowed id (watched_offset address)
judged_quadlet l id target address (Some found) = judged_at id found (watched_offset address) (option_map (word_of l) (register_of l.latest target address))

-- ---- responses

-- the verdict on a complete response, by what was asked
abbrev pub judged_answer : Account → ℕ → ℕ → ℕ → Operation → Option ℕ → Option AuditFault
judged_answer l id target address Reads word = judged_quadlet l id target address word
judged_answer l id target address (Locks function bytes) word = if is_quadlet_swap function bytes then judged_quadlet l id target address word else not_allowed id (watched_offset address)

-- a response to the outstanding request, if any
abbrev pub judged_reply : Account → Response → Option Request → Option AuditFault
judged_reply l r None = Some (Orphan r.requester)
judged_reply l r (Some q) =
    if (q.target == r.responder) && is_reply_to q.operation r.reply
    then (if r.rcode == 0 then judged_answer l r.requester q.target q.address q.operation r.word else None)
    else Some (Orphan r.requester)

-- the verdict on a response: its requester is a node
abbrev pub judged_response : Account → Response → Option ℕ → Option AuditFault
judged_response l r None = Some (NoNode r.requester)
judged_response l r (Some c) = judged_reply l r (l.outstanding c)

-- ---- shown words and events

-- the verdict on a shown word
abbrev pub judged_shown : Account → ShownEntry → Option AuditFault
judged_shown l s = if is_watched s.offset then judged_word (shown_id l.latest s.device) s.offset s.word (option_map (word_of l) (register_shown l.latest s)) else None

-- the verdict on an event: a second that is over ran, and channel 31 is withheld before the first bus reset
abbrev pub judged_event : Account → EventEntry → Option AuditFault
judged_event l e = if ((e.code == SECOND_OVER) && not l.reclaiming) || ((e.code == WITHHELD) && is_some l.latest) then Some (NoEvent e.code) else None

-- ---- entries

-- what is found without the account's next one
abbrev pub judged : Account → Looked → Option AuditFault
judged l (Asks id) = judged_request l id (device_of_id l.latest id)
judged l (Replies r) = judged_response l r (device_of_id l.latest r.requester)
judged l (Shows s) = judged_shown l s
judged l (Happens e) = judged_event l e
judged l Other = None

-- the fault of an entry that has none of these, and after which there is no account: a swap that is no move
abbrev pub no_move : Operation → Option AuditFault
no_move Reads = None
no_move (Locks function bytes) = if is_quadlet_swap function bytes then Some (NoMove (quadlet_at bytes 0) (quadlet_at bytes 4)) else None

-- the same of the outstanding request, if any
abbrev pub no_move_of : Option Request → Option AuditFault
no_move_of None = None
no_move_of (Some q) = no_move q.operation

-- the same of a device's outstanding request
abbrev pub no_move_by : Account → Option ℕ → Option AuditFault
no_move_by l None = None
no_move_by l (Some c) = no_move_of (l.outstanding c)

-- the same of an entry: of responses alone
abbrev pub unmoved : Account → Looked → Option AuditFault
unmoved l (Replies r) = no_move_by l (device_of_id l.latest r.requester)
unmoved l _ = None

-- what is found if the account goes on, or does not
abbrev pub found_after : Option AuditFault → Option Account → Option AuditFault → Option AuditFault
found_after (Some f) next last = Some f
found_after None (Some m) last = None
found_after None None last = last

-- the fault of an entry, over the account of the entries before it
abbrev pub verdict : Account → Entry → Option AuditFault
verdict l e = found_after (judged l (looked e)) (next_account l e) (unmoved l (looked e))
