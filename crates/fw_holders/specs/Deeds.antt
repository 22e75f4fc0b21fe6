-- What is told of an entry, over the account of the entries before it.
use Rattle.std.specs.Prelude.{ℕ, ◌+◌, ◌==◌, List, [], ◌++◌, length, codes, decimal, Option, Some, None, slice_get, if◌then◌else◌}
use Rattle.fw_terms.specs.declared.plug.PlugAt.{PlugAt}
use Rattle.fw_terms.specs.Tables.{sum_plugs}
use Rattle.fw_words.specs.Quadlet.{quadlet_at}
use Rattle.fw_log_entry.specs.declared.codes.event.TheConstants.{SECOND_OVER, DIED, WITHHELD}
use Rattle.fw_log_entry.specs.declared.entry.Entry.{Entry}
use Rattle.fw_log_entry.specs.declared.entry.Entry.TheVariants.{Reset, Async, Iso, Event, Outcome, Shown, End}
use Rattle.fw_log_entry.specs.declared.entry.EventEntry.{EventEntry}
use Rattle.fw_log_entry.specs.declared.entry.ResetEntry.{ResetEntry}
use Rattle.fw_log_entry.specs.declared.nodes.NodeRow.{NodeRow}
use Rattle.fw_log_entry.specs.Network.{device_of_id}
use Rattle.fw_model_account.specs.Account.{Account, Connections, Operation, Reads, Locks, Request, pending_channel}
use Rattle.fw_model_account.specs.Decode.{is_owner, move_at}
use Rattle.fw_model_account.specs.Moves.{Move}
use Rattle.fw_model_account.specs.Packets.{Reply, Read, Locked, is_swapped}
use Rattle.fw_model_account.specs.Words.{Register, register_of}
use Rattle.fw_model_audit.specs.Looked.{Looked, Replies, looked_packet}
use Rattle.fw_holders_text.specs.Names.{nodes_of, count_text, who}
use Rattle.fw_holders_text.specs.Deeds.{done_text}
use Rattle.fw_holders.specs.Moves.{deed_of}

-- ---- bus resets

-- the device that began a bus reset, by its row
unfoldable pub initiator_text : ResetEntry → Option NodeRow → List ℕ
initiator_text r None = []
initiator_text r (Some row) = who r.nodes row.device

-- that no node is resource manager
unfoldable pub manager_text : Option ℕ → List ℕ
manager_text None = codes ", no manager"
manager_text (Some n) = []

-- a bus reset: its number, who began it, and how many nodes there are
unfoldable pub reset_text : ResetEntry → List ℕ
reset_text r =
    codes "bus reset " ++ decimal r.epoch ++ codes " by " ++ initiator_text r (slice_get r.nodes r.initiator)
    ++ codes ", " ++ count_text (length r.nodes) (codes "node") ++ manager_text r.manager

-- ---- deaths

-- how many ends of its connections controller c has at a plug
abbrev pub ends_at : ℕ → Connections → ℕ
ends_at c s = s.counts c + (if is_owner c s.broadcast then 1 else 0)

-- how many it has at all plugs
abbrev pub ends_of : ℕ → Account → ℕ
ends_of c l = sum_plugs (λ p. ends_at c (l.outputs p)) + sum_plugs (λ p. ends_at c (l.inputs p))

-- the channel and the ends of connections that nobody has from now on
unfoldable pub orphans_text : Option ℕ → ℕ → List ℕ
orphans_text None n = if n == 0 then [] else codes ", orphans " ++ count_text n (codes "connection end")
orphans_text (Some ch) n = codes ", orphans channel " ++ decimal ch ++ (if n == 0 then [] else codes ", " ++ count_text n (codes "connection end"))

-- a death
unfoldable pub death_text : Account → ℕ → List ℕ
death_text l d = who (nodes_of l.latest) d ++ codes " dies" ++ orphans_text (pending_channel d l.allocations) (ends_of d l)

-- ---- events

-- an event that changes what is held
abbrev pub event_told : Account → EventEntry → Option (List ℕ)
event_told l e =
    if e.code == SECOND_OVER then Some (codes "the second is over")
    else if e.code == DIED then Some (death_text l e.device)
    else if e.code == WITHHELD then Some (codes "channel 31 is withheld")
    else None

-- ---- moves

-- the move that a swap of controller c is
abbrev pub move_told : Account → ℕ → Option (PlugAt × Move) → Option (List ℕ)
move_told l c None = None
move_told l c (Some m) = Some (done_text (nodes_of l.latest) l.reclaiming c (deed_of l m.0 m.1))

-- a swap at a register of the account, or elsewhere
abbrev pub swap_told : Account → ℕ → Option Register → ℕ → ℕ → Option (List ℕ)
swap_told l c None argument new = None
swap_told l c (Some register) argument new = move_told l c (move_at l c register argument new)

-- a response to a lock
abbrev pub lock_told : Account → ℕ → Request → ℕ → List ℕ → Reply → Option (List ℕ)
lock_told l c q function bytes Read = None
lock_told l c q function bytes (Locked f rcode old) =
    if is_swapped function bytes rcode old then swap_told l c (register_of l.latest q.target q.address) (quadlet_at bytes 0) (quadlet_at bytes 4) else None

-- a response to this request
abbrev pub answer_told : Account → ℕ → Request → Operation → Reply → Option (List ℕ)
answer_told l c q Reads reply = None
answer_told l c q (Locks function bytes) reply = lock_told l c q function bytes reply

-- a response to the outstanding request of controller c
abbrev pub reply_told : Account → ℕ → Option Request → Reply → Option (List ℕ)
reply_told l c None reply = None
reply_told l c (Some q) reply = answer_told l c q q.operation reply

-- a response to a node
abbrev pub response_told : Account → Option ℕ → Reply → Option (List ℕ)
response_told l None reply = None
response_told l (Some c) reply = reply_told l c (l.outstanding c) reply

-- what an audit looks at in a packet
abbrev pub packet_told : Account → Looked → Option (List ℕ)
packet_told l (Replies r) = response_told l (device_of_id l.latest r.requester) r.reply
packet_told l _ = None

-- ---- entries

-- what is told of an entry, if anything
abbrev pub told : Account → Entry → Option (List ℕ)
told l (Reset r) = Some (reset_text r)
told l (Async p) = packet_told l (looked_packet p)
told l (Iso p) = None
told l (Event e) = event_told l e
told l (Outcome o) = None
told l (Shown s) = None
told l End = None
