-- What an audit looks at: the requests and responses of controllers, shown words and events; and which registers it watches.
use Rattle.fw_async.specs.declared.packet.Head.{Head}
use Rattle.fw_async.specs.declared.packet.Packet.{Packet}
use Rattle.fw_async.specs.declared.packet.Packet.TheVariants.{WriteQuadlet, WriteBlock, WriteReply, ReadQuadlet, ReadBlock, ReadQuadletReply, ReadBlockReply, CycleStart, Lock, LockReply}
use Rattle.fw_csr.specs.declared.low_offset.TheConstants.{BANDWIDTH_AVAILABLE, CHANNELS_AVAILABLE_HI, CHANNELS_AVAILABLE_LO}
use Rattle.fw_log_entry.specs.declared.entry.Entry.{Entry}
use Rattle.fw_log_entry.specs.declared.entry.Entry.TheVariants.{Reset, Async, Iso, Event, Outcome, Shown, End}
use Rattle.fw_log_entry.specs.declared.entry.EventEntry.{EventEntry}
use Rattle.fw_log_entry.specs.declared.entry.ResetEntry.{ResetEntry}
use Rattle.fw_log_entry.specs.declared.entry.ShownEntry.{ShownEntry}
use Rattle.std.specs.Prelude.{◌≡◌, ℕ, ◌+◌, ◌-◌, ◌%◌, ◌==◌, nat_le, nat_lt, Bool, ◌&&◌, ◌||◌, Option, Some, None, List, length, if◌then◌else◌, IsTrue, ⊤}
use Rattle.fw_terms.specs.declared.label.Label.TheVariants.{Procedure}
use Rattle.fw_terms.specs.Labels.{label_code}
use Rattle.fw_words.specs.Quadlet.{quadlet_at}
use Rattle.fw_log_entry.specs.Network.{device_of_id}
use Rattle.fw_model_account.specs.Account.{Account, Operation, Reads, Locks, Request}
use Rattle.fw_model_account.specs.Packets.{Reply, Read, Locked, is_quadlet_swap, is_reply_to}
use Rattle.fw_model_account.specs.Words.{Register, register_of, word_of, first_address, first_output, first_input, id_in}

-- ---- what is looked at

-- a response of a procedure to a quadlet read or to a lock: who asked, who answers, how, and the quadlet that it shows
pub record Response : Type 0 where
  pub requester : ℕ
  pub responder : ℕ
  pub rcode : ℕ
  pub reply : Reply
  pub word : Option ℕ

-- what an entry is to an audit; a reset and each entry that is passed on is other
pub data Looked : Type 0 where
  Asks : (requester : ℕ) → Looked
  Replies : (response : Response) → Looked
  Shows : (shown : ShownEntry) → Looked
  Happens : (event : EventEntry) → Looked
  Other : Looked

-- the quadlet of old value, if it has four bytes
abbrev pub quadlet_in : List ℕ → Option ℕ
quadlet_in bytes = if length bytes == 4 then Some (quadlet_at bytes 0) else None

-- of packets only those of procedures
abbrev pub labelled : Head → Looked → Looked
labelled h x = if h.tl == label_code Procedure then x else Other

-- what an audit looks at in a packet: the requests and responses of controllers
abbrev pub looked_packet : Packet → Looked
looked_packet (WriteQuadlet h offset value) = Other
looked_packet (WriteBlock h offset bytes) = Other
looked_packet (WriteReply h rcode) = Other
looked_packet (ReadQuadlet h offset) = labelled h (Asks h.source)
looked_packet (ReadBlock h offset len) = Other
looked_packet (ReadQuadletReply h rcode value) = labelled h (Replies (record { requester = h.destination; responder = h.source; rcode = rcode; reply = Read; word = Some value }))
looked_packet (ReadBlockReply h rcode bytes) = Other
looked_packet (CycleStart h offset time) = Other
looked_packet (Lock h offset function bytes) = labelled h (Asks h.source)
looked_packet (LockReply h rcode function bytes) = labelled h
    (Replies (record { requester = h.destination; responder = h.source; rcode = rcode; reply = Locked function rcode bytes; word = quadlet_in bytes }))

-- what an audit looks at in an entry
abbrev pub looked : Entry → Looked
looked (Reset r) = Other
looked (Async p) = looked_packet p
looked (Iso p) = Other
looked (Event e) = Happens e
looked (Outcome o) = Other
looked (Shown s) = Shows s
looked End = Other

-- ---- which registers are watched

-- an offset of the 31 plug registers that begin at one
abbrev pub is_plug_offset : ℕ → ℕ → Bool
is_plug_offset first offset = nat_le first offset && nat_lt offset (first + 124) && ((offset - first) % 4 == 0)

-- BANDWIDTH_AVAILABLE, both halves of CHANNELS_AVAILABLE, and the 31 output and 31 input plug control registers
abbrev pub is_watched : ℕ → Bool
is_watched offset =
    (offset == BANDWIDTH_AVAILABLE) || (offset == CHANNELS_AVAILABLE_HI) || (offset == CHANNELS_AVAILABLE_LO)
    || is_plug_offset first_output offset || is_plug_offset first_input offset

-- the register of the account that stands at an offset of the node with this ID
abbrev pub register_by : Option ResetEntry → ℕ → Option ℕ → Option Register
register_by latest offset None = None
register_by latest offset (Some id) = register_of latest id (first_address + offset)

-- and at an offset of a device
abbrev pub register_shown : Option ResetEntry → ShownEntry → Option Register
register_shown latest s = register_by latest s.offset (id_in latest s.device)

-- ---- answers

-- the response is to the outstanding request of its requester, from the node that was asked, and of its kind and lock function
pub record IsAnswer (l : Account) (r : Response) (q : Request) : Type 0 where
  pub controller : ℕ
  pub device : device_of_id l.latest r.requester ≡ Some controller
  pub outstanding : l.outstanding controller ≡ Some q
  pub responder : q.target ≡ r.responder
  pub kind : IsTrue (is_reply_to q.operation r.reply)

-- and it is complete, and at a watched offset
pub record IsWatchedAnswer (l : Account) (r : Response) (q : Request) (offset : ℕ) : Type 0 where
  pub answer : IsAnswer l r q
  pub complete : r.rcode ≡ 0
  pub address : q.address ≡ first_address + offset
  pub watched : IsTrue (is_watched offset)

-- a quadlet read, or a compare_swap of a quadlet
abbrev pub IsQuadlet : Operation → Type 0
IsQuadlet Reads = ⊤
IsQuadlet (Locks function bytes) = IsTrue (is_quadlet_swap function bytes)

-- If a watched register is answered or shown, it is there, and the word is that of the account. Only quadlets are read
-- and swapped there.
abbrev pub ShowsWords : Account → Looked → Type 0
ShowsWords l (Asks id) = ⊤
ShowsWords l (Replies r) =
    (q : Request) (offset : ℕ) → IsWatchedAnswer l r q offset
    → (register : Register) × (register_of l.latest q.target q.address ≡ Some register) × (r.word ≡ Some (word_of l register)) × IsQuadlet q.operation
ShowsWords l (Shows s) = IsTrue (is_watched s.offset) → (register : Register) × (register_shown l.latest s ≡ Some register) × (s.word ≡ word_of l register)
ShowsWords l (Happens e) = ⊤
ShowsWords l Other = ⊤
