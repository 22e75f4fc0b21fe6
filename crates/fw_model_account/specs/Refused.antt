-- The entries that no account allows.
use Rattle.fw_log_entry.specs.declared.codes.event.TheConstants.{SECOND_OVER, WITHHELD}
use Rattle.fw_terms.specs.declared.plug.PlugAt.{PlugAt}
use Rattle.fw_terms.specs.declared.label.Label.TheVariants.{Procedure}
use Rattle.fw_terms.specs.Labels.{label_code}
use Rattle.fw_async.specs.declared.packet.Head.{Head}
use Rattle.fw_async.specs.declared.packet.Packet.{Packet}
use Rattle.fw_async.specs.declared.packet.Packet.TheVariants.{WriteQuadlet, WriteBlock, WriteReply, ReadQuadlet, ReadBlock, ReadQuadletReply, ReadBlockReply, CycleStart, Lock, LockReply}
use Rattle.fw_log_entry.specs.declared.entry.Entry.{Entry}
use Rattle.fw_log_entry.specs.declared.entry.EventEntry.{EventEntry}
use Rattle.fw_log_entry.specs.declared.entry.Entry.TheVariants.{Reset, Async, Iso, Event, Outcome, Shown, End}
use Rattle.std.specs.Prelude.{◌≡◌, ◌≢◌, ℕ, Some, None, List, length, IsFalse}
use Rattle.fw_words.specs.Quadlet.{quadlet_at}
use Rattle.fw_words.specs.declared.swap.TheConstants.{COMPARE_SWAP}
use Rattle.fw_model_account.specs.Account.{Account, Reads, Locks, Request}
use Rattle.fw_log_entry.specs.Network.{device_of_id}
use Rattle.fw_model_account.specs.Moves.{Move}
use Rattle.fw_model_account.specs.Words.{Register, register_of}
use Rattle.fw_model_account.specs.Decode.{IsMove}

-- a request of a procedure whose requester is no node of the latest reset entry, or has an outstanding request
pub data IsRequestRefused (h : Head) (l : Account) : Type 0 where
  NoNode : h.tl ≡ label_code Procedure → device_of_id l.latest h.source ≡ None → IsRequestRefused h l
  Overlap : (c : ℕ) → h.tl ≡ label_code Procedure → device_of_id l.latest h.source ≡ Some c → l.outstanding c ≢ None → IsRequestRefused h l

-- a response of a procedure is sent to controller c, which has this request outstanding
pub record Ends (h : Head) (c : ℕ) (request : Request) (l : Account) : Type 0 where
  pub label : h.tl ≡ label_code Procedure
  pub device : device_of_id l.latest h.destination ≡ Some c
  pub outstanding : l.outstanding c ≡ Some request

-- a response to a node that is none or has no outstanding request, or that does not come from the node that was asked
pub data IsReplyRefused (h : Head) (l : Account) : Type 0 where
  NoReceiver : h.tl ≡ label_code Procedure → device_of_id l.latest h.destination ≡ None → IsReplyRefused h l
  NoRequest : (c : ℕ) → h.tl ≡ label_code Procedure → device_of_id l.latest h.destination ≡ Some c → l.outstanding c ≡ None → IsReplyRefused h l
  OtherNode : (c : ℕ) (request : Request) → Ends h c request l → request.target ≢ h.source → IsReplyRefused h l

-- a response to a quadlet read whose request was a lock
pub data IsReadRefused (h : Head) (l : Account) : Type 0 where
  Unexpected : IsReplyRefused h l → IsReadRefused h l
  OtherKind : (c : ℕ) (request : Request) (function : ℕ) (bytes : List ℕ) → Ends h c request l → request.operation ≡ Locks function bytes → IsReadRefused h l

-- A complete response shows the argument of a quadlet compare_swap at a register of the account as the old value.
pub record IsSwap (h : Head) (rcode : ℕ) (old : List ℕ) (c address : ℕ) (bytes : List ℕ) (register : Register) (l : Account) : Type 0 where
  pub ends : Ends h c (record { target = h.source; address = address; operation = Locks COMPARE_SWAP bytes }) l
  pub quadlets : length bytes ≡ 8
  pub complete : rcode ≡ 0
  pub quadlet : length old ≡ 4
  pub shown : quadlet_at old 0 ≡ quadlet_at bytes 0
  pub place : register_of l.latest h.source address ≡ Some register

-- a response to a lock whose request was a read or of another lock function, or a swap that is no move
pub data IsLockRefused (h : Head) (rcode function : ℕ) (old : List ℕ) (l : Account) : Type 0 where
  Unexpected : IsReplyRefused h l → IsLockRefused h rcode function old l
  WasRead : (c : ℕ) (request : Request) → Ends h c request l → request.operation ≡ Reads → IsLockRefused h rcode function old l
  OtherFunction : (c : ℕ) (request : Request) (asked : ℕ) (bytes : List ℕ) → Ends h c request l → request.operation ≡ Locks asked bytes → asked ≢ function → IsLockRefused h rcode function old l
  NoMove : (c address : ℕ) (bytes : List ℕ) (register : Register) → function ≡ COMPARE_SWAP → IsSwap h rcode old c address bytes register l
      → ((p : PlugAt) (m : Move) → IsMove c p m register (quadlet_at bytes 0) (quadlet_at bytes 4) l → ⊥) → IsLockRefused h rcode function old l

-- the packet is such a request or response
abbrev pub IsPacketRefused : Packet → Account → Type 0
IsPacketRefused (WriteQuadlet h offset value) l = ⊥
IsPacketRefused (WriteBlock h offset bytes) l = ⊥
IsPacketRefused (WriteReply h rcode) l = ⊥
IsPacketRefused (ReadQuadlet h offset) l = IsRequestRefused h l
IsPacketRefused (ReadBlock h offset len) l = ⊥
IsPacketRefused (ReadQuadletReply h rcode value) l = IsReadRefused h l
IsPacketRefused (ReadBlockReply h rcode bytes) l = ⊥
IsPacketRefused (CycleStart h offset time) l = ⊥
IsPacketRefused (Lock h offset function bytes) l = IsRequestRefused h l
IsPacketRefused (LockReply h rcode function bytes) l = IsLockRefused h rcode function bytes l

-- an event that ends a reclaim second if none runs, or withholds channel 31 after a reset entry
pub data IsEventRefused (e : EventEntry) (l : Account) : Type 0 where
  NoSecond : e.code ≡ SECOND_OVER → IsFalse l.reclaiming → IsEventRefused e l
  TooLate : e.code ≡ WITHHELD → l.latest ≢ None → IsEventRefused e l

-- the entry has no account after it: such a packet, or such an event
abbrev pub IsRefused : Entry → Account → Type 0
IsRefused (Reset r) l = ⊥
IsRefused (Async p) l = IsPacketRefused p l
IsRefused (Iso p) l = ⊥
IsRefused (Event e) l = IsEventRefused e l
IsRefused (Outcome o) l = ⊥
IsRefused (Shown s) l = ⊥
IsRefused End l = ⊥
