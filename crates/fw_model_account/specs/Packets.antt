-- What the account reads of packets: requests and responses for quadlet reads and for locks, with the label of procedures.
use Rattle.fw_terms.specs.declared.plug.PlugAt.{PlugAt}
use Rattle.fw_terms.specs.declared.label.Label.TheVariants.{Procedure}
use Rattle.fw_terms.specs.Labels.{label_code}
use Rattle.fw_async.specs.declared.packet.Head.{Head}
use Rattle.fw_async.specs.declared.packet.Packet.{Packet}
use Rattle.fw_async.specs.declared.packet.Packet.TheVariants.{WriteQuadlet, WriteBlock, WriteReply, ReadQuadlet, ReadBlock, ReadQuadletReply, ReadBlockReply, CycleStart, Lock, LockReply}
use Rattle.std.specs.Prelude.{ℕ, ◌==◌, Bool, true, false, ◌&&◌, if◌then◌else◌, Option, Some, None, is_none, List, length}
use Rattle.fw_terms.specs.Tables.{update}
use Rattle.fw_words.specs.Quadlet.{quadlet_at}
use Rattle.fw_words.specs.declared.swap.TheConstants.{COMPARE_SWAP}
use Rattle.fw_model_account.specs.Account.{Account, Operation, Reads, Locks, Request, has_pending}
use Rattle.fw_log_entry.specs.Network.{device_of_id}
use Rattle.fw_model_account.specs.Moves.{Move, after}
use Rattle.fw_model_account.specs.Words.{Register, register_of, output_addressed}
use Rattle.fw_model_account.specs.Decode.{move_at}

-- ---- requests

-- which plug each controller last addressed, after a request of c at this output plug or another place
abbrev pub addressed_after : ℕ → Option PlugAt → Account → ℕ → Option PlugAt
addressed_after c None l = l.addressed
addressed_after c (Some p) l = if has_pending c l.allocations then l.addressed else update l.addressed c (Some p)

-- The request is outstanding. An output plug whose register it is at becomes the one that controller c last addressed,
-- unless c has a Pending allocation.
abbrev pub asked : ℕ → Request → Account → Account
asked c request l = record l {
  addressed = addressed_after c (output_addressed l.latest request.target request.address) l;
  outstanding = update l.outstanding c (Some request);
}

-- the request comes from a node of the latest reset entry that has no outstanding request
abbrev pub asked_by : Option ℕ → Request → Account → Option Account
asked_by None request l = None
asked_by (Some c) request l = if is_none (l.outstanding c) then Some (asked c request l) else None

-- ---- responses

-- what a response says: that a quadlet was read, or the response code and the old value of a lock function
pub data Reply : Type 0 where
  Read : Reply
  Locked : (function : ℕ) → (rcode : ℕ) → (old : List ℕ) → Reply

-- the outstanding request has ended
abbrev pub ended : ℕ → Account → Account
ended c l = record l { outstanding = update l.outstanding c None }

-- a response of this kind, and for a lock of this function, is to such a request
abbrev pub is_reply_to : Operation → Reply → Bool
is_reply_to Reads Read = true
is_reply_to Reads (Locked function rcode old) = false
is_reply_to (Locks asked bytes) Read = false
is_reply_to (Locks asked bytes) (Locked function rcode old) = asked == function

-- a quadlet compare_swap, with argument and data value of four bytes each
abbrev pub is_quadlet_swap : ℕ → List ℕ → Bool
is_quadlet_swap function bytes = (function == COMPARE_SWAP) && (length bytes == 8)

-- A quadlet compare_swap (with argument and data value of four bytes each) is complete and shows its argument
-- as the old value.
abbrev pub is_swapped : ℕ → List ℕ → ℕ → List ℕ → Bool
is_swapped function bytes rcode old = (function == COMPARE_SWAP) && (length bytes == 8) && (rcode == 0) && (length old == 4) && (quadlet_at old 0 == quadlet_at bytes 0)

-- the move that it is, and the end of the request
abbrev pub moved : ℕ → Option (PlugAt × Move) → Account → Option Account
moved c None l = None
moved c (Some m) l = Some (ended c (after c m.0 m.1 l))

-- a register of the account was swapped, or another
abbrev pub swapped : ℕ → Option Register → ℕ → ℕ → Account → Option Account
swapped c None arg new l = Some (ended c l)
swapped c (Some register) arg new l = moved c (move_at l c register arg new) l

-- what a response to this request makes
abbrev pub replied : ℕ → Request → Operation → Reply → Account → Option Account
replied c request Reads reply l = Some (ended c l)
replied c request (Locks function bytes) Read l = Some (ended c l)
replied c request (Locks function bytes) (Locked f rcode old) l =
    if is_swapped function bytes rcode old then swapped c (register_of l.latest request.target request.address) (quadlet_at bytes 0) (quadlet_at bytes 4) l else Some (ended c l)

-- The response is to the outstanding request of controller c, and comes from the node that was asked.
abbrev pub replied_to : ℕ → Option Request → ℕ → Reply → Account → Option Account
replied_to c None source reply l = None
replied_to c (Some request) source reply l = if (request.target == source) && is_reply_to request.operation reply then replied c request request.operation reply l else None

-- a response to the node with this device
abbrev pub answered : Option ℕ → ℕ → Reply → Account → Option Account
answered None source reply l = None
answered (Some c) source reply l = replied_to c (l.outstanding c) source reply l

-- ---- packets

-- the account after a request
abbrev pub after_request : Head → ℕ → Operation → Account → Option Account
after_request h address operation l = if h.tl == label_code Procedure then asked_by (device_of_id l.latest h.source) (record { target = h.destination; address = address; operation = operation }) l
    else Some l

-- the account after a response
abbrev pub after_reply : Head → Reply → Account → Option Account
after_reply h reply l = if h.tl == label_code Procedure then answered (device_of_id l.latest h.destination) h.source reply l else Some l

-- the account after a packet
abbrev pub after_packet : Packet → Account → Option Account
after_packet (WriteQuadlet h offset value) l = Some l
after_packet (WriteBlock h offset bytes) l = Some l
after_packet (WriteReply h rcode) l = Some l
after_packet (ReadQuadlet h offset) l = after_request h offset Reads l
after_packet (ReadBlock h offset len) l = Some l
after_packet (ReadQuadletReply h rcode value) l = after_reply h Read l
after_packet (ReadBlockReply h rcode bytes) l = Some l
after_packet (CycleStart h offset time) l = Some l
after_packet (Lock h offset function bytes) l = after_request h offset (Locks function bytes) l
after_packet (LockReply h rcode function bytes) l = after_reply h (Locked function rcode bytes) l
