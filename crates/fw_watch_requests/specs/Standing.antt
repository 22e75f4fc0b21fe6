-- The requests at watched registers that stand: those that no response has answered since the latest bus reset, the oldest first, at
-- most 256; and the answers that responses are to them.
use Rattle.std.specs.Prelude.{ℕ, ◌-◌, ◌==◌, ◌&&◌, not, nat_le, Bool, true, false, Option, Some, None, List, [], ◌∷◌, ◌++◌, length, drop, slice_get, if◌then◌else◌}
use Rattle.std.specs.List.{filter, position}
use Rattle.fw_words.specs.Quadlet.{quadlet_at}
use Rattle.fw_words.specs.Swaps.{quadlet_swap}
use Rattle.fw_words.specs.declared.swap.Swap.{Swap as SwapWords}
use Rattle.fw_words.specs.declared.swap.TheConstants.{COMPARE_SWAP}
use Rattle.fw_async.specs.declared.packet.Head.{Head}
use Rattle.fw_async.specs.declared.packet.Packet.{Packet}
use Rattle.fw_async.specs.declared.packet.Packet.TheVariants.{WriteQuadlet, WriteBlock, WriteReply, ReadQuadlet, ReadBlock}
use Rattle.fw_async.specs.declared.packet.Packet.TheVariants.{ReadQuadletReply, ReadBlockReply, CycleStart, Lock as LockRequest, LockReply}
use Rattle.fw_watch_remarks.specs.declared.register.WatchedRegister.{WatchedRegister}
use Rattle.fw_watch_requests.specs.declared.asked.Asking.{Asking}
use Rattle.fw_watch_requests.specs.declared.asked.Asking.TheVariants.{Read, Swap, Lock}
use Rattle.fw_watch_requests.specs.declared.asked.Asked.{Asked}
use Rattle.fw_watch_requests.specs.declared.asked.Answer.{Answer}
use Rattle.fw_watch_remarks.specs.Registers.{register_at}

-- ---- requests

-- what a lock asks: a quadlet compare_swap, or another
abbrev pub lock_by : Option SwapWords → Asking
lock_by None = Lock
lock_by (Some swap) = Swap swap

-- what a lock request asks
abbrev pub lock_of : ℕ → List ℕ → Asking
lock_of function bytes = lock_by (quadlet_swap function bytes)

-- a request at a register
abbrev pub asked_at_register : Head → Option WatchedRegister → Asking → Option Asked
asked_at_register h None asking = None
asked_at_register h (Some register) asking = Some (record { source = h.source; destination = h.destination; label = h.tl; register = register; asking = asking })

-- what is kept of a request at an offset, if a watched register stands there
abbrev pub asked : Head → ℕ → Asking → Option Asked
asked h offset asking = asked_at_register h (register_at offset) asking

-- it asks for a word
abbrev pub is_read : Asking → Bool
is_read Read = true
is_read (Swap swap) = false
is_read Lock = false

-- two tests are one
abbrev pub alike : Bool → Bool → Bool
alike true b = b
alike false b = not b

-- a response to a read, or else to a lock, with this head answers the request
unfoldable pub answers : Bool → Head → Asked → Bool
answers read h q = (q.source == h.destination) && (q.destination == h.source) && (q.label == h.tl) && alike (is_read q.asking) read

-- the request is of the same requester, node and label as a request with this head
unfoldable pub is_of : Head → Asked → Bool
is_of h q = (q.source == h.source) && (q.destination == h.destination) && (q.label == h.tl)

-- the request is of this node_ID
abbrev pub is_from : ℕ → Asked → Bool
is_from source q = q.source == source

-- the requests that a response does not answer
unfoldable pub without_answered : Bool → Head → List Asked → List Asked
without_answered read h list = filter (λ q. not (answers read h q)) list

-- the requests of another requester, node or label
unfoldable pub without_same : Head → List Asked → List Asked
without_same h list = filter (λ q. not (is_of h q)) list

-- the requests of others than this node_ID
unfoldable pub without_source : ℕ → List Asked → List Asked
without_source source list = filter (λ q. not (is_from source q)) list

-- the latest 256 of at most 257
abbrev pub latest : List Asked → List Asked
latest list = if length list == 257 then drop 1 list else list

-- a request more, if there is one
abbrev pub with_request : Option Asked → List Asked → List Asked
with_request None list = list
with_request (Some q) list = latest (list ++ q ∷ [])

-- the outstanding requests after a packet
unfoldable pub standing_following : Packet → List Asked → List Asked
standing_following (WriteQuadlet h offset value) list = without_same h list
standing_following (WriteBlock h offset bytes) list = without_same h list
standing_following (WriteReply h rcode) list = list
standing_following (ReadQuadlet h offset) list = with_request (asked h offset Read) (without_same h list)
standing_following (ReadBlock h offset len) list = without_same h list
standing_following (ReadQuadletReply h rcode value) list = without_answered true h list
standing_following (ReadBlockReply h rcode bytes) list = list
standing_following (CycleStart h offset time) list = list
standing_following (LockRequest h offset function bytes) list = with_request (asked h offset (lock_of function bytes)) (without_same h list)
standing_following (LockReply h rcode function bytes) list = without_answered false h list

-- ---- answers

-- the request at a place of the list, if there is one
abbrev pub asked_at : List Asked → Option ℕ → Option Asked
asked_at list None = None
asked_at list (Some at) = slice_get list at

-- the request that a response answers, if one that stands is it
unfoldable pub answered : Bool → Head → List Asked → Option Asked
answered read h list = asked_at list (position (answers read h) list)

-- the number of the node with this node_ID (IEEE 1394-1995, node_ID: FFC0 and the number)
abbrev pub node_of : ℕ → Option ℕ
node_of id = if nat_le 0xFFC0 id then Some (id - 0xFFC0) else None

-- the word that a lock response shows: the old value of a quadlet compare_swap
unfoldable pub old_word : Asking → ℕ → List ℕ → Option ℕ
old_word Read function bytes = None
old_word (Swap swap) function bytes = if (function == COMPARE_SWAP) && (length bytes == 4) then Some (quadlet_at bytes 0) else None
old_word Lock function bytes = None

-- the swap, if it was made, since the word is its argument, and changed something
unfoldable pub made_by : Asking → Option ℕ → Option SwapWords
made_by (Swap swap) (Some word) = if (word == swap.argument) && not (swap.new == swap.argument) then Some swap else None
made_by (Swap swap) None = None
made_by Read found = None
made_by Lock found = None

-- an answer of a node
abbrev pub answer_of_node : Option ℕ → Asked → Option ℕ → Option Answer
answer_of_node None q found = None
answer_of_node (Some node) q found =
    Some (record { at = record { node = node; register = q.register }; by = q.source; found = found; swap = made_by q.asking found })

-- the answer that a response to a request is, which shows this word
abbrev pub answer_by : Asked → Option ℕ → Option Answer
answer_by q found = answer_of_node (node_of q.destination) q found

-- the answer that a response to a read is
abbrev pub read_answer : Option Asked → ℕ → Option Answer
read_answer None value = None
read_answer (Some q) value = answer_by q (Some value)

-- the answer that a response to a lock is
abbrev pub lock_answer : Option Asked → ℕ → List ℕ → Option Answer
lock_answer None function bytes = None
lock_answer (Some q) function bytes = answer_by q (old_word q.asking function bytes)

-- the answer that a packet is, if it is a complete response (rcode 0) to an outstanding request
unfoldable pub answer_of : List Asked → Packet → Option Answer
answer_of list (WriteQuadlet h offset value) = None
answer_of list (WriteBlock h offset bytes) = None
answer_of list (WriteReply h rcode) = None
answer_of list (ReadQuadlet h offset) = None
answer_of list (ReadBlock h offset len) = None
answer_of list (ReadQuadletReply h rcode value) = if rcode == 0 then read_answer (answered true h list) value else None
answer_of list (ReadBlockReply h rcode bytes) = None
answer_of list (CycleStart h offset time) = None
answer_of list (LockRequest h offset function bytes) = None
answer_of list (LockReply h rcode function bytes) = if rcode == 0 then lock_answer (answered false h list) function bytes else None
