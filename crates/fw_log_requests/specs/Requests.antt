-- The outstanding requests: those that no response has answered since the latest bus reset, the oldest first, at most 256.
use Rattle.std.specs.Prelude.{ℕ, ◌==◌, ◌&&◌, not, Bool, Option, Some, None, List, [], ◌∷◌, ◌++◌, length, drop, slice_get, if◌then◌else◌}
use Rattle.std.specs.List.{filter, position}
use Rattle.fw_async.specs.declared.packet.Head.{Head}
use Rattle.fw_async.specs.declared.packet.Packet.{Packet}
use Rattle.fw_async.specs.declared.packet.Packet.TheVariants.{WriteQuadlet, WriteBlock, WriteReply, ReadQuadlet, ReadBlock, ReadQuadletReply, ReadBlockReply, CycleStart, Lock, LockReply}
use Rattle.fw_words.specs.declared.swap.Swap.{Swap}
use Rattle.fw_words.specs.Swaps.{quadlet_swap}
use Rattle.fw_log_entry.specs.declared.entry.Entry.{Entry}
use Rattle.fw_log_entry.specs.declared.entry.Entry.TheVariants.{Reset, Async, Iso, Event, Outcome, Shown, End}
use Rattle.fw_log_entry.specs.declared.entry.Timed.{Timed}
use Rattle.fw_log_requests.specs.declared.asked.Answer.{Answer}
use Rattle.fw_log_requests.specs.declared.asked.Answer.TheVariants.{Write as WriteResponse, ReadQuadlet as ReadQuadletResponse, ReadBlock as ReadBlockResponse, Lock as LockResponse}
use Rattle.fw_log_requests.specs.declared.asked.Asked.{Asked}

-- the transaction code of a response (IEEE 1394-1995, transaction codes)
abbrev pub tcode_of : Answer → ℕ
tcode_of WriteResponse = 2
tcode_of ReadQuadletResponse = 6
tcode_of ReadBlockResponse = 7
tcode_of LockResponse = 11

-- what is kept of a request that a response of this kind answers
abbrev pub asked : Head → Answer → ℕ → Option Swap → Asked
asked h answer offset swap = record { source = h.source; destination = h.destination; label = h.tl; answer = answer; offset = offset; swap = swap }

-- what is kept of a packet, if it is a request
unfoldable pub asked_by : Packet → Option Asked
asked_by (WriteQuadlet h offset value) = Some (asked h WriteResponse offset None)
asked_by (WriteBlock h offset bytes) = Some (asked h WriteResponse offset None)
asked_by (WriteReply h rcode) = None
asked_by (ReadQuadlet h offset) = Some (asked h ReadQuadletResponse offset None)
asked_by (ReadBlock h offset len) = Some (asked h ReadBlockResponse offset None)
asked_by (ReadQuadletReply h rcode value) = None
asked_by (ReadBlockReply h rcode bytes) = None
asked_by (CycleStart h offset time) = None
asked_by (Lock h offset function bytes) = Some (asked h LockResponse offset (quadlet_swap function bytes))
asked_by (LockReply h rcode function bytes) = None

-- a response of this kind with this head answers the request
unfoldable pub answers : Answer → Head → Asked → Bool
answers answer h q = (q.source == h.destination) && (q.destination == h.source) && (q.label == h.tl) && (tcode_of q.answer == tcode_of answer)

-- two requests have the same source, destination and label
unfoldable pub is_same : Asked → Asked → Bool
is_same q r = (q.source == r.source) && (q.destination == r.destination) && (q.label == r.label)

-- the requests of which a response answers one, without it
unfoldable pub without_answered : Answer → Head → List Asked → List Asked
without_answered answer h list = filter (λ q. not (answers answer h q)) list

-- the requests with another source, destination or label
unfoldable pub without_same : Asked → List Asked → List Asked
without_same q list = filter (λ r. not (is_same q r)) list

-- the latest 256 of at most 257
abbrev pub latest : List Asked → List Asked
latest list = if length list == 257 then drop 1 list else list

-- the outstanding requests after a request, which takes the place of one with its source, destination and label
unfoldable pub with_request : Asked → List Asked → List Asked
with_request q list = latest (without_same q list ++ q ∷ [])

-- the outstanding requests after a packet, if it asks anything
abbrev pub with_requested : Option Asked → List Asked → List Asked
with_requested None list = list
with_requested (Some q) list = with_request q list

-- the outstanding requests after a packet
unfoldable pub standing_following : Packet → List Asked → List Asked
standing_following (WriteReply h rcode) list = without_answered WriteResponse h list
standing_following (ReadQuadletReply h rcode value) list = without_answered ReadQuadletResponse h list
standing_following (ReadBlockReply h rcode bytes) list = without_answered ReadBlockResponse h list
standing_following (LockReply h rcode function bytes) list = without_answered LockResponse h list
standing_following p list = with_requested (asked_by p) list

-- those after an entry: a bus reset ends all
abbrev pub standing_after : Entry → List Asked → List Asked
standing_after (Reset r) list = []
standing_after (Async p) list = standing_following p list
standing_after (Iso p) list = list
standing_after (Event e) list = list
standing_after (Outcome o) list = list
standing_after (Shown s) list = list
standing_after End list = list

-- those after entries that follow
abbrev pub standing_from : List Asked → List Timed → List Asked
standing_from list [] = list
standing_from list (t ∷ ts) = standing_from (standing_after t.what list) ts

-- the outstanding requests after the entries of a log
abbrev pub standing : List Timed → List Asked
standing entries = standing_from [] entries

-- the request at a place of the list, if there is one
abbrev pub asked_at : List Asked → Option ℕ → Option Asked
asked_at list None = None
asked_at list (Some at) = slice_get list at

-- the request that a response answers, if one that stands is it
unfoldable pub answered : Answer → Head → List Asked → Option Asked
answered answer h list = asked_at list (position (answers answer h) list)
