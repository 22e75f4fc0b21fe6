-- What requests ask, and what responses answer.
use Rattle.std.specs.Prelude.{ℕ, ◌==◌, List, [], ◌∷◌, ◌++◌, length, codes, Option, Some, None, if◌then◌else◌}
use Rattle.std.specs.Int.{to_be_bytes, w32}
use Rattle.fw_words.specs.Quadlet.{quadlet_at}
use Rattle.fw_words.specs.declared.swap.Swap.{Swap}
use Rattle.fw_async.specs.declared.packet.Packet.{Packet}
use Rattle.fw_async.specs.declared.packet.Packet.TheVariants.{WriteQuadlet, WriteBlock, WriteReply, ReadQuadletReply, ReadBlockReply, LockReply}
use Rattle.fw_log_names.specs.Names.{rcode_name}
use Rattle.fw_text.specs.Texts.{named, quadlet_text}
use Rattle.fw_log_registers.specs.declared.place.RegisterPlace.{RegisterPlace}
use Rattle.fw_log_registers.specs.Places.{place_of}
use Rattle.fw_log_registers.specs.Words.{place_text}
use Rattle.fw_log_frames.specs.Frames.{frame_text}
use Rattle.fw_log_requests.specs.declared.asked.Answer.{Answer}
use Rattle.fw_log_requests.specs.declared.asked.Answer.TheVariants.{Write as WriteResponse, ReadQuadlet as ReadQuadletResponse, ReadBlock as ReadBlockResponse, Lock as LockResponse}
use Rattle.fw_log_requests.specs.declared.asked.Asked.{Asked}
use Rattle.fw_trace_names.specs.Names.{Naming}
use Rattle.fw_trace_names.specs.Registers.{named_word, changes_of}

-- a swap that is asked: its argument, and the new word
unfoldable pub swap_asked : RegisterPlace → Option Swap → List ℕ
swap_asked place None = codes "lock " ++ place_text place
swap_asked place (Some s) = codes "swap " ++ place_text place ++ quadlet_text s.argument ++ codes " to" ++ quadlet_text s.new

-- what is asked at a place; a run reads quadlets, swaps and writes
abbrev pub asked_at : Answer → RegisterPlace → Option Swap → List ℕ
asked_at WriteResponse place swap = codes "write " ++ place_text place
asked_at ReadQuadletResponse place swap = codes "read " ++ place_text place
asked_at ReadBlockResponse place swap = codes "read " ++ place_text place
asked_at LockResponse place swap = swap_asked place swap

-- what a request asks
unfoldable pub asked_text : Asked → List ℕ
asked_text q = asked_at q.answer (place_of q.offset) q.swap

-- the frame that a request carries
unfoldable pub carried_text : Packet → List ℕ
carried_text (WriteQuadlet h offset value) = frame_text (to_be_bytes w32 value)
carried_text (WriteBlock h offset bytes) = frame_text bytes
carried_text p = []

-- what a swap at a place would change
unfoldable pub changes_by : Naming → RegisterPlace → Option Swap → List ℕ
changes_by n place None = []
changes_by n place (Some s) = changes_of n place s

-- what a request would change, if it is a swap
abbrev pub changes_asked : Naming → Asked → List ℕ
changes_asked n q = changes_by n (place_of q.offset) q.swap

-- what a swap would change that no answer has decided
unfoldable pub if_made : List ℕ → List ℕ
if_made [] = []
if_made (b ∷ bs) = codes "; if made" ++ b ∷ bs

-- an answer that is not complete is its code, and another what it brings
unfoldable pub rcode_or : ℕ → List ℕ → List ℕ
rcode_or rcode brought = if rcode == 0 then brought else codes ": " ++ named (rcode_name rcode) (codes "rcode") rcode

-- a swap was not made that found this word
unfoldable pub not_made_text : Naming → RegisterPlace → ℕ → List ℕ
not_made_text n place word = codes ": not made," ++ named_word n place word

-- whether a swap was made that found this word
unfoldable pub made_text : Naming → RegisterPlace → Swap → ℕ → List ℕ
made_text n place s word = if word == s.argument then codes ": made" ++ changes_of n place s else not_made_text n place word

-- what a swap brings
unfoldable pub swapped_text : Naming → RegisterPlace → Option Swap → List ℕ → List ℕ
swapped_text n place None bytes = []
swapped_text n place (Some s) bytes = if length bytes == 4 then made_text n place s (quadlet_at bytes 0) else []

-- what a response answers to a request
unfoldable pub answer_text : Naming → Asked → Packet → List ℕ
answer_text n q (WriteReply h rcode) = rcode_or rcode []
answer_text n q (ReadQuadletReply h rcode value) = rcode_or rcode (named_word n (place_of q.offset) value)
answer_text n q (ReadBlockReply h rcode bytes) = rcode_or rcode []
answer_text n q (LockReply h rcode function bytes) = rcode_or rcode (swapped_text n (place_of q.offset) q.swap bytes)
answer_text n q p = []

-- a response with the request that it answers; in a run there always is one
unfoldable pub response_text : Naming → Option Asked → Packet → List ℕ
response_text n None p = codes "no request"
response_text n (Some q) p = asked_text q ++ answer_text n q p
