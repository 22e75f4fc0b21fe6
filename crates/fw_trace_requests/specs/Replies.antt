-- What a response says that is told, and what is told of it.
use Rattle.std.specs.Prelude.{ℕ, ◌==◌, List, [], ◌++◌, length, codes, Option, Some, None, if◌then◌else◌}
use Rattle.fw_words.specs.Quadlet.{quadlet_at}
use Rattle.fw_words.specs.declared.swap.Swap.{Swap}
use Rattle.fw_async.specs.declared.packet.Packet.{Packet}
use Rattle.fw_async.specs.declared.packet.Packet.TheVariants.{WriteReply, ReadQuadletReply, ReadBlockReply, LockReply}
use Rattle.fw_log_registers.specs.declared.place.RegisterPlace.{RegisterPlace}
use Rattle.fw_log_registers.specs.Places.{place_of}
use Rattle.fw_log_requests.specs.declared.asked.Answer.{Answer}
use Rattle.fw_log_requests.specs.declared.asked.Answer.TheVariants.{Write as WriteResponse, ReadQuadlet as ReadQuadletResponse, ReadBlock as ReadBlockResponse, Lock as LockResponse}
use Rattle.fw_log_requests.specs.declared.asked.Asked.{Asked}
use Rattle.fw_trace_requests.specs.declared.packets.Reply.{Reply}
use Rattle.fw_trace_names.specs.Names.{Naming}
use Rattle.fw_trace_names.specs.Registers.{named_word}
use Rattle.fw_trace_requests.specs.Answers.{asked_text, rcode_or, made_text}

-- the quadlet of four bytes
abbrev pub quadlet_of : List ℕ → Option ℕ
quadlet_of bytes = if length bytes == 4 then Some (quadlet_at bytes 0) else None

-- what a packet says, if it is a response
unfoldable pub reply_of : Packet → Option Reply
reply_of (WriteReply h rcode) = Some (record { head = h; kind = WriteResponse; rcode = rcode; word = None })
reply_of (ReadQuadletReply h rcode value) = Some (record { head = h; kind = ReadQuadletResponse; rcode = rcode; word = Some value })
reply_of (ReadBlockReply h rcode bytes) = Some (record { head = h; kind = ReadBlockResponse; rcode = rcode; word = None })
reply_of (LockReply h rcode function bytes) = Some (record { head = h; kind = LockResponse; rcode = rcode; word = quadlet_of bytes })
reply_of p = None

-- what a swap brings that found this word
unfoldable pub found_text : Naming → RegisterPlace → Option Swap → ℕ → List ℕ
found_text n place None word = []
found_text n place (Some s) word = made_text n place s word

-- what a word says that a response of this kind brings
unfoldable pub word_told : Naming → Asked → Answer → ℕ → List ℕ
word_told n q WriteResponse word = []
word_told n q ReadQuadletResponse word = named_word n (place_of q.offset) word
word_told n q ReadBlockResponse word = []
word_told n q LockResponse word = found_text n (place_of q.offset) q.swap word

-- what a response brings
unfoldable pub brought_text : Naming → Asked → Answer → Option ℕ → List ℕ
brought_text n q kind None = []
brought_text n q kind (Some word) = word_told n q kind word

-- what a response answers to a request
unfoldable pub reply_text : Naming → Asked → Reply → List ℕ
reply_text n q r = rcode_or r.rcode (brought_text n q r.kind r.word)

-- a response with the request that it answers
unfoldable pub replied_text : Naming → Option Asked → Reply → List ℕ
replied_text n None r = codes "no request"
replied_text n (Some q) r = asked_text q ++ reply_text n q r
