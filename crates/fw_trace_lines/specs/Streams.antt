-- The packets of a command's streams, counted by channel.
use Rattle.std.specs.Prelude.{ℕ, ◌==◌, Bool, List, [], ◌++◌, replicate, slice_index_or, slice_set, codes, decimal, if◌then◌else◌}
use Rattle.std.specs.Option.{is_some}
use Rattle.fw_cip.specs.declared.packet.IsoPacket.{IsoPacket}
use Rattle.fw_outside.specs.Outside.{counted}
use Rattle.fw_trace_lines.specs.declared.streams.Stream.{Stream}
use Rattle.fw_trace_names.specs.Names.{Naming, node_text}

-- no packet
abbrev pub no_stream : Stream
no_stream = record { sender = 0; packets = 0; blocks = 0 }

-- no packet on any channel
abbrev pub no_streams : List Stream
no_streams = replicate 64 no_stream

-- what was counted of a channel
abbrev pub stream_at : List Stream → ℕ → Stream
stream_at streams channel = slice_index_or streams channel no_stream

-- a packet more: the sender is that of the latest one
abbrev pub with_block : Bool → Stream → IsoPacket → Stream
with_block has s p = record { sender = p.cip.sid; packets = counted s.packets; blocks = if has then counted s.blocks else s.blocks }

-- the packets after one more
unfoldable pub with_packet : IsoPacket → List Stream → List Stream
with_packet p streams = slice_set streams p.channel (with_block (is_some p.block) (stream_at streams p.channel) p)

-- so many of a thing
unfoldable pub count_text : ℕ → List ℕ → List ℕ
count_text n noun = decimal n ++ codes " " ++ noun ++ (if n == 1 then [] else codes "s")

-- how many packets and blocks a stream has
unfoldable pub amounts_text : Stream → List ℕ
amounts_text s = count_text s.packets (codes "packet") ++ codes ", " ++ count_text s.blocks (codes "block")

-- the stream on a channel: who sends it, and how much
unfoldable pub stream_text : Naming → ℕ → Stream → List ℕ
stream_text n channel s = node_text n s.sender ++ codes " on channel " ++ decimal channel ++ codes ": " ++ amounts_text s
