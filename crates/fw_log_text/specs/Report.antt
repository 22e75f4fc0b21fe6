-- The report of a log's streams (own): a line for each channel that has isochronous packets.
use Rattle.std.specs.Prelude.{ℕ, zero, suc, ◌+◌, ◌==◌, not, List, [], ◌∷◌, ◌++◌, length, flat_map, count_by, codes, decimal, if◌then◌else◌}
use Rattle.std.specs.Option.{is_some}
use Rattle.fw_cip.specs.declared.packet.IsoPacket.{IsoPacket}
use Rattle.fw_cip.specs.declared.listener.Heard.{Heard}
use Rattle.fw_cip.specs.declared.listener.Heard.TheVariants.{Block, Empty, Gap}
use Rattle.fw_cip.specs.Streams.{expected_of, heard}
use Rattle.fw_log_entry.specs.declared.entry.Entry.{Entry}
use Rattle.fw_log_entry.specs.declared.entry.Entry.TheVariants.{Iso}
use Rattle.fw_log_entry.specs.declared.entry.Timed.{Timed}

-- the packet that an entry is, if it is one on this channel
abbrev pub packet_on : ℕ → Entry → List IsoPacket
packet_on channel (Iso p) = if p.channel == channel then p ∷ [] else []
packet_on channel _ = []

-- the packets on a channel, in order
abbrev pub packets_on : ℕ → List Timed → List IsoPacket
packets_on channel entries = flat_map (λ t. packet_on channel t.what) entries

-- how many packets have a block
abbrev pub blocks_of : List IsoPacket → ℕ
blocks_of packets = count_by (λ p. is_some p.block) packets

-- how many packets have no block
abbrev pub empties_of : List IsoPacket → ℕ
empties_of packets = count_by (λ p. not (is_some p.block)) packets

-- a packet that is a gap counts
abbrev pub gap_of : Heard → ℕ
gap_of Block = 0
gap_of Empty = 0
gap_of (Gap expected found) = 1

-- how many of the packets are a gap to a listener that heard others before
abbrev pub gaps_after : List IsoPacket → List IsoPacket → ℕ
gaps_after before [] = 0
gaps_after before (p ∷ ps) = gap_of (heard (expected_of before) p) + gaps_after (before ++ p ∷ []) ps

-- how many packets of a channel are a gap to a listener that hears them all
abbrev pub gaps_of : List IsoPacket → ℕ
gaps_of packets = gaps_after [] packets

-- the line of a channel: how many packets it has, with a block and without one, and how many of them are a gap
abbrev pub counts_text : ℕ → ℕ → ℕ → ℕ → ℕ → List ℕ
counts_text channel packets blocks empties gaps =
    codes "channel " ++ decimal channel ++ codes " packets " ++ decimal packets ++ codes " blocks " ++ decimal blocks
    ++ codes " empty " ++ decimal empties ++ codes " gaps " ++ decimal gaps ++ 10 ∷ []

-- a channel without packets has no line
abbrev pub channel_text : ℕ → List IsoPacket → List ℕ
channel_text channel [] = []
channel_text channel (p ∷ ps) = counts_text channel (length (p ∷ ps)) (blocks_of (p ∷ ps)) (empties_of (p ∷ ps)) (gaps_of (p ∷ ps))

-- the lines of the channels below this one
unfoldable pub channels_text : ℕ → List Timed → List ℕ
channels_text zero entries = []
channels_text (suc channel) entries = channels_text channel entries ++ channel_text channel (packets_on channel entries)

-- the report: the lines of all channels, in order
abbrev pub report_text : List Timed → List ℕ
report_text entries = channels_text 64 entries
