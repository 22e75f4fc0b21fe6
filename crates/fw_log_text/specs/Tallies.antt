-- What the counts of a report stand for.
use Rattle.std.specs.Prelude.{◌≡◌, ℕ, List, Some, length, slice_get}
use Rattle.fw_cip.specs.declared.packet.IsoPacket.{IsoPacket}
use Rattle.fw_cip.specs.Streams.{expected_of}
use Rattle.fw_log_entry.specs.declared.entry.Timed.{Timed}
use Rattle.fw_log_text.specs.declared.report.Channel.{Channel}
use Rattle.fw_log_text.specs.Report.{packets_on, blocks_of, gaps_of}

-- the counts are those of these packets of the channel
pub record Counts (packets : List IsoPacket) (c : Channel) : Type 0 where
  pub listener : c.listener ≡ expected_of packets
  pub count : c.packets ≡ length packets
  pub blocks : c.blocks ≡ blocks_of packets
  pub gaps : c.gaps ≡ gaps_of packets

-- there are all channels, each with the counts of its packets among these entries
pub record Reports (entries : List Timed) (channels : List Channel) : Type 0 where
  pub all : length channels ≡ 64
  pub each : (channel : ℕ) (c : Channel) → slice_get channels channel ≡ Some c → Counts (packets_on channel entries) c
