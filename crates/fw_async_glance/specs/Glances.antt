-- The packet that a glance tells (IEEE 1394-1995, clause 6.2).
use Rattle.std.specs.Prelude.{◌≡◌, ◌++◌}
use Rattle.std.specs.Int.{to_be_bytes, w32}
use Rattle.fw_words.specs.Swaps.{swap_bytes}
use Rattle.fw_words.specs.declared.swap.TheConstants.{COMPARE_SWAP}
use Rattle.fw_async.specs.declared.packet.Packet.{Packet}
use Rattle.fw_async.specs.declared.packet.Packet.TheVariants as Packets
use Rattle.fw_async_glance.specs.declared.glance.Glance.{Glance}
use Rattle.fw_async_glance.specs.declared.glance.Glance.TheVariants.{Read, ReadReply, Swap, SwapReply, Write, WritePair, WriteReply, CycleStart, Other}

-- it is this packet; of another kind of packet nothing is said
abbrev pub IsGlance : Glance → Packet → Type 0
IsGlance (Read h offset) p = p ≡ Packets.ReadQuadlet h offset
IsGlance (ReadReply h rcode value) p = p ≡ Packets.ReadQuadletReply h rcode value
IsGlance (Swap h offset s) p = p ≡ Packets.Lock h offset COMPARE_SWAP (swap_bytes s)
IsGlance (SwapReply h rcode old) p = p ≡ Packets.LockReply h rcode COMPARE_SWAP (to_be_bytes w32 old)
IsGlance (Write h offset value) p = p ≡ Packets.WriteQuadlet h offset value
IsGlance (WritePair h offset first second) p = p ≡ Packets.WriteBlock h offset (to_be_bytes w32 first ++ to_be_bytes w32 second)
IsGlance (WriteReply h rcode) p = p ≡ Packets.WriteReply h rcode
IsGlance (CycleStart h offset time) p = p ≡ Packets.CycleStart h offset time
IsGlance Other p = Unit {0}
