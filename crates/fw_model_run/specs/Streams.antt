-- Streams: the cycle start of a cycle, and the packet that each output plug that talks sends in it (IEEE 1394-1995, cycle start; IEC 61883-1 and -2).
use Rattle.std.specs.Prelude.{ℕ, ◌≡◌, zero, suc, ◌-◌, ◌==◌, ◌&&◌, List, [], ◌∷◌, ◌++◌, Option, Some, None, IfSome, is_some, if◌then◌else◌}
use Rattle.std.specs.Option.{option_map}
use Rattle.fw_csr.specs.declared.offset.TheConstants.{CYCLE_TIME}
use Rattle.fw_terms.specs.declared.plug.PlugAt.{PlugAt}
use Rattle.fw_terms.specs.Tables.{find_plug}
use Rattle.fw_async.specs.declared.packet.Packet.{Packet}
use Rattle.fw_async.specs.declared.packet.Packet.TheVariants.{CycleStart}
use Rattle.fw_cip.specs.declared.packet.IsoPacket.{IsoPacket}
use Rattle.fw_cip.specs.Iso.{IsBlock}
use Rattle.fw_cip.specs.Streams.{packet_after}
use Rattle.fw_tape.specs.declared.cassette.BlockPlace.{BlockPlace}
use Rattle.fw_tape.specs.declared.cassette.Cassette.{Cassette}
use Rattle.fw_tape.specs.Blocks.{block_now}
use Rattle.fw_tape.specs.Motion.{is_fifty}
use Rattle.fw_model_account.specs.Account.{Account, talks}
use Rattle.fw_model_account.specs.Words.{node_of}
use Rattle.fw_node.specs.Contents.{node_id, cycle_time}
use Rattle.fw_model_run.specs.State.{State}

-- ---- who talks

-- the output plug that talks on a channel, if one does
abbrev pub talker_on : Account → ℕ → Option PlugAt
talker_on l channel = find_plug (λ p. talks l p && ((l.settings p).channel == channel))

-- the plug, if there is one
abbrev pub those : Option PlugAt → List PlugAt
those None = []
those (Some p) = p ∷ []

-- those that talk on the first n channels, in order of channel
unfoldable pub talkers_to : ℕ → Account → List PlugAt
talkers_to zero l = []
talkers_to (suc n) l = talkers_to n l ++ those (talker_on l n)

-- all that talk, in order of channel
abbrev pub talkers : Account → List PlugAt
talkers l = talkers_to 64 l

-- ---- the cycle start

-- a broadcast of the root, whatever device it is (own): transaction label and retry code 0, priority F, the root's CYCLE_TIME
abbrev pub cycle_start : ℕ → ℕ → Packet
cycle_start root cycle = CycleStart (record { destination = 0xFFFF; tl = 0; rt = 0; pri = 15; source = node_id root }) CYCLE_TIME (cycle_time cycle)

-- ---- blocks

-- a block that a tape gives: where it stands on the tape, and its bytes
pub record GivenBlock : Type 0 where
  pub place : BlockPlace
  pub bytes : List ℕ

-- the bytes of a block, if there is one
abbrev pub bytes_of : Option GivenBlock → Option (List ℕ)
bytes_of block = option_map (λ (b : GivenBlock). b.bytes) block

-- the tape of an output plug's device
abbrev pub tape_at : State → PlugAt → Option Cassette
tape_at s p = (s.decks p.device).unit.tape

-- the plug's tape gives this block in the cycle that has come: one is there exactly if one is due; any bytes are allowed here
pub record GivesBlock (s : State) (p : PlugAt) (block : Option GivenBlock) : Type 0 where
  pub due : option_map (λ (b : GivenBlock). b.place) block ≡ block_now (tape_at s p)
  pub bytes : IfSome block (λ b. IsBlock b.bytes)

-- ---- packets

-- the data packets that a plug has sent before the cycle that has come: its count has that of the cycle already
abbrev pub sent_before : State → PlugAt → ℕ
sent_before s p = s.streams p - (if is_some (block_now (tape_at s p)) then 1 else 0)

-- the packet of a plug in the cycle that has come, with these bytes or empty: its DBC counts the data packets before it
abbrev pub stream_packet : State → PlugAt → Option (List ℕ) → IsoPacket
stream_packet s p bytes = packet_after (s.account.settings p).channel (sent_before s p) (node_of s.account.latest p.device) (is_fifty (tape_at s p)) bytes
