-- Two senders on one channel, and what moves a channel, so that its senders are to be seen anew.
use Rattle.std.specs.Prelude.{◌≡◌, ℕ, ◌-◌, ◌==◌, ◌&&◌, ◌||◌, not, nat_le, nat_lt, Bool, true, false, List, [], ◌∷◌, ◌++◌, Option, Some, None}
use Rattle.std.specs.List.{list_any}
use Rattle.fw_cip.specs.declared.packet.IsoPacket.{IsoPacket}
use Rattle.fw_log_entry.specs.declared.entry.Entry.{Entry}
use Rattle.fw_log_entry.specs.declared.entry.Entry.TheVariants.{Reset, Async, Iso, Event, Outcome, Shown, End}
use Rattle.fw_log_entry.specs.declared.entry.Timed.{Timed}
use Rattle.fw_watch_remarks.specs.declared.known.Known.{Known}
use Rattle.fw_watch_remarks.specs.declared.register.WatchedRegister.{WatchedRegister}
use Rattle.fw_watch_remarks.specs.declared.register.WatchedRegister.TheVariants.{Bandwidth, ChannelsHigh, ChannelsLow, Output, Input}
use Rattle.fw_watch_remarks.specs.declared.remark.Remark.{Remark}
use Rattle.fw_watch_remarks.specs.declared.remark.Remark.TheVariants.{TwoSenders}
use Rattle.fw_watch_remarks.specs.Knowing.{all_known, is_forgotten, channel_of, is_channel}
use Rattle.fw_watch_remarks.specs.Remarks.{Said}
use Rattle.fw_watch_known.specs.declared.state.State.{State}
use Rattle.fw_watch_known.specs.Channels.{same_channel}
use Rattle.fw_watch_known.specs.States.{known_of}
use Rattle.fw_watch.specs.Steps.{remarks, after}
use Rattle.fw_watch.specs.Watched.{known}
use Rattle.fw_watch_laws.specs.LastKnown.{Glimpse, glimpse}

-- an isochronous packet of a node on a channel
pub record IsPacket (t : Timed) (channel sid : ℕ) : Type 0 where
  pub packet : IsoPacket
  pub iso : t.what ≡ Iso packet
  pub on : packet.channel ≡ channel
  pub sender : packet.cip.sid ≡ sid

-- the bit of a channel, in the half that begins with this one, is known no longer, or is another one
abbrev pub half_changes : ℕ → Known → Known → ℕ → Bool
half_changes first old now channel = nat_le first channel && nat_lt (channel - first) 32 && is_forgotten old now (channel - first)

-- a plug is on the channel, or was, and is not on the same as it was
abbrev pub plug_changes : Option ℕ → Option ℕ → ℕ → Bool
plug_changes old now channel = not (same_channel old now) && (is_channel channel old || is_channel channel now)

-- what becomes known of a register moves a channel: its bit changes, or a plug comes to it or leaves it
abbrev pub changes : WatchedRegister → Known → Known → ℕ → Bool
changes Bandwidth old now channel = false
changes ChannelsHigh old now channel = half_changes 0 old now channel
changes ChannelsLow old now channel = half_changes 32 old now channel
changes (Output number) old now channel = plug_changes (channel_of old) (channel_of now) channel
changes (Input number) old now channel = plug_changes (channel_of old) (channel_of now) channel

-- a word that is found, and what is known then, move a channel
abbrev pub found_moves : WatchedRegister → Known → Option ℕ → Known → ℕ → Bool
found_moves register old None left channel = changes register old left channel
found_moves register old (Some found) left channel = changes register old (all_known found) channel || changes register (all_known found) left channel

-- what is seen of a register moves a channel
abbrev pub glimpse_moves : State → Option Glimpse → ℕ → Bool
glimpse_moves s None channel = false
glimpse_moves s (Some g) channel = found_moves g.at.register (known_of s g.at) g.found g.left channel

-- an entry moves a channel: a bus reset does, and an answer or a shown word that changes its bit or whether a plug is on it
abbrev pub moves : State → Entry → ℕ → Bool
moves s (Reset r) channel = true
moves s (Async p) channel = glimpse_moves s (glimpse s (Async p)) channel
moves s (Iso p) channel = false
moves s (Event e) channel = false
moves s (Outcome o) channel = false
moves s (Shown w) channel = glimpse_moves s (glimpse s (Shown w)) channel
moves s End channel = false

-- no entry moves the channel
abbrev pub stays : State → List Timed → ℕ → Bool
stays s [] channel = true
stays s (t ∷ ts) channel = not (moves s t.what channel) && stays (after s t) ts channel

-- it tells that the channel has two senders
abbrev pub tells_two : ℕ → Remark → Bool
tells_two channel (TwoSenders k first second) = k == channel
tells_two channel _ = false

-- what is said is that
abbrev pub is_two : ℕ → Said → Bool
is_two channel s = tells_two channel s.remark

-- that a channel has two senders was told of an entry, and nothing has moved the channel since
pub record TwoTold (entries : List Timed) (channel : ℕ) : Type 0 where
  pub before : List Timed
  pub entry : Timed
  pub following : List Timed
  pub parts : entries ≡ before ++ entry ∷ following
  pub told : list_any (is_two channel) (remarks (known before) entry) ≡ true
  pub since : stays (known (before ++ entry ∷ [])) following channel ≡ true
