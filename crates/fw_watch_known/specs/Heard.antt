-- Isochronous packets: whose they are, and what they show.
use Rattle.std.specs.Prelude.{ℕ, ◌-◌, ◌==◌, ◌&&◌, ◌||◌, not, nat_lt, Bool, false, is_some, is_none, slice_set, Option, Some, None, if◌then◌else◌}
use Rattle.fw_watch_remarks.specs.declared.known.Managed.{Managed}
use Rattle.fw_watch_known.specs.declared.channel.Channel.{Channel}
use Rattle.fw_watch_known.specs.declared.state.State.{State}
use Rattle.fw_watch_known.specs.declared.hear.Heard.{Heard}
use Rattle.fw_watch_known.specs.declared.hear.Packet.{Packet}
use Rattle.fw_watch_remarks.specs.Knowing.{is_known_set}
use Rattle.fw_watch_remarks.specs.Remarks.{counted}
use Rattle.fw_watch_known.specs.Channels.{channel_at, others_on}
use Rattle.fw_watch_known.specs.States.{is_absent}

-- a channel is known to be free
abbrev pub is_known_free : Managed → ℕ → Bool
is_known_free managed channel =
    if nat_lt channel 32 then is_known_set managed.high channel
    else if nat_lt channel 64 then is_known_set managed.low (channel - 32) else false

-- it is known to be free, and no second runs in which it may be taken anew
unfoldable pub is_free : State → ℕ → Bool
is_free s channel = if is_some s.second.since || is_absent s.manager then false else is_known_free s.managed channel

-- the sender of a channel, if a packet of this node is another's
abbrev pub other_sender : ℕ → Option ℕ → Option ℕ
other_sender sid None = None
other_sender sid (Some sender) = if sender == sid then None else Some sender

-- it is this node
abbrev pub is_sender : ℕ → Option ℕ → Bool
is_sender sid None = false
is_sender sid (Some sender) = sender == sid

-- The nodes of the output plugs on the channel, unless they were told, or the packet's node is the known sender or one of them. (Of the known sender they
-- were looked for when it became that, and no plug has come to the channel or left it since.)
unfoldable pub owners_of : State → Channel → ℕ → ℕ → ℕ
owners_of s row channel sid = if row.noted.plug || is_sender sid row.sender then 0 else others_on s.plugs channel sid

-- what a packet shows of a channel that was not told
abbrev pub heard_on : Channel → State → Packet → Heard
heard_on row s p = record {
  first = if row.noted.two then None else other_sender p.sid row.sender;
  free = not row.noted.free && is_free s p.channel;
  owners = owners_of s row p.channel p.sid;
}

-- what a packet shows
unfoldable pub heard : State → Packet → Heard
heard s p = heard_on (channel_at s.channels p.channel) s p

-- it shows nothing
abbrev pub nothing_heard : Heard
nothing_heard = record { first = None; free = false; owners = 0 }

-- a packet is of the known sender of its channel, which is not due, and nothing is to be told of that it is free
unfoldable pub is_usual : State → Packet → Bool
is_usual s p =
    is_sender p.sid (channel_at s.channels p.channel).sender && is_none (channel_at s.channels p.channel).due
    && ((channel_at s.channels p.channel).noted.free || not (is_free s p.channel))

-- the sender that a channel has, or the node of its first packet
abbrev pub sender_after : ℕ → Option ℕ → ℕ
sender_after sid None = sid
sender_after sid (Some sender) = sender

-- what is kept of a channel after a packet that showed this: its first sender stays
unfoldable pub channel_after : ℕ → Heard → Channel → Channel
channel_after sid h row = record {
  due = None;
  sender = Some (sender_after sid row.sender);
  noted = record { two = row.noted.two || is_some h.first; free = row.noted.free || h.free; plug = row.noted.plug || not (h.owners == 0) };
}

-- a packet is counted, and what it showed was told
unfoldable pub after_heard : State → Packet → State
after_heard s p = record s {
  channels = slice_set s.channels p.channel (channel_after p.sid (heard s p) (channel_at s.channels p.channel));
  counts = record s.counts { packets = counted s.counts.packets };
}
