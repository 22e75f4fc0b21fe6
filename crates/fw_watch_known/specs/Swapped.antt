-- Swaps that were made and changed something: what is known then.
use Rattle.std.specs.Prelude.{ℕ, ◌==◌, Option, Some, None, if◌then◌else◌}
use Rattle.fw_watch_remarks.specs.declared.register.WatchedRegister.{WatchedRegister}
use Rattle.fw_watch_remarks.specs.declared.register.WatchedRegister.TheVariants.{Bandwidth, ChannelsHigh, ChannelsLow, Output, Input}
use Rattle.fw_watch_known.specs.declared.state.State.{State}
use Rattle.fw_watch_known.specs.declared.swap.Made.{Made}
use Rattle.fw_watch_remarks.specs.Knowing.{all_known}
use Rattle.fw_watch_known.specs.Channels.{with_dues}
use Rattle.fw_watch_requests.specs.Standing.{node_of}
use Rattle.fw_watch_known.specs.States.{counted_second, with_known}

-- the node that holds what it takes, if it is one of the local bus
abbrev pub holder_of : ℕ → Option ℕ
holder_of by = if by == 65535 then None else node_of by

-- who took channels of a half is to use them within a second
unfoldable pub with_holder : Option ℕ → Made → ℕ → State → State
with_holder None m first s = s
with_holder (Some holder) m first s =
    record s { channels = with_dues 32 first m.old m.new (record { holder = holder; since = m.cycle }) s.plugs s.channels }

-- what a swap changes besides its register
abbrev pub swapped_by : WatchedRegister → Made → State → State
swapped_by Bandwidth m s = record s { second = counted_second m.old m.new s.second }
swapped_by ChannelsHigh m s = with_holder (holder_of m.by) m 0 s
swapped_by ChannelsLow m s = with_holder (holder_of m.by) m 32 s
swapped_by (Output number) m s = s
swapped_by (Input number) m s = s

-- a swap that was made: from then on all of the new word is known
unfoldable pub swapped : State → Made → State
swapped s m = swapped_by m.at.register m (with_known s m.at (all_known m.new))
