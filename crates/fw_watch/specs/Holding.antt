-- Channels that nobody has used in the second since they were taken.
use Rattle.std.specs.Prelude.{ℕ, zero, suc, ◌+◌, List, [], ◌∷◌, ◌++◌, slice_set, Option, Some, None}
use Rattle.fw_watch_remarks.specs.declared.remark.Remark.TheVariants.{UnusedChannel}
use Rattle.fw_watch_remarks.specs.Remarks.{Said, said}
use Rattle.fw_watch_known.specs.declared.channels.Late.{Late}
use Rattle.fw_watch_known.specs.declared.state.State.{State}
use Rattle.fw_watch_known.specs.Channels.{undue, channel_at, late_to}

-- a channel that is late, in the cycle in which it became that
abbrev pub late_remarks : Option Late → List Said
late_remarks None = []
late_remarks (Some late) = said (late.due.since + 8000) (UnusedChannel late.due.holder late.channel) ∷ []

-- it was told, and will not be again
abbrev pub after_late : Option Late → State → State
after_late None s = s
after_late (Some late) s = record s { channels = slice_set s.channels late.channel (undue (channel_at s.channels late.channel)) }

-- n channels that are late at a cycle, in the order in which they were taken, and of those of one cycle by their numbers; there are 64
unfoldable pub held_remarks : ℕ → ℕ → State → List Said
held_remarks zero cycle s = []
held_remarks (suc n) cycle s =
    late_remarks (late_to 64 s.channels cycle) ++ held_remarks n cycle (after_late (late_to 64 s.channels cycle) s)

-- they were told
unfoldable pub after_held : ℕ → ℕ → State → State
after_held zero cycle s = s
after_held (suc n) cycle s = after_held n cycle (after_late (late_to 64 s.channels cycle) s)
