-- A trace leaves nothing out.
use Rattle.std.specs.Prelude.{◌≡◌, ℕ, ◌+◌, List, [], ◌∷◌, None}
use Rattle.fw_async.specs.declared.packet.Packet.{Packet}
use Rattle.fw_async.specs.declared.packet.Packet.TheVariants.{CycleStart}
use Rattle.fw_log_entry.specs.declared.entry.Entry.{Entry}
use Rattle.fw_log_entry.specs.declared.entry.Entry.TheVariants.{Async, Iso}
use Rattle.fw_log_entry.specs.declared.entry.Timed.{Timed}
use Rattle.fw_trace_lines.specs.Caused.{Telling}
use Rattle.fw_trace_names.specs.CausedLines.{Caused}
use Rattle.fw_trace_lines.specs.Commands.{command_lines}

-- how many entries lines tell
abbrev pub entries_told : List Caused → ℕ
entries_told [] = 0
entries_told (l ∷ ls) = l.entries + entries_told ls

-- a cycle start has no line
abbrev pub packets_due : Packet → ℕ
packets_due (CycleStart h offset time) = 0
packets_due p = 1

-- neither has a packet of a stream, which is counted
abbrev pub lines_due : Entry → ℕ
lines_due (Async p) = packets_due p
lines_due (Iso p) = 0
lines_due e = 1

-- how many entries have a line
abbrev pub entries_due : List Timed → ℕ
entries_due [] = 0
entries_due (t ∷ ts) = lines_due t.what + entries_due ts

-- if no request is held back before it, a command's lines tell as many entries as it wrote, but for cycle starts and packets of streams
abbrev pub TellsAll : Type 0
TellsAll = (t : Telling) (entries : List Timed) → t.held ≡ None → entries_told (command_lines t entries) ≡ entries_due entries
