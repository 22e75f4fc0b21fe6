-- Whole commands: what is kept before and after them, and all lines that they caused.
use Rattle.std.specs.Prelude.{ℕ, zero, suc, ◌==◌, List, [], ◌∷◌, ◌++◌, Option, Some, None, if◌then◌else◌}
use Rattle.fw_script_command.specs.declared.command.Command.{Command}
use Rattle.fw_log_entry.specs.declared.entry.Timed.{Timed}
use Rattle.fw_trace_lines.specs.declared.job.Connection.{Connection}
use Rattle.fw_trace_lines.specs.declared.job.TracedConnection.{TracedConnection}
use Rattle.fw_trace_lines.specs.declared.streams.Stream.{Stream}
use Rattle.fw_trace_names.specs.Names.{Naming, with_declared}
use Rattle.fw_trace_lines.specs.Jobs.{connection_of, with_job}
use Rattle.fw_trace_lines.specs.Streams.{no_streams, stream_at, stream_text}
use Rattle.fw_trace_lines.specs.Caused.{Telling, entry_lines, telling_after}
use Rattle.fw_trace_names.specs.CausedLines.{Caused, at_cycle}
use Rattle.fw_trace_requests.specs.Held.{lone_lines}

-- a command is about to be carried out: a device that it declares has its name from then on
abbrev pub begun : Command → Telling → Telling
begun c t = record { naming = record { names = with_declared c t.naming.names; nodes = t.naming.nodes }; requests = t.requests; jobs = t.jobs; held = t.held; streams = t.streams; cycle = t.cycle }

-- the line of a stream, which tells no entry by itself
unfoldable pub stream_lines : Naming → ℕ → ℕ → Stream → List Caused
stream_lines n cycle channel s = if s.packets == 0 then [] else record { entries = 0; text = at_cycle cycle ++ stream_text n channel s } ∷ []

-- the lines of the streams on the first channels
unfoldable pub first_streams : Naming → ℕ → List Stream → ℕ → List Caused
first_streams n cycle streams zero = []
first_streams n cycle streams (suc k) = first_streams n cycle streams k ++ stream_lines n cycle k (stream_at streams k)

-- the last lines of a command
unfoldable pub last_lines : Telling → List Caused
last_lines t = lone_lines t.held ++ first_streams t.naming t.cycle t.streams 64

-- the jobs after a command that asked for this connection and was given this slot of this device's controller
unfoldable pub jobs_given : Option Connection → Option (ℕ × ℕ) → List TracedConnection → List TracedConnection
jobs_given (Some connection) (Some place) jobs = with_job place.0 place.1 connection jobs
jobs_given connection place jobs = jobs

-- a command was carried out
abbrev pub ended : Command → Option (ℕ × ℕ) → Telling → Telling
ended c place t = record { naming = t.naming; requests = t.requests; jobs = jobs_given (connection_of c) place t.jobs; held = None; streams = no_streams; cycle = t.cycle }

-- the lines that entries bring, one after another
abbrev pub lines_from : Telling → List Timed → List Caused
lines_from t [] = []
lines_from t (e ∷ es) = entry_lines t e ++ lines_from (telling_after t e) es

-- what is kept after entries
abbrev pub telling_following : Telling → List Timed → Telling
telling_following t [] = t
telling_following t (e ∷ es) = telling_following (telling_after t e) es

-- all lines that a command caused which wrote these entries
abbrev pub command_lines : Telling → List Timed → List Caused
command_lines t entries = lines_from t entries ++ last_lines (telling_following t entries)

-- what the text of lines and entries has come to, and what is kept
pub record Traced : Type 0 where
  pub text : List ℕ
  pub telling : Telling
