-- What a command caused: lines, each of so many entries. One request is held back, since the response that answers it may come next.
use Rattle.std.specs.Prelude.{ℕ, ◌==◌, List, [], ◌∷◌, ◌++◌, codes, Option, Some, None, if◌then◌else◌}
use Rattle.fw_async.specs.Heads.{head_of}
use Rattle.fw_async.specs.declared.packet.Packet.{Packet}
use Rattle.fw_async.specs.declared.packet.Packet.TheVariants.{WriteReply, ReadQuadletReply, ReadBlockReply, LockReply}
use Rattle.fw_log_entry.specs.declared.codes.event.TheConstants as Events
use Rattle.fw_log_entry.specs.declared.entry.Entry.{Entry}
use Rattle.fw_log_entry.specs.declared.entry.Entry.TheVariants.{Reset, Async, Iso, Event, Outcome, Shown, End}
use Rattle.fw_log_entry.specs.declared.entry.EventEntry.{EventEntry}
use Rattle.fw_log_entry.specs.declared.entry.Timed.{Timed}
use Rattle.fw_log_requests.specs.declared.asked.Answer.{Answer}
use Rattle.fw_log_requests.specs.declared.asked.Answer.TheVariants.{Write as WriteResponse, ReadQuadlet as ReadQuadletResponse, ReadBlock as ReadBlockResponse, Lock as LockResponse}
use Rattle.fw_log_requests.specs.declared.asked.Asked.{Asked}
use Rattle.fw_log_requests.specs.Requests.{asked_by}
use Rattle.fw_trace_lines.specs.declared.job.TracedConnection.{TracedConnection}
use Rattle.fw_trace_lines.specs.declared.streams.Stream.{Stream}
use Rattle.fw_trace_lines.specs.Jobs.{job_at, jobs_after, without_device}
use Rattle.fw_trace_lines.specs.Streams.{no_streams, with_packet}
use Rattle.fw_trace_lines.specs.Told.{reset_text, event_text, outcome_text, shown_text}
use Rattle.fw_trace_names.specs.Names.{Naming, nameless, devices_of, id_text}
use Rattle.fw_trace_names.specs.CausedLines.{Caused, at_cycle}
use Rattle.fw_trace_requests.specs.Requests.{requests_after, latest_asked}
use Rattle.fw_trace_requests.specs.Answers.{answer_text, response_text}
use Rattle.fw_trace_requests.specs.Held.{DeferredRequest, held_of, lone_lines, is_joined}

-- ---- what is kept

-- what is kept from entry to entry
pub record Telling : Type 0 where
  pub naming : Naming
  pub requests : List Asked
  pub jobs : List TracedConnection
  pub held : Option DeferredRequest
  pub streams : List Stream
  pub cycle : ℕ

-- before the first line
abbrev pub untold : Telling
untold = record { naming = nameless; requests = []; jobs = []; held = None; streams = no_streams; cycle = 0 }

-- ---- lines

-- a line of one entry
abbrev pub one : ℕ → List ℕ → List Caused
one cycle text = record { entries = 1; text = at_cycle cycle ++ text } ∷ []

-- ---- requests

-- the kind of response that a packet is
abbrev pub kind_of : Packet → Option Answer
kind_of (WriteReply h rcode) = Some WriteResponse
kind_of (ReadQuadletReply h rcode value) = Some ReadQuadletResponse
kind_of (ReadBlockReply h rcode bytes) = Some ReadBlockResponse
kind_of (LockReply h rcode function bytes) = Some LockResponse
kind_of p = None

-- a request is held back, if the packet is one
unfoldable pub held_by : Naming → ℕ → Packet → Option Asked → Option DeferredRequest
held_by n cycle p None = None
held_by n cycle p (Some q) = Some (held_of n cycle p q)

-- the line of a request and of its answer
unfoldable pub joined_line : Naming → DeferredRequest → Packet → Caused
joined_line n h p = record { entries = 2; text = h.prefix ++ codes " <-> " ++ h.told ++ answer_text n h.asked p }

-- the line of a response to an earlier request
unfoldable pub late_lines : Telling → ℕ → Packet → List Caused
late_lines t cycle p =
    one cycle (id_text t.naming (head_of p).destination ++ codes " <- " ++ id_text t.naming (head_of p).source ++ codes " " ++ response_text t.naming (latest_asked (head_of p) t.requests) p)

-- the line of a packet that is a response, if it is one
unfoldable pub response_lines : Telling → ℕ → Packet → Option Answer → List Caused
response_lines t cycle p None = []
response_lines t cycle p (Some kind) = late_lines t cycle p

-- the line of a request that is held back and of its answer
unfoldable pub joined_lines : Naming → Packet → Option DeferredRequest → List Caused
joined_lines n p None = []
joined_lines n p (Some h) = joined_line n h p ∷ []

-- the lines of a packet: that of a request which is held back comes before its own, unless the packet answers it
unfoldable pub packet_lines : Telling → ℕ → Packet → List Caused
packet_lines t cycle p =
    if is_joined (kind_of p) (head_of p) t.held then joined_lines t.naming p t.held
    else lone_lines t.held ++ response_lines t cycle p (kind_of p)

-- ---- entries

-- the device of each node after a bus reset
abbrev pub naming_after : Naming → Entry → Naming
naming_after n (Reset r) = record { names = n.names; nodes = devices_of r.nodes }
naming_after n e = n

-- what is kept, with the nodes that an entry leaves
abbrev pub renumbered : Entry → Telling → Telling
renumbered e t = record { naming = naming_after t.naming e; requests = t.requests; jobs = t.jobs; held = t.held; streams = t.streams; cycle = t.cycle }

-- what an entry says that is no packet
unfoldable pub what_text : Telling → Entry → List ℕ
what_text t (Reset r) = reset_text t.naming r
what_text t (Async p) = []
what_text t (Iso p) = []
what_text t (Event e) = event_text t.naming e
what_text t (Outcome o) = outcome_text t.naming (job_at o.device o.slot t.jobs) o
what_text t (Shown s) = shown_text t.naming s
what_text t End = codes "end"

-- the lines of an entry itself; those of packets are told elsewhere
unfoldable pub own_lines : Telling → ℕ → Entry → List Caused
own_lines t cycle (Async p) = []
own_lines t cycle (Iso p) = []
own_lines t cycle e = one cycle (what_text t e)

-- the lines that an entry brings, by the nodes that it leaves
unfoldable pub lines_by : Telling → ℕ → Entry → List Caused
lines_by t cycle (Async p) = packet_lines t cycle p
lines_by t cycle e = lone_lines t.held ++ own_lines t cycle e

-- the lines that an entry brings
abbrev pub entry_lines : Telling → Timed → List Caused
entry_lines t e = lines_by (renumbered e.what t) e.cycle e.what

-- the jobs after an event: a death ends those of the device
unfoldable pub jobs_following : EventEntry → List TracedConnection → List TracedConnection
jobs_following e jobs = if e.code == Events.DIED then without_device e.device jobs else jobs

-- the jobs after an entry
abbrev pub jobs_from : Entry → List TracedConnection → List TracedConnection
jobs_from (Event e) jobs = jobs_following e jobs
jobs_from (Outcome o) jobs = jobs_after o.code o.device o.slot jobs
jobs_from e jobs = jobs

-- the request that is held back after an entry
abbrev pub held_after : Naming → ℕ → Entry → Option DeferredRequest
held_after n cycle (Async p) = held_by n cycle p (asked_by p)
held_after n cycle e = None

-- the counts of streams after an entry
abbrev pub streams_after : Entry → List Stream → List Stream
streams_after (Iso p) streams = with_packet p streams
streams_after e streams = streams

-- what is kept after an entry whose nodes were taken
abbrev pub taken : Timed → Telling → Telling
taken e t = record {
  naming = t.naming;
  requests = requests_after e.what t.requests;
  jobs = jobs_from e.what t.jobs;
  held = held_after t.naming e.cycle e.what;
  streams = streams_after e.what t.streams;
  cycle = e.cycle;
}

-- what is kept after an entry
abbrev pub telling_after : Telling → Timed → Telling
telling_after t e = taken e (renumbered e.what t)
