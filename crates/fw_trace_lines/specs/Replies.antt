-- The lines that a response brings, and what is kept after a request or a response.
use Rattle.std.specs.Prelude.{◌≡◌, ℕ, List, ◌++◌, codes, Option, Some, None, if◌then◌else◌}
use Rattle.fw_async.specs.declared.packet.Packet.{Packet}
use Rattle.fw_log_requests.specs.Requests.{asked_by}
use Rattle.fw_trace_requests.specs.Answers.{carried_text}
use Rattle.fw_trace_requests.specs.Carried.{frame_told}
use Rattle.fw_trace_lines.specs.declared.traffic.Traffic.{Traffic}
use Rattle.fw_trace_lines.specs.declared.traffic.Traffic.TheVariants.{Request, Response, Silent, Other}
use Rattle.fw_log_requests.specs.declared.asked.Asked.{Asked}
use Rattle.fw_trace_requests.specs.declared.carried.Carried.{Carried}
use Rattle.fw_trace_requests.specs.declared.packets.Reply.{Reply}
use Rattle.fw_trace_lines.specs.Caused.{Telling, one, kind_of}
use Rattle.fw_trace_names.specs.Names.{id_text}
use Rattle.fw_trace_names.specs.CausedLines.{Caused}
use Rattle.fw_trace_requests.specs.Requests.{with_latest, latest_asked}
use Rattle.fw_trace_requests.specs.Replies.{replied_text, reply_of}
use Rattle.fw_trace_requests.specs.Held.{held_bare, lone_lines, is_joined, joined_with}

-- ---- lines

-- the line of a response to an earlier request
unfoldable pub late_reply : Telling → ℕ → Reply → List Caused
late_reply t cycle r =
    one cycle (id_text t.naming r.head.destination ++ codes " <- " ++ id_text t.naming r.head.source ++ codes " " ++ replied_text t.naming (latest_asked r.head t.requests) r)

-- the lines that a response brings
unfoldable pub reply_lines : Telling → ℕ → Reply → List Caused
reply_lines t cycle r = if is_joined (Some r.kind) r.head t.held then joined_with t.naming r t.held else lone_lines t.held ++ late_reply t cycle r

-- the lines that a packet brings, by what it says as a response
unfoldable pub said_lines : Telling → ℕ → Option Reply → List Caused
said_lines t cycle None = lone_lines t.held
said_lines t cycle (Some r) = reply_lines t cycle r

-- ---- what is kept

-- what is kept after a request that carries this
abbrev pub with_request : ℕ → Asked → Carried → Telling → Telling
with_request cycle q carried t = record {
  naming = t.naming;
  requests = with_latest q t.requests;
  jobs = t.jobs;
  held = Some (held_bare t.naming cycle q carried);
  streams = t.streams;
  cycle = cycle;
}

-- what is kept after a response
abbrev pub with_response : ℕ → Telling → Telling
with_response cycle t = record { naming = t.naming; requests = t.requests; jobs = t.jobs; held = None; streams = t.streams; cycle = cycle }

-- ---- packets of usual kinds

-- what a packet is to a trace: a request that carries this, a response, neither, or of another kind
abbrev pub IsTraffic : Traffic → Packet → Type 0
IsTraffic (Request q carried) p = (kind_of p ≡ None) × (asked_by p ≡ Some q) × (carried_text p ≡ frame_told carried)
IsTraffic (Response r) p = (reply_of p ≡ Some r) × (asked_by p ≡ None)
IsTraffic Silent p = (kind_of p ≡ None) × (asked_by p ≡ None)
IsTraffic Other p = Unit {0}
