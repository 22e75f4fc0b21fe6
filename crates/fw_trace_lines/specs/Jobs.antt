-- Jobs: the connections that an outcome may be of.
use Rattle.std.specs.Prelude.{ℕ, ◌==◌, ◌&&◌, ◌||◌, not, Bool, true, false, List, [], ◌∷◌, ◌++◌, codes, decimal, slice_get, Option, Some, None, if◌then◌else◌}
use Rattle.std.specs.List.{filter, position}
use Rattle.fw_script_command.specs.declared.command.Command.{Command}
use Rattle.fw_script_command.specs.declared.command.Command.TheVariants.{Connect, Broadcast as BroadcastLine, Listen as ListenLine}
use Rattle.fw_log_entry.specs.declared.codes.outcome.TheConstants as Outcomes
use Rattle.fw_trace_lines.specs.declared.job.Connection.{Connection}
use Rattle.fw_trace_lines.specs.declared.job.Connection.TheVariants.{PlugToPlug, Broadcast, Listen}
use Rattle.fw_trace_lines.specs.declared.job.TracedConnection.{TracedConnection}

-- the connection that a line asks for
abbrev pub connection_of : Command → Option Connection
connection_of (Connect name out into channel overhead) = Some (PlugToPlug out into)
connection_of (BroadcastLine name out overhead) = Some (Broadcast out)
connection_of (ListenLine name into) = Some (Listen into)
connection_of c = None

-- a plug as a line names it
abbrev pub plug_text : List ℕ × ℕ → List ℕ
plug_text plug = plug.0 ++ codes "." ++ decimal plug.1

-- a connection in the words of its line
unfoldable pub connection_text : Connection → List ℕ
connection_text (PlugToPlug out into) = plug_text out ++ codes " to " ++ plug_text into
connection_text (Broadcast out) = codes "broadcast " ++ plug_text out
connection_text (Listen into) = codes "listen " ++ plug_text into

-- a job that has just taken a slot of a device's controller
abbrev pub new_job : ℕ → ℕ → Connection → TracedConnection
new_job device slot connection = record { device = device; slot = slot; connection = connection; made = false; over = false; older = false }

-- the job that has the slot now
abbrev pub is_now : ℕ → ℕ → TracedConnection → Bool
is_now device slot j = (j.device == device) && (j.slot == slot) && not j.older

-- the device's job whose slot another has taken
abbrev pub is_older : ℕ → TracedConnection → Bool
is_older device j = (j.device == device) && j.older

-- that job, if it is of this slot
abbrev pub is_older_at : ℕ → ℕ → TracedConnection → Bool
is_older_at device slot j = (j.device == device) && (j.slot == slot) && j.older

-- another has its slot
abbrev pub aged : TracedConnection → TracedConnection
aged j = record { device = j.device; slot = j.slot; connection = j.connection; made = j.made; over = j.over; older = true }

-- if the job that had the slot is not over, it becomes the device's older one
abbrev pub displaced : Option TracedConnection → List TracedConnection → List TracedConnection
displaced None jobs = jobs
displaced (Some j) jobs = if j.over then jobs else filter (λ other. not (is_older j.device other)) jobs ++ aged j ∷ []

-- the job at a place of the list, if there is one
abbrev pub job_in : List TracedConnection → Option ℕ → Option TracedConnection
job_in jobs None = None
job_in jobs (Some at) = slice_get jobs at

-- the first job that passes a test
abbrev pub first_where : (TracedConnection → Bool) → List TracedConnection → Option TracedConnection
first_where test jobs = job_in jobs (position test jobs)

-- a new job takes a slot
unfoldable pub with_job : ℕ → ℕ → Connection → List TracedConnection → List TracedConnection
with_job device slot connection jobs =
    displaced (first_where (is_now device slot) jobs) (filter (λ j. not (is_now device slot j)) jobs) ++ new_job device slot connection ∷ []

-- the first of two
abbrev pub or_else : Option TracedConnection → Option TracedConnection → Option TracedConnection
or_else None other = other
or_else (Some j) other = Some j

-- the job of an outcome of a device and a slot: the device's older one if that is of the slot, else the one that has it
unfoldable pub job_at : ℕ → ℕ → List TracedConnection → Option TracedConnection
job_at device slot jobs = or_else (first_where (is_older_at device slot) jobs) (first_where (is_now device slot) jobs)

-- an outcome that leaves the connection standing
abbrev pub goes_on : ℕ → Bool
goes_on code = (code == Outcomes.CONNECTED) || (code == Outcomes.RESTORED)

-- whether the connection was made, after an outcome of its job
abbrev pub made_after : ℕ → Bool → Bool
made_after code made = made || (code == Outcomes.CONNECTED)

-- whether a job is over, after an outcome of it
abbrev pub over_after : ℕ → Bool → Bool
over_after code over = over || not (goes_on code)

-- a job after an outcome of it
abbrev pub after_outcome : ℕ → TracedConnection → TracedConnection
after_outcome code j = record {
  device = j.device;
  slot = j.slot;
  connection = j.connection;
  made = made_after code j.made;
  over = over_after code j.over;
  older = j.older;
}

-- the jobs after an outcome of this one among them: an older one is gone
abbrev pub with_outcome : ℕ → Option TracedConnection → List TracedConnection → List TracedConnection
with_outcome code None jobs = jobs
with_outcome code (Some j) jobs =
    if j.older then filter (λ other. not (is_older_at j.device j.slot other)) jobs
    else filter (λ other. not (is_now j.device j.slot other)) jobs ++ after_outcome code j ∷ []

-- the jobs after an outcome of a device and a slot
unfoldable pub jobs_after : ℕ → ℕ → ℕ → List TracedConnection → List TracedConnection
jobs_after code device slot jobs = with_outcome code (job_at device slot jobs) jobs

-- the controller of a device has died
unfoldable pub without_device : ℕ → List TracedConnection → List TracedConnection
without_device device jobs = filter (λ j. not (j.device == device)) jobs

-- what the outcome's job was doing: a reset broke it off, or another fault did
abbrev pub verb_of : ℕ → Bool → List ℕ
verb_of code made =
    if code == Outcomes.CONNECTED then codes " makes "
    else if code == Outcomes.BROKEN then codes " breaks "
    else if code == Outcomes.RESTORED then codes " restores "
    else if not made then codes " makes "
    else if code == Outcomes.RESET then codes " breaks "
    else codes " restores "

-- what an outcome's job does, and of which connection; each outcome of a run has a job
unfoldable pub doing_text : ℕ → Option TracedConnection → List ℕ
doing_text code None = verb_of code false ++ codes "a connection"
doing_text code (Some j) = verb_of code j.made ++ connection_text j.connection
