-- The stages of a job that makes a connection, or makes it again.
use Rattle.std.specs.Prelude.{Bool, true, false, IsTrue, ⊤}
use Rattle.fw_cmp_jobs.specs.declared.connection.Connection.{Connection}
use Rattle.fw_cmp.specs.declared.current.Current.{Current}
use Rattle.fw_cmp.specs.declared.current.Current.TheVariants.{Nothing, Asking, Hearing, Overtaken}
use Rattle.fw_cmp_jobs.specs.declared.job.Purpose.{Purpose}
use Rattle.fw_cmp_jobs.specs.declared.job.Purpose.TheVariants.{Make, Restore, Break}
use Rattle.fw_cmp_jobs.specs.declared.stage.Stage.{Stage}
use Rattle.fw_cmp_jobs.specs.declared.stage.Stage.TheVariants.{ReadInputToLeave, LeaveInput, ReadOutputToLeave, LeaveOutput}
use Rattle.fw_cmp_jobs.specs.Connections.{is_point_to_point}

-- It never leaves an input plug, and an output plug only if the input plug was refused.
abbrev pub is_making_stage : Connection → Stage → Bool
is_making_stage conn (ReadInputToLeave ch u) = false
is_making_stage conn (LeaveInput ch u arg) = false
is_making_stage conn (ReadOutputToLeave e ch u) = is_point_to_point conn
is_making_stage conn (LeaveOutput e ch u arg) = is_point_to_point conn
is_making_stage conn _ = true

-- a job that makes a connection, or makes it again, is at one of those stages
abbrev pub MakesFor : Purpose → Connection → Stage → Type 0
MakesFor Make conn s = IsTrue (is_making_stage conn s)
MakesFor Restore conn s = IsTrue (is_making_stage conn s)
MakesFor Break conn s = ⊤

-- so is the current job
abbrev pub CurrentMakes : Current → Type 0
CurrentMakes Nothing = ⊤
CurrentMakes (Asking j s) = MakesFor j.purpose j.connection s
CurrentMakes (Hearing j s) = MakesFor j.purpose j.connection s
CurrentMakes (Overtaken i o) = ⊤
