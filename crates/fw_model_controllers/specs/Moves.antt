-- The move of the account that a stage makes if its swap succeeds.
use Rattle.std.specs.Prelude.{ℕ, Option, Some, None, if◌then◌else◌}
use Rattle.fw_terms.specs.declared.plug.PlugAt.{PlugAt}
use Rattle.fw_csr.specs.declared.reply.Reply.{Reply}
use Rattle.fw_model_account.specs.Account.{Account}
use Rattle.fw_model_account.specs.Moves.{Move, AllocateChannel, AllocateUnits, ConnectFirst, ConnectOverlaid, ConnectInput, DisconnectInput, DisconnectOutput, ReleaseUnits, ReleaseChannel, after}
use Rattle.fw_cmp_jobs.specs.declared.job.Job.{Job}
use Rattle.fw_cmp_jobs.specs.declared.stage.Stage.{Stage}
use Rattle.fw_cmp_jobs.specs.declared.stage.Stage.TheVariants as stage
use Rattle.fw_cmp_jobs.specs.Connections.{kind_of, output_of, input_of}
use Rattle.fw_cmp_jobs.specs.Requests.{swap_of}
use Rattle.fw_model_controllers.specs.Registers.{succeeds}

-- a move at a plug, if the connection has that plug
abbrev pub at_plug : Option PlugAt → Move → Option (PlugAt × Move)
at_plug None m = None
at_plug (Some p) m = Some (p, m)

-- the move, for the job's output plug or at its input plug
abbrev pub move_of : Job → Stage → Option (PlugAt × Move)
move_of j (stage.SwapChannels ch arg w) = at_plug (output_of j.connection) (AllocateChannel ch)
move_of j (stage.SwapBandwidth ch u arg w) = at_plug (output_of j.connection) (AllocateUnits ch u)
move_of j (stage.ConnectOutput ch u arg) = at_plug (output_of j.connection) (ConnectFirst (kind_of j.connection) ch j.overhead)
move_of j (stage.OverlayOutput arg) = at_plug (output_of j.connection) (ConnectOverlaid (kind_of j.connection))
move_of j (stage.ConnectInput f arg) = at_plug (input_of j.connection) (ConnectInput (kind_of j.connection) f.channel)
move_of j (stage.LeaveInput ch u arg) = at_plug (input_of j.connection) (DisconnectInput (kind_of j.connection))
move_of j (stage.LeaveOutput e ch u arg) = at_plug (output_of j.connection) (DisconnectOutput (kind_of j.connection))
move_of j (stage.RaiseBandwidth next ch u arg) = at_plug (output_of j.connection) (ReleaseUnits ch u)
move_of j (stage.RestoreChannel next ch arg) = at_plug (output_of j.connection) (ReleaseChannel ch)
move_of j _ = None

-- the account after a move, or the same if there is none
abbrev pub after_move : ℕ → Option (PlugAt × Move) → Account → Account
after_move c None l = l
after_move c (Some m) l = after c m.0 m.1 l

-- the account after the answer to the stage's request: if its swap succeeded, the move is made
abbrev pub carried_out : ℕ → Job → Stage → Reply → Account → Account
carried_out c j s r l = if succeeds (swap_of j s) r then after_move c (move_of j s) l else l
