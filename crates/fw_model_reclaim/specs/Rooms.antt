-- The room that plugs have for what is to be restored there.
use Rattle.std.specs.Prelude.{ℕ, ◌≡◌, ◌+◌, ◌<◌, ◌≤◌, false, Some}
use Rattle.fw_terms.specs.declared.plug.PlugAt.{PlugAt}
use Rattle.fw_terms.specs.declared.plug.ConnectionKind.{ConnectionKind}
use Rattle.fw_terms.specs.Tables.{sum_to}
use Rattle.fw_model_account.specs.Account.{Account}
use Rattle.fw_model_account.specs.Sound.{IsSound}
use Rattle.fw_cmp_jobs.specs.declared.connection.Connection.{Connection}
use Rattle.fw_cmp_jobs.specs.declared.connection.Flow.{Flow}
use Rattle.fw_cmp_jobs.specs.declared.connection.Slot.TheVariants.{Restoring}
use Rattle.fw_cmp_jobs.specs.declared.stage.Stage.{Stage}
use Rattle.fw_cmp_jobs.specs.Connections.{kind_of, output_of, input_of}
use Rattle.fw_cmp.specs.Controllers.{slot_at}
use Rattle.fw_cmp_jobs.specs.Slots.{restoring_job}
use Rattle.fw_cmp_jobs.specs.Fits.{StageFits}
use Rattle.fw_cmp.specs.Holdings.{pending_of, is_at_output, is_at_input}
use Rattle.fw_model_controllers.specs.Holding.{HasReserved}
use Rattle.fw_model_controllers.specs.InStep.{reservation}
use Rattle.fw_model_reclaim.specs.Seats.{Side, connections_at, most, number_of}
use Rattle.fw_model_reclaim.specs.Due.{wanted_by}
use Rattle.fw_model_reclaim.specs.Restores.{IsRestorable}
use Rattle.fw_model_reclaim.specs.Worlds.{World}

-- A restoring with a request outstanding: the account is sound, the connection can be restored, the plugs have room for what
-- is not there yet, and the controller has what its stage says.
pub record IsRestoring (l : Account) (c i : ℕ) (conn : Connection) (f : Flow) (s : Stage) : Type 0 where
  pub sound : IsSound l
  pub restorable : IsRestorable l conn f
  pub output_room : (p : PlugAt) → output_of conn ≡ Some p → is_at_output s ≡ false → number_of (kind_of conn) (l.outputs p) < most (kind_of conn)
  pub input_room : (q : PlugAt) → input_of conn ≡ Some q → is_at_input s ≡ false → number_of (kind_of conn) (l.inputs q) < most (kind_of conn)
  pub reserved : HasReserved c (reservation (output_of conn) (pending_of s)) l.allocations
  pub fits : StageFits (restoring_job i conn f) s

-- the connections of a kind that a plug has, and those that are still to come back there in their slots' own second, fit its
-- register together: 63 counts, one broadcast bit
abbrev pub HasRoomForAll : World → Type 0
HasRoomForAll w = (side : Side) (kind : ConnectionKind) (q : PlugAt) → number_of kind (connections_at w.account side q) + sum_to 63 (λ c. wanted_by (w.controllers c) side kind q) ≤ most kind

-- all connections that are to be restored at one input plug in their slots' own second are on its channel
abbrev pub AreOnOneChannel : World → Type 0
AreOnOneChannel w =
    (c i : ℕ) (conn : Connection) (f : Flow) (q : PlugAt)
    → slot_at (w.controllers c) i ≡ Restoring conn f false → input_of conn ≡ Some q → f.channel ≡ w.account.input_channel q
