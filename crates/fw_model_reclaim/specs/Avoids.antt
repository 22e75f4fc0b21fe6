-- A channel that no connection of a controller has, and that none of its jobs can come to have.
use Rattle.std.specs.Prelude.{ℕ, ◌≢◌, IsTrue, IsFalse, ⊤}
use Rattle.fw_terms.specs.declared.plug.PlugAt.{PlugAt}
use Rattle.fw_model_account.specs.Account.{has_connection, is_withheld}
use Rattle.fw_cmp_jobs.specs.declared.connection.Slot.{Slot}
use Rattle.fw_cmp_jobs.specs.declared.connection.Slot.TheVariants.{Free, Making, Established, Restoring, Gone}
use Rattle.fw_cmp.specs.declared.current.Current.{Current}
use Rattle.fw_cmp.specs.declared.current.Current.TheVariants.{Nothing, Asking, Hearing, Overtaken}
use Rattle.fw_cmp_jobs.specs.declared.job.Job.{Job}
use Rattle.fw_cmp_jobs.specs.declared.stage.Stage.{Stage}
use Rattle.fw_cmp_jobs.specs.declared.stage.Stage.TheVariants.{SwapChannels, ReadBandwidth, SwapBandwidth, ConnectOutput, OverlayOutput, ReadInput, ConnectInput, Made}
use Rattle.fw_cmp_jobs.specs.Connections.{is_listen}
use Rattle.fw_cmp.specs.Controllers.{ControllerState, slot_at}
use Rattle.fw_cmp_jobs.specs.Decisions.{channel_or}
use Rattle.fw_cmp_jobs.specs.Plugs.{channel_of}
use Rattle.fw_model_reclaim.specs.Worlds.{World, Change, NewConnection}

-- a connection that stands or is to be restored is on another channel; one that is to listen asks for another
abbrev pub SlotAvoids : ℕ → Slot → Type 0
SlotAvoids ch Free = ⊤
SlotAvoids ch (Making conn asked overhead) = IsTrue (is_listen conn) → channel_or asked 63 ≢ ch
SlotAvoids ch (Established conn f) = f.channel ≢ ch
SlotAvoids ch (Restoring conn f over) = f.channel ≢ ch
SlotAvoids ch (Gone conn) = ⊤

-- the channel that a stage has found free, or holds, or joins plugs on, is another
abbrev pub StageAvoids : ℕ → Stage → Type 0
StageAvoids ch (SwapChannels k arg w) = k ≢ ch
StageAvoids ch (ReadBandwidth k w) = k ≢ ch
StageAvoids ch (SwapBandwidth k u arg w) = k ≢ ch
StageAvoids ch (ConnectOutput k u arg) = k ≢ ch
StageAvoids ch (OverlayOutput arg) = channel_of arg ≢ ch
StageAvoids ch (ReadInput f) = f.channel ≢ ch
StageAvoids ch (ConnectInput f arg) = f.channel ≢ ch
StageAvoids ch (Made f) = f.channel ≢ ch
StageAvoids ch _ = ⊤

-- a job that listens asks for another channel
abbrev pub JobAvoids : ℕ → Job → Type 0
JobAvoids ch j = IsTrue (is_listen j.connection) → channel_or j.asked 63 ≢ ch

-- the current job asks for another channel, and its stage holds and joins none but others
abbrev pub CurrentAvoids : ℕ → Current → Type 0
CurrentAvoids ch Nothing = ⊤
CurrentAvoids ch (Asking j s) = JobAvoids ch j × StageAvoids ch s
CurrentAvoids ch (Hearing j s) = JobAvoids ch j × StageAvoids ch s
CurrentAvoids ch (Overtaken i o) = ⊤

-- a controller has no connection on the channel, and no job that makes one there
pub record Avoids (ch : ℕ) (c : ControllerState) : Type 0 where
  pub slots : (i : ℕ) → SlotAvoids ch (slot_at c i)
  pub current : CurrentAvoids ch c.current

-- No controller has a connection on a channel that is withheld, and no input plug is connected on it. (That no output plug
-- talks there, that nothing is allocated and that no flow may be allocated again, is true of each sound account.)
pub record AvoidsWithheld (w : World) : Type 0 where
  pub controllers : (ch : ℕ) → IsTrue (is_withheld w.account.withheld ch) → (c : ℕ) → Avoids ch (w.controllers c)
  pub inputs : (q : PlugAt) → IsTrue (has_connection (w.account.inputs q)) → IsFalse (is_withheld w.account.withheld (w.account.input_channel q))

-- a new connection that is asked for is no listening on a channel that is withheld
abbrev pub AsksElsewhere : World → Change → Type 0
AsksElsewhere w (NewConnection c i slot) = (ch : ℕ) → IsTrue (is_withheld w.account.withheld ch) → SlotAvoids ch slot
AsksElsewhere w _ = ⊤
