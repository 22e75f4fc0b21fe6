-- What the name of a stage tells.
use Rattle.fw_model_rounds.proofs.Common.{◌≡◌, true, false, Some, is_none, refl, arith, option_map, Connection, PlugToPlug}
use Rattle.fw_model_rounds.proofs.Common.{BroadcastOut, BroadcastIn, Slot, Directory, HeldResources, Job, OutputPlug, Stage, Begin}
use Rattle.fw_model_rounds.proofs.Common.{ReadOutput, ReadChannels, SwapChannels, ReadBandwidth, SwapBandwidth}
use Rattle.fw_model_rounds.proofs.Common.{ConnectOutput, OverlayOutput, ReadBandwidthToRelease, RaiseBandwidth, ReadChannelsToRelease}
use Rattle.fw_model_rounds.proofs.Common.{RestoreChannel, output_of, is_listen, target_of, begun, has_begun}
use Rattle.fw_cmp_jobs.specs.Fits.{StageFits}
use Rattle.fw_cmp.specs.Holdings.{pending_of}
use Rattle.fw_model_rounds.specs.Distance.{is_looking}

pub begun_stays : (d : Directory) (slot : Slot) (j : Job) (s : Stage) → has_begun s ≡ true → begun d slot j s ≡ s
begun_stays d slot j Begin e = grind arith
begun_stays d slot j s e = refl

pub begins : (s : Stage) → has_begun s ≡ false → s ≡ Begin
begins Begin e = refl
begins s e = grind arith

-- a stage that looks for the channel is no listen's
pub looks : (j : Job) (s : Stage) → StageFits j s → is_looking s ≡ true → is_listen j.connection ≡ false
looks j ReadOutput f e = f
looks j (ReadChannels base w) f e = f.0
looks j (SwapChannels ch arg w) f e = f.0
looks j (OverlayOutput arg) f e = f.0
looks j s f e = grind arith

has_output : (conn : Connection) → is_listen conn ≡ false → is_none (option_map OutputPlug (output_of conn)) ≡ false
has_output (PlugToPlug out into) e = refl
has_output (BroadcastOut out) e = refl
has_output (BroadcastIn into) e = grind arith

-- a stage that holds a channel has begun, asks for a register, and does not look for the channel
pub record Holds (j : Job) (s : Stage) : Type 0 where
  pub begun : has_begun s ≡ true
  pub asks : is_none (target_of j s) ≡ false
  pub looking : is_looking s ≡ false

pub holds : (j : Job) (s : Stage) (h : HeldResources) → StageFits j s → pending_of s ≡ Some h → Holds j s
holds j (ReadBandwidth ch w) h f e = record { begun = refl; asks = refl; looking = refl }
holds j (SwapBandwidth ch u arg w) h f e = record { begun = refl; asks = refl; looking = refl }
holds j (ConnectOutput ch u arg) h f e = record { begun = refl; asks = has_output j.connection f.0; looking = refl }
holds j (ReadBandwidthToRelease next ch u) h f e = record { begun = refl; asks = refl; looking = refl }
holds j (RaiseBandwidth next ch u arg) h f e = record { begun = refl; asks = refl; looking = refl }
holds j (ReadChannelsToRelease next ch) h f e = record { begun = refl; asks = refl; looking = refl }
holds j (RestoreChannel next ch arg) h f e = record { begun = refl; asks = refl; looking = refl }
holds j s h f e = grind arith
