-- The register that a restoring asks for stands on the bus.
use Rattle.fw_model_rounds.proofs.Common.{◌≡◌, true, false, Option, Some, None, refl, subst, arith, option_map}
use Rattle.fw_model_rounds.proofs.Common.{PlugAt, Account, Connection, Job, Target, OutputPlug, Channels, BandwidthAvailable, Stage}
use Rattle.fw_model_rounds.proofs.Common.{Begin, ReadOutput, ReadChannels, SwapChannels, ReadBandwidth, SwapBandwidth}
use Rattle.fw_model_rounds.proofs.Common.{ConnectOutput, OverlayOutput, ReadInput, ConnectInput, ReadInputToLeave, LeaveInput}
use Rattle.fw_model_rounds.proofs.Common.{ReadOutputToLeave, LeaveOutput, ReadBandwidthToRelease, RaiseBandwidth, ReadChannelsToRelease, RestoreChannel, Made, Ended, output_of, is_listen, target_of}
use Rattle.fw_model_account.specs.Network.{is_output, is_input}
use Rattle.fw_cmp_jobs.specs.declared.request.Target.TheVariants.{InputPlug}
use Rattle.fw_cmp_jobs.specs.Connections.{input_of}
use Rattle.fw_cmp_jobs.specs.Fits.{StageFits}
use Rattle.fw_model_controllers.specs.InStep.{works}
use Rattle.fw_model_controllers.specs.Registers.{has_manager, stands}

-- what stands on the bus of an account for a connection
pub record IsThere (l : Account) (conn : Connection) : Type 0 where
  pub output : (p : PlugAt) → output_of conn ≡ Some p → is_output l.latest p ≡ true
  pub input : (q : PlugAt) → input_of conn ≡ Some q → is_input l.latest q ≡ true

output_stands : (l : Account) (o : Option PlugAt) (t : Target) → ((p : PlugAt) → o ≡ Some p → is_output l.latest p ≡ true) → option_map OutputPlug o ≡ Some t → stands l.latest t ≡ true
output_stands l None t h e = absurd (grind arith)
output_stands l (Some p) t h e = let is : OutputPlug p ≡ t = cc in subst (λ (x : Target). stands l.latest x ≡ true) is (h p refl)

input_stands : (l : Account) (o : Option PlugAt) (t : Target) → ((p : PlugAt) → o ≡ Some p → is_input l.latest p ≡ true) → option_map InputPlug o ≡ Some t → stands l.latest t ≡ true
input_stands l None t h e = absurd (grind arith)
input_stands l (Some p) t h e = let is : InputPlug p ≡ t = cc in subst (λ (x : Target). stands l.latest x ≡ true) is (h p refl)

manager_stands : (l : Account) (u t : Target) → stands l.latest u ≡ true → Some u ≡ Some t → stands l.latest t ≡ true
manager_stands l u t h e = let is : u ≡ t = cc in subst (λ (x : Target). stands l.latest x ≡ true) is h

pub register_stands : (l : Account) (j : Job) (s : Stage) (t : Target) → IsThere l j.connection → (is_listen j.connection ≡ false → works s ≡ true → has_manager l.latest ≡ true) → StageFits j s
    → target_of j s ≡ Some t → stands l.latest t ≡ true
register_stands l j Begin t h m f e = absurd (grind arith)
register_stands l j ReadOutput t h m f e = output_stands l (output_of j.connection) t h.output e
register_stands l j (ReadChannels base w) t h m f e = manager_stands l (Channels _) t (m f.0 refl) e
register_stands l j (SwapChannels ch arg w) t h m f e = manager_stands l (Channels _) t (m f.0 refl) e
register_stands l j (ReadBandwidth ch w) t h m f e = manager_stands l BandwidthAvailable t (m f.0 refl) e
register_stands l j (SwapBandwidth ch u arg w) t h m f e = manager_stands l BandwidthAvailable t (m f.0 refl) e
register_stands l j (ConnectOutput ch u arg) t h m f e = output_stands l (output_of j.connection) t h.output e
register_stands l j (OverlayOutput arg) t h m f e = output_stands l (output_of j.connection) t h.output e
register_stands l j (ReadInput x) t h m f e = input_stands l (input_of j.connection) t h.input e
register_stands l j (ConnectInput x arg) t h m f e = input_stands l (input_of j.connection) t h.input e
register_stands l j (ReadInputToLeave ch u) t h m f e = input_stands l (input_of j.connection) t h.input e
register_stands l j (LeaveInput ch u arg) t h m f e = input_stands l (input_of j.connection) t h.input e
register_stands l j (ReadOutputToLeave x ch u) t h m f e = output_stands l (output_of j.connection) t h.output e
register_stands l j (LeaveOutput x ch u arg) t h m f e = output_stands l (output_of j.connection) t h.output e
register_stands l j (ReadBandwidthToRelease next ch u) t h m f e = manager_stands l BandwidthAvailable t (m f.0 refl) e
register_stands l j (RaiseBandwidth next ch u arg) t h m f e = manager_stands l BandwidthAvailable t (m f.0 refl) e
register_stands l j (ReadChannelsToRelease next ch) t h m f e = manager_stands l (Channels _) t (m f.0 refl) e
register_stands l j (RestoreChannel next ch arg) t h m f e = manager_stands l (Channels _) t (m f.0 refl) e
register_stands l j (Made x) t h m f e = absurd (grind arith)
register_stands l j (Ended x) t h m f e = absurd (grind arith)
