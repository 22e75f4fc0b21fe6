-- A controller's request goes to a node of the bus.
use Rattle.fw_model_controllers.proofs.Common.{◌≡◌, ◌≢◌, ℕ, ◌<◌, false, Option, Some, None, subst, sym}
use Rattle.fw_model_controllers.proofs.Common.{arith, option_map, PlugAt, ResetEntry, Connection, PlugToPlug, BroadcastOut, BroadcastIn, Begin, ReadOutput}
use Rattle.fw_model_controllers.proofs.Common.{ReadChannels, SwapChannels, ReadBandwidth, SwapBandwidth, ConnectOutput, OverlayOutput}
use Rattle.fw_model_controllers.proofs.Common.{ReadInput, ConnectInput, ReadInputToLeave, LeaveInput, ReadOutputToLeave}
use Rattle.fw_model_controllers.proofs.Common.{LeaveOutput, ReadBandwidthToRelease, RaiseBandwidth, ReadChannelsToRelease, RestoreChannel, Made}
use Rattle.fw_model_controllers.proofs.Common.{Ended, Target, OutputPlug, InputPlug, Channels, BandwidthAvailable}
use Rattle.fw_model_controllers.proofs.Common.{output_of, input_of, is_listen, StageFits, half_of, target_of, addressee_of, Account, Directory, Job, Stage, IsDirectory}
use Rattle.std.proofs.Common.{IsSome}
use Rattle.fw_cmp_jobs.specs.Fits.{ConnectionFits}
use Rattle.fw_cmp.specs.Holdings.{IsReached, StageReached}
use Rattle.fw_model_controllers.specs.Requests.{IsNodeOf, PlugNumberFits}
use Rattle.fw_model_controllers.proofs.Answers.{mapped}

-- ---- where a request goes

plug_of_output : (conn : Connection) (p : PlugAt) → ConnectionFits conn → output_of conn ≡ Some p → p.plug < 31
plug_of_output (PlugToPlug out into) p f e = let same : out ≡ p = cc in subst (λ (q : PlugAt). q.plug < 31) same f.0.1
plug_of_output (BroadcastOut out) p f e = let same : out ≡ p = cc in subst (λ (q : PlugAt). q.plug < 31) same f.1
plug_of_output (BroadcastIn into) p f e = absurd (grind arith)

plug_of_input : (conn : Connection) (p : PlugAt) → ConnectionFits conn → input_of conn ≡ Some p → p.plug < 31
plug_of_input (PlugToPlug out into) p f e = let same : into ≡ p = cc in subst (λ (q : PlugAt). q.plug < 31) same f.1.1
plug_of_input (BroadcastOut out) p f e = absurd (grind arith)
plug_of_input (BroadcastIn into) p f e = let same : into ≡ p = cc in subst (λ (q : PlugAt). q.plug < 31) same f.1

-- what a request's target is: its own output plug, its own input plug, or a register of the manager
pub data IsTarget (j : Job) (t : Target) : Type 0 where
  output : (p : PlugAt) → output_of j.connection ≡ Some p → t ≡ OutputPlug p → IsTarget j t
  input : (p : PlugAt) → input_of j.connection ≡ Some p → t ≡ InputPlug p → IsTarget j t
  channels : (base : ℕ) → is_listen j.connection ≡ false → t ≡ Channels base → IsTarget j t
  bandwidth : is_listen j.connection ≡ false → t ≡ BandwidthAvailable → IsTarget j t

own_output : (j : Job) (t : Target) → option_map OutputPlug (output_of j.connection) ≡ Some t → IsTarget j t
own_output j t e = let w = mapped OutputPlug (output_of j.connection) t e in output w.0 w.1 (sym w.2)

own_input : (j : Job) (t : Target) → option_map InputPlug (input_of j.connection) ≡ Some t → IsTarget j t
own_input j t e = let w = mapped InputPlug (input_of j.connection) t e in input w.0 w.1 (sym w.2)

own_channels : (j : Job) (t : Target) (base : ℕ) → is_listen j.connection ≡ false → Some (Channels base) ≡ Some t → IsTarget j t
own_channels j t base f e = let same : Channels base ≡ t = cc in channels base f (sym same)

own_bandwidth : (j : Job) (t : Target) → is_listen j.connection ≡ false → Some BandwidthAvailable ≡ Some t → IsTarget j t
own_bandwidth j t f e = let same : BandwidthAvailable ≡ t = cc in bandwidth f (sym same)

pub target_is : (j : Job) (s : Stage) (t : Target) → StageFits j s → target_of j s ≡ Some t → IsTarget j t
target_is j Begin t f e = absurd (grind arith)
target_is j ReadOutput t f e = own_output j t e
target_is j (ReadChannels base w) t f e = own_channels j t base f.0 e
target_is j (SwapChannels ch arg w) t f e = own_channels j t (half_of ch) f.0 e
target_is j (ReadBandwidth ch w) t f e = own_bandwidth j t f.0 e
target_is j (SwapBandwidth ch u arg w) t f e = own_bandwidth j t f.0 e
target_is j (ConnectOutput ch u arg) t f e = own_output j t e
target_is j (OverlayOutput arg) t f e = own_output j t e
target_is j (ReadInput g) t f e = own_input j t e
target_is j (ConnectInput g arg) t f e = own_input j t e
target_is j (ReadInputToLeave ch u) t f e = own_input j t e
target_is j (LeaveInput ch u arg) t f e = own_input j t e
target_is j (ReadOutputToLeave end ch u) t f e = own_output j t e
target_is j (LeaveOutput end ch u arg) t f e = own_output j t e
target_is j (ReadBandwidthToRelease next ch u) t f e = own_bandwidth j t f.0 e
target_is j (RaiseBandwidth next ch u arg) t f e = own_bandwidth j t f.0 e
target_is j (ReadChannelsToRelease next ch) t f e = own_channels j t (half_of ch) f.0 e
target_is j (RestoreChannel next ch arg) t f e = own_channels j t (half_of ch) f.0 e
target_is j (Made g) t f e = absurd (grind arith)
target_is j (Ended end) t f e = absurd (grind arith)

-- a job that makes a request has reached its devices
has_reached : (dir : Directory) (j : Job) (s : Stage) (t : Target) → target_of j s ≡ Some t → StageReached dir j s → IsReached dir j.connection
has_reached dir j Begin t e x = absurd (grind arith)
has_reached dir j (Ended end) t e x = absurd (grind arith)
has_reached dir j _ t e x = x

addressee_at : (dir : Directory) (j : Job) (t : Target) → IsTarget j t → IsReached dir j.connection → IsSome (addressee_of dir t)
addressee_at dir j t (output p e is) x = subst (λ y. IsSome (addressee_of dir y)) (sym is) (x.output p e)
addressee_at dir j t (input p e is) x = subst (λ y. IsSome (addressee_of dir y)) (sym is) (x.input p e)
addressee_at dir j t (channels base e is) x = subst (λ y. IsSome (addressee_of dir y)) (sym is) (x.manager e)
addressee_at dir j t (bandwidth e is) x = subst (λ y. IsSome (addressee_of dir y)) (sym is) (x.manager e)

pub addressee_there : (dir : Directory) (j : Job) (s : Stage) (t : Target) → StageFits j s → StageReached dir j s → target_of j s ≡ Some t → IsSome (addressee_of dir t)
addressee_there dir j s t fits reached e = addressee_at dir j t (target_is j s t fits e) (has_reached dir j s t e reached)

pub number_at : (j : Job) (t : Target) → ConnectionFits j.connection → IsTarget j t → PlugNumberFits t
number_at j t f (output p e is) = subst PlugNumberFits (sym is) (plug_of_output j.connection p f e)
number_at j t f (input p e is) = subst PlugNumberFits (sym is) (plug_of_input j.connection p f e)
number_at j t f (channels base e is) = subst PlugNumberFits (sym is) tt
number_at j t f (bandwidth e is) = subst PlugNumberFits (sym is) tt

pub node_is : (l : Account) (now : ℕ) (dir : Directory) (t : Target) (n : ℕ) → IsDirectory l now dir → addressee_of dir t ≡ Some n → IsNodeOf l.latest t n
node_is l now dir (OutputPlug p) n told e = told.devices p.device n e
node_is l now dir (InputPlug p) n told e = told.devices p.device n e
node_is l now dir (Channels base) n told e = told.manager n e
node_is l now dir BandwidthAvailable n told e = told.manager n e

-- if a node is, there was a reset
pub began : (latest : Option ResetEntry) (t : Target) (n : ℕ) → IsNodeOf latest t n → latest ≢ None
began None (OutputPlug p) n node e = let row = node.1 in grind arith
began None (InputPlug p) n node e = let row = node.1 in grind arith
began None (Channels base) n node e = node
began None BandwidthAvailable n node e = node
began (Some r) t n node e = grind arith
