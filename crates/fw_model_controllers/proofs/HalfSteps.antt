-- Each half step that has a request carried out keeps its controller in step, and its swap is a move.
use Rattle.fw_model_controllers.proofs.Common.{PlugAt, ◌≡◌, ℕ, false, Some, subst, arith, option_map, Reply}
use Rattle.fw_model_controllers.proofs.Common.{Account, Job, Stage, Begin, ReadOutput, ReadChannels, SwapChannels, ReadBandwidth, SwapBandwidth}
use Rattle.fw_model_controllers.proofs.Common.{ConnectOutput, OverlayOutput, ReadInput, ConnectInput, ReadInputToLeave}
use Rattle.fw_model_controllers.proofs.Common.{LeaveInput, ReadOutputToLeave, LeaveOutput, ReadBandwidthToRelease, RaiseBandwidth}
use Rattle.fw_model_controllers.proofs.Common.{ReadChannelsToRelease, RestoreChannel, Made, Ended, Target, OutputPlug, InputPlug}
use Rattle.fw_model_controllers.proofs.Common.{Channels, BandwidthAvailable, output_of, input_of, is_listen, half_of, target_of}
use Rattle.fw_model_controllers.proofs.Common.{Others, HalfStep}
use Rattle.fw_model_controllers.proofs.Answers.{mapped, output_plug}
use Rattle.fw_model_controllers.proofs.Moved.{Hears}
use Rattle.fw_model_controllers.proofs.Makes.{read_output, read_channels, swap_channels, read_bandwidth, swap_bandwidth}
use Rattle.fw_model_controllers.proofs.Connects.{connect_output, overlay_output}
use Rattle.fw_model_controllers.proofs.Inputs.{read_input, connect_input, read_input_to_leave, leave_input}
use Rattle.fw_model_controllers.proofs.Releases.{read_output_to_leave, leave_output, read_bandwidth_to_release, raise_bandwidth, read_channels_to_release, restore_channel}

-- the half step if the request is at this register
abbrev pub Steps : Account → ℕ → Job → Stage → Others → Reply → Target → Type 0
Steps l c j s others r t = Hears l c j s others t r → HalfStep l c j s others t r

-- at the output plug, and at the input plug
at_output : (l : Account) (c : ℕ) (j : Job) (s : Stage) (others : Others) (t : Target) (r : Reply) → option_map OutputPlug (output_of j.connection) ≡ Some t
    → ((p : PlugAt) → output_of j.connection ≡ Some p → Steps l c j s others r (OutputPlug p)) → Steps l c j s others r t
at_output l c j s others t r e f = let w = mapped OutputPlug (output_of j.connection) t e in subst (Steps l c j s others r) w.2 (f w.0 w.1)

at_input : (l : Account) (c : ℕ) (j : Job) (s : Stage) (others : Others) (t : Target) (r : Reply) → option_map InputPlug (input_of j.connection) ≡ Some t
    → ((q : PlugAt) → input_of j.connection ≡ Some q → Steps l c j s others r (InputPlug q)) → Steps l c j s others r t
at_input l c j s others t r e f = let w = mapped InputPlug (input_of j.connection) t e in subst (Steps l c j s others r) w.2 (f w.0 w.1)

-- at a register of the manager
at_manager : (l : Account) (c : ℕ) (j : Job) (s : Stage) (others : Others) (own t : Target) (r : Reply) → Some own ≡ Some t → is_listen j.connection ≡ false
    → ((p : PlugAt) → output_of j.connection ≡ Some p → Steps l c j s others r own) → Steps l c j s others r t
at_manager l c j s others own t r e no_listen f = let w = output_plug j.connection no_listen in let same : own ≡ t = cc in subst (Steps l c j s others r) same (f w.0 w.1)

pub half_step : (l : Account) (c : ℕ) (j : Job) (s : Stage) (others : Others) (t : Target) (r : Reply) → target_of j s ≡ Some t → Hears l c j s others t r → HalfStep l c j s others t r
half_step l c j Begin others t r e x = absurd (grind arith)
half_step l c j ReadOutput others t r e x = at_output l c j ReadOutput others t r e (λ p f y. read_output l c j others p r y f) x
half_step l c j (ReadChannels base w) others t r e x = at_manager l c j (ReadChannels base w) others (Channels base) t r e x.stage.0 (λ p f y. read_channels l c j base w others p r y f) x
half_step l c j (SwapChannels ch arg w) others t r e x = at_manager l c j (SwapChannels ch arg w) others (Channels (half_of ch)) t r e x.stage.0
    (λ p f y. swap_channels l c j ch arg w others p r y f) x
half_step l c j (ReadBandwidth ch w) others t r e x = at_manager l c j (ReadBandwidth ch w) others BandwidthAvailable t r e x.stage.0 (λ p f y. read_bandwidth l c j ch w others p r y f) x
half_step l c j (SwapBandwidth ch u arg w) others t r e x = at_manager l c j (SwapBandwidth ch u arg w) others BandwidthAvailable t r e x.stage.0
    (λ p f y. swap_bandwidth l c j ch u arg w others p r y f) x
half_step l c j (ConnectOutput ch u arg) others t r e x = at_output l c j (ConnectOutput ch u arg) others t r e (λ p f y. connect_output l c j ch u arg others p r y f) x
half_step l c j (OverlayOutput arg) others t r e x = at_output l c j (OverlayOutput arg) others t r e (λ p f y. overlay_output l c j arg others p r y f) x
half_step l c j (ReadInput f) others t r e x = at_input l c j (ReadInput f) others t r e (λ q g y. read_input l c j f others q r y g) x
half_step l c j (ConnectInput f arg) others t r e x = at_input l c j (ConnectInput f arg) others t r e (λ q g y. connect_input l c j f arg others q r y g) x
half_step l c j (ReadInputToLeave ch u) others t r e x = at_input l c j (ReadInputToLeave ch u) others t r e (λ q f y. read_input_to_leave l c j ch u others q r y f) x
half_step l c j (LeaveInput ch u arg) others t r e x = at_input l c j (LeaveInput ch u arg) others t r e (λ q f y. leave_input l c j ch u arg others q r y f) x
half_step l c j (ReadOutputToLeave end ch u) others t r e x = at_output l c j (ReadOutputToLeave end ch u) others t r e (λ p f y. read_output_to_leave l c j end ch u others p r y f) x
half_step l c j (LeaveOutput end ch u arg) others t r e x = at_output l c j (LeaveOutput end ch u arg) others t r e (λ p f y. leave_output l c j end ch u arg others p r y f) x
half_step l c j (ReadBandwidthToRelease next ch u) others t r e x =
    at_manager l c j (ReadBandwidthToRelease next ch u) others BandwidthAvailable t r e x.stage.0 (λ p f y. read_bandwidth_to_release l c j next ch u others p r y f) x
half_step l c j (RaiseBandwidth next ch u arg) others t r e x =
    at_manager l c j (RaiseBandwidth next ch u arg) others BandwidthAvailable t r e x.stage.0 (λ p f y. raise_bandwidth l c j next ch u arg others p r y f) x
half_step l c j (ReadChannelsToRelease next ch) others t r e x =
    at_manager l c j (ReadChannelsToRelease next ch) others (Channels (half_of ch)) t r e x.stage.0 (λ p f y. read_channels_to_release l c j next ch others p r y f) x
half_step l c j (RestoreChannel next ch arg) others t r e x =
    at_manager l c j (RestoreChannel next ch arg) others (Channels (half_of ch)) t r e x.stage.0 (λ p f y. restore_channel l c j next ch arg others p r y f) x
half_step l c j (Made f) others t r e x = absurd (grind arith)
half_step l c j (Ended end) others t r e x = absurd (grind arith)
