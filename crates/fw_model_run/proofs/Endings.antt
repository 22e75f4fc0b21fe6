-- What a controller decides shows quadlets, whatever it hears.
use Rattle.fw_model_run.proofs.Common.{ℕ, ◌+◌, ◌-◌, ◌^◌, ◌<◌, ◌==◌, ◌&&◌, not, nat_le, cond, Bool, true, false, Option, Some, None, arith, Reply, Current, Nothing, Asking, Hearing, Overtaken, Job}
use Rattle.fw_model_run.proofs.Common.{Stage, ControllerState, heard, after_hear}
use Rattle.fw_terms.specs.Tables.{find_to}
use Rattle.fw_plug.specs.Words.{is_connected}
use Rattle.fw_cmp_jobs.specs.declared.connection.Connection.{Connection}
use Rattle.fw_cmp_jobs.specs.declared.connection.Flow.{Flow}
use Rattle.fw_cmp_jobs.specs.declared.job.Ending.{Ending}
use Rattle.fw_cmp_jobs.specs.declared.job.Ending.TheVariants as ending
use Rattle.fw_cmp_jobs.specs.declared.job.HeldResources.{HeldResources}
use Rattle.fw_cmp_jobs.specs.declared.job.Then.{Then}
use Rattle.fw_cmp_jobs.specs.declared.job.Then.TheVariants.{EndsAs, Again}
use Rattle.fw_cmp_jobs.specs.declared.stage.Stage.TheVariants.{Begin, ReadOutput, ReadChannels, SwapChannels, ReadBandwidth, SwapBandwidth, ConnectOutput, OverlayOutput, ReadInput, ConnectInput}
use Rattle.fw_cmp_jobs.specs.declared.stage.Stage.TheVariants.{ReadInputToLeave, LeaveInput, ReadOutputToLeave, LeaveOutput, ReadBandwidthToRelease, RaiseBandwidth, ReadChannelsToRelease}
use Rattle.fw_cmp_jobs.specs.declared.stage.Stage.TheVariants.{RestoreChannel, Made, Ended}
use Rattle.fw_cmp_jobs.specs.Connections.{kind_of, is_listen, is_point_to_point}
use Rattle.fw_cmp.specs.Controllers.{CurrentFits}
use Rattle.fw_cmp_jobs.specs.Decisions.{restores, goes_on, give_back, leave_output, is_lost, decide_free, decide_connected, decide_out, decide_any, decide_channel, needs, decide_units, first_flow}
use Rattle.fw_cmp_jobs.specs.Decisions.{overlaid_flow, output_joined, decide_in, input_left, decide_leave_in, decide_leave_out, output_left, decide_raise}
use Rattle.fw_cmp_jobs.specs.Fits.{StageFits}
use Rattle.fw_cmp_jobs.specs.Plugs.{is_full, has_broadcast, counter_of, channel_of, is_bit, shows_connection, one_less, remainder_of, half_of}
use Rattle.fw_cmp_jobs.specs.Stages.{hear, refuse, hear_reply}
use Rattle.fw_model_run.specs.Numbers.{EndingShows, ThenShows, StageShows, CurrentShows}

-- ---- by cases on a test

pub either : (b : Bool) (x y : Stage) → StageShows x → StageShows y → StageShows (cond b x y)
either true x y f g = f
either false x y f g = g

-- ---- what a word decides

on_shows : (next : Then) → ThenShows next → StageShows (goes_on next)
on_shows (EndsAs e) f = f
on_shows Again f = tt

back_shows : (held : Option HeldResources) (next : Then) → ThenShows next → StageShows (give_back held next)
back_shows None next f = on_shows next f
back_shows (Some h) next f = either (h.units == 0) _ _ f f

leave_shows : (conn : Connection) (e : Ending) (f : Flow) → EndingShows e → StageShows (leave_output conn e f)
leave_shows conn e f h = either (is_listen conn) _ _ h h

lost_shows : (b : Bool) → ThenShows (cond b (EndsAs ending.Late) Again)
lost_shows true = tt
lost_shows false = tt

connected_shows : (j : Job) (held : Option HeldResources) (w : ℕ) → StageShows (decide_connected j held w)
connected_shows j None w = either (is_lost j w) _ _ tt tt
connected_shows j (Some h) w = back_shows (Some h) (cond (is_lost j w) (EndsAs ending.Late) Again) (lost_shows (is_lost j w))

free_shows : (j : Job) (held : Option HeldResources) (w : ℕ) → StageShows (decide_free j held w)
free_shows j None w = tt
free_shows j (Some h) w = tt

out_shows : (j : Job) (held : Option HeldResources) (w : ℕ) → w < 2 ^ 32 → StageShows (decide_out j held w)
out_shows j held w low = either (is_full (kind_of j.connection) w) _ _ (back_shows held (EndsAs (ending.PlugFull w)) low) (either (is_connected w) _ _ (connected_shows j held w) (free_shows j held w))

any_shows : (o : Option ℕ) (base w v : ℕ) → v < 2 ^ 32 → StageShows (decide_any o base w v)
any_shows (Some i) base w v low = tt
any_shows None base w v low = either (base == 0) _ _ tt low

channel_shows : (j : Job) (o : Option ℕ) (base w v : ℕ) → v < 2 ^ 32 → StageShows (decide_channel j o base w v)
channel_shows j (Some ch) base w v low = either (is_bit v (ch - base)) _ _ tt (either (restores j) _ _ tt low)
channel_shows j None base w v low = any_shows (find_to 32 (is_bit v)) base w v low

units_shows : (j : Job) (ch w v : ℕ) → v < 2 ^ 32 → StageShows (decide_units j ch w v)
units_shows j ch w v low = either (nat_le (needs j w) (remainder_of v)) _ _ tt (omega (arith, low))

joined_shows : (j : Job) (f : Flow) → f.channel < 2 ^ 32 → StageShows (output_joined j f)
joined_shows j f low = either (is_point_to_point j.connection) _ _ tt low

in_shows : (j : Job) (f : Flow) (w : ℕ) → w < 2 ^ 32 → StageShows (decide_in j f w)
in_shows j f w low =
    either (is_listen j.connection) _ _ (either (has_broadcast w) _ _ low tt)
    (either (is_connected w && not (channel_of w == f.channel)) _ _ (leave_shows j.connection (ending.InputBusy w) f low)
    (either (counter_of w == 63) _ _ (leave_shows j.connection (ending.PlugFull w) f low) tt))

left_shows : (j : Job) (ch u : ℕ) → StageShows (input_left j ch u)
left_shows j ch u = either (is_listen j.connection) _ _ tt tt

leave_in_shows : (j : Job) (ch u v : ℕ) → StageShows (decide_leave_in j ch u v)
leave_in_shows j ch u v = either (shows_connection (kind_of j.connection) v) _ _ tt (left_shows j ch u)

leave_out_shows : (j : Job) (e : Ending) (ch u v : ℕ) → EndingShows e → StageShows (decide_leave_out j e ch u v)
leave_out_shows j e ch u v f = either (shows_connection (kind_of j.connection) v) _ _ f f

output_left_shows : (j : Job) (e : Ending) (ch u w : ℕ) → EndingShows e → StageShows (output_left j e ch u w)
output_left_shows j e ch u w f = either (is_connected (one_less (kind_of j.connection) w)) _ _ f f

raise_shows : (next : Then) (ch u v : ℕ) → ThenShows next → StageShows (decide_raise next ch u v)
raise_shows next ch u v f = either (nat_le (u + remainder_of v) 4915) _ _ f f

-- ---- an answer

hear_shows : (j : Job) (s : Stage) (v : ℕ) → StageFits j s → StageShows s → v < 2 ^ 32 → StageShows (hear j s v)
hear_shows j Begin v fits f low = tt
hear_shows j ReadOutput v fits f low = out_shows j None v low
hear_shows j (ReadChannels base w) v fits f low = channel_shows j j.asked base w v low
hear_shows j (SwapChannels ch arg w) v fits f low = either (v == arg) _ _ tt (channel_shows j j.asked (half_of ch) w v low)
hear_shows j (ReadBandwidth ch w) v fits f low = units_shows j ch w v low
hear_shows j (SwapBandwidth ch u arg w) v fits f low = either (v == arg) _ _ tt (units_shows j ch w v low)
hear_shows j (ConnectOutput ch u arg) v fits f low = either (v == arg) _ _ (joined_shows j (first_flow j ch u) (let few = fits.1.0 in omega (arith, few)))
    (out_shows j (Some (record { channel = ch; units = u })) v low)
hear_shows j (OverlayOutput arg) v fits f low = either (v == arg) _ _ (joined_shows j (overlaid_flow arg) (omega arith)) (out_shows j None v low)
hear_shows j (ReadInput g) v fits f low = in_shows j g v low
hear_shows j (ConnectInput g arg) v fits f low = either (v == arg) _ _ (let few = fits.1.channel in omega (arith, few)) (in_shows j g v low)
hear_shows j (ReadInputToLeave ch u) v fits f low = leave_in_shows j ch u v
hear_shows j (LeaveInput ch u arg) v fits f low = either (v == arg) _ _ (left_shows j ch u) (leave_in_shows j ch u v)
hear_shows j (ReadOutputToLeave e ch u) v fits f low = leave_out_shows j e ch u v f
hear_shows j (LeaveOutput e ch u arg) v fits f low = either (v == arg) _ _ (output_left_shows j e ch u arg f) (leave_out_shows j e ch u v f)
hear_shows j (ReadBandwidthToRelease next ch u) v fits f low = raise_shows next ch u v f
hear_shows j (RaiseBandwidth next ch u arg) v fits f low = either (v == arg) _ _ f (raise_shows next ch u v f)
hear_shows j (ReadChannelsToRelease next ch) v fits f low = f
hear_shows j (RestoreChannel next ch arg) v fits f low = either (v == arg) _ _ (on_shows next f) f
hear_shows j (Made g) v fits f low = f
hear_shows j (Ended e) v fits f low = f

refuse_shows : (j : Job) (s : Stage) (rcode : ℕ) → rcode < 2 ^ 32 → StageShows (refuse j s rcode)
refuse_shows j (ReadInput f) rcode low = leave_shows j.connection (ending.NoPlug rcode) f low
refuse_shows j _ rcode low = low

pub reply_shows : (j : Job) (s : Stage) (r : Reply) → StageFits j s → StageShows s → r.value < 2 ^ 32 → r.rcode < 2 ^ 32 → StageShows (hear_reply j s r)
reply_shows j s r fits f value rcode = either (r.rcode == 0) _ _ (hear_shows j s r.value fits f value) (refuse_shows j s r.rcode rcode)

pub hears_shows : (c : ControllerState) (r : Reply) → CurrentFits c c.current → CurrentShows c.current → r.value < 2 ^ 32 → r.rcode < 2 ^ 32 → CurrentShows (after_hear c r).current
hears_shows c r fits f value rcode = go c.current fits f
  where
    go : (cur : Current) → CurrentFits c cur → CurrentShows cur → CurrentShows (heard cur r)
    go Nothing fits f = tt
    go (Asking j s) fits f = f
    go (Hearing j s) fits f = reply_shows j s r fits.stage f value rcode
    go (Overtaken i o) fits f = f
