-- A job that makes a connection stays at the stages of one.
use Rattle.fw_model_reclaim.proofs.Common.{◌≡◌, ℕ, ◌-◌, Bool, true, false, not, ◌&&◌, Option, Some, None, refl}
use Rattle.fw_model_reclaim.proofs.Common.{sym, ap, subst, arith, cond, eqb, Reply, is_connected, Connection, PlugToPlug, BroadcastOut}
use Rattle.fw_model_reclaim.proofs.Common.{BroadcastIn, Flow, Slot, Directory, Ending, Job, Purpose, Make, Restore, Break, Then, EndsAs, Again, Stage, Begin, ReadOutput, ReadChannels, SwapChannels}
use Rattle.fw_model_reclaim.proofs.Common.{ReadBandwidth, SwapBandwidth, ConnectOutput, OverlayOutput, ReadInput, ConnectInput, ReadInputToLeave, LeaveInput, ReadOutputToLeave, LeaveOutput}
use Rattle.fw_model_reclaim.proofs.Common.{ReadBandwidthToRelease, RaiseBandwidth, ReadChannelsToRelease, RestoreChannel, Made, Ended}
use Rattle.fw_model_reclaim.proofs.Common.{kind_of, is_listen, restores, goes_on, decide_units, overlaid_flow}
use Rattle.fw_model_reclaim.proofs.Common.{decide_in, decide_leave_out, output_left, decide_raise, StageFits, HasInput, channel_of}
use Rattle.fw_model_reclaim.proofs.Common.{is_bit, half_of, hear, hear_reply, refuse, begin_managed, begin_present}
use Rattle.fw_model_reclaim.proofs.Common.{begun, resumed}
use Rattle.std.proofs.Common.{leb}
use Rattle.fw_terms.specs.Tables.{find_to}
use Rattle.fw_cmp_jobs.specs.declared.job.Ending.TheVariants.{NoChannel, NoUnits, PlugFull, InputBusy, NoPlug, Absent, Late}
use Rattle.fw_cmp_jobs.specs.declared.job.HeldResources.{HeldResources}
use Rattle.fw_cmp_jobs.specs.Connections.{is_point_to_point}
use Rattle.fw_cmp_jobs.specs.Decisions.{give_back, leave_output, decide_free, is_lost, decide_connected, decide_out, decide_any, decide_channel}
use Rattle.fw_cmp_jobs.specs.Decisions.{needs, first_flow, output_joined, listen_flow}
use Rattle.fw_cmp_jobs.specs.Plugs.{is_full, has_broadcast, counter_of, remainder_of}
use Rattle.fw_cmp_jobs.specs.Jobs.{absent_of, begin_making, begin_breaking, begin, is_late, own_flow}
use Rattle.fw_model_reclaim.specs.Makings.{is_making_stage, MakesFor}

-- on either way
either : (conn : Connection) (b : Bool) (x y : Stage) → is_making_stage conn x ≡ true → is_making_stage conn y ≡ true → is_making_stage conn (cond b x y) ≡ true
either conn true x y first second = first
either conn false x y first second = second

going_on : (conn : Connection) (next : Then) → is_making_stage conn (goes_on next) ≡ true
going_on conn (EndsAs e) = refl
going_on conn Again = refl

giving_back : (conn : Connection) (held : Option HeldResources) (next : Then) → is_making_stage conn (give_back held next) ≡ true
giving_back conn None next = going_on conn next
giving_back conn (Some h) next = either conn (eqb h.units 0) (ReadChannelsToRelease next h.channel) (ReadBandwidthToRelease next h.channel h.units) refl refl

output_decided : (j : Job) (held : Option HeldResources) (w : ℕ) → is_making_stage j.connection (decide_out j held w) ≡ true
output_decided j held w = either j.connection (is_full (kind_of j.connection) w) _ _ (giving_back j.connection held (EndsAs (PlugFull w)))
    (either j.connection (is_connected w) _ _ (connected held) (free held))
  where
    connected : (h : Option HeldResources) → is_making_stage j.connection (decide_connected j h w) ≡ true
    connected None = either j.connection (is_lost j w) (Ended Late) (OverlayOutput w) refl refl
    connected (Some h) = giving_back j.connection (Some h) (cond (is_lost j w) (EndsAs Late) Again)

    free : (h : Option HeldResources) → is_making_stage j.connection (decide_free j h w) ≡ true
    free None = refl
    free (Some h) = refl

channel_decided : (j : Job) (asked : Option ℕ) (base w v : ℕ) → is_making_stage j.connection (decide_channel j asked base w v) ≡ true
channel_decided j (Some ch) base w v = either j.connection (is_bit v (ch - base)) (SwapChannels ch v w) _ refl (either j.connection (restores j) ReadOutput (Ended (NoChannel v)) refl refl)
channel_decided j None base w v = any (find_to 32 (is_bit v))
  where
    any : (o : Option ℕ) → is_making_stage j.connection (decide_any o base w v) ≡ true
    any (Some i) = refl
    any None = either j.connection (eqb base 0) (ReadChannels 32 w) (Ended (NoChannel v)) refl refl

units_decided : (j : Job) (ch w v : ℕ) → is_making_stage j.connection (decide_units j ch w v) ≡ true
units_decided j ch w v = either j.connection (leb (needs j w) (remainder_of v)) (SwapBandwidth ch (needs j w) v w) (ReadChannelsToRelease (EndsAs (NoUnits (remainder_of v))) ch) refl refl

joined : (j : Job) (f : Flow) → is_making_stage j.connection (output_joined j f) ≡ true
joined j f = either j.connection (is_point_to_point j.connection) (ReadInput f) (Made f) refl refl

-- only a point-to-point connection is at an output plug when its input plug is refused
left_output : (conn : Connection) (e : Ending) (f : Flow) → HasInput conn → is_making_stage conn (leave_output conn e f) ≡ true
left_output (PlugToPlug out into) e f has = refl
left_output (BroadcastOut out) e f has = absurd has
left_output (BroadcastIn into) e f has = refl

input_decided : (j : Job) (f : Flow) (w : ℕ) → HasInput j.connection → is_making_stage j.connection (decide_in j f w) ≡ true
input_decided j f w has = either j.connection (is_listen j.connection) _ _ (either j.connection (has_broadcast w) (Ended (InputBusy w)) (ConnectInput (listen_flow j f w) w) refl refl)
    (either j.connection (is_connected w && not (eqb (channel_of w) f.channel)) _ _ (left_output j.connection (InputBusy w) f has)
    (either j.connection (eqb (counter_of w) 63) _ (ConnectInput f w) (left_output j.connection (PlugFull w) f has) refl))

making_hear : (j : Job) (s : Stage) (v : ℕ) → StageFits j s → is_making_stage j.connection s ≡ true → is_making_stage j.connection (hear j s v) ≡ true
making_hear j Begin v fits m = refl
making_hear j ReadOutput v fits m = output_decided j None v
making_hear j (ReadChannels base w) v fits m = channel_decided j j.asked base w v
making_hear j (SwapChannels ch arg w) v fits m = either j.connection (eqb v arg) (ReadBandwidth ch w) _ refl (channel_decided j j.asked (half_of ch) w v)
making_hear j (ReadBandwidth ch w) v fits m = units_decided j ch w v
making_hear j (SwapBandwidth ch u arg w) v fits m = either j.connection (eqb v arg) (ConnectOutput ch u w) _ refl (units_decided j ch w v)
making_hear j (ConnectOutput ch u arg) v fits m = either j.connection (eqb v arg) _ _ (joined j (first_flow j ch u)) (output_decided j (Some (record { channel = ch; units = u })) v)
making_hear j (OverlayOutput arg) v fits m = either j.connection (eqb v arg) _ _ (joined j (overlaid_flow arg)) (output_decided j None v)
making_hear j (ReadInput f) v fits m = input_decided j f v fits.0
making_hear j (ConnectInput f arg) v fits m = either j.connection (eqb v arg) (Made f) _ refl (input_decided j f v fits.0)
making_hear j (ReadInputToLeave ch u) v fits m = absurd (grind (arith, m))
making_hear j (LeaveInput ch u arg) v fits m = absurd (grind (arith, m))
making_hear j (ReadOutputToLeave e ch u) v fits m = either j.connection _ (LeaveOutput e ch u v) (Ended e) m refl
making_hear j (LeaveOutput e ch u arg) v fits m = either j.connection (eqb v arg) (output_left j e ch u arg) (decide_leave_out j e ch u v)
    (either j.connection _ (Ended e) (ReadBandwidthToRelease (EndsAs e) ch u) refl refl) (either j.connection _ (LeaveOutput e ch u v) (Ended e) m refl)
making_hear j (ReadBandwidthToRelease next ch u) v fits m = either j.connection _ (RaiseBandwidth next ch u v) (ReadChannelsToRelease next ch) refl refl
making_hear j (RaiseBandwidth next ch u arg) v fits m = either j.connection (eqb v arg) (ReadChannelsToRelease next ch) (decide_raise next ch u v) refl
    (either j.connection _ (RaiseBandwidth next ch u v) (ReadChannelsToRelease next ch) refl refl)
making_hear j (ReadChannelsToRelease next ch) v fits m = refl
making_hear j (RestoreChannel next ch arg) v fits m = either j.connection (eqb v arg) (goes_on next) (RestoreChannel next ch v) (going_on j.connection next) refl
making_hear j (Made f) v fits m = refl
making_hear j (Ended e) v fits m = refl

making_refused : (j : Job) (s : Stage) (rcode : ℕ) → StageFits j s → is_making_stage j.connection (refuse j s rcode) ≡ true
making_refused j (ReadInput f) rcode fits = left_output j.connection (NoPlug rcode) f fits.0
making_refused j _ rcode fits = refl

-- after an answer
pub making_heard : (j : Job) (s : Stage) (r : Reply) (why : Purpose) → StageFits j s → MakesFor why j.connection s → MakesFor why j.connection (hear_reply j s r)
making_heard j s r Make fits m = either j.connection (eqb r.rcode 0) (hear j s r.value) (refuse j s r.rcode) (making_hear j s r.value fits m) (making_refused j s r.rcode fits)
making_heard j s r Restore fits m = either j.connection (eqb r.rcode 0) (hear j s r.value) (refuse j s r.rcode) (making_hear j s r.value fits m) (making_refused j s r.rcode fits)
making_heard j s r Break fits m = tt

-- ---- as it begins, and goes on

making_begins : (d : Directory) (j : Job) → is_making_stage j.connection (begin_making d j) ≡ true
making_begins d j = absent (absent_of d j.connection)
  where
    managed : (o : Option ℕ) → is_making_stage j.connection (begin_managed o) ≡ true
    managed None = refl
    managed (Some n) = refl

    absent : (o : Option ℕ) → is_making_stage j.connection (elim o as (λ x. Stage) [ Some device ↦ Ended (Absent device) | None ↦ begin_present d j ]) ≡ true
    absent None = either j.connection (is_listen j.connection) (ReadInput (own_flow j)) (begin_managed d.manager) refl (managed d.manager)
    absent (Some device) = refl

making_begun : (d : Directory) (slot : Slot) (j : Job) (s : Stage) → begin d slot j ≡ begin_making d j → is_making_stage j.connection s ≡ true → is_making_stage j.connection (begun d slot j s) ≡ true
making_begun d slot j Begin e m = subst (λ x. is_making_stage j.connection x ≡ true) (sym e) (making_begins d j)
making_begun d slot j _ e m = m

makes_on : (d : Directory) (slot : Slot) (j : Job) (s : Stage) → begin d slot j ≡ begin_making d j → is_making_stage j.connection s ≡ true → is_making_stage j.connection (resumed d slot j s) ≡ true
makes_on d slot j s e m = either j.connection (is_late slot j s) (Ended Late) (begun d slot j s) refl (making_begun d slot j s e m)

pub making_resumed : (d : Directory) (slot : Slot) (j : Job) (s : Stage) (why : Purpose) → j.purpose ≡ why → MakesFor why j.connection s → MakesFor why j.connection (resumed d slot j s)
making_resumed d slot j s Make e m = makes_on d slot j s (ap (λ w. elim w as (λ x. Stage) [ Make ↦ begin_making d j | Restore ↦ begin_making d j | Break ↦ begin_breaking slot ]) e) m
making_resumed d slot j s Restore e m = makes_on d slot j s (ap (λ w. elim w as (λ x. Stage) [ Make ↦ begin_making d j | Restore ↦ begin_making d j | Break ↦ begin_breaking slot ]) e) m
making_resumed d slot j s Break e m = tt
