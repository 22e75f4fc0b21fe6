-- What a decision leads to: never to want, if the word shows the units and the channel of the job.
use Rattle.fw_model_controllers.proofs.Common.{◌≡◌, ℕ, ◌+◌, leb, Bool, true, false, not, ◌&&◌, Option, Some, None, eqb}
use Rattle.fw_model_controllers.proofs.Common.{cond, refl, arith, ◌-◌, find_to, is_connected, Connection, Ending, NoPlug, HeldResources, Job, Then}
use Rattle.fw_model_controllers.proofs.Common.{EndsAs, Stage, Begin, ReadOutput, ReadChannels, SwapChannels, ReadBandwidth}
use Rattle.fw_model_controllers.proofs.Common.{SwapBandwidth, ConnectOutput, OverlayOutput, ReadInput, ConnectInput, ReadInputToLeave}
use Rattle.fw_model_controllers.proofs.Common.{LeaveInput, ReadOutputToLeave, LeaveOutput, ReadBandwidthToRelease, RaiseBandwidth, ReadChannelsToRelease}
use Rattle.fw_model_controllers.proofs.Common.{RestoreChannel, Made, Ended, kind_of, is_listen, restores}
use Rattle.fw_model_controllers.proofs.Common.{goes_on, decide_out, decide_channel, decide_units, needs, output_joined, decide_in, input_left, has_broadcast, counter_of, channel_of, half_of, is_bit}
use Rattle.fw_model_controllers.proofs.Common.{shows_connection, one_less, remainder_of, PlugToPlug, BroadcastOut, BroadcastIn, Slot, Free}
use Rattle.fw_model_controllers.proofs.Common.{Making, Established, Restoring, Gone, Directory, Purpose, Make, Restore}
use Rattle.fw_model_controllers.proofs.Common.{Break, begin_making, begin_leaving, hear, refuse}
use Rattle.std.specs.Prelude.{⊤}
use Rattle.fw_cmp_jobs.specs.declared.connection.Flow.{Flow as ConnectionFlow}
use Rattle.fw_cmp_jobs.specs.declared.job.Ending.TheVariants.{Absent, PlugFull, InputBusy}
use Rattle.fw_cmp_jobs.specs.declared.job.Then.TheVariants.{Again}
use Rattle.fw_cmp_jobs.specs.Connections.{is_point_to_point}
use Rattle.fw_cmp_jobs.specs.Decisions.{is_lost, give_back, leave_output, decide_connected, decide_free, decide_any}
use Rattle.fw_cmp_jobs.specs.Decisions.{decide_listen, decide_point_to_point, listen_flow, decide_leave_in, decide_leave_out, output_left, decide_raise}
use Rattle.fw_cmp_jobs.specs.Jobs.{own_flow, absent_of, begin_managed, begin_present, begin_breaking, is_over, is_late, begun, resumed}
use Rattle.fw_model_controllers.specs.Wants.{is_want, leads_to_want, wants}

-- ---- what a decision leads to

either : (b : Bool) (x y : Stage) → wants x ≡ false → wants y ≡ false → wants (cond b x y) ≡ false
either true x y e f = e
either false x y e f = f

on_wants : (next : Then) → leads_to_want next ≡ false → wants (goes_on next) ≡ false
on_wants (EndsAs e) q = q
on_wants Again q = refl

back_wants : (held : Option HeldResources) (next : Then) → leads_to_want next ≡ false → wants (give_back held next) ≡ false
back_wants None next q = on_wants next q
back_wants (Some h) next q = either (eqb h.units 0) _ _ q q

leave_wants : (conn : Connection) (e : Ending) (f : ConnectionFlow) → is_want e ≡ false → wants (leave_output conn e f) ≡ false
leave_wants conn e f q = either (is_listen conn) _ _ q q

any_wants : (o : Option ℕ) (base w v : ℕ) → wants (decide_any o base w v) ≡ false
any_wants None base w v = either (eqb base 0) _ _ refl refl
any_wants (Some i) base w v = refl

channel_wants : (j : Job) (o : Option ℕ) (base w v : ℕ) → wants (decide_channel j o base w v) ≡ false
channel_wants j None base w v = any_wants (find_to 32 (is_bit v)) base w v
channel_wants j (Some ch) base w v = either (is_bit v (ch - base)) _ _ refl (either (restores j) _ _ refl refl)

-- a connection at the output plug is on the channel that is to be restored
abbrev pub IsKept : Job → ℕ → Type 0
IsKept j v = is_connected v ≡ true → is_lost j v ≡ false

out_wants : (j : Job) (held : Option HeldResources) (v : ℕ) → IsKept j v → wants (decide_out j held v) ≡ false
out_wants j held v kept = either _ _ _ (back_wants held (EndsAs (PlugFull v)) refl) (by_connection held (is_connected v) refl)
  where
    by_connection : (h : Option HeldResources) (b : Bool) → is_connected v ≡ b → wants (cond b (decide_connected j h v) (decide_free j h v)) ≡ false
    by_connection None true e = rw (kept e) refl
    by_connection (Some h) true e = rw (kept e) (back_wants (Some h) Again refl)
    by_connection None false e = refl
    by_connection (Some h) false e = refl

units_wants : (j : Job) (ch w v : ℕ) → leb (needs j w) (remainder_of v) ≡ true → wants (decide_units j ch w v) ≡ false
units_wants j ch w v e = rw e refl

in_wants : (j : Job) (f : ConnectionFlow) (v : ℕ) → wants (decide_in j f v) ≡ false
in_wants j f v = either (is_listen j.connection) (decide_listen j f v) (decide_point_to_point j f v) (either (has_broadcast v) (Ended (InputBusy v)) (ConnectInput (listen_flow j f v) v) refl refl)
    (either (is_connected v && not (eqb (channel_of v) f.channel)) (leave_output j.connection (InputBusy v) f)
    (cond (eqb (counter_of v) 63) (leave_output j.connection (PlugFull v) f) (ConnectInput f v)) (leave_wants j.connection (InputBusy v) f refl)
    (either (eqb (counter_of v) 63) (leave_output j.connection (PlugFull v) f) (ConnectInput f v) (leave_wants j.connection (PlugFull v) f refl) refl))

left_wants : (j : Job) (ch u : ℕ) → wants (input_left j ch u) ≡ false
left_wants j ch u = either (is_listen j.connection) _ _ refl refl

leave_in_wants : (j : Job) (ch u v : ℕ) → wants (decide_leave_in j ch u v) ≡ false
leave_in_wants j ch u v = either (shows_connection (kind_of j.connection) v) (LeaveInput ch u v) (input_left j ch u) refl (left_wants j ch u)

leave_out_wants : (j : Job) (e : Ending) (ch u v : ℕ) → is_want e ≡ false → wants (decide_leave_out j e ch u v) ≡ false
leave_out_wants j e ch u v q = either (shows_connection (kind_of j.connection) v) (LeaveOutput e ch u v) (Ended e) q q

output_left_wants : (j : Job) (e : Ending) (ch u w : ℕ) → is_want e ≡ false → wants (output_left j e ch u w) ≡ false
output_left_wants j e ch u w q = either (is_connected (one_less (kind_of j.connection) w)) (Ended e) (ReadBandwidthToRelease (EndsAs e) ch u) q q

raise_wants : (next : Then) (ch u v : ℕ) → leads_to_want next ≡ false → wants (decide_raise next ch u v) ≡ false
raise_wants next ch u v q = either (leb (u + remainder_of v) 4915) (RaiseBandwidth next ch u v) (ReadChannelsToRelease next ch) q q

joined_wants : (j : Job) (f : ConnectionFlow) → wants (output_joined j f) ≡ false
joined_wants j f = either (is_point_to_point j.connection) (ReadInput f) (Made f) refl refl

-- ---- what an answer leads to

-- what the word must show if a job could come to want
abbrev pub Finds : Job → ℕ → Stage → Type 0
Finds j v ReadOutput = IsKept j v
Finds j v (ConnectOutput ch u arg) = IsKept j v
Finds j v (OverlayOutput arg) = IsKept j v
Finds j v (ReadBandwidth ch w) = leb (needs j w) (remainder_of v) ≡ true
Finds j v (SwapBandwidth ch u arg w) = leb (needs j w) (remainder_of v) ≡ true
Finds j v _ = ⊤

pub hear_wants : (j : Job) (s : Stage) (v : ℕ) → wants s ≡ false → Finds j v s → wants (hear j s v) ≡ false
hear_wants j Begin v q f = refl
hear_wants j ReadOutput v q f = out_wants j None v f
hear_wants j (ReadChannels base w) v q f = channel_wants j j.asked base w v
hear_wants j (SwapChannels ch arg w) v q f = either (eqb v arg) _ _ refl (channel_wants j j.asked (half_of ch) w v)
hear_wants j (ReadBandwidth ch w) v q f = units_wants j ch w v f
hear_wants j (SwapBandwidth ch u arg w) v q f = either (eqb v arg) _ _ refl (units_wants j ch w v f)
hear_wants j (ConnectOutput ch u arg) v q f = either (eqb v arg) _ _ (joined_wants j _) (out_wants j (Some (record { channel = ch; units = u })) v f)
hear_wants j (OverlayOutput arg) v q f = either (eqb v arg) _ _ (joined_wants j _) (out_wants j None v f)
hear_wants j (ReadInput g) v q f = in_wants j g v
hear_wants j (ConnectInput g arg) v q f = either (eqb v arg) _ _ refl (in_wants j g v)
hear_wants j (ReadInputToLeave ch u) v q f = leave_in_wants j ch u v
hear_wants j (LeaveInput ch u arg) v q f = either (eqb v arg) _ _ (left_wants j ch u) (leave_in_wants j ch u v)
hear_wants j (ReadOutputToLeave e ch u) v q f = leave_out_wants j e ch u v q
hear_wants j (LeaveOutput e ch u arg) v q f = either (eqb v arg) _ _ (output_left_wants j e ch u arg q) (leave_out_wants j e ch u v q)
hear_wants j (ReadBandwidthToRelease next ch u) v q f = raise_wants next ch u v q
hear_wants j (RaiseBandwidth next ch u arg) v q f = either (eqb v arg) _ _ q (raise_wants next ch u v q)
hear_wants j (ReadChannelsToRelease next ch) v q f = q
hear_wants j (RestoreChannel next ch arg) v q f = either (eqb v arg) _ _ (on_wants next q) q
hear_wants j (Made g) v q f = refl
hear_wants j (Ended e) v q f = q

pub refuse_wants : (j : Job) (s : Stage) (rcode : ℕ) → wants (refuse j s rcode) ≡ false
refuse_wants j Begin rcode = refl
refuse_wants j ReadOutput rcode = refl
refuse_wants j (ReadChannels base w) rcode = refl
refuse_wants j (SwapChannels ch arg w) rcode = refl
refuse_wants j (ReadBandwidth ch w) rcode = refl
refuse_wants j (SwapBandwidth ch u arg w) rcode = refl
refuse_wants j (ConnectOutput ch u arg) rcode = refl
refuse_wants j (OverlayOutput arg) rcode = refl
refuse_wants j (ReadInput g) rcode = leave_wants j.connection (NoPlug rcode) g refl
refuse_wants j (ConnectInput g arg) rcode = refl
refuse_wants j (ReadInputToLeave ch u) rcode = refl
refuse_wants j (LeaveInput ch u arg) rcode = refl
refuse_wants j (ReadOutputToLeave e ch u) rcode = refl
refuse_wants j (LeaveOutput e ch u arg) rcode = refl
refuse_wants j (ReadBandwidthToRelease next ch u) rcode = refl
refuse_wants j (RaiseBandwidth next ch u arg) rcode = refl
refuse_wants j (ReadChannelsToRelease next ch) rcode = refl
refuse_wants j (RestoreChannel next ch arg) rcode = refl
refuse_wants j (Made g) rcode = refl
refuse_wants j (Ended e) rcode = refl

-- ---- a turn

managed_wants : (o : Option ℕ) → wants (begin_managed o) ≡ false
managed_wants None = refl
managed_wants (Some n) = refl

present_wants : (dir : Directory) (j : Job) → wants (begin_present dir j) ≡ false
present_wants dir j = either (is_listen j.connection) (ReadInput (own_flow j)) (begin_managed dir.manager) refl (managed_wants dir.manager)

making_wants : (dir : Directory) (j : Job) (o : Option ℕ) → wants (elim o as (λ _. Stage) [ Some device ↦ Ended (Absent device) | None ↦ begin_present dir j ]) ≡ false
making_wants dir j None = present_wants dir j
making_wants dir j (Some device) = refl

leaving_wants : (conn : Connection) (f : ConnectionFlow) → wants (begin_leaving conn f) ≡ false
leaving_wants (PlugToPlug out into) f = refl
leaving_wants (BroadcastOut out) f = refl
leaving_wants (BroadcastIn into) f = refl

breaking_wants : (slot : Slot) → wants (begin_breaking slot) ≡ false
breaking_wants (Established conn f) = leaving_wants conn f
breaking_wants Free = refl
breaking_wants (Making conn asked overhead) = refl
breaking_wants (Restoring conn f over) = refl
breaking_wants (Gone conn) = refl

begin_wants : (dir : Directory) (slot : Slot) (j : Job) (p : Purpose)
    → wants (elim p as (λ _. Stage) [ Make ↦ begin_making dir j | Restore ↦ begin_making dir j | Break ↦ begin_breaking slot ]) ≡ false
begin_wants dir slot j Make = making_wants dir j (absent_of dir j.connection)
begin_wants dir slot j Restore = making_wants dir j (absent_of dir j.connection)
begin_wants dir slot j Break = breaking_wants slot

begun_wants : (dir : Directory) (slot : Slot) (j : Job) (s : Stage) → wants s ≡ false → wants (begun dir slot j s) ≡ false
begun_wants dir slot j Begin q = begin_wants dir slot j j.purpose
begun_wants dir slot j s q = q

pub resumed_wants : (dir : Directory) (slot : Slot) (j : Job) (s : Stage) → is_over slot ≡ false → wants s ≡ false → wants (resumed dir slot j s) ≡ false
resumed_wants dir slot j s own q = let early : is_late slot j s ≡ false = grind arith in rw early (begun_wants dir slot j s q)
