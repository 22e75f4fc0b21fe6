-- A job is to end so, only if it was before the answer, or where the answer shows the cause.
use Rattle.fw_cmp_jobs.specs.declared.job.HeldResources.{HeldResources}
use Rattle.fw_cmp_jobs.proofs.Common.{◌≡◌, ℕ, ◌+◌, Bool, true, false, refl, arith, Option, Some, None, ◌⊎◌, inl, inr, if◌then◌else◌, nat_tests, Reply, Job, Ending, Stage, Begin, ReadOutput}
use Rattle.fw_cmp_jobs.proofs.Common.{ReadChannels, SwapChannels, ReadBandwidth, SwapBandwidth, ConnectOutput, OverlayOutput, ReadInput, ConnectInput, ReadInputToLeave, LeaveInput, ReadOutputToLeave}
use Rattle.fw_cmp_jobs.proofs.Common.{LeaveOutput, ReadBandwidthToRelease, RaiseBandwidth, ReadChannelsToRelease, RestoreChannel, Made, Ended, is_listen}
use Rattle.std.proofs.Common.{◌==◌}
use Rattle.std.specs.Prelude.{IfSome, nat_le}
use Rattle.fw_plug.specs.Words.{is_connected}
use Rattle.fw_cmp_jobs.specs.declared.job.Ending.TheVariants.{Broken, NoPlug}
use Rattle.fw_cmp_jobs.specs.declared.job.Then.{Then}
use Rattle.fw_cmp_jobs.specs.declared.job.Then.TheVariants.{EndsAs, Again}
use Rattle.fw_cmp_jobs.specs.Connections.{kind_of}
use Rattle.fw_cmp_jobs.specs.Plugs.{half_of, remainder_of, shows_connection, one_less}
use Rattle.fw_cmp_jobs.specs.Decisions.{goes_on, decide_out, decide_channel, decide_units, first_flow, overlaid_flow, output_joined, decide_in, input_left, decide_leave_in, decide_leave_out}
use Rattle.fw_cmp_jobs.specs.Decisions.{output_left, decide_raise}
use Rattle.fw_cmp_jobs.specs.Stages.{hear, refuse, hear_reply}
use Rattle.fw_cmp_jobs.specs.Answers.{ending_of, decision_of, DecidesOutput, DecidesChannel, DecidesUnits, DecidesInput, Decides, Refuses, DecidedBy}
use Rattle.fw_cmp_jobs.proofs.Causes.{Has, output_decided, joined, channel_decided, units_decided, left_with, input_decided}

-- ---- giving back decides nothing

-- what is decided stays so
abbrev Stays : Option Ending → Stage → Type 0
Stays o s = IfSome (decision_of s) (λ e. o ≡ Some e)

went_on : (next : Then) → Stays (ending_of next) (goes_on next)
went_on (EndsAs e) = refl
went_on Again = tt

ending_stays : (next : Then) → IfSome (ending_of next) (λ e. ending_of next ≡ Some e)
ending_stays (EndsAs e) = refl
ending_stays Again = tt

raised : (next : Then) (ch u v : ℕ) → Stays (ending_of next) (decide_raise next ch u v)
raised next ch u v = go (nat_le (u + remainder_of v) 4915)
  where
    go : (b : Bool) → Stays (ending_of next) (if b then RaiseBandwidth next ch u v else ReadChannelsToRelease next ch)
    go true = ending_stays next
    go false = ending_stays next

left_input : (j : Job) (ch u : ℕ) → Stays (Some Broken) (input_left j ch u)
left_input j ch u = go (is_listen j.connection)
  where
    go : (b : Bool) → Stays (Some Broken) (if b then Ended Broken else ReadOutputToLeave Broken ch u)
    go true = refl
    go false = refl

leaving_input : (j : Job) (ch u v : ℕ) → Stays (Some Broken) (decide_leave_in j ch u v)
leaving_input j ch u v = go (shows_connection (kind_of j.connection) v)
  where
    go : (b : Bool) → Stays (Some Broken) (if b then LeaveInput ch u v else input_left j ch u)
    go true = refl
    go false = left_input j ch u

leaving_output : (j : Job) (e : Ending) (ch u v : ℕ) → Stays (Some e) (decide_leave_out j e ch u v)
leaving_output j e ch u v = go (shows_connection (kind_of j.connection) v)
  where
    go : (b : Bool) → Stays (Some e) (if b then LeaveOutput e ch u v else Ended e)
    go true = refl
    go false = refl

left_output : (j : Job) (e : Ending) (ch u w : ℕ) → Stays (Some e) (output_left j e ch u w)
left_output j e ch u w = go (is_connected (one_less (kind_of j.connection) w))
  where
    go : (b : Bool) → Stays (Some e) (if b then Ended e else ReadBandwidthToRelease (EndsAs e) ch u)
    go true = refl
    go false = refl

-- ---- an answer

either_stage : (P : Ending → Type 0) (b : Bool) (s t : Stage) → Has P s → Has P t → Has P (if b then s else t)
either_stage P true s t a c = a
either_stage P false s t a c = c

-- what is decided at a stage was so before, or the word shows its cause
abbrev Known : Job → Stage → ℕ → Ending → Type 0
Known j s w e = (decision_of s ≡ Some e) ⊎ Decides j s w e

weaken : (P Q : Ending → Type 0) (o : Option Ending) → ((e : Ending) → P e → Q e) → IfSome o P → IfSome o Q
weaken P Q None f h = tt
weaken P Q (Some e) f h = f e h

decides : (j : Job) (s : Stage) (w : ℕ) (t : Stage) → Has (Decides j s w) t → Has (Known j s w) t
decides j s w t h = weaken (Decides j s w) (Known j s w) (decision_of t) (λ e x. inr x) h

stays : (j : Job) (s : Stage) (w : ℕ) (t : Stage) → Stays (decision_of s) t → Has (Known j s w) t
stays j s w t h = weaken (λ e. decision_of s ≡ Some e) (Known j s w) (decision_of t) (λ e x. inl x) h

pub word_decides : (j : Job) (s : Stage) (w : ℕ) → Has (Known j s w) (hear j s w)
word_decides j Begin w = tt
word_decides j ReadOutput w = decides j ReadOutput w (decide_out j None w) (output_decided j None w)
word_decides j (ReadChannels base p) w = decides j (ReadChannels base p) w (decide_channel j j.asked base p w) (channel_decided j base p w)
word_decides j (SwapChannels ch arg p) w = decides j (SwapChannels ch arg p) w (hear j (SwapChannels ch arg p) w)
    (either_stage (DecidesChannel j (half_of ch) w) (w == arg) (ReadBandwidth ch p) (decide_channel j j.asked (half_of ch) p w) tt (channel_decided j (half_of ch) p w))
word_decides j (ReadBandwidth ch p) w = decides j (ReadBandwidth ch p) w (decide_units j ch p w) (units_decided j ch p w)
word_decides j (SwapBandwidth ch u arg p) w = decides j (SwapBandwidth ch u arg p) w (hear j (SwapBandwidth ch u arg p) w)
    (either_stage (DecidesUnits j p w) (w == arg) (ConnectOutput ch u p) (decide_units j ch p w) tt (units_decided j ch p w))
word_decides j (ConnectOutput ch u arg) w =
    let held : Option HeldResources = Some (record { channel = ch; units = u }) in
    decides j (ConnectOutput ch u arg) w (hear j (ConnectOutput ch u arg) w)
    (either_stage (DecidesOutput j w) (w == arg) (output_joined j (first_flow j ch u)) (decide_out j held w) (joined (DecidesOutput j w) j (first_flow j ch u)) (output_decided j held w))
word_decides j (OverlayOutput arg) w = decides j (OverlayOutput arg) w (hear j (OverlayOutput arg) w)
    (either_stage (DecidesOutput j w) (w == arg) (output_joined j (overlaid_flow arg)) (decide_out j None w) (joined (DecidesOutput j w) j (overlaid_flow arg)) (output_decided j None w))
word_decides j (ReadInput f) w = decides j (ReadInput f) w (decide_in j f w) (input_decided j f w)
word_decides j (ConnectInput f arg) w = decides j (ConnectInput f arg) w (hear j (ConnectInput f arg) w)
    (either_stage (DecidesInput j f w) (w == arg) (Made f) (decide_in j f w) tt (input_decided j f w))
word_decides j (ReadInputToLeave ch u) w = stays j (ReadInputToLeave ch u) w (decide_leave_in j ch u w) (leaving_input j ch u w)
word_decides j (LeaveInput ch u arg) w = stays j (LeaveInput ch u arg) w (hear j (LeaveInput ch u arg) w)
    (either_stage (λ e. Some Broken ≡ Some e) (w == arg) (input_left j ch u) (decide_leave_in j ch u w) (left_input j ch u) (leaving_input j ch u w))
word_decides j (ReadOutputToLeave e ch u) w = stays j (ReadOutputToLeave e ch u) w (decide_leave_out j e ch u w) (leaving_output j e ch u w)
word_decides j (LeaveOutput e ch u arg) w = stays j (LeaveOutput e ch u arg) w (hear j (LeaveOutput e ch u arg) w)
    (either_stage (λ x. Some e ≡ Some x) (w == arg) (output_left j e ch u arg) (decide_leave_out j e ch u w) (left_output j e ch u arg) (leaving_output j e ch u w))
word_decides j (ReadBandwidthToRelease next ch u) w = stays j (ReadBandwidthToRelease next ch u) w (decide_raise next ch u w) (raised next ch u w)
word_decides j (RaiseBandwidth next ch u arg) w = stays j (RaiseBandwidth next ch u arg) w (hear j (RaiseBandwidth next ch u arg) w)
    (either_stage (λ x. ending_of next ≡ Some x) (w == arg) (ReadChannelsToRelease next ch) (decide_raise next ch u w) (ending_stays next) (raised next ch u w))
word_decides j (ReadChannelsToRelease next ch) w = stays j (ReadChannelsToRelease next ch) w (RestoreChannel next ch w) (ending_stays next)
word_decides j (RestoreChannel next ch arg) w = stays j (RestoreChannel next ch arg) w (hear j (RestoreChannel next ch arg) w)
    (either_stage (λ x. ending_of next ≡ Some x) (w == arg) (goes_on next) (RestoreChannel next ch w) (went_on next) (ending_stays next))
word_decides j (Made f) w = tt
word_decides j (Ended e) w = inl refl

pub refusal_decides : (j : Job) (s : Stage) (rcode : ℕ) → Has (Refuses rcode) (refuse j s rcode)
refusal_decides j (ReadInput f) rcode = left_with (Refuses rcode) j (NoPlug rcode) f refl
refusal_decides j s rcode = refl

-- the whole answer
pub answer_decides : (j : Job) (s : Stage) (r : Reply) → IfSome (decision_of (hear_reply j s r)) (λ e. (decision_of s ≡ Some e) ⊎ DecidedBy j s r e)
answer_decides j s r = go (r.rcode == 0) refl
  where
    P : Ending → Type 0
    P e = (decision_of s ≡ Some e) ⊎ DecidedBy j s r e

    known : r.rcode ≡ 0 → (e : Ending) → Known j s r.value e → P e
    known z e (inl x) = inl x
    known z e (inr x) = inr (inl (z, x))

    go : (b : Bool) → (r.rcode == 0) ≡ b → Has P (if b then hear j s r.value else refuse j s r.rcode)
    go true e = weaken (Known j s r.value) P (decision_of (hear j s r.value)) (known (grind (arith, nat_tests, e))) (word_decides j s r.value)
    go false e = weaken (Refuses r.rcode) P (decision_of (refuse j s r.rcode)) (λ x h. inr (inr (λ z. let clash : (r.rcode == 0) ≡ true = grind (arith, nat_tests) in cc, h)))
        (refusal_decides j s r.rcode)
