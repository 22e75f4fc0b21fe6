-- What each decision shows of the cause for which a job is to end.
use Rattle.fw_cmp_jobs.proofs.Common.{◌≡◌, ℕ, Bool, true, false, not, ◌&&◌, refl, sym, subst, arith, Option, Some, None, inl, inr, if◌then◌else◌, nat_tests, find_to, find_to_is, IsFirst, Flow, Job}
use Rattle.fw_cmp_jobs.proofs.Common.{Ending, Stage, ReadOutput, ReadChannels, SwapChannels, SwapBandwidth, OverlayOutput, ReadInput, ConnectInput, ReadOutputToLeave, ReadBandwidthToRelease}
use Rattle.fw_cmp_jobs.proofs.Common.{ReadChannelsToRelease, Made, Ended, is_listen, restores}
use Rattle.std.proofs.Common.{◌-◌, ◌==◌}
use Rattle.std.specs.Prelude.{IfSome, nat_le}
use Rattle.fw_plug.specs.Words.{is_connected}
use Rattle.fw_cmp_jobs.specs.declared.job.HeldResources.{HeldResources}
use Rattle.fw_cmp_jobs.specs.declared.job.Ending.TheVariants.{NoChannel, NoUnits, PlugFull, InputBusy, Late}
use Rattle.fw_cmp_jobs.specs.declared.job.Then.TheVariants.{EndsAs, Again}
use Rattle.fw_cmp_jobs.specs.Connections.{kind_of, is_point_to_point}
use Rattle.fw_cmp_jobs.specs.Plugs.{has_broadcast, counter_of, channel_of, is_full, is_bit, remainder_of}
use Rattle.fw_cmp_jobs.specs.Decisions.{give_back, leave_output, is_lost, decide_free, decide_connected, decide_out, decide_any, decide_channel, needs, decide_units, output_joined, listen_flow}
use Rattle.fw_cmp_jobs.specs.Decisions.{decide_listen, decide_point_to_point, decide_in}
use Rattle.fw_cmp_jobs.specs.Answers.{decision_of, ShowsNoChannel, DecidesOutput, DecidesChannel, DecidesUnits, DecidesInput}

-- what is decided at a stage has a cause
abbrev pub Has : (Ending → Type 0) → Stage → Type 0
Has P s = IfSome (decision_of s) P

-- ---- the output plug

given_back : (P : Ending → Type 0) (held : Option HeldResources) (e : Ending) → P e → Has P (give_back held (EndsAs e))
given_back P None e h = h
given_back P (Some x) e h = go (x.units == 0)
  where
    go : (b : Bool) → Has P (if b then ReadChannelsToRelease (EndsAs e) x.channel else ReadBandwidthToRelease (EndsAs e) x.channel x.units)
    go true = h
    go false = h

again : (P : Ending → Type 0) (x : HeldResources) → Has P (give_back (Some x) Again)
again P x = go (x.units == 0)
  where
    go : (b : Bool) → Has P (if b then ReadChannelsToRelease Again x.channel else ReadBandwidthToRelease Again x.channel x.units)
    go true = tt
    go false = tt

output_connected : (j : Job) (held : Option HeldResources) (w : ℕ) → is_connected w ≡ true → Has (DecidesOutput j w) (decide_connected j held w)
output_connected j None w c = go (is_lost j w) refl
  where
    go : (b : Bool) → is_lost j w ≡ b → Has (DecidesOutput j w) (if b then Ended Late else OverlayOutput w)
    go true e = (c, e)
    go false e = tt
output_connected j (Some x) w c = go (is_lost j w) refl
  where
    go : (b : Bool) → is_lost j w ≡ b → Has (DecidesOutput j w) (give_back (Some x) (if b then EndsAs Late else Again))
    go true e = given_back (DecidesOutput j w) (Some x) Late (c, e)
    go false e = again (DecidesOutput j w) x

output_free : (j : Job) (held : Option HeldResources) (w : ℕ) → Has (DecidesOutput j w) (decide_free j held w)
output_free j None w = tt
output_free j (Some x) w = tt

pub output_decided : (j : Job) (held : Option HeldResources) (w : ℕ) → Has (DecidesOutput j w) (decide_out j held w)
output_decided j held w = full (is_full (kind_of j.connection) w) refl
  where
    connected : (b : Bool) → is_connected w ≡ b → Has (DecidesOutput j w) (if b then decide_connected j held w else decide_free j held w)
    connected true e = output_connected j held w e
    connected false e = output_free j held w

    full : (b : Bool) → is_full (kind_of j.connection) w ≡ b → Has (DecidesOutput j w)
        (if b then give_back held (EndsAs (PlugFull w)) else (if is_connected w then decide_connected j held w else decide_free j held w))
    full true e = given_back (DecidesOutput j w) held (PlugFull w) (refl, e)
    full false e = connected (is_connected w) refl

pub joined : (P : Ending → Type 0) (j : Job) (f : Flow) → Has P (output_joined j f)
joined P j f = go (is_point_to_point j.connection)
  where
    go : (b : Bool) → Has P (if b then ReadInput f else Made f)
    go true = tt
    go false = tt

-- ---- the manager's registers

any_decided : (j : Job) (base plug w : ℕ) (o : Option ℕ) → j.asked ≡ None → IsFirst 32 (is_bit w) o → Has (DecidesChannel j base w) (decide_any o base plug w)
any_decided j base plug w (Some i) a first = tt
any_decided j base plug w None a first = go (base == 0) refl
  where
    go : (b : Bool) → (base == 0) ≡ b → Has (DecidesChannel j base w) (if b then ReadChannels 32 plug else Ended (NoChannel w))
    go true e = tt
    go false e = (refl, subst (λ (o : Option ℕ). ShowsNoChannel j o base w) (sym a) ((λ z. let same : (base == 0) ≡ true = grind (arith, nat_tests) in cc), first))

channel_decided_by : (j : Job) (base plug w : ℕ) (o : Option ℕ) → j.asked ≡ o → Has (DecidesChannel j base w) (decide_channel j o base plug w)
channel_decided_by j base plug w None a = any_decided j base plug w (find_to 32 (is_bit w)) a (find_to_is 32 (is_bit w))
channel_decided_by j base plug w (Some ch) a = free (is_bit w (ch - base)) refl
  where
    taken : is_bit w (ch - base) ≡ false → (b : Bool) → restores j ≡ b → Has (DecidesChannel j base w) (if b then ReadOutput else Ended (NoChannel w))
    taken e true r = tt
    taken e false r = (refl, subst (λ (o : Option ℕ). ShowsNoChannel j o base w) (sym a) (r, e))

    free : (b : Bool) → is_bit w (ch - base) ≡ b → Has (DecidesChannel j base w) (if b then SwapChannels ch w plug else (if restores j then ReadOutput else Ended (NoChannel w)))
    free true e = tt
    free false e = taken e (restores j) refl

pub channel_decided : (j : Job) (base plug w : ℕ) → Has (DecidesChannel j base w) (decide_channel j j.asked base plug w)
channel_decided j base plug w = channel_decided_by j base plug w j.asked refl

pub units_decided : (j : Job) (ch plug w : ℕ) → Has (DecidesUnits j plug w) (decide_units j ch plug w)
units_decided j ch plug w = go (nat_le (needs j plug) (remainder_of w)) refl
  where
    go : (b : Bool) → nat_le (needs j plug) (remainder_of w) ≡ b
        → Has (DecidesUnits j plug w) (if b then SwapBandwidth ch (needs j plug) w plug else ReadChannelsToRelease (EndsAs (NoUnits (remainder_of w))) ch)
    go true e = tt
    go false e = (refl, grind (arith, nat_tests, e))

-- ---- the input plug

pub left_with : (P : Ending → Type 0) (j : Job) (e : Ending) (f : Flow) → P e → Has P (leave_output j.connection e f)
left_with P j e f h = go (is_listen j.connection)
  where
    go : (b : Bool) → Has P (if b then Ended e else ReadOutputToLeave e f.channel f.units)
    go true = h
    go false = h

parts_of_both : (a b : Bool) → a && not b ≡ true → (a ≡ true) × (b ≡ false)
parts_of_both true false e = (refl, refl)
parts_of_both true true e = cc
parts_of_both false b e = cc

pub input_decided : (j : Job) (f : Flow) (w : ℕ) → Has (DecidesInput j f w) (decide_in j f w)
input_decided j f w = listening (is_listen j.connection) refl
  where
    busy : is_listen j.connection ≡ true → (b : Bool) → has_broadcast w ≡ b → Has (DecidesInput j f w) (if b then Ended (InputBusy w) else ConnectInput (listen_flow j f w) w)
    busy l true e = (refl, inl (l, e))
    busy l false e = tt

    full : is_listen j.connection ≡ false → (b : Bool) → (counter_of w == 63) ≡ b → Has (DecidesInput j f w) (if b then leave_output j.connection (PlugFull w) f else ConnectInput f w)
    full l true e = left_with (DecidesInput j f w) j (PlugFull w) f (refl, l, grind (arith, nat_tests, e))
    full l false e = tt

    other : is_listen j.connection ≡ false → (b : Bool) → (is_connected w && not (channel_of w == f.channel)) ≡ b →
        Has (DecidesInput j f w) (if b then leave_output j.connection (InputBusy w) f else (if counter_of w == 63 then leave_output j.connection (PlugFull w) f else ConnectInput f w))
    other l true e =
        let parts : (is_connected w ≡ true) × ((channel_of w == f.channel) ≡ false) = parts_of_both (is_connected w) (channel_of w == f.channel) e in
        left_with (DecidesInput j f w) j (InputBusy w) f (refl, inr (l, parts.0, λ same. let clash : (channel_of w == f.channel) ≡ true = grind (arith, nat_tests) in cc))
    other l false e = full l (counter_of w == 63) refl

    listening : (b : Bool) → is_listen j.connection ≡ b → Has (DecidesInput j f w) (if b then decide_listen j f w else decide_point_to_point j f w)
    listening true e = busy e (has_broadcast w) refl
    listening false e = other e (is_connected w && not (channel_of w == f.channel)) refl
