-- What a stage of the output plug or of the manager's registers keeps has room in the registers.
use Rattle.fw_model_controllers.proofs.Common.{◌≡◌, ℕ, ◌+◌, ◌-◌, ◌^◌, ◌<◌, ◌≤◌, Bool, true, false, Option, Some, None, eqb, leb, cond, refl, subst, sym, arith, inl, inr, nat_tests, find_to}
use Rattle.fw_model_controllers.proofs.Common.{find_to_is, IsFirst, is_connected, Flow, Job, HeldResources, Then, EndsAs, Ending, Late, Stage, ReadOutput, ReadChannels, SwapChannels, SwapBandwidth}
use Rattle.fw_model_controllers.proofs.Common.{OverlayOutput, ReadOutputToLeave, ReadBandwidthToRelease, ReadChannelsToRelease, Ended, kind_of, is_listen, is_full, is_bit, half_of, remainder_of}
use Rattle.fw_model_controllers.proofs.Common.{restores, goes_on, decide_out, decide_channel, needs, decide_units, JobFits, StageFits}
use Rattle.fw_cmp_jobs.specs.declared.job.Then.TheVariants.{Again}
use Rattle.fw_cmp_jobs.specs.declared.job.Ending.TheVariants.{NoChannel, NoUnits, PlugFull}
use Rattle.fw_cmp_jobs.specs.Decisions.{give_back, leave_output, first_half, is_lost, decide_connected, decide_free, decide_any}
use Rattle.fw_cmp_jobs.specs.Fits.{FlowFits, AskedFits, IsHalf, AskedWithin, HasOutput, HeldFits}

-- one of two stages
pub either : (j : Job) (b : Bool) (s t : Stage) → StageFits j s → StageFits j t → StageFits j (cond b s t)
either j true s t f g = f
either j false s t f g = g

-- ---- giving back

pub on_fits : (j : Job) (next : Then) → HasOutput j.connection → StageFits j (goes_on next)
on_fits j (EndsAs e) out = tt
on_fits j Again out = out

back_fits : (j : Job) (h : Option HeldResources) (next : Then) → HasOutput j.connection → HeldFits h → StageFits j (give_back h next)
back_fits j None next out f = on_fits j next out
back_fits j (Some h) next out f = either j (eqb h.units 0) (ReadChannelsToRelease next h.channel) (ReadBandwidthToRelease next h.channel h.units) (out, f.0) (out, f)

pub leave_fits : (j : Job) (e : Ending) (f : Flow) → FlowFits f → StageFits j (leave_output j.connection e f)
leave_fits j e f fits = go (is_listen j.connection) refl
  where
    go : (b : Bool) → is_listen j.connection ≡ b → StageFits j (cond b (Ended e) (ReadOutputToLeave e f.channel f.units))
    go true x = tt
    go false x = (x, (fits.channel, fits.units))

-- ---- the output plug

pub half_is : (ch : ℕ) → IsHalf (half_of ch)
half_is ch = grind (arith, nat_tests)

first_half_is : (o : Option ℕ) → IsHalf (first_half o)
first_half_is None = inl refl
first_half_is (Some ch) = half_is ch

asked_within : (o : Option ℕ) → AskedFits o → AskedWithin o (first_half o)
asked_within None f = tt
asked_within (Some ch) f = (grind (arith, nat_tests), grind (arith, nat_tests))

pub out_fits : (j : Job) (h : Option HeldResources) (w : ℕ) → JobFits j → HasOutput j.connection → HeldFits h → w < 2 ^ 32 → StageFits j (decide_out j h w)
out_fits j h w job out f lt = go (is_full (kind_of j.connection) w) refl (is_connected w) refl
  where
    connected_fits : (h : Option HeldResources) → HeldFits h → is_connected w ≡ true → is_full (kind_of j.connection) w ≡ false → StageFits j (decide_connected j h w)
    connected_fits None f g e = either j (is_lost j w) (Ended Late) (OverlayOutput w) tt (out, lt, g, e)
    connected_fits (Some k) f g e = back_fits j (Some k) (cond (is_lost j w) (EndsAs Late) Again) out f

    free_fits : (h : Option HeldResources) → HeldFits h → is_connected w ≡ false → StageFits j (decide_free j h w)
    free_fits None f g = (out, first_half_is j.asked, asked_within j.asked job.asked, (lt, g))
    free_fits (Some k) f g = (out, f, (lt, g))

    go : (full : Bool) → is_full (kind_of j.connection) w ≡ full → (connected : Bool) → is_connected w ≡ connected
        → StageFits j (cond full (give_back h (EndsAs (PlugFull w))) (cond connected (decide_connected j h w) (decide_free j h w)))
    go true e connected g = back_fits j h (EndsAs (PlugFull w)) out f
    go false e true g = connected_fits h f g e
    go false e false g = free_fits h f g

-- ---- the manager's registers

channel_within : (ch base : ℕ) → IsHalf base → base ≤ ch → ch < base + 32 → half_of ch ≡ base
channel_within ch base (inl e) le lt = grind (arith, nat_tests)
channel_within ch base (inr e) le lt = grind (arith, nat_tests)

half_within : (ch : ℕ) → ch < 64 → (half_of ch ≤ ch) × (ch < half_of ch + 32)
half_within ch lt = (grind (arith, nat_tests), grind (arith, nat_tests))

pub channel_fits : (j : Job) (base w v : ℕ) → HasOutput j.connection → IsHalf base → AskedWithin j.asked base → (w < 2 ^ 32) × (is_connected w ≡ false) → v < 2 ^ 32
    → StageFits j (decide_channel j j.asked base w v)
channel_fits j base w v out half within f lt = go j.asked refl
  where
    asked : (ch : ℕ) → j.asked ≡ Some ch → (base ≤ ch) × (ch < base + 32)
    asked ch e = subst (λ o. AskedWithin o base) e within

    below : (ch : ℕ) → IsHalf base → ch < base + 32 → ch < 64
    below ch (inl e) l = omega arith
    below ch (inr e) l = omega arith

    taken : (ch : ℕ) → j.asked ≡ Some ch → (b : Bool) → is_bit v (ch - base) ≡ b → (r : Bool) → StageFits j (cond b (SwapChannels ch v w) (cond r ReadOutput (Ended (NoChannel v))))
    taken ch e true bit r =
        let at : half_of ch ≡ base = channel_within ch base half (asked ch e).0 (asked ch e).1 in
        (out, below ch half (asked ch e).1, subst (λ x. AskedWithin j.asked x) (sym at) within, subst (λ x. is_bit v (ch - x) ≡ true) (sym at) bit, lt, f)
    taken ch e false bit true = out
    taken ch e false bit false = tt

    any : (o : Option ℕ) → IsFirst 32 (is_bit v) o → j.asked ≡ None → StageFits j (decide_any o base w v)
    any (Some i) first e =
        let at : half_of (base + i) ≡ base = channel_within (base + i) base half (omega arith) (omega (arith, first.0)) in
        let own : (base + i) - base ≡ i = omega arith in (
          out,
          below (base + i) half (omega (arith, first.0)),
          subst (λ o. AskedWithin o (half_of (base + i))) (sym e) tt,
          subst (λ x. is_bit v ((base + i) - x) ≡ true) (sym at) (subst (λ x. is_bit v x ≡ true) (sym own) first.1),
          lt,
          f,
        )
    any None first e = either j (eqb base 0) (ReadChannels 32 w) (Ended (NoChannel v)) (out, inr refl, subst (λ o. AskedWithin o 32) (sym e) tt, f) tt

    go : (o : Option ℕ) → j.asked ≡ o → StageFits j (decide_channel j o base w v)
    go (Some ch) e = taken ch e (is_bit v (ch - base)) refl (restores j)
    go None e = any (find_to 32 (is_bit v)) (find_to_is 32 (is_bit v)) e

pub units_fits : (j : Job) (ch w v : ℕ) → HasOutput j.connection → ch < 64 → (w < 2 ^ 32) × (is_connected w ≡ false) → v < 2 ^ 32 → StageFits j (decide_units j ch w v)
units_fits j ch w v out lt f vl = go (leb (needs j w) (remainder_of v)) refl
  where
    go : (b : Bool) → leb (needs j w) (remainder_of v) ≡ b → StageFits j (cond b (SwapBandwidth ch (needs j w) v w) (ReadChannelsToRelease (EndsAs (NoUnits (remainder_of v))) ch))
    go true e = (out, lt, grind (arith, nat_tests), vl, f)
    go false e = (out, lt)
