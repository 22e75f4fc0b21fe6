-- What each decision leads to: ends, giving back, and the output plug.
use Rattle.fw_model_controllers.proofs.Common.{PlugAt, ConnectionKind, ◌≡◌, ℕ, ◌-◌, ◌^◌, ◌<◌, Bool, true, false, Option, Some, None, is_some, eqb, cond, refl, arith, ◌&&◌, nat_tests, Settings}
use Rattle.fw_model_controllers.proofs.Common.{is_connected, Account, Job, HeldResources, Then, EndsAs, Ending, Late, Stage, ReadOutput, ReadChannels, ConnectOutput, OverlayOutput}
use Rattle.fw_model_controllers.proofs.Common.{ReadBandwidthToRelease, ReadChannelsToRelease, Ended, kind_of, output_of, input_of, is_full, goes_on, decide_out, needs, pending_of, has_output}
use Rattle.fw_model_controllers.proofs.Common.{has_input, job_outputs, job_inputs, count_of, units_at, allocates, sees}
use Rattle.std.proofs.Common.{pow_pos}
use Rattle.fw_plug.specs.Words.{units_of}
use Rattle.fw_cmp_jobs.specs.declared.job.Then.TheVariants.{Again}
use Rattle.fw_cmp_jobs.specs.declared.job.Ending.TheVariants.{PlugFull}
use Rattle.fw_cmp_jobs.specs.Decisions.{give_back, first_half, is_lost}
use Rattle.fw_model_controllers.specs.InStep.{Knows, KnowsFlow, KnowsChannel, KnowsInput, IsFresh, is_input_stage, again, sees_input}

-- A stage that has this, at these plugs, and rests on no more: that the job may allocate, that its output plug was seen, and
-- that its input plug was found.
pub record IsNext (l : Account) (j : Job) (h : Option HeldResources) (out into may seen found : Bool) (t : Stage) : Type 0 where
  pub pending : pending_of t ≡ h
  pub output : (kind : ConnectionKind) (q : PlugAt) → job_outputs j t kind q ≡ count_of (out && has_output j.connection kind q)
  pub input : (kind : ConnectionKind) (q : PlugAt) → job_inputs j t kind q ≡ count_of (into && has_input j.connection kind q)
  pub knows : (p : PlugAt) → output_of j.connection ≡ Some p → Knows (l.settings p).rate j t
  pub flow : (p : PlugAt) → output_of j.connection ≡ Some p → KnowsFlow (l.settings p) t
  pub channel : (q : PlugAt) → input_of j.connection ≡ Some q → KnowsChannel (l.input_channel q) t
  pub keeps : KnowsInput t
  pub fresh : IsFresh j t
  pub plugs : is_input_stage t ≡ true → is_some (input_of j.connection) ≡ true
  pub allocates : allocates t ≡ true → may ≡ true
  pub sees : sees t ≡ true → seen ≡ true
  pub sees_input : sees_input t ≡ true → found ≡ true

pub some_units : (k : Settings) → 0 < units_of k
some_units k = let e : 0 < 2 ^ (4 - k.rate) = pow_pos (4 - k.rate) in omega arith

-- ---- ends, and giving back

pub ended_next : (l : Account) (j : Job) (e : Ending) (may seen found : Bool) → IsNext l j None false false may seen found (Ended e)
ended_next l j e may seen found = record {
  pending = refl;
  output = λ kind q. refl;
  input = λ kind q. refl;
  knows = λ p x. tt;
  flow = λ p x. tt;
  channel = λ q x. tt;
  keeps = tt;
  fresh = tt;
  plugs = λ y. grind arith;
  allocates = λ x. grind arith;
  sees = λ x. grind arith;
  sees_input = λ x. grind arith;
}

pub read_next : (l : Account) (j : Job) (may seen found : Bool) → may ≡ true → IsNext l j None false false may seen found ReadOutput
read_next l j may seen found e = record {
  pending = refl;
  output = λ kind q. refl;
  input = λ kind q. refl;
  knows = λ p x. tt;
  flow = λ p x. tt;
  channel = λ q x. tt;
  keeps = tt;
  fresh = tt;
  plugs = λ y. grind arith;
  allocates = λ x. e;
  sees = λ x. grind arith;
  sees_input = λ x. grind arith;
}

pub on_next : (l : Account) (j : Job) (next : Then) (may seen found : Bool) → (again next ≡ true → may ≡ true) → IsNext l j None false false may seen found (goes_on next)
on_next l j (EndsAs e) may seen found f = ended_next l j e may seen found
on_next l j Again may seen found f = read_next l j may seen found (f refl)

pub back_next : (l : Account) (j : Job) (h : HeldResources) (next : Then) (may seen found : Bool) → (again next ≡ true → may ≡ true)
    → IsNext l j (Some h) false false may seen found (give_back (Some h) next)
back_next l j h next may seen found f = go (eqb h.units 0) refl
  where
    go : (b : Bool) → eqb h.units 0 ≡ b → IsNext l j (Some h) false false may seen found (cond b (ReadChannelsToRelease next h.channel) (ReadBandwidthToRelease next h.channel h.units))
    go true e = record {
      pending = grind (arith, nat_tests);
      output = λ kind q. refl;
      input = λ kind q. refl;
      knows = λ p x. tt;
      flow = λ p x. tt;
      channel = λ q x. tt;
      keeps = tt;
      fresh = tt;
      plugs = λ y. grind arith;
      allocates = f;
      sees = λ x. grind arith;
      sees_input = λ x. grind arith;
    }
    go false e = record {
      pending = refl;
      output = λ kind q. refl;
      input = λ kind q. refl;
      knows = λ p x. grind (arith, nat_tests);
      flow = λ p x. tt;
      channel = λ q x. tt;
      keeps = tt;
      fresh = tt;
      plugs = λ y. grind arith;
      allocates = f;
      sees = λ x. grind arith;
      sees_input = λ x. grind arith;
    }

-- ---- the output plug

-- the units that the job needs by a word are those at the plug's data rate
abbrev pub NeedsAre : Account → Job → ℕ → Type 0
NeedsAre l j w = (p : PlugAt) → output_of j.connection ≡ Some p → needs j w ≡ units_at (l.settings p).rate j.overhead

overlay_next : (l : Account) (j : Job) (w : ℕ) (found : Bool) → IsNext l j None false false true true found (OverlayOutput w)
overlay_next l j w found = record {
  pending = refl;
  output = λ kind q. refl;
  input = λ kind q. refl;
  knows = λ p x. tt;
  flow = λ p x. tt;
  channel = λ q x. tt;
  keeps = tt;
  fresh = tt;
  plugs = λ y. grind arith;
  allocates = λ x. refl;
  sees = λ x. refl;
  sees_input = λ x. grind arith;
}

pub channels_next : (l : Account) (j : Job) (base w : ℕ) (found : Bool) → NeedsAre l j w → IsNext l j None false false true true found (ReadChannels base w)
channels_next l j base w found needs_are = record {
  pending = refl;
  output = λ kind q. refl;
  input = λ kind q. refl;
  knows = needs_are;
  flow = λ p x. tt;
  channel = λ q x. tt;
  keeps = tt;
  fresh = tt;
  plugs = λ y. grind arith;
  allocates = λ x. refl;
  sees = λ x. refl;
  sees_input = λ x. grind arith;
}

pub out_next : (l : Account) (j : Job) (w : ℕ) (found : Bool) → NeedsAre l j w → IsNext l j None false false true true found (decide_out j None w)
out_next l j w found needs_are = go (is_full (kind_of j.connection) w) (is_connected w) (is_lost j w)
  where
    go : (full connected lost : Bool) → IsNext l j None false false true true found
        (cond full (give_back None (EndsAs (PlugFull w))) (cond connected (cond lost (Ended Late) (OverlayOutput w)) (ReadChannels (first_half j.asked) w)))
    go true connected lost = ended_next l j (PlugFull w) true true found
    go false true true = ended_next l j Late true true found
    go false true false = overlay_next l j w found
    go false false lost = channels_next l j (first_half j.asked) w found needs_are

-- with a reservation
pub held_next : (l : Account) (j : Job) (h : HeldResources) (w : ℕ) (found : Bool) → ((p : PlugAt) → output_of j.connection ≡ Some p → h.units ≡ units_at (l.settings p).rate j.overhead)
    → IsNext l j (Some h) false false true true found (decide_out j (Some h) w)
held_next l j h w found units = go (is_full (kind_of j.connection) w) (is_connected w) (is_lost j w)
  where
    go : (full connected lost : Bool) → IsNext l j (Some h) false false true true found
        (cond full (give_back (Some h) (EndsAs (PlugFull w))) (cond connected (give_back (Some h) (cond lost (EndsAs Late) Again)) (ConnectOutput h.channel h.units w)))
    go true connected lost = back_next l j h (EndsAs (PlugFull w)) true true found (λ x. refl)
    go false true true = back_next l j h (EndsAs Late) true true found (λ x. refl)
    go false true false = back_next l j h Again true true found (λ x. refl)
    go false false lost = record {
      pending = refl;
      output = λ kind q. refl;
      input = λ kind q. refl;
      knows = units;
      flow = λ p x. tt;
      channel = λ q x. tt;
      keeps = tt;
      fresh = tt;
      plugs = λ y. grind arith;
      allocates = λ x. refl;
      sees = λ x. refl;
      sees_input = λ x. grind arith;
    }
