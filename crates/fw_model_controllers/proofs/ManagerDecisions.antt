-- What each decision of the manager's registers leads to.
use Rattle.fw_model_controllers.proofs.Common.{PlugAt, ◌≡◌, ℕ, ◌+◌, ◌-◌, ◌<◌, Bool, true, false, Option, Some, None, eqb, leb, cond, refl, ap, arith, nat_tests, find_to, Account, Job, Then, EndsAs}
use Rattle.fw_model_controllers.proofs.Common.{ReadOutput, ReadChannels, SwapChannels, ReadBandwidth, SwapBandwidth, ConnectOutput, ReadBandwidthToRelease, RaiseBandwidth, ReadChannelsToRelease}
use Rattle.fw_model_controllers.proofs.Common.{RestoreChannel, Ended, output_of, is_bit, remainder_of, restores, decide_channel, needs, decide_units, units_at}
use Rattle.fw_cmp_jobs.specs.declared.job.Ending.TheVariants.{NoChannel, NoUnits}
use Rattle.fw_cmp_jobs.specs.Decisions.{is_other, decide_any}
use Rattle.fw_model_controllers.specs.InStep.{again}
use Rattle.fw_model_controllers.proofs.Decisions.{IsNext, ended_next, read_next, NeedsAre, channels_next}

-- ---- the manager's registers

swap_next : (l : Account) (j : Job) (ch v w : ℕ) (found : Bool) → is_other j.asked ch ≡ false → NeedsAre l j w → IsNext l j None false false true true found (SwapChannels ch v w)
swap_next l j ch v w found own needs_are = record {
  pending = refl;
  output = λ kind q. refl;
  input = λ kind q. refl;
  knows = λ p x. (own, needs_are p x);
  flow = λ p x. tt;
  channel = λ q x. tt;
  keeps = tt;
  fresh = tt;
  plugs = λ y. grind arith;
  allocates = λ x. refl;
  sees = λ x. refl;
  sees_input = λ x. grind arith;
}

not_other : (o : Option ℕ) (ch : ℕ) → o ≡ Some ch → is_other o ch ≡ false
not_other None ch e = refl
not_other (Some a) ch e = grind (arith, nat_tests)

pub channel_next : (l : Account) (j : Job) (base w v : ℕ) (found : Bool) → NeedsAre l j w → IsNext l j None false false true true found (decide_channel j j.asked base w v)
channel_next l j base w v found needs_are = go j.asked refl
  where
    taken : (b r : Bool) (ch : ℕ) → j.asked ≡ Some ch → IsNext l j None false false true true found (cond b (SwapChannels ch v w) (cond r ReadOutput (Ended (NoChannel v))))
    taken true r ch e = swap_next l j ch v w found (not_other j.asked ch e) needs_are
    taken false true ch e = read_next l j true true found refl
    taken false false ch e = ended_next l j (NoChannel v) true true found

    rest : (b : Bool) → IsNext l j None false false true true found (cond b (ReadChannels 32 w) (Ended (NoChannel v)))
    rest true = channels_next l j 32 w found needs_are
    rest false = ended_next l j (NoChannel v) true true found

    any : (o : Option ℕ) → j.asked ≡ None → IsNext l j None false false true true found (decide_any o base w v)
    any (Some i) e = swap_next l j (base + i) v w found (ap (λ x. is_other x (base + i)) e) needs_are
    any None e = rest (eqb base 0)

    go : (o : Option ℕ) → j.asked ≡ o → IsNext l j None false false true true found (decide_channel j o base w v)
    go (Some ch) e = taken (is_bit v (ch - base)) (restores j) ch e
    go None e = any (find_to 32 (is_bit v)) e

pub units_next : (l : Account) (j : Job) (ch w v : ℕ) (found : Bool) → is_other j.asked ch ≡ false → NeedsAre l j w
    → IsNext l j (Some (record { channel = ch; units = 0 })) false false true true found (decide_units j ch w v)
units_next l j ch w v found own needs_are = go (leb (needs j w) (remainder_of v))
  where
    go : (b : Bool) → IsNext l j (Some (record { channel = ch; units = 0 })) false false true true found
        (cond b (SwapBandwidth ch (needs j w) v w) (ReadChannelsToRelease (EndsAs (NoUnits (remainder_of v))) ch))
    go true = record {
      pending = refl;
      output = λ kind q. refl;
      input = λ kind q. refl;
      knows = λ p x. (own, needs_are p x, needs_are p x);
      flow = λ p x. tt;
      channel = λ q x. tt;
      keeps = tt;
      fresh = tt;
      plugs = λ y. grind arith;
      allocates = λ x. refl;
      sees = λ x. refl;
      sees_input = λ x. grind arith;
    }
    go false = record {
      pending = refl;
      output = λ kind q. refl;
      input = λ kind q. refl;
      knows = λ p x. tt;
      flow = λ p x. tt;
      channel = λ q x. tt;
      keeps = tt;
      fresh = tt;
      plugs = λ y. grind arith;
      allocates = λ x. grind arith;
      sees = λ x. grind arith;
      sees_input = λ x. grind arith;
    }

pub allocated_next : (l : Account) (j : Job) (ch w : ℕ) (found : Bool) → is_other j.asked ch ≡ false → NeedsAre l j w
    → IsNext l j (Some (record { channel = ch; units = 0 })) false false true true found (ReadBandwidth ch w)
allocated_next l j ch w found own needs_are = record {
  pending = refl;
  output = λ kind q. refl;
  input = λ kind q. refl;
  knows = λ p x. (own, needs_are p x);
  flow = λ p x. tt;
  channel = λ q x. tt;
  keeps = tt;
  fresh = tt;
  plugs = λ y. grind arith;
  allocates = λ x. refl;
  sees = λ x. refl;
  sees_input = λ x. grind arith;
}

pub funded_next : (l : Account) (j : Job) (ch u w : ℕ) (found : Bool) → ((p : PlugAt) → output_of j.connection ≡ Some p → u ≡ units_at (l.settings p).rate j.overhead)
    → IsNext l j (Some (record { channel = ch; units = u })) false false true true found (ConnectOutput ch u w)
funded_next l j ch u w found units = record {
  pending = refl;
  output = λ kind q. refl;
  input = λ kind q. refl;
  knows = units;
  flow = λ p x. tt;
  channel = λ q x. tt;
  keeps = tt;
  fresh = tt;
  plugs = λ y. grind arith;
  allocates = λ x. refl;
  sees = λ x. refl;
  sees_input = λ x. grind arith;
}

-- ---- giving back

pub raise_next : (l : Account) (j : Job) (next : Then) (ch u v : ℕ) (may seen found : Bool) → 0 < u → (again next ≡ true → may ≡ true)
    → IsNext l j (Some (record { channel = ch; units = u })) false false may seen found (RaiseBandwidth next ch u v)
raise_next l j next ch u v may seen found some f = record {
  pending = refl;
  output = λ kind q. refl;
  input = λ kind q. refl;
  knows = λ p x. some;
  flow = λ p x. tt;
  channel = λ q x. tt;
  keeps = tt;
  fresh = tt;
  plugs = λ y. grind arith;
  allocates = f;
  sees = λ x. grind arith;
  sees_input = λ x. grind arith;
}

pub release_next : (l : Account) (j : Job) (next : Then) (ch u : ℕ) (may seen found : Bool) → 0 < u → (again next ≡ true → may ≡ true)
    → IsNext l j (Some (record { channel = ch; units = u })) false false may seen found (ReadBandwidthToRelease next ch u)
release_next l j next ch u may seen found some f = record {
  pending = refl;
  output = λ kind q. refl;
  input = λ kind q. refl;
  knows = λ p x. some;
  flow = λ p x. tt;
  channel = λ q x. tt;
  keeps = tt;
  fresh = tt;
  plugs = λ y. grind arith;
  allocates = f;
  sees = λ x. grind arith;
  sees_input = λ x. grind arith;
}

pub restore_next : (l : Account) (j : Job) (next : Then) (ch v : ℕ) (may seen found : Bool) → (again next ≡ true → may ≡ true)
    → IsNext l j (Some (record { channel = ch; units = 0 })) false false may seen found (RestoreChannel next ch v)
restore_next l j next ch v may seen found f = record {
  pending = refl;
  output = λ kind q. refl;
  input = λ kind q. refl;
  knows = λ p x. tt;
  flow = λ p x. tt;
  channel = λ q x. tt;
  keeps = tt;
  fresh = tt;
  plugs = λ y. grind arith;
  allocates = f;
  sees = λ x. grind arith;
  sees_input = λ x. grind arith;
}

pub released_next : (l : Account) (j : Job) (next : Then) (ch : ℕ) (may seen found : Bool) → (again next ≡ true → may ≡ true)
    → IsNext l j (Some (record { channel = ch; units = 0 })) false false may seen found (ReadChannelsToRelease next ch)
released_next l j next ch may seen found f = record {
  pending = refl;
  output = λ kind q. refl;
  input = λ kind q. refl;
  knows = λ p x. tt;
  flow = λ p x. tt;
  channel = λ q x. tt;
  keeps = tt;
  fresh = tt;
  plugs = λ y. grind arith;
  allocates = f;
  sees = λ x. grind arith;
  sees_input = λ x. grind arith;
}
