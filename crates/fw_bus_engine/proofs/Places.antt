-- The node that has a register of the account: its plugs stand, and two registers at one place of it are one.
use Rattle.fw_bus_engine.proofs.Common.{◌≡◌, ◌≢◌, ◌⊎◌, inl, inr, ℕ, ◌+◌, ◌*◌, ◌<◌, ◌==◌, Bool, true, false, cond, Option, Some, None, is_some, refl, ap, sym, subst, ◌∙◌, arith, nat_tests, at_plug}
use Rattle.fw_bus_engine.proofs.Common.{ResetEntry, BandwidthAvailable, ChannelsAvailable, OutputPlug, InputPlug, Target, offset_of}
use Rattle.fw_bus_engine.proofs.Common.{register_at, kind_at, State, number_in, manager_in, is_manager, IsGood}
use Rattle.fw_bus_engine.proofs.Common.{IsLatest}
use Rattle.std.proofs.Common.{slice_get}
use Rattle.fw_terms.specs.Devices.{output_plugs_of, input_plugs_of}
use Rattle.fw_model_account.specs.Network.{is_output, is_input, is_output_of, is_input_of}
use Rattle.fw_model_account.proofs.Network.{any_at}
use Rattle.fw_cmp_jobs.specs.declared.request.Target.TheVariants as target
use Rattle.fw_model_controllers.specs.InStep.{IsRegister}
use Rattle.fw_model_controllers.specs.Registers.{has_manager}
use Rattle.fw_model_controllers.specs.Requests.{PlugNumberFits}
use Rattle.fw_devices.specs.Entries.{is_number, row_of}
use Rattle.fw_bus_engine.proofs.Swaps.{place_of}

-- ---- the node that has a register

-- node n is device d, and has the register if any node has it
abbrev pub HasTarget : Option ResetEntry → ℕ → ℕ → Target → Type 0
HasTarget latest d n (target.OutputPlug p) = p.device ≡ d
HasTarget latest d n (target.InputPlug p) = p.device ≡ d
HasTarget latest d n (target.Channels base) = manager_in latest ≡ Some n
HasTarget latest d n target.BandwidthAvailable = manager_in latest ≡ Some n

pub record Addresses (s : State) (d n : ℕ) (t : Target) : Type 0 where
  pub number : number_in s.account.latest d ≡ Some n
  pub has : HasTarget s.account.latest d n t
  pub small : PlugNumberFits t
  pub register : IsRegister (register_at t)

-- a number that is the manager's is the one
pub manager_is : (o : Option ℕ) (n : ℕ) → is_number o n ≡ true → o ≡ Some n
manager_is None n e = absurd (grind (arith, e))
manager_is (Some m) n e = ap (λ k. Some k) (grind (arith, nat_tests, e))

-- if a node is the manager there is one
pub managed : (o : Option ResetEntry) (n : ℕ) → is_manager o n ≡ true → has_manager o ≡ true
managed None n e = absurd (grind (arith, e))
managed (Some e) n h = ap is_some (manager_is e.manager n h)

-- a plug of a device on the bus stands
row_is : (s : State) (e : ResetEntry) (d n : ℕ) → IsGood s → s.account.latest ≡ Some e → number_in s.account.latest d ≡ Some n
    → slice_get e.nodes n ≡ Some (row_of d (kind_at s.declared.kinds d))
row_is s e d n g is at = let h = subst (λ o. IsLatest o s.declared s.account) is g.latest in h.1.numbers d n (subst (λ o. number_in o d ≡ Some n) is at)

-- an output plug of a device on the bus stands
pub output_stands : (s : State) (d n k : ℕ) → IsGood s → number_in s.account.latest d ≡ Some n → k < output_plugs_of (kind_at s.declared.kinds d)
    → is_output s.account.latest (at_plug d k) ≡ true
output_stands s d n k g at lt = go s.account.latest refl at
  where
    go : (o : Option ResetEntry) → s.account.latest ≡ o → number_in o d ≡ Some n → is_output s.account.latest (at_plug d k) ≡ true
    go None is num = absurd (grind (arith, num))
    go (Some e) is num =
        ap (λ o. is_output o (at_plug d k)) is
        ∙ any_at (is_output_of (at_plug d k)) e.nodes n (row_of d (kind_at s.declared.kinds d)) (row_is s e d n g is at) (grind (arith, nat_tests, lt))

-- so does an input plug
pub input_stands : (s : State) (d n k : ℕ) → IsGood s → number_in s.account.latest d ≡ Some n → k < input_plugs_of (kind_at s.declared.kinds d)
    → is_input s.account.latest (at_plug d k) ≡ true
input_stands s d n k g at lt = go s.account.latest refl at
  where
    go : (o : Option ResetEntry) → s.account.latest ≡ o → number_in o d ≡ Some n → is_input s.account.latest (at_plug d k) ≡ true
    go None is num = absurd (grind (arith, num))
    go (Some e) is num =
        ap (λ o. is_input o (at_plug d k)) is
        ∙ any_at (is_input_of (at_plug d k)) e.nodes n (row_of d (kind_at s.declared.kinds d)) (row_is s e d n g is at) (grind (arith, nat_tests, lt))

-- ---- two registers at one place of a node are one

-- the place of CHANNELS_AVAILABLE_HI or LO
abbrev half_place : Bool → ℕ
half_place b = cond b 0xFFFF_F000_0224 0xFFFF_F000_0228

-- no plug register stands where CHANNELS_AVAILABLE does
channels_apart : (base place : ℕ) → 0xFFFF_F000_0228 < place → half_place (base == 0) ≡ place → ⊥
channels_apart base place far e = go (base == 0) e
  where
    go : (b : Bool) → half_place b ≡ place → ⊥
    go true e = omega (arith, e, far)
    go false e = omega (arith, e, far)

-- at the place of an output plug of the device there is that plug's register alone
pub same_output : (latest : Option ResetEntry) (d n k : ℕ) (t : Target) → HasTarget latest d n t → PlugNumberFits t → k < 31
    → place_of (OutputPlug (at_plug d k)) ≡ offset_of t → OutputPlug (at_plug d k) ≡ register_at t
same_output latest d n k (target.OutputPlug p) has small few e =
    let plug : p.plug ≡ k = omega (arith, e) in λ i. OutputPlug (record { device = sym has i; plug = sym plug i })
same_output latest d n k (target.InputPlug p) has small few e = absurd (omega (arith, e, few))
same_output latest d n k (target.Channels base) has small few e = absurd (channels_apart base (0xFFFF_F000_0904 + 4 * k) (omega arith) (sym e))
same_output latest d n k target.BandwidthAvailable has small few e = absurd (omega (arith, e))

-- so it is for an input plug
pub same_input : (latest : Option ResetEntry) (d n k : ℕ) (t : Target) → HasTarget latest d n t → PlugNumberFits t → k < 31
    → place_of (InputPlug (at_plug d k)) ≡ offset_of t → InputPlug (at_plug d k) ≡ register_at t
same_input latest d n k (target.OutputPlug p) has small few e = absurd (omega (arith, e, small))
same_input latest d n k (target.InputPlug p) has small few e =
    let plug : p.plug ≡ k = omega (arith, e) in λ i. InputPlug (record { device = sym has i; plug = sym plug i })
same_input latest d n k (target.Channels base) has small few e = absurd (channels_apart base (0xFFFF_F000_0984 + 4 * k) (omega arith) (sym e))
same_input latest d n k target.BandwidthAvailable has small few e = absurd (omega (arith, e))

-- so it is for BANDWIDTH_AVAILABLE
pub same_bandwidth : (t : Target) → place_of BandwidthAvailable ≡ offset_of t → BandwidthAvailable ≡ register_at t
same_bandwidth (target.OutputPlug p) e = absurd (omega (arith, e))
same_bandwidth (target.InputPlug p) e = absurd (omega (arith, e))
same_bandwidth (target.Channels base) e = go (base == 0) e
  where
    go : (b : Bool) → place_of BandwidthAvailable ≡ half_place b → BandwidthAvailable ≡ ChannelsAvailable base
    go true e = absurd (omega (arith, e))
    go false e = absurd (omega (arith, e))
same_bandwidth target.BandwidthAvailable e = refl

-- and for each of the two CHANNELS_AVAILABLE registers
pub same_half : (half : ℕ) (t : Target) → (half ≡ 0) ⊎ (half ≡ 32) → IsRegister (register_at t) → place_of (ChannelsAvailable half) ≡ offset_of t
    → ChannelsAvailable half ≡ register_at t
same_half half (target.OutputPlug p) own is e = absurd (channels_apart half (0xFFFF_F000_0904 + 4 * p.plug) (omega arith) e)
same_half half (target.InputPlug p) own is e = absurd (channels_apart half (0xFFFF_F000_0984 + 4 * p.plug) (omega arith) e)
same_half half (target.Channels base) own is e = ap (λ b. ChannelsAvailable b) (go own is)
  where
    at : (b c : ℕ) → half ≡ b → base ≡ c → half_place (b == 0) ≡ half_place (c == 0)
    at b c x y = (λ i. half_place (sym x i == 0)) ∙ (e ∙ (λ i. half_place (y i == 0)))

    go : (half ≡ 0) ⊎ (half ≡ 32) → (base ≡ 0) ⊎ (base ≡ 32) → half ≡ base
    go (inl x) (inl y) = x ∙ sym y
    go (inr x) (inr y) = x ∙ sym y
    go (inl x) (inr y) = absurd (let z = at 0 32 x y in omega (arith, z))
    go (inr x) (inl y) = absurd (let z = at 32 0 x y in omega (arith, z))
same_half half target.BandwidthAvailable own is e = go (half == 0) e
  where
    go : (b : Bool) → half_place b ≡ place_of BandwidthAvailable → ChannelsAvailable half ≡ BandwidthAvailable
    go true e = absurd (omega (arith, e))
    go false e = absurd (omega (arith, e))

-- no request of a controller is at BUS_MANAGER_ID
pub no_manager_id : (t : Target) → offset_of t ≢ 0xFFFF_F000_021C
no_manager_id (target.OutputPlug p) e = omega (arith, e)
no_manager_id (target.InputPlug p) e = omega (arith, e)
no_manager_id (target.Channels base) e = go (base == 0) e
  where
    go : (b : Bool) → half_place b ≡ 0xFFFF_F000_021C → ⊥
    go true e = omega (arith, e)
    go false e = omega (arith, e)
no_manager_id target.BandwidthAvailable e = omega (arith, e)
