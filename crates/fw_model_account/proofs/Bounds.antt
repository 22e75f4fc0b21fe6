-- A register of the account is one of the manager, or of a plug of the reset entry, and its word has 32 bits.
use Rattle.fw_model_account.proofs.Common.{ResetEntry, NodeRow, ◌≡◌, ◌⊎◌, inl, inr, ℕ, ◌+◌, ◌-◌, ◌<◌, ◌≤◌, ◌^◌, ◌==◌}
use Rattle.fw_model_account.proofs.Common.{nat_lt, Bool, true, false, Option, Some, None, refl, subst, arith, cond, nat_tests}
use Rattle.fw_model_account.proofs.Common.{flag, Account, is_there, is_open, is_output, is_input, Register, BandwidthAvailable, ChannelsAvailable, InputPlug, word_of, IsSound}
use Rattle.std.proofs.Common.{option_map, slice_get}
use Rattle.std.specs.Option.{option_or}
use Rattle.fw_terms.specs.Tables.{at_plug}
use Rattle.fw_model_account.specs.Network.{is_output_of, is_input_of}
use Rattle.fw_model_account.specs.Words.{OutputPlug, is_node, manager_register, plug_number}
use Rattle.fw_model_account.specs.Words.{first_output, first_input, output_register, input_register, plug_register, register_at, word_at}
use Rattle.fw_model_account.proofs.Network.{not_both, any_at}
use Rattle.fw_model_account.proofs.Words.{bits_below}

-- CHANNELS_AVAILABLE in its two halves, and plug registers of plugs that are there
abbrev pub IsThere : Option ResetEntry → Register → Type 0
IsThere latest BandwidthAvailable = Unit {0}
IsThere latest (ChannelsAvailable base) = (base ≡ 0) ⊎ (base ≡ 32)
IsThere latest (OutputPlug p) = is_output latest p ≡ true
IsThere latest (InputPlug p) = is_input latest p ≡ true

or_cases : (a b : Option Register) (v : Register) → option_or a b ≡ Some v → (a ≡ Some v) ⊎ (b ≡ Some v)
or_cases None b v e = inr e
or_cases (Some x) b v e = inl e

manager_there : (latest : Option ResetEntry) (offset : ℕ) (v : Register) → manager_register offset ≡ Some v → IsThere latest v
manager_there latest offset v e = go (offset == 0x220) (offset == 0x224) (offset == 0x228) e
  where
    go : (a b c : Bool) → cond a (Some BandwidthAvailable) (cond b (Some (ChannelsAvailable 0)) (cond c (Some (ChannelsAvailable 32)) None)) ≡ Some v → IsThere latest v
    go true b c f = let same : BandwidthAvailable ≡ v = cc in subst (λ r. IsThere latest r) same tt
    go false true c f = let same : ChannelsAvailable 0 ≡ v = cc in subst (λ r. IsThere latest r) same (inl refl)
    go false false true f = let same : ChannelsAvailable 32 ≡ v = cc in subst (λ r. IsThere latest r) same (inr refl)
    go false false false f = absurd (not_both None v refl f)

output_there : (r : ResetEntry) (n : ℕ) (row : NodeRow) (o : Option ℕ) (v : Register) → slice_get r.nodes n ≡ Some row → output_register row o ≡ Some v → IsThere (Some r) v
output_there r n row None v at e = absurd (not_both None v refl e)
output_there r n row (Some k) v at e = go (nat_lt k row.outs) refl e
  where
    go : (b : Bool) → nat_lt k row.outs ≡ b → cond b (Some (OutputPlug (at_plug row.device k))) None ≡ Some v → IsThere (Some r) v
    go true t f = let same : OutputPlug (at_plug row.device k) ≡ v = cc in
        subst (λ s. IsThere (Some r) s) same (any_at (is_output_of (at_plug row.device k)) r.nodes n row at (grind (arith, nat_tests)))
    go false t f = absurd (not_both None v refl f)

input_there : (r : ResetEntry) (n : ℕ) (row : NodeRow) (o : Option ℕ) (v : Register) → slice_get r.nodes n ≡ Some row → input_register row o ≡ Some v → IsThere (Some r) v
input_there r n row None v at e = absurd (not_both None v refl e)
input_there r n row (Some k) v at e = go (nat_lt k row.ins) refl e
  where
    go : (b : Bool) → nat_lt k row.ins ≡ b → cond b (Some (InputPlug (at_plug row.device k))) None ≡ Some v → IsThere (Some r) v
    go true t f = let same : InputPlug (at_plug row.device k) ≡ v = cc in subst (λ s. IsThere (Some r) s) same (any_at (is_input_of (at_plug row.device k)) r.nodes n row at (grind (arith, nat_tests)))
    go false t f = absurd (not_both None v refl f)

plug_there : (r : ResetEntry) (n offset : ℕ) (o : Option NodeRow) (v : Register) → slice_get r.nodes n ≡ o → plug_register o offset ≡ Some v → IsThere (Some r) v
plug_there r n offset None v at e = absurd (not_both None v refl e)
plug_there r n offset (Some row) v at e = go (or_cases (output_register row (plug_number first_output offset)) (input_register row (plug_number first_input offset)) v e)
  where
    go : (output_register row (plug_number first_output offset) ≡ Some v) ⊎ (input_register row (plug_number first_input offset) ≡ Some v) → IsThere (Some r) v
    go (inl f) = output_there r n row (plug_number first_output offset) v at f
    go (inr f) = input_there r n row (plug_number first_input offset) v at f

pub register_there : (latest : Option ResetEntry) (n offset : ℕ) (v : Register) → register_at latest n offset ≡ Some v → IsThere latest v
register_there None n offset v e = absurd (not_both None v refl e)
register_there (Some r) n offset v e = go (or_cases (cond (is_node n r.manager) (manager_register offset) None) (plug_register (slice_get r.nodes n) offset) v e)
  where
    managed : (b : Bool) → cond b (manager_register offset) None ≡ Some v → IsThere (Some r) v
    managed true f = manager_there (Some r) offset v f
    managed false f = absurd (not_both None v refl f)

    go : (cond (is_node n r.manager) (manager_register offset) None ≡ Some v) ⊎ (plug_register (slice_get r.nodes n) offset ≡ Some v) → IsThere (Some r) v
    go (inl f) = managed (is_node n r.manager) f
    go (inr f) = plug_there r n offset (slice_get r.nodes n) v refl f

pub word_below : (l : Account) (v : Register) → IsSound l → IsThere l.latest v → word_of l v < 2 ^ 32
word_below l BandwidthAvailable s t = omega arith
word_below l (ChannelsAvailable base) s t = bits_below 32 (λ i. is_open l.withheld l.allocations (base + (31 - i)))
word_below l (OutputPlug p) s t =
    let c = s.counts p in
    let f = s.settings_fit p t in
    let below : flag (is_there (l.outputs p).broadcast) ≤ 1 = grind arith in
    let a = f.channel in
    let b = f.rate in
    let d = f.overhead in
    omega arith
word_below l (InputPlug p) s t =
    let c = s.counts p in
    let f = s.channels_fit p t in
    let below : flag (is_there (l.inputs p).broadcast) ≤ 1 = grind arith in
    omega arith

pub word_at_below : (l : Account) (n offset w : ℕ) → IsSound l → word_at l n offset ≡ Some w → w < 2 ^ 32
word_at_below l n offset w s e = go (register_at l.latest n offset) refl e
  where
    go : (o : Option Register) → register_at l.latest n offset ≡ o → option_map (word_of l) o ≡ Some w → w < 2 ^ 32
    go None at f = absurd (not_both None w refl f)
    go (Some v) at f = let same : word_of l v ≡ w = cc in subst (λ k. k < 2 ^ 32) same (word_below l v s (register_there l.latest n offset v at))
