-- What the registers of a node show: if the account has a register, its word.
use Rattle.fw_model_run.proofs.Common.{◌≡◌, ℕ, ◌+◌, ◌-◌, ◌*◌, ◌/◌, ◌<◌, ◌≤◌, ◌==◌, ◌&&◌, nat_le, nat_lt, Bool, true}
use Rattle.fw_model_run.proofs.Common.{false, Option, Some, None, slice_get, cond, refl, ap, sym, subst, ◌∙◌, arith, nat_tests}
use Rattle.fw_model_run.proofs.Common.{output_plugs_of, input_plugs_of, at_plug, ReadSwap, ResetEntry, Register, ChannelsAvailable, OutputPlug, InputPlug, word_of, register_at, first_address, Space}
use Rattle.fw_model_run.proofs.Common.{kind_at, row_of, State, number_in, space_at, is_manager, manager_words, IsGood, IsLatest}
use Rattle.std.proofs.Common.{◌%◌}
use Rattle.std.specs.Option.{option_or}
use Rattle.fw_csr.specs.Manager as Managers
use Rattle.fw_model_account.specs.Words.{BandwidthAvailable, manager_register}
use Rattle.fw_model_account.specs.Words.{plug_register, output_register, input_register, plug_number, first_output, first_input, is_node}
use Rattle.fw_node.specs.Space.{lies_within}
use Rattle.fw_node.specs.Space as Spaces
use Rattle.fw_devices.specs.Entries.{is_number}

-- ---- a plug's number and its offset

pub record IsPlugAt (first offset k : ℕ) : Type 0 where
  pub place : offset ≡ first + 4 * k
  pub few : k < 31

pub plug_at_offset : (first offset k : ℕ) → plug_number first offset ≡ Some k → IsPlugAt first offset k
plug_at_offset first offset k e = go (nat_le first offset && nat_lt offset (first + 124) && ((offset - first) % 4 == 0)) refl e
  where
    go : (b : Bool) → (nat_le first offset && nat_lt offset (first + 124) && ((offset - first) % 4 == 0)) ≡ b → cond b (Some ((offset - first) / 4)) None ≡ Some k → IsPlugAt first offset k
    go true t f =
        let same : (offset - first) / 4 ≡ k = cc in
        let a : first ≤ offset = grind (arith, nat_tests) in
        let b : offset < first + 124 = grind (arith, nat_tests) in
        let c : (offset - first) % 4 ≡ 0 = grind (arith, nat_tests) in
        record { place = omega (arith, same, a, b, c); few = omega (arith, same, a, b, c) }
    go false t f = let no : ⊥ = cc in absurd no

-- ---- the space's registers at these offsets

pub output_in_space : (s : Space) (k : ℕ) → k < 31 → nat_lt k (output_plugs_of s.kind) ≡ true → Spaces.register_at s (first_address + (first_output + 4 * k)) ≡ Some (ReadSwap (s.output_word k))
output_in_space s k few there =
    let offset : ℕ = first_address + (first_output + 4 * k) in
    let a : lies_within 0xFFFF_F000_021C 0xFFFF_F000_0228 offset ≡ false = grind (arith, nat_tests) in
    let b : lies_within 0xFFFF_F000_0900 0xFFFF_F000_09FC offset ≡ true = grind (arith, nat_tests) in
    let c : (offset == 0xFFFF_F000_0900) ≡ false = grind (arith, nat_tests) in
    let d : (offset == 0xFFFF_F000_0980) ≡ false = grind (arith, nat_tests) in
    let e : nat_lt offset 0xFFFF_F000_0980 ≡ true = grind (arith, nat_tests) in
    let f : (offset - 0xFFFF_F000_0904) / 4 ≡ k = omega (arith, few) in
    let g : (offset == 0xFFFF_F000_0904 + 4 * k) ≡ true = grind (arith, nat_tests) in
    rw (a, b, c, d, e, f, g, there) refl

pub input_in_space : (s : Space) (k : ℕ) → k < 31 → nat_lt k (input_plugs_of s.kind) ≡ true → Spaces.register_at s (first_address + (first_input + 4 * k)) ≡ Some (ReadSwap (s.input_word k))
input_in_space s k few there =
    let offset : ℕ = first_address + (first_input + 4 * k) in
    let a : lies_within 0xFFFF_F000_021C 0xFFFF_F000_0228 offset ≡ false = grind (arith, nat_tests) in
    let b : lies_within 0xFFFF_F000_0900 0xFFFF_F000_09FC offset ≡ true = grind (arith, nat_tests) in
    let c : (offset == 0xFFFF_F000_0900) ≡ false = grind (arith, nat_tests) in
    let d : (offset == 0xFFFF_F000_0980) ≡ false = grind (arith, nat_tests) in
    let e : nat_lt offset 0xFFFF_F000_0980 ≡ false = grind (arith, nat_tests) in
    let f : (offset - 0xFFFF_F000_0984) / 4 ≡ k = omega (arith, few) in
    let g : (offset == 0xFFFF_F000_0984 + 4 * k) ≡ true = grind (arith, nat_tests) in
    rw (a, b, c, d, e, f, g, there) refl

-- ---- by cases on the account's register

pub same_test : (o : Option ℕ) (n : ℕ) → is_number o n ≡ is_node n o
same_test None n = refl
same_test (Some m) n = refl

or_either : (P : Register → Type 0) (a b : Option Register) (v : Register) → option_or a b ≡ Some v → (a ≡ Some v → P v) → (b ≡ Some v → P v) → P v
or_either P None b v e f g = g e
or_either P (Some x) b v e f g = f e

-- if the account has a register at an offset of a node, the node's space has it with the account's word
pub space_shows : (s : State) (d n offset : ℕ) (register : Register) → IsGood s → number_in s.account.latest d ≡ Some n → register_at s.account.latest n offset ≡ Some register
    → Spaces.register_at (space_at s d n) (first_address + offset) ≡ Some (ReadSwap (word_of s.account register))
space_shows s d n offset register g numbered at = go s.account.latest refl g.latest numbered at
  where
    Shown : Register → Type 0
    Shown r = Spaces.register_at (space_at s d n) (first_address + offset) ≡ Some (ReadSwap (word_of s.account r))

    -- the manager's registers
    managed : is_manager s.account.latest n ≡ true → (r : Register) → manager_register offset ≡ Some r → Shown r
    managed is r e = three (offset == 0x220) (offset == 0x224) (offset == 0x228) refl refl refl e
      where
        there : (space_at s d n).manager ≡ Some (manager_words s)
        there = rw is refl

        shown : (k : ℕ) (v : Register) → offset ≡ k → lies_within 0xFFFF_F000_021C 0xFFFF_F000_0228 (first_address + k) ≡ true
            → Managers.register_at (manager_words s) (first_address + k) ≡ Some (ReadSwap (word_of s.account v)) → v ≡ r → Shown r
        shown k v same within word is_r = subst Shown is_r (subst (λ o. Spaces.register_at (space_at s d n) (first_address + o) ≡ Some (ReadSwap (word_of s.account v))) (sym same)
            (rw within (rw there word)))

        three : (a b c : Bool) → (offset == 0x220) ≡ a → (offset == 0x224) ≡ b → (offset == 0x228) ≡ c
            → cond a (Some BandwidthAvailable) (cond b (Some (ChannelsAvailable 0)) (cond c (Some (ChannelsAvailable 32)) None)) ≡ Some r → Shown r
        three true b c ta tb tc f = let same : BandwidthAvailable ≡ r = cc in shown 0x220 BandwidthAvailable (grind (arith, nat_tests)) refl refl same
        three false true c ta tb tc f = let same : ChannelsAvailable 0 ≡ r = cc in shown 0x224 (ChannelsAvailable 0) (grind (arith, nat_tests)) refl refl same
        three false false true ta tb tc f = let same : ChannelsAvailable 32 ≡ r = cc in shown 0x228 (ChannelsAvailable 32) (grind (arith, nat_tests)) refl refl same
        three false false false ta tb tc f = let no : ⊥ = cc in absurd no

    -- the plugs' registers
    outputs : (r : Register) (o : Option ℕ) → plug_number first_output offset ≡ o → output_register (row_of d (kind_at s.declared.kinds d)) o ≡ Some r → Shown r
    outputs r None t e = let no : ⊥ = cc in absurd no
    outputs r (Some k) t e = bounded (nat_lt k (output_plugs_of (kind_at s.declared.kinds d))) refl e
      where
        p : IsPlugAt first_output offset k
        p = plug_at_offset first_output offset k t

        bounded : (b : Bool) → nat_lt k (output_plugs_of (kind_at s.declared.kinds d)) ≡ b → cond b (Some (OutputPlug (at_plug d k))) None ≡ Some r → Shown r
        bounded true lt f =
            let same : OutputPlug (at_plug d k) ≡ r = cc in
            subst Shown same (subst (λ o. Spaces.register_at (space_at s d n) (first_address + o) ≡ Some (ReadSwap (word_of s.account (OutputPlug (at_plug d k))))) (sym p.place)
            (output_in_space (space_at s d n) k p.few lt))
        bounded false lt f = let no : ⊥ = cc in absurd no

    inputs : (r : Register) (o : Option ℕ) → plug_number first_input offset ≡ o → input_register (row_of d (kind_at s.declared.kinds d)) o ≡ Some r → Shown r
    inputs r None t e = let no : ⊥ = cc in absurd no
    inputs r (Some k) t e = bounded (nat_lt k (input_plugs_of (kind_at s.declared.kinds d))) refl e
      where
        p : IsPlugAt first_input offset k
        p = plug_at_offset first_input offset k t

        bounded : (b : Bool) → nat_lt k (input_plugs_of (kind_at s.declared.kinds d)) ≡ b → cond b (Some (InputPlug (at_plug d k))) None ≡ Some r → Shown r
        bounded true lt f =
            let same : InputPlug (at_plug d k) ≡ r = cc in
            subst Shown same (subst (λ o. Spaces.register_at (space_at s d n) (first_address + o) ≡ Some (ReadSwap (word_of s.account (InputPlug (at_plug d k))))) (sym p.place)
            (input_in_space (space_at s d n) k p.few lt))
        bounded false lt f = let no : ⊥ = cc in absurd no

    go : (latest : Option ResetEntry) → s.account.latest ≡ latest → IsLatest latest s.declared s.account → number_in latest d ≡ Some n → register_at latest n offset ≡ Some register → Shown register
    go None is h num e = let no : ⊥ = cc in absurd no
    go (Some e) is h num f = or_either Shown (cond (is_node n e.manager) (manager_register offset) None) (plug_register (slice_get e.nodes n) offset) register f first second
      where
        row : slice_get e.nodes n ≡ Some (row_of d (kind_at s.declared.kinds d))
        row = h.1.numbers d n num

        first : cond (is_node n e.manager) (manager_register offset) None ≡ Some register → Shown register
        first x = when (is_node n e.manager) refl x
          where
            when : (b : Bool) → is_node n e.manager ≡ b → cond b (manager_register offset) None ≡ Some register → Shown register
            when true t y = managed (ap (λ o. is_manager o n) is ∙ (same_test e.manager n ∙ t)) register y
            when false t y = let no : ⊥ = cc in absurd no

        second : plug_register (slice_get e.nodes n) offset ≡ Some register → Shown register
        second x = or_either Shown (output_register (row_of d (kind_at s.declared.kinds d)) (plug_number first_output offset))
            (input_register (row_of d (kind_at s.declared.kinds d)) (plug_number first_input offset)) register (ap (λ o. plug_register o offset) (sym row) ∙ x)
            (outputs register (plug_number first_output offset) refl) (inputs register (plug_number first_input offset) refl)
