-- A register of the account is at a watched offset.
use Rattle.fw_log_entry.specs.declared.entry.ResetEntry.{ResetEntry}
use Rattle.fw_log_entry.specs.declared.nodes.NodeRow.{NodeRow}
use Rattle.std.proofs.Common.{◌≡◌, ◌≤◌, ℕ, ◌-◌, ◌/◌, ◌==◌, ◌&&◌, ◌||◌, nat_le, Bool, true, false, Option, Some, None, slice_get, refl, arith, cond, IsTrue}
use Rattle.std.specs.Option.{option_or}
use Rattle.std.proofs.lemmas.Bool.Decides.{nat_tests}
use Rattle.fw_log_entry.specs.Network.{first_id}
use Rattle.fw_model_account.specs.Words.{Register, BandwidthAvailable, ChannelsAvailable, register_of, register_at, manager_register, plug_register, output_register, input_register, plug_number}
use Rattle.fw_model_account.specs.Words.{first_output, first_input, first_address, is_node}
use Rattle.fw_model_audit.specs.Looked.{is_plug_offset, is_watched}
use Rattle.fw_model_audit.proofs.Refusals.{IsRegisterAt}

pub clash : {A : Type 0} (v : A) → None ≡ Some v → ⊥
clash v e = cc

-- ---- a register of the account is at a watched offset

by_output : (a b c d e : Bool) → d ≡ true → (a || b || c || d || e) ≡ true
by_output a b c d e t = grind (arith, t)

by_input : (a b c d e : Bool) → e ≡ true → (a || b || c || d || e) ≡ true
by_input a b c d e t = grind (arith, t)

plug_watched : (first offset k : ℕ) → plug_number first offset ≡ Some k → is_plug_offset first offset ≡ true
plug_watched first offset k e = go (is_plug_offset first offset) refl e
  where
    go : (b : Bool) → is_plug_offset first offset ≡ b → cond b (Some ((offset - first) / 4)) None ≡ Some k → is_plug_offset first offset ≡ true
    go true t f = t
    go false t f = absurd (clash k f)

output_watched : (row : NodeRow) (offset : ℕ) (register : Register) → output_register row (plug_number first_output offset) ≡ Some register → IsTrue (is_watched offset)
output_watched row offset register e = go (plug_number first_output offset) refl e
  where
    go : (o : Option ℕ) → plug_number first_output offset ≡ o → output_register row o ≡ Some register → IsTrue (is_watched offset)
    go None t f = absurd (clash register f)
    go (Some k) t f = by_output (offset == 0x220) (offset == 0x224) (offset == 0x228) (is_plug_offset first_output offset) (is_plug_offset first_input offset) (plug_watched first_output offset k t)

input_watched : (row : NodeRow) (offset : ℕ) (register : Register) → input_register row (plug_number first_input offset) ≡ Some register → IsTrue (is_watched offset)
input_watched row offset register e = go (plug_number first_input offset) refl e
  where
    go : (o : Option ℕ) → plug_number first_input offset ≡ o → input_register row o ≡ Some register → IsTrue (is_watched offset)
    go None t f = absurd (clash register f)
    go (Some k) t f = by_input (offset == 0x220) (offset == 0x224) (offset == 0x228) (is_plug_offset first_output offset) (is_plug_offset first_input offset) (plug_watched first_input offset k t)

manager_watched : (offset : ℕ) (register : Register) → manager_register offset ≡ Some register → IsTrue (is_watched offset)
manager_watched offset register e = go (offset == 0x220) (offset == 0x224) (offset == 0x228) refl refl refl e
  where
    rest : Bool
    rest = is_plug_offset first_output offset || is_plug_offset first_input offset

    one : (a b c d e : Bool) → a ≡ true → (a || b || c || d || e) ≡ true
    one a b c d e t = grind (arith, t)

    two : (a b c d e : Bool) → b ≡ true → (a || b || c || d || e) ≡ true
    two a b c d e t = grind (arith, t)

    three : (a b c d e : Bool) → c ≡ true → (a || b || c || d || e) ≡ true
    three a b c d e t = grind (arith, t)

    go : (a b c : Bool) → (offset == 0x220) ≡ a → (offset == 0x224) ≡ b → (offset == 0x228) ≡ c
        → cond a (Some BandwidthAvailable) (cond b (Some (ChannelsAvailable 0)) (cond c (Some (ChannelsAvailable 32)) None)) ≡ Some register → IsTrue (is_watched offset)
    go true b c ta tb tc f = one (offset == 0x220) (offset == 0x224) (offset == 0x228) (is_plug_offset first_output offset) (is_plug_offset first_input offset) ta
    go false true c ta tb tc f = two (offset == 0x220) (offset == 0x224) (offset == 0x228) (is_plug_offset first_output offset) (is_plug_offset first_input offset) tb
    go false false true ta tb tc f = three (offset == 0x220) (offset == 0x224) (offset == 0x228) (is_plug_offset first_output offset) (is_plug_offset first_input offset) tc
    go false false false ta tb tc f = absurd (clash register f)

-- one of two options
either : (a b : Option Register) (v : Register) (R : Type 0) → option_or a b ≡ Some v → (a ≡ Some v → R) → (b ≡ Some v → R) → R
either None b v R e f g = g e
either (Some x) b v R e f g = f e

pub register_watched : (latest : Option ResetEntry) (n offset : ℕ) (register : Register) → register_at latest n offset ≡ Some register → IsTrue (is_watched offset)
register_watched None n offset register e = absurd (clash register e)
register_watched (Some r) n offset register e =
    either (cond (is_node n r.manager) (manager_register offset) None) (plug_register (slice_get r.nodes n) offset) register (IsTrue (is_watched offset)) e managed (plugs (slice_get r.nodes n))
  where
    managed : cond (is_node n r.manager) (manager_register offset) None ≡ Some register → IsTrue (is_watched offset)
    managed f = go (is_node n r.manager) f
      where
        go : (b : Bool) → cond b (manager_register offset) None ≡ Some register → IsTrue (is_watched offset)
        go true g = manager_watched offset register g
        go false g = absurd (clash register g)

    plugs : (row : Option NodeRow) → plug_register row offset ≡ Some register → IsTrue (is_watched offset)
    plugs None f = absurd (clash register f)
    plugs (Some row) f = either (output_register row (plug_number first_output offset)) (input_register row (plug_number first_input offset)) register (IsTrue (is_watched offset)) f
        (output_watched row offset register) (input_watched row offset register)

pub register_placed : (latest : Option ResetEntry) (id address : ℕ) (register : Register) → register_of latest id address ≡ Some register → IsRegisterAt address
register_placed latest id address register e = go (nat_le first_id id) (nat_le first_address address) refl e
  where
    go : (a b : Bool) → nat_le first_address address ≡ b → cond (a && b) (register_at latest (id - first_id) (address - first_address)) None ≡ Some register → IsRegisterAt address
    go true true t f =
        let low : first_address ≤ address = grind (arith, nat_tests) in
        record { offset = address - first_address; place = omega (arith, low); watched = register_watched latest (id - first_id) (address - first_address) register f }
    go true false t f = absurd (clash register f)
    go false b t f = absurd (clash register f)
