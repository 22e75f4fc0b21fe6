-- Where the registers stand, and which plug a request addresses.
use Rattle.fw_model_account.proofs.Common.{ResetEntry, NodeRow, ◌≡◌, ℕ, ◌+◌, ◌-◌, ◌<◌, ◌≤◌, ◌==◌, ◌&&◌, nat_lt, Bool}
use Rattle.fw_model_account.proofs.Common.{true, false, Option, Some, None, refl, arith, cond, nat_tests, device_of_id, Register}
use Rattle.fw_model_account.proofs.Common.{BandwidthAvailable, ChannelsAvailable, InputPlug, register_of}
use Rattle.std.proofs.Common.{◌*◌, ◌/◌, ◌%◌, nat_le, slice_get}
use Rattle.fw_terms.specs.Tables.{at_plug}
use Rattle.fw_log_entry.specs.Network.{first_id, row_of_node, row_of_id}
use Rattle.fw_model_account.specs.Words.{OutputPlug, plug_number, first_output, first_input}
use Rattle.fw_model_account.specs.Words.{is_node, manager_register, register_at, first_address, output_of, output_addressed}

-- ---- node IDs and addresses

pub row_at_id : (latest : Option ResetEntry) (n : ℕ) → row_of_id latest (first_id + n) ≡ row_of_node latest n
row_at_id latest n =
    let t : nat_le first_id (first_id + n) ≡ true = grind (arith, nat_tests) in
    let e : first_id + n - first_id ≡ n = omega arith in
    rw (t, e) refl

pub device_at_id : (latest : Option ResetEntry) (n : ℕ) (row : NodeRow) → row_of_node latest n ≡ Some row → device_of_id latest (first_id + n) ≡ Some row.device
device_at_id latest n row e = rw (row_at_id latest n, e) refl

pub register_at_address : (latest : Option ResetEntry) (n offset : ℕ) → register_of latest (first_id + n) (first_address + offset) ≡ register_at latest n offset
register_at_address latest n offset =
    let t : (nat_le first_id (first_id + n) && nat_le first_address (first_address + offset)) ≡ true = grind (arith, nat_tests) in
    let e : first_id + n - first_id ≡ n = omega arith in
    let f : first_address + offset - first_address ≡ offset = omega arith in
    rw (t, e, f) refl

-- ---- plug numbers

pub output_number : (k : ℕ) → k < 31 → plug_number first_output (first_output + 4 * k) ≡ Some k
output_number k lt =
    let t : (nat_le first_output (first_output + 4 * k) && nat_lt (first_output + 4 * k) (first_output + 124) && ((first_output + 4 * k - first_output) % 4 == 0)) ≡ true = grind (arith, nat_tests) in
    let e : (first_output + 4 * k - first_output) / 4 ≡ k = omega arith in
    rw (t, e) refl

pub input_number : (k : ℕ) → k < 31 → plug_number first_input (first_input + 4 * k) ≡ Some k
input_number k lt =
    let t : (nat_le first_input (first_input + 4 * k) && nat_lt (first_input + 4 * k) (first_input + 124) && ((first_input + 4 * k - first_input) % 4 == 0)) ≡ true = grind (arith, nat_tests) in
    let e : (first_input + 4 * k - first_input) / 4 ≡ k = omega arith in
    rw (t, e) refl

-- the offset is that of no output plug register, and of no input plug register
pub no_output : (offset : ℕ) → first_input ≤ offset → plug_number first_output offset ≡ None
no_output offset le =
    let t : (nat_le first_output offset && nat_lt offset (first_output + 124) && ((offset - first_output) % 4 == 0)) ≡ false = grind (arith, nat_tests) in
    rw t refl

no_manager : (offset : ℕ) → first_output ≤ offset → manager_register offset ≡ None
no_manager offset le =
    let a : (offset == 0x220) ≡ false = grind (arith, nat_tests) in
    let b : (offset == 0x224) ≡ false = grind (arith, nat_tests) in
    let c : (offset == 0x228) ≡ false = grind (arith, nat_tests) in
    rw a (rw b (rw c refl))

none_either : (b : Bool) (o : Option Register) → o ≡ None → cond b o None ≡ None
none_either true o e = e
none_either false o e = refl

-- ---- registers

is_node_self : (n : ℕ) → is_node n (Some n) ≡ true
is_node_self n = grind (arith, nat_tests)

pub bandwidth_at : (r : ResetEntry) (n : ℕ) → r.manager ≡ Some n → register_at (Some r) n 0x220 ≡ Some BandwidthAvailable
bandwidth_at r n e = rw e (rw (is_node_self n) refl)

pub channels_high_at : (r : ResetEntry) (n : ℕ) → r.manager ≡ Some n → register_at (Some r) n 0x224 ≡ Some (ChannelsAvailable 0)
channels_high_at r n e = rw e (rw (is_node_self n) refl)

pub channels_low_at : (r : ResetEntry) (n : ℕ) → r.manager ≡ Some n → register_at (Some r) n 0x228 ≡ Some (ChannelsAvailable 32)
channels_low_at r n e = rw e (rw (is_node_self n) refl)

pub output_at : (r : ResetEntry) (n k : ℕ) (row : NodeRow) → slice_get r.nodes n ≡ Some row → k < row.outs → k < 31
    → register_at (Some r) n (first_output + 4 * k) ≡ Some (OutputPlug (at_plug row.device k))
output_at r n k row e lt small =
    let t : nat_lt k row.outs ≡ true = grind (arith, nat_tests) in
    rw (none_either (is_node n r.manager) (manager_register (first_output + 4 * k)) (no_manager (first_output + 4 * k) (omega arith)), e, output_number k small) (rw t refl)

pub input_at : (r : ResetEntry) (n k : ℕ) (row : NodeRow) → slice_get r.nodes n ≡ Some row → k < row.ins → k < 31
    → register_at (Some r) n (first_input + 4 * k) ≡ Some (InputPlug (at_plug row.device k))
input_at r n k row e lt small =
    let t : nat_lt k row.ins ≡ true = grind (arith, nat_tests) in
    rw (
      none_either (is_node n r.manager) (manager_register (first_input + 4 * k)) (no_manager (first_input + 4 * k) (omega arith)),
      e,
      no_output (first_input + 4 * k) (omega arith),
      input_number k small,
    ) (rw t refl)

-- ---- addressed plugs

pub addresses_output : (latest : Option ResetEntry) (n k : ℕ) (row : NodeRow) → row_of_node latest n ≡ Some row → k < 31
    → output_addressed latest (first_id + n) (first_address + (first_output + 4 * k)) ≡ Some (at_plug row.device k)
addresses_output latest n k row e lt =
    let t : nat_le first_address (first_address + (first_output + 4 * k)) ≡ true = grind (arith, nat_tests) in
    let f : first_address + (first_output + 4 * k) - first_address ≡ first_output + 4 * k = omega arith in
    rw (t, f, row_at_id latest n, e, output_number k lt) refl

-- no request at another offset addresses an output plug
addresses_none : (latest : Option ResetEntry) (id offset : ℕ) → plug_number first_output offset ≡ None → output_addressed latest id (first_address + offset) ≡ None
addresses_none latest id offset e =
    let t : nat_le first_address (first_address + offset) ≡ true = grind (arith, nat_tests) in
    let f : first_address + offset - first_address ≡ offset = omega arith in
    rw (t, f) (go (row_of_id latest id))
  where
    go : (o : Option NodeRow) → output_of o offset ≡ None
    go None = refl
    go (Some row) = rw e refl

pub addresses_no_input : (latest : Option ResetEntry) (id k : ℕ) → output_addressed latest id (first_address + (first_input + 4 * k)) ≡ None
addresses_no_input latest id k = addresses_none latest id (first_input + 4 * k) (no_output (first_input + 4 * k) (omega arith))

pub addresses_no_manager : (latest : Option ResetEntry) (id offset : ℕ) → offset < first_output → output_addressed latest id (first_address + offset) ≡ None
addresses_no_manager latest id offset lt =
    let t : (nat_le first_output offset && nat_lt offset (first_output + 124) && ((offset - first_output) % 4 == 0)) ≡ false = grind (arith, nat_tests) in
    addresses_none latest id offset (rw t refl)

-- ---- words
