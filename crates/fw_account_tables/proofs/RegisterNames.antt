-- The register of the account at an address, and the plug that it is of.
use Rattle.fw_account_tables.proofs.Common.{ResetEntry, NodeRow, ◌≡◌, ◌≤◌, ◌-◌, ◌&&◌, ℕ, Bool, true, false, Option, Some}
use Rattle.fw_account_tables.proofs.Common.{None, List, [], cond, refl, sym, ◌∙◌, arith, rules, nat_tests, Account, StandsFor}
use Rattle.fw_account_tables.proofs.Common.{ShowsReset, Tables}
use Rattle.std.proofs.Common.{nat_le, option_map, slice_get, IfSome}
use Rattle.std.specs.Option.{option_or}
use Rattle.fw_async_fields.specs.NodeIds.{local_number}
use Rattle.fw_log_entry.specs.Network.{first_id}
use Rattle.fw_model_account.specs.Words.{Register, is_node, manager_register, plug_register, register_at, register_of, first_address}
use Rattle.fw_account_tables.specs.Stands.{row_at}
use Rattle.fw_account_tables.specs.Swaps.{register_named, IsThere}
use Rattle.fw_account_tables.specs.declared.register.Register.{Register as RegisterName}
use Rattle.fw_account_tables.specs.declared.register.Register.TheVariants.{Bandwidth, HighChannels, LowChannels, Output, Input}
use Rattle.fw_model_account.proofs.Bounds.{register_there}
use Rattle.fw_model_account.proofs.Network.{not_both}

no_row : (id : ℕ) → row_at [] id ≡ None
no_row id = go (nat_le first_id id)
  where
    go : (b : Bool) → cond b (slice_get {X = NodeRow} [] (id - first_id)) None ≡ None
    go true = refl
    go false = refl

-- a node ID of the local bus, and its number
pub local_id : (id n : ℕ) → Some n ≡ local_number id → (first_id ≤ id) × (id - first_id ≡ n)
local_id id n e = by (nat_le first_id id) refl e
  where
    by : (b : Bool) → nat_le first_id id ≡ b → Some n ≡ cond b (Some (id - first_id)) None → (first_id ≤ id) × (id - first_id ≡ n)
    by true t f = (grind (arith, nat_tests), cc f)
    by false t f = cc f

-- what the nodes and the manager that are kept say
pub register_is : (started : Bool) (manager : Option ℕ) (nodes : List NodeRow) (latest : Option ResetEntry) (id address : ℕ)
    → ShowsReset started manager nodes latest → first_id ≤ id → first_address ≤ address
    → option_or (cond (is_node (id - first_id) manager) (manager_register (address - first_address)) None)
    (plug_register (row_at nodes id) (address - first_address)) ≡ register_of latest id address
register_is started manager nodes None id address h low high =
    let t : (nat_le first_id id && nat_le first_address address) ≡ true = grind (arith, nat_tests) in
    rw (t, h.1, h.2, no_row id) refl
register_is started manager nodes (Some r) id address h low high =
    let t : (nat_le first_id id && nat_le first_address address) ≡ true = grind (arith, nat_tests) in
    let u : nat_le first_id id ≡ true = grind (arith, nat_tests) in
    rw (t, h.1, h.2, u) refl

-- one that is found first, or the other
pub first_found : (a b : Option RegisterName) (x : RegisterName) (c d : Option Register) → a ≡ Some x → option_map register_named a ≡ c
    → option_map register_named (Some x) ≡ option_or c d
first_found a b x c d e f = rw (← f, e) refl

pub second_found : (a b : Option RegisterName) (c d : Option Register) → a ≡ None → option_map register_named a ≡ c → option_map register_named b ≡ d
    → option_map register_named b ≡ option_or c d
second_found a b c d e f g = rw (← f, e, ← g) refl

-- its plug is there
pub named_there : (t : Tables) (l : Account) (id address : ℕ) (o : Option RegisterName) → StandsFor t l
    → option_map register_named o ≡ register_of l.latest id address → IfSome o (λ x. IsThere x t)
named_there t l id address None h e = search rules
named_there t l id address (Some x) h e = go (nat_le first_id id && nat_le first_address address) e
  where
    place : (y : RegisterName) → register_at l.latest (id - first_id) (address - first_address) ≡ Some (register_named y) → IsThere y t
    place Bandwidth at = tt
    place HighChannels at = tt
    place LowChannels at = tt
    place (Output p) at = sym (h.plugs.outs p) ∙ register_there l.latest (id - first_id) (address - first_address) _ at
    place (Input p) at = sym (h.plugs.ins p) ∙ register_there l.latest (id - first_id) (address - first_address) _ at

    go : (b : Bool) → Some (register_named x) ≡ cond b (register_at l.latest (id - first_id) (address - first_address)) None → IsThere x t
    go true f = place x (sym f)
    go false f = absurd (not_both None (register_named x) refl (sym f))
