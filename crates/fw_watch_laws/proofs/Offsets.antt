-- Where a watched register stands, and which register of the account that is.
use Rattle.fw_watch_laws.proofs.Common.{◌≡◌, refl, ap, sym, ◌∙◌, subst, ℕ, ◌+◌, ◌-◌, ◌*◌, ◌%◌, ◌<◌, ◌==◌, ◌&&◌, ◌||◌, nat_le, nat_lt, Bool, true, false, if◌then◌else◌, Option, Some, None, slice_get}
use Rattle.fw_watch_laws.proofs.Common.{
  arith,
  eqb-true,
  same_Some,
  ResetEntry,
  NodeRow,
  first_id,
  Place,
  BandwidthAvailable,
  ChannelsAvailable,
  place_at,
  register_of,
  is_node,
  WatchedRegister,
  Bandwidth,
}
use Rattle.fw_watch_laws.proofs.Common.{ChannelsHigh, ChannelsLow, Output, Input, register_at, is_managed, node_of, IsNumber, offset_of}
use Rattle.std.proofs.Common.{◌/◌}
use Rattle.std.specs.Option.{option_or}
use Rattle.fw_csr.specs.declared.offset.TheConstants.{BANDWIDTH_AVAILABLE, CHANNELS_AVAILABLE_HI, CHANNELS_AVAILABLE_LO, OPCR, IPCR}
use Rattle.fw_model_account.specs.Words.{first_address, first_output, first_input, plug_register}
use Rattle.fw_model_audit.specs.Looked.{is_watched, is_plug_offset}
use Rattle.fw_watch_remarks.specs.Registers.{plug_number, output_or, input_of}

-- ---- addresses

number_if : (b : Bool) (first address k : ℕ) → (nat_le first address && nat_lt address (first + 124) && ((address - first) % 4 == 0)) ≡ b
    → (if b then Some ((address - first) / 4) else None) ≡ Some k → address ≡ first + 4 * k
number_if false first address k e f = cc
number_if true first address k e f = let same : (address - first) / 4 ≡ k = same_Some _ k f in grind (arith, e, same)

number_at : (first address k : ℕ) → plug_number first address ≡ Some k → address ≡ first + 4 * k
unfolding plug_number
number_at first address k e = number_if (nat_le first address && nat_lt address (first + 124) && ((address - first) % 4 == 0)) first address k refl e

input_at : (o : Option ℕ) (address : ℕ) (r : WatchedRegister) → plug_number IPCR address ≡ o → input_of o ≡ Some r → address ≡ first_address + offset_of r
input_at None address r e f = cc
input_at (Some k) address r e f =
    let P : WatchedRegister → Type 0 = λ x. address ≡ first_address + offset_of x in
    let a = number_at IPCR address k e in
    subst P (same_Some (Input k) r f) (omega (arith, a))

plug_at_offset : (o : Option ℕ) (address : ℕ) (r : WatchedRegister) → plug_number OPCR address ≡ o → output_or o (input_of (plug_number IPCR address)) ≡ Some r → address ≡ first_address + offset_of r
plug_at_offset None address r e f = input_at (plug_number IPCR address) address r refl f
plug_at_offset (Some k) address r e f =
    let P : WatchedRegister → Type 0 = λ x. address ≡ first_address + offset_of x in
    let a = number_at OPCR address k e in
    subst P (same_Some (Output k) r f) (omega (arith, a))

fixed_at : (b : Bool) (x r : WatchedRegister) (rest : Option WatchedRegister) (address first : ℕ) → (address == first) ≡ b → first ≡ first_address + offset_of x
    → (if b then Some x else rest) ≡ Some r → (rest ≡ Some r → address ≡ first_address + offset_of r) → address ≡ first_address + offset_of r
fixed_at false x r rest address first e at f g = g f
fixed_at true x r rest address first e at f g =
    let P : WatchedRegister → Type 0 = λ y. address ≡ first_address + offset_of y in
    subst P (same_Some x r f) (eqb-true address first e ∙ at)

-- the register that stands at an address stands at its offset
pub offset_at : (address : ℕ) (r : WatchedRegister) → register_at address ≡ Some r → address ≡ first_address + offset_of r
unfolding register_at
offset_at address r e =
    fixed_at (address == BANDWIDTH_AVAILABLE) Bandwidth r _ address BANDWIDTH_AVAILABLE refl refl e
    (λ f. fixed_at (address == CHANNELS_AVAILABLE_HI) ChannelsHigh r _ address CHANNELS_AVAILABLE_HI refl refl f
    (λ g. fixed_at (address == CHANNELS_AVAILABLE_LO) ChannelsLow r _ address CHANNELS_AVAILABLE_LO refl refl g (plug_at_offset (plug_number OPCR address) address r refl)))

-- and its offset is one that an audit watches
plug_watched : (first k : ℕ) → k < 31 → is_plug_offset first (first + 4 * k) ≡ true
plug_watched first k h = grind arith

or_second : (x d e : Bool) → d ≡ true → (x || d || e) ≡ true
or_second true d e f = refl
or_second false d e f = rw f refl

or_last : (x e : Bool) → e ≡ true → (x || e) ≡ true
or_last true e f = refl
or_last false e f = f

pub watched : (r : WatchedRegister) → IsNumber r → is_watched (offset_of r) ≡ true
watched Bandwidth h = refl
watched ChannelsHigh h = refl
watched ChannelsLow h = refl
watched (Output k) h = or_second _ (is_plug_offset first_output (offset_of (Output k))) _ (plug_watched first_output k h)
watched (Input k) h = or_last _ (is_plug_offset first_input (offset_of (Input k))) (plug_watched first_input k h)

-- ---- the registers of the account

-- the one that stands at an address of a node stands at its offset there
pub place_of : (latest : Option ResetEntry) (id address node : ℕ) (r : WatchedRegister) (v : Place) → node_of id ≡ Some node → address ≡ first_address + offset_of r
    → register_of latest id address ≡ Some v → place_at latest node (offset_of r) ≡ Some v
place_of latest id address node r v n a e = at_id (nat_le 0xFFC0 id) refl n
  where
    at_address : (b : Bool) → (if b && nat_le first_address address then place_at latest (id - first_id) (address - first_address) else None) ≡ Some v
        → id - 0xFFC0 ≡ node → place_at latest node (offset_of r) ≡ Some v
    at_address b f same =
        let off : address - first_address ≡ offset_of r = omega (arith, a) in
        ap (λ (x : ℕ). place_at latest x (offset_of r)) (sym same) ∙ ap (λ (x : ℕ). place_at latest (id - first_id) x) (sym off) ∙ if_some (b && nat_le first_address address) f
      where
        if_some : (c : Bool) → (if c then place_at latest (id - first_id) (address - first_address) else None) ≡ Some v → place_at latest (id - first_id) (address - first_address) ≡ Some v
        if_some true g = g
        if_some false g = cc

    at_id : (b : Bool) → nat_le 0xFFC0 id ≡ b → (if b then Some (id - 0xFFC0) else None) ≡ Some node → place_at latest node (offset_of r) ≡ Some v
    at_id true f g = at_address (nat_le first_id id) e (same_Some (id - 0xFFC0) node g)
    at_id false f g = cc

-- a managed register is the manager's
abbrev pub managed_of : WatchedRegister → Place
managed_of Bandwidth = BandwidthAvailable
managed_of ChannelsHigh = ChannelsAvailable 0
managed_of ChannelsLow = ChannelsAvailable 32
managed_of (Output number) = BandwidthAvailable
managed_of (Input number) = BandwidthAvailable

at_manager : (b : Bool) (x v : Place) (rest : Option Place) → rest ≡ None → option_or (if b then Some x else None) rest ≡ Some v → (b ≡ true) × (v ≡ x)
at_manager true x v rest e f = (refl, sym (same_Some x v f))
at_manager false x v rest e f = (let g : rest ≡ Some v = f in cc)

no_plug_20 : (o : Option NodeRow) → plug_register o 0x220 ≡ None
no_plug_20 None = refl
no_plug_20 (Some row) = refl

no_plug_24 : (o : Option NodeRow) → plug_register o 0x224 ≡ None
no_plug_24 None = refl
no_plug_24 (Some row) = refl

no_plug_28 : (o : Option NodeRow) → plug_register o 0x228 ≡ None
no_plug_28 None = refl
no_plug_28 (Some row) = refl

pub managed_place : (reg : WatchedRegister) (r : ResetEntry) (n : ℕ) (v : Place) → is_managed reg ≡ true → place_at (Some r) n (offset_of reg) ≡ Some v
    → (is_node n r.manager ≡ true) × (v ≡ managed_of reg)
managed_place Bandwidth r n v m e = at_manager (is_node n r.manager) BandwidthAvailable v (plug_register (slice_get r.nodes n) 0x220) (no_plug_20 (slice_get r.nodes n)) e
managed_place ChannelsHigh r n v m e = at_manager (is_node n r.manager) (ChannelsAvailable 0) v (plug_register (slice_get r.nodes n) 0x224) (no_plug_24 (slice_get r.nodes n)) e
managed_place ChannelsLow r n v m e = at_manager (is_node n r.manager) (ChannelsAvailable 32) v (plug_register (slice_get r.nodes n) 0x228) (no_plug_28 (slice_get r.nodes n)) e
managed_place (Output k) r n v m e = cc
managed_place (Input k) r n v m e = cc
