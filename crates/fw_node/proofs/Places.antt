-- A request at a register of one part of a node is answered there, and leaves the other parts as they are.
use Rattle.std.proofs.Common.{◌≡◌, ◌≢◌, ◌⊎◌, inl, inr, ℕ, ◌+◌, ◌*◌, ◌<◌, ◌≤◌, ◌==◌, ◌&&◌, ◌-◌, ◌/◌, cond, Bool, true, false, length, Option, Some, None, refl, sym, ap, ◌∙◌, arith}
use Rattle.std.specs.Prelude.{nat_lt}
use Rattle.std.specs.Option.{option_map}
use Rattle.std.proofs.lemmas.Bool.Decides.{nat_tests}
use Rattle.fw_terms.specs.Devices.{output_plugs_of, input_plugs_of}
use Rattle.fw_terms.proofs.KindLaws.{plugs_few}
use Rattle.fw_csr.specs.declared.request.Request.{Request}
use Rattle.fw_csr.specs.Requests.{offset_of}
use Rattle.fw_csr.specs.Manager.{ManagerWords}
use Rattle.fw_csr.specs.Manager as Manager
use Rattle.fw_plug.specs.Plugs.{PlugWords, plug_at, output_at, input_at, after_at, lingering_after, words_after, table_of}
use Rattle.fw_plug.specs.Plugs as Plugs
use Rattle.fw_node.specs.Space.{Space, register_at, core_register_at, manager_register_at, plug_table, lies_within}
use Rattle.fw_node.specs.State.{NodeState, after_request, space_of}
use Rattle.fw_node.proofs.Spaces.{kept_elsewhere}

-- ---- where a register stands

within : (first last offset : ℕ) → first ≤ offset → offset ≤ last → lies_within first last offset ≡ true
within first last offset low high = grind (arith, nat_tests)

-- it stands below these, or above them
abbrev pub Outside : ℕ → ℕ → ℕ → Type 0
Outside first last offset = (offset < first) ⊎ (last < offset)

-- it is one that each node has, or none
abbrev pub OfCore : ℕ → Type 0
OfCore offset = Outside 0xFFFF_F000_021C 0xFFFF_F000_0228 offset × Outside 0xFFFF_F000_0900 0xFFFF_F000_09FC offset

outside : (first last offset : ℕ) → Outside first last offset → lies_within first last offset ≡ false
outside first last offset (inl low) = grind (arith, nat_tests)
outside first last offset (inr high) = grind (arith, nat_tests)

-- one of the manager's
pub manager_register : (s : Space) (offset : ℕ) → 0xFFFF_F000_021C ≤ offset → offset ≤ 0xFFFF_F000_0228 → register_at s offset ≡ manager_register_at s.manager offset
manager_register s offset low high =
    ap (λ b. cond b (manager_register_at s.manager offset) (cond (lies_within 0xFFFF_F000_0900 0xFFFF_F000_09FC offset) (Plugs.register_at (plug_table s) offset) (core_register_at s offset)))
    (within 0xFFFF_F000_021C 0xFFFF_F000_0228 offset low high)

pub manager_register_of : (n m : NodeState) (number now offset : ℕ) → n ≡ m → 0xFFFF_F000_021C ≤ offset → offset ≤ 0xFFFF_F000_0228
    → manager_register_at n.manager offset ≡ register_at (space_of number now m) offset
manager_register_of n m number now offset is low high =
    sym (manager_register (space_of number now n) offset low high) ∙ ap (λ (k : NodeState). register_at (space_of number now k) offset) is

-- one of the plugs'
pub plug_register : (s : Space) (offset : ℕ) → 0xFFFF_F000_0900 ≤ offset → offset ≤ 0xFFFF_F000_09FC → register_at s offset ≡ Plugs.register_at (plug_table s) offset
plug_register s offset low high =
    λ i. cond (outside 0xFFFF_F000_021C 0xFFFF_F000_0228 offset (inr (omega arith)) i) (manager_register_at s.manager offset)
    (cond (within 0xFFFF_F000_0900 0xFFFF_F000_09FC offset low high i) (Plugs.register_at (plug_table s) offset) (core_register_at s offset))

-- one of the others
pub core_register_of : (n : NodeState) (number now offset : ℕ) → OfCore offset → core_register_at (space_of number now n) offset ≡ register_at (space_of number now n) offset
core_register_of n number now offset at =
    let s = space_of number now n in
    sym (λ i. cond (outside 0xFFFF_F000_021C 0xFFFF_F000_0228 offset at.0 i) (manager_register_at s.manager offset)
    (cond (outside 0xFFFF_F000_0900 0xFFFF_F000_09FC offset at.1 i) (Plugs.register_at (plug_table s) offset) (core_register_at s offset)))

-- ---- what stays

nowhere : (first plugs offset : ℕ) → offset < first → plug_at first plugs offset ≡ None
nowhere first plugs offset low =
    let far : (offset == first + 4 * ((offset - first) / 4)) ≡ false = grind (arith, nat_tests) in
    ap (λ b. cond (b && nat_lt ((offset - first) / 4) plugs) (Some ((offset - first) / 4)) None) far

beyond : (first plugs offset : ℕ) → first + 4 * plugs ≤ offset → plug_at first plugs offset ≡ None
beyond first plugs offset high =
    let n = (offset - first) / 4 in
    let far : nat_lt n plugs ≡ false = grind (arith, nat_tests) in
    ap (λ b. cond ((offset == first + 4 * n) && b) (Some n) None) far ∙ none (offset == first + 4 * n) n
  where
    none : (b : Bool) (n : ℕ) → cond (b && false) (Some n) None ≡ None
    none true n = refl
    none false n = refl

unasked : (p : PlugWords) (r : Request) → output_at (length p.outputs) (offset_of r) ≡ None → input_at (length p.inputs) (offset_of r) ≡ None → words_after p r ≡ p
unasked p r e f = λ i. record p {
  outputs = after_at (e i) r p.outputs;
  inputs = after_at (f i) r p.inputs;
  lingering_outputs = lingering_after (e i) r p.outputs p.lingering_outputs;
  lingering_inputs = lingering_after (f i) r p.inputs p.lingering_inputs;
}

-- the plugs, of a request outside of their registers
pub plugs_kept : (p : PlugWords) (r : Request) → length p.outputs ≤ 4 → length p.inputs ≤ 4 → Outside 0xFFFF_F000_0900 0xFFFF_F000_09FC (offset_of r) → words_after p r ≡ p
plugs_kept p r outputs inputs (inl low) =
    unasked p r (nowhere 0xFFFF_F000_0904 (length p.outputs) (offset_of r) (omega arith)) (nowhere 0xFFFF_F000_0984 (length p.inputs) (offset_of r) (omega arith))
plugs_kept p r outputs inputs (inr high) =
    unasked p r (beyond 0xFFFF_F000_0904 (length p.outputs) (offset_of r) (omega arith)) (beyond 0xFFFF_F000_0984 (length p.inputs) (offset_of r) (omega arith))

-- those of a node
abbrev pub HasPlugs : NodeState → Type 0
HasPlugs n = (length n.plugs.outputs ≡ output_plugs_of n.kind) × (length n.plugs.inputs ≡ input_plugs_of n.kind)

node_plugs_kept : (n : NodeState) (r : Request) → HasPlugs n → Outside 0xFFFF_F000_0900 0xFFFF_F000_09FC (offset_of r) → words_after n.plugs r ≡ n.plugs
node_plugs_kept n r sizes at =
    let few = plugs_few n.kind in
    plugs_kept n.plugs r (omega (arith, few.0, sizes.0)) (omega (arith, few.1, sizes.1)) at

-- the manager, of a request outside of its registers
pub manager_kept : (m : Option ManagerWords) (r : Request) → Outside 0xFFFF_F000_021C 0xFFFF_F000_0228 (offset_of r) → option_map (λ w. Manager.words_after w r) m ≡ m
manager_kept None r at = refl
manager_kept (Some w) r at =
    let none : (place : ℕ) → 0xFFFF_F000_021C ≤ place → place ≤ 0xFFFF_F000_0228 → offset_of r ≢ place = λ place low high. apart place low high at in
    ap Some (λ i. record w {
      bus_manager_id = kept_elsewhere 0xFFFF_F000_021C w.bus_manager_id r (none 0xFFFF_F000_021C (omega arith) (omega arith)) i;
      bandwidth_available = kept_elsewhere 0xFFFF_F000_0220 w.bandwidth_available r (none 0xFFFF_F000_0220 (omega arith) (omega arith)) i;
      channels_available_hi = kept_elsewhere 0xFFFF_F000_0224 w.channels_available_hi r (none 0xFFFF_F000_0224 (omega arith) (omega arith)) i;
      channels_available_lo = kept_elsewhere 0xFFFF_F000_0228 w.channels_available_lo r (none 0xFFFF_F000_0228 (omega arith) (omega arith)) i;
    })
  where
    apart : (place : ℕ) → 0xFFFF_F000_021C ≤ place → place ≤ 0xFFFF_F000_0228 → Outside 0xFFFF_F000_021C 0xFFFF_F000_0228 (offset_of r) → offset_of r ≢ place
    apart place low high (inl below) = λ e. absurd (omega arith)
    apart place low high (inr over) = λ e. absurd (omega arith)

-- a node after a request at the manager's registers
pub manager_asked : (n m : NodeState) (o : Option ManagerWords) (r : Request) → n ≡ m → HasPlugs n → offset_of r ≤ 0xFFFF_F000_0228 → o ≡ option_map (λ w. Manager.words_after w r) n.manager
    → record n { manager = o } ≡ after_request (Some r) m
manager_asked n m o r is sizes high words =
    (λ i. record n { manager = words i; plugs = sym (node_plugs_kept n r sizes (inl (omega arith))) i }) ∙ ap (λ k. after_request (Some r) k) is

-- a node after a request at its plugs
pub plugs_asked : (n m : NodeState) (p : PlugWords) (r : Request) → n ≡ m → 0xFFFF_F000_0900 ≤ offset_of r → p ≡ words_after n.plugs r → record n { plugs = p } ≡ after_request (Some r) m
plugs_asked n m p r is low words = (λ i. record n { manager = sym (manager_kept n.manager r (inr (omega arith))) i; plugs = words i }) ∙ ap (λ k. after_request (Some r) k) is

-- a node after a request at another register
pub core_asked : (n m : NodeState) (r : Request) → n ≡ m → HasPlugs n → OfCore (offset_of r) → m ≡ after_request (Some r) m
core_asked n m r is sizes at =
    sym is ∙ ((λ i. record n { manager = sym (manager_kept n.manager r at.0) i; plugs = sym (node_plugs_kept n r sizes at.1) i }) ∙ ap (λ k. after_request (Some r) k) is)

-- the registers of its plugs
pub plug_register_of : (n m : NodeState) (number now offset : ℕ) → n ≡ m → HasPlugs n
    → 0xFFFF_F000_0900 ≤ offset → offset ≤ 0xFFFF_F000_09FC → Plugs.register_at (table_of n.plugs) offset ≡ register_at (space_of number now m) offset
plug_register_of n m number now offset is sizes low high =
    (λ i. Plugs.register_at (record (table_of n.plugs) { outputs = sizes.0 i; inputs = sizes.1 i }) offset)
    ∙ (sym (plug_register (space_of number now n) offset low high) ∙ ap (λ (k : NodeState). register_at (space_of number now k) offset) is)
