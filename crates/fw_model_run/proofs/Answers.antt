-- The node that a controller's request goes to answers it with the account's word, or refuses if it has no such register.
use Rattle.fw_model_run.proofs.Common.{◌≡◌, ◌⊎◌, inl, inr, ℕ, ◌+◌, ◌-◌, ◌*◌, ◌/◌, ◌<◌, ◌==◌, nat_lt, Bool, true}
use Rattle.fw_model_run.proofs.Common.{false, cond, Option, Some, None, is_some, unwrap_or, slice_get, refl, ap, sym, subst, ◌∙◌}
use Rattle.fw_model_run.proofs.Common.{arith, option_map, nat_tests, PlugAt, output_plugs_of, input_plugs_of, ReadSwap, Reply}
use Rattle.fw_model_run.proofs.Common.{Swap, ResetEntry, NodeRow, Target, offset_of, request_at, Account, is_output}
use Rattle.fw_model_run.proofs.Common.{is_input, is_output_of, is_input_of, ChannelsAvailable, word_of, any_at, kind_at, row_of, Shows, Space, answer_of, State, device_in, manager_in, space_at}
use Rattle.fw_model_run.proofs.Common.{space_of_node, reply_from, manager_words}
use Rattle.fw_cmp_jobs.specs.declared.request.Target.TheVariants.{OutputPlug, InputPlug, Channels, BandwidthAvailable}
use Rattle.fw_devices.specs.Entries.{is_number}
use Rattle.fw_model_controllers.specs.Registers.{register_at as account_register, has_manager, stands, IsAnswer}
use Rattle.fw_model_controllers.specs.InStep.{IsRegister}
use Rattle.fw_model_controllers.specs.Requests.{IsNodeOf, PlugNumberFits}
use Rattle.fw_node.specs.Space.{lies_within}
use Rattle.fw_node.specs.Space as Spaces
use Rattle.fw_model_run.proofs.Buses.{row_place}

-- ---- what a space answers

-- what a register answers to a read or a compare_swap of a quadlet
pub answered : (p : Space) (offset : ℕ) (w : Option Swap) (v : ℕ) → Spaces.register_at p offset ≡ Some (ReadSwap v) → (answer_of p (request_at offset w)).reply ≡ record { rcode = 0; value = v }
answered p offset None v here = rw here refl
answered p offset (Some swap) v here = rw here refl

pub refused : (p : Space) (offset : ℕ) (w : Option Swap) → Spaces.register_at p offset ≡ None → (answer_of p (request_at offset w)).reply ≡ record { rcode = 7; value = 0 }
refused p offset None here = rw here refl
refused p offset (Some swap) here = rw here refl

-- the answer at a register that stands, or at none
answer_is : (l : Account) (t : Target) (p : Space) (w : Option Swap) (b : Bool) → stands l.latest t ≡ b
    → (b ≡ true → Spaces.register_at p (offset_of t) ≡ Some (ReadSwap (word_of l (account_register t)))) → (b ≡ false → Spaces.register_at p (offset_of t) ≡ None)
    → IsAnswer l t (answer_of p (request_at (offset_of t) w)).reply
answer_is l t p w true on here gone = let x = answered p (offset_of t) w (word_of l (account_register t)) (here refl) in
    record { complete = λ e. (ap (λ (r : Reply). r.rcode) x, ap (λ (r : Reply). r.value) x); refused = λ off. absurd (grind (arith, on, off)) }
answer_is l t p w false off here gone = let x = refused p (offset_of t) w (gone refl) in
    record { complete = λ on. absurd (grind (arith, on, off)); refused = λ off zero. absurd (omega (arith, ap (λ (r : Reply). r.rcode) x, zero)) }

-- ---- the plugs that a node has, and those that it has not

output_there : (s : Space) (k : ℕ) → k < 31 → nat_lt k (output_plugs_of s.kind) ≡ true → Spaces.register_at s (0xFFFF_F000_0904 + 4 * k) ≡ Some (ReadSwap (s.output_word k))
output_there s k few there =
    let offset : ℕ = 0xFFFF_F000_0904 + 4 * k in
    let a : lies_within 0xFFFF_F000_021C 0xFFFF_F000_0228 offset ≡ false = grind (arith, nat_tests) in
    let b : lies_within 0xFFFF_F000_0900 0xFFFF_F000_09FC offset ≡ true = grind (arith, nat_tests) in
    let c : (offset == 0xFFFF_F000_0900) ≡ false = grind (arith, nat_tests) in
    let d : (offset == 0xFFFF_F000_0980) ≡ false = grind (arith, nat_tests) in
    let e : nat_lt offset 0xFFFF_F000_0980 ≡ true = grind (arith, nat_tests) in
    let f : (offset - 0xFFFF_F000_0904) / 4 ≡ k = omega (arith, few) in
    let g : (offset == 0xFFFF_F000_0904 + 4 * k) ≡ true = grind (arith, nat_tests) in
    rw (a, b, c, d, e, f, g, there) refl

pub output_missing : (s : Space) (k : ℕ) → k < 31 → nat_lt k (output_plugs_of s.kind) ≡ false → Spaces.register_at s (0xFFFF_F000_0904 + 4 * k) ≡ None
output_missing s k few there =
    let offset : ℕ = 0xFFFF_F000_0904 + 4 * k in
    let a : lies_within 0xFFFF_F000_021C 0xFFFF_F000_0228 offset ≡ false = grind (arith, nat_tests) in
    let b : lies_within 0xFFFF_F000_0900 0xFFFF_F000_09FC offset ≡ true = grind (arith, nat_tests) in
    let c : (offset == 0xFFFF_F000_0900) ≡ false = grind (arith, nat_tests) in
    let d : (offset == 0xFFFF_F000_0980) ≡ false = grind (arith, nat_tests) in
    let e : nat_lt offset 0xFFFF_F000_0980 ≡ true = grind (arith, nat_tests) in
    let f : (offset - 0xFFFF_F000_0904) / 4 ≡ k = omega (arith, few) in
    let g : (offset == 0xFFFF_F000_0904 + 4 * k) ≡ true = grind (arith, nat_tests) in
    rw (a, b, c, d, e, f, g, there) refl

input_there : (s : Space) (k : ℕ) → k < 31 → nat_lt k (input_plugs_of s.kind) ≡ true → Spaces.register_at s (0xFFFF_F000_0984 + 4 * k) ≡ Some (ReadSwap (s.input_word k))
input_there s k few there =
    let offset : ℕ = 0xFFFF_F000_0984 + 4 * k in
    let a : lies_within 0xFFFF_F000_021C 0xFFFF_F000_0228 offset ≡ false = grind (arith, nat_tests) in
    let b : lies_within 0xFFFF_F000_0900 0xFFFF_F000_09FC offset ≡ true = grind (arith, nat_tests) in
    let c : (offset == 0xFFFF_F000_0900) ≡ false = grind (arith, nat_tests) in
    let d : (offset == 0xFFFF_F000_0980) ≡ false = grind (arith, nat_tests) in
    let e : nat_lt offset 0xFFFF_F000_0980 ≡ false = grind (arith, nat_tests) in
    let f : (offset - 0xFFFF_F000_0984) / 4 ≡ k = omega (arith, few) in
    let g : (offset == 0xFFFF_F000_0984 + 4 * k) ≡ true = grind (arith, nat_tests) in
    rw (a, b, c, d, e, f, g, there) refl

pub input_missing : (s : Space) (k : ℕ) → k < 31 → nat_lt k (input_plugs_of s.kind) ≡ false → Spaces.register_at s (0xFFFF_F000_0984 + 4 * k) ≡ None
input_missing s k few there =
    let offset : ℕ = 0xFFFF_F000_0984 + 4 * k in
    let a : lies_within 0xFFFF_F000_021C 0xFFFF_F000_0228 offset ≡ false = grind (arith, nat_tests) in
    let b : lies_within 0xFFFF_F000_0900 0xFFFF_F000_09FC offset ≡ true = grind (arith, nat_tests) in
    let c : (offset == 0xFFFF_F000_0900) ≡ false = grind (arith, nat_tests) in
    let d : (offset == 0xFFFF_F000_0980) ≡ false = grind (arith, nat_tests) in
    let e : nat_lt offset 0xFFFF_F000_0980 ≡ false = grind (arith, nat_tests) in
    let f : (offset - 0xFFFF_F000_0984) / 4 ≡ k = omega (arith, few) in
    let g : (offset == 0xFFFF_F000_0984 + 4 * k) ≡ true = grind (arith, nat_tests) in
    rw (a, b, c, d, e, f, g, there) refl

-- ---- the plugs of a device on the bus are those of its kind

-- a row that is this device's
shape : (s : State) (e : ResetEntry) (n d : ℕ) (row : NodeRow) → Shows s.declared.topology s.declared.kinds e → slice_get e.nodes n ≡ Some row → row.device ≡ d
    → row ≡ row_of d (kind_at s.declared.kinds d)
shape s e n d row h at same = (h.rows n row at).0 ∙ ap (λ k. row_of k (kind_at s.declared.kinds k)) same

outputs_are : (s : State) (e : ResetEntry) (n : ℕ) (row : NodeRow) (p : PlugAt) → Shows s.declared.topology s.declared.kinds e → slice_get e.nodes n ≡ Some row → row.device ≡ p.device
    → is_output (Some e) p ≡ nat_lt p.plug (output_plugs_of (kind_at s.declared.kinds p.device))
outputs_are s e n row p h at same = go (nat_lt p.plug (output_plugs_of (kind_at s.declared.kinds p.device))) refl (is_output (Some e) p) refl
  where
    outs : (m : ℕ) (x : NodeRow) → slice_get e.nodes m ≡ Some x → x.device ≡ p.device → nat_lt p.plug x.outs ≡ nat_lt p.plug (output_plugs_of (kind_at s.declared.kinds p.device))
    outs m x x_at x_same = ap (λ (r : NodeRow). nat_lt p.plug r.outs) (shape s e m p.device x h x_at x_same)

    met : nat_lt p.plug row.outs ≡ true → is_output_of p row ≡ true
    met lt = grind (arith, nat_tests, same, lt)

    go : (b : Bool) → nat_lt p.plug (output_plugs_of (kind_at s.declared.kinds p.device)) ≡ b → (c : Bool) → is_output (Some e) p ≡ c → c ≡ b
    go true f true k = refl
    go false f false k = refl
    go true f false k = sym k ∙ any_at (is_output_of p) e.nodes n row at (met (outs n row at same ∙ f))
    go false f true k =
        let w = row_place (is_output_of p) e.nodes k in
        let device : w.1.device ≡ p.device = let x = w.3 in grind (arith, nat_tests, x) in
        let within : nat_lt p.plug w.1.outs ≡ true = let x = w.3 in grind (arith, x) in
        sym within ∙ (outs w.0 w.1 w.2 device ∙ f)

inputs_are : (s : State) (e : ResetEntry) (n : ℕ) (row : NodeRow) (p : PlugAt) → Shows s.declared.topology s.declared.kinds e → slice_get e.nodes n ≡ Some row → row.device ≡ p.device
    → is_input (Some e) p ≡ nat_lt p.plug (input_plugs_of (kind_at s.declared.kinds p.device))
inputs_are s e n row p h at same = go (nat_lt p.plug (input_plugs_of (kind_at s.declared.kinds p.device))) refl (is_input (Some e) p) refl
  where
    ins : (m : ℕ) (x : NodeRow) → slice_get e.nodes m ≡ Some x → x.device ≡ p.device → nat_lt p.plug x.ins ≡ nat_lt p.plug (input_plugs_of (kind_at s.declared.kinds p.device))
    ins m x x_at x_same = ap (λ (r : NodeRow). nat_lt p.plug r.ins) (shape s e m p.device x h x_at x_same)

    met : nat_lt p.plug row.ins ≡ true → is_input_of p row ≡ true
    met lt = grind (arith, nat_tests, same, lt)

    go : (b : Bool) → nat_lt p.plug (input_plugs_of (kind_at s.declared.kinds p.device)) ≡ b → (c : Bool) → is_input (Some e) p ≡ c → c ≡ b
    go true f true k = refl
    go false f false k = refl
    go true f false k = sym k ∙ any_at (is_input_of p) e.nodes n row at (met (ins n row at same ∙ f))
    go false f true k =
        let w = row_place (is_input_of p) e.nodes k in
        let device : w.1.device ≡ p.device = let x = w.3 in grind (arith, nat_tests, x) in
        let within : nat_lt p.plug w.1.ins ≡ true = let x = w.3 in grind (arith, x) in
        sym within ∙ (ins w.0 w.1 w.2 device ∙ f)

-- ---- each register

-- the space of a node that is this device
node_space : (s : State) (e : ResetEntry) (n d : ℕ) (row : NodeRow) → s.account.latest ≡ Some e → slice_get e.nodes n ≡ Some row → row.device ≡ d → space_of_node s n ≡ space_at s d n
node_space s e n d row is at same = ap (λ o. space_at s (unwrap_or o 0) n) (ap (λ o. device_in o n) is ∙ (ap (option_map (λ (r : NodeRow). r.device)) at ∙ ap (λ k. Some k) same))

pub managed : (s : State) (e : ResetEntry) (n d : ℕ) → s.account.latest ≡ Some e → e.manager ≡ Some n → (space_at s d n).manager ≡ Some (manager_words s)
managed s e n d is manager = ap (λ o. cond (is_number o n) (Some (manager_words s)) None) (ap manager_in is ∙ manager) ∙ ap (λ b. cond b (Some (manager_words s)) None) (own n)
  where
    own : (n : ℕ) → (n == n) ≡ true
    own n = grind (arith, nat_tests)

has_one : (s : State) (e : ResetEntry) (n : ℕ) → s.account.latest ≡ Some e → e.manager ≡ Some n → has_manager s.account.latest ≡ true
has_one s e n is manager = ap has_manager is ∙ ap is_some manager

pub nodes_answer : (s : State) (e : ResetEntry) (t : Target) (w : Option Swap) (n : ℕ) → s.account.latest ≡ Some e → Shows s.declared.topology s.declared.kinds e → IsNodeOf (Some e) t n
    → PlugNumberFits t → IsRegister (account_register t) → IsAnswer s.account t (reply_from s n (request_at (offset_of t) w))
nodes_answer s e (OutputPlug p) w n is h node few own = subst (λ x. IsAnswer s.account (OutputPlug p) (answer_of x (request_at (offset_of (OutputPlug p)) w)).reply)
    (sym (node_space s e n p.device node.0 is node.1 node.2)) (answer_is s.account (OutputPlug p) (space_at s p.device n) w (nat_lt p.plug (output_plugs_of (kind_at s.declared.kinds p.device)))
    (ap (λ o. is_output o p) is ∙ outputs_are s e n node.0 p h node.1 node.2) (output_there (space_at s p.device n) p.plug few) (output_missing (space_at s p.device n) p.plug few))
nodes_answer s e (InputPlug p) w n is h node few own = subst (λ x. IsAnswer s.account (InputPlug p) (answer_of x (request_at (offset_of (InputPlug p)) w)).reply)
    (sym (node_space s e n p.device node.0 is node.1 node.2)) (answer_is s.account (InputPlug p) (space_at s p.device n) w (nat_lt p.plug (input_plugs_of (kind_at s.declared.kinds p.device)))
    (ap (λ o. is_input o p) is ∙ inputs_are s e n node.0 p h node.1 node.2) (input_there (space_at s p.device n) p.plug few) (input_missing (space_at s p.device n) p.plug few))
nodes_answer s e BandwidthAvailable w n is h node few own = let there = managed s e n (unwrap_or (device_in s.account.latest n) 0) is node in
    answer_is s.account BandwidthAvailable (space_of_node s n) w true (has_one s e n is node) (λ x. rw there refl) (λ x. absurd (grind arith))
nodes_answer s e (Channels base) w n is h node few own = let there = managed s e n (unwrap_or (device_in s.account.latest n) 0) is node in
    answer_is s.account (Channels base) (space_of_node s n) w true (has_one s e n is node) (λ x. halves own there) (λ x. absurd (grind arith))
  where
    halves : (base ≡ 0) ⊎ (base ≡ 32) → (space_of_node s n).manager ≡ Some (manager_words s)
        → Spaces.register_at (space_of_node s n) (offset_of (Channels base)) ≡ Some (ReadSwap (word_of s.account (ChannelsAvailable base)))
    halves (inl z) there = subst (λ b. Spaces.register_at (space_of_node s n) (offset_of (Channels b)) ≡ Some (ReadSwap (word_of s.account (ChannelsAvailable b)))) (sym z) (rw there refl)
    halves (inr z) there = subst (λ b. Spaces.register_at (space_of_node s n) (offset_of (Channels b)) ≡ Some (ReadSwap (word_of s.account (ChannelsAvailable b)))) (sym z) (rw there refl)
