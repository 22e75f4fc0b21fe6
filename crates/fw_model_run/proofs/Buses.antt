-- A device on the bus that has a link: its row, its number, and that controllers are told of it.
use Rattle.fw_model_run.proofs.Common.{◌≡◌, ℕ, suc, ◌<◌, List, [], ◌∷◌, length, slice_get, cond, not, true, false, Bool, Some, None, is_some, nat_lt, ◌==◌, refl, ap, sym, subst, ◌∙◌, arith, nat_tests}
use Rattle.fw_model_run.proofs.Common.{DeviceKind, output_plugs_of, input_plugs_of, PlugAt, ResetEntry, NodeRow, node_of_device, row_of_node, is_output, is_input, is_output_of, is_input_of, node_of}
use Rattle.fw_model_run.proofs.Common.{kind_at, node_number, row_of, Shows, State, with_link, linked_number, manager_in, directory_of}
use Rattle.std.proofs.Common.{IsSome}
use Rattle.std.specs.List.{list_any}
use Rattle.fw_terms.specs.declared.device.DeviceKind.TheVariants.{Relay}
use Rattle.fw_terms.specs.Devices.{code_of}
use Rattle.fw_terms.proofs.KindLaws.{relay_unlinked, output_linked, input_linked}
use Rattle.fw_cmp_jobs.specs.Nodes.{node_of as told_node}
use Rattle.fw_model_controllers.specs.Registers.{has_manager}
use Rattle.fw_model_reclaim.specs.Worlds.{ShowsBus}
use Rattle.fw_model_run.specs.State.{is_relay}
use Rattle.fw_model_run.proofs.Directories.{node_told, linked_number_is}

-- ---- rows

-- the place of a row that passes
pub row_place : (test : NodeRow → Bool) (xs : List NodeRow) → list_any test xs ≡ true → (n : ℕ) × (x : NodeRow) × (slice_get xs n ≡ Some x) × (test x ≡ true)
row_place test [] e = absurd (grind arith)
row_place test (x ∷ xs) e = go (test x) refl (row_place test xs)
  where
    go : (b : Bool) → test x ≡ b → (list_any test xs ≡ true → (n : ℕ) × (y : NodeRow) × (slice_get xs n ≡ Some y) × (test y ≡ true)) → (n : ℕ) × (y : NodeRow) × (slice_get (x ∷ xs) n ≡ Some y)
        × (test y ≡ true)
    go true f later = (0, x, refl, f)
    go false f later = let w = later (grind (arith, e, f)) in (suc w.0, w.1, w.2, w.3)

-- a device with a plug is no relay
outputs_link : (kind : DeviceKind) (k : ℕ) → nat_lt k (output_plugs_of kind) ≡ true → (code_of kind == code_of Relay) ≡ false
outputs_link kind k e = relay_unlinked kind ∙ ap not (output_linked kind (grind (arith, nat_tests, e)))

inputs_link : (kind : DeviceKind) (k : ℕ) → nat_lt k (input_plugs_of kind) ≡ true → (code_of kind == code_of Relay) ≡ false
inputs_link kind k e = relay_unlinked kind ∙ ap not (input_linked kind (grind (arith, nat_tests, e)))

-- the number of a device whose row is no relay's
linked_row : (s : State) (e : ResetEntry) (n : ℕ) (row : NodeRow) → Shows s.declared.topology s.declared.kinds e → slice_get e.nodes n ≡ Some row → is_relay (Some row) ≡ false
    → linked_number (Some e) row.device ≡ Some n
linked_row s e n row h at quiet = ap (with_link e.nodes) (h.rows n row at).1 ∙ (ap (λ o. cond (is_relay o) None (Some n)) at ∙ ap (λ b. cond b None (Some n)) quiet)

-- ---- what controllers are told

told_row : (s : State) (e : ResetEntry) (n d : ℕ) (row : NodeRow) → s.account.latest ≡ Some e → Shows s.declared.topology s.declared.kinds e → slice_get e.nodes n ≡ Some row
    → is_relay (Some row) ≡ false → row.device ≡ d → IsSome (told_node (directory_of s) d)
told_row s e n d row is h at quiet same =
    let lt : d < 63 = subst (λ k. k < 63) same (h.network.range n row at).0 in
    let number : linked_number s.account.latest d ≡ Some n = ap (λ o. linked_number o d) is ∙ (ap (linked_number (Some e)) (sym same) ∙ linked_row s e n row h at quiet) in
    ap is_some (node_told s d lt ∙ number)

kind_row : (s : State) (e : ResetEntry) (n : ℕ) (row : NodeRow) → Shows s.declared.topology s.declared.kinds e → slice_get e.nodes n ≡ Some row
    → row ≡ row_of row.device (kind_at s.declared.kinds row.device)
kind_row s e n row h at = (h.rows n row at).0

pub shows_bus : (s : State) (e : ResetEntry) → s.account.latest ≡ Some e → Shows s.declared.topology s.declared.kinds e → ShowsBus s.account.latest (directory_of s)
shows_bus s e is h = record { outputs = outputs; inputs = inputs; manager = manager }
  where
    outputs : (p : PlugAt) → is_output s.account.latest p ≡ true → IsSome (told_node (directory_of s) p.device)
    outputs p on = told_row s e w.0 p.device w.1 is h w.2 (ap (λ (r : NodeRow). r.kind == code_of Relay) shape
        ∙ outputs_link (kind_at s.declared.kinds w.1.device) p.plug (sym (ap (λ (r : NodeRow). nat_lt p.plug r.outs) shape) ∙ within)) device
      where
        w : (n : ℕ) × (x : NodeRow) × (slice_get e.nodes n ≡ Some x) × (is_output_of p x ≡ true)
        w = row_place (is_output_of p) e.nodes (sym (ap (λ o. is_output o p) is) ∙ on)

        shape : w.1 ≡ row_of w.1.device (kind_at s.declared.kinds w.1.device)
        shape = kind_row s e w.0 w.1 h w.2

        within : nat_lt p.plug w.1.outs ≡ true
        within = let x = w.3 in grind (arith, x)

        device : w.1.device ≡ p.device
        device = let x = w.3 in grind (arith, nat_tests, x)

    inputs : (p : PlugAt) → is_input s.account.latest p ≡ true → IsSome (told_node (directory_of s) p.device)
    inputs p on = told_row s e w.0 p.device w.1 is h w.2 (ap (λ (r : NodeRow). r.kind == code_of Relay) shape
        ∙ inputs_link (kind_at s.declared.kinds w.1.device) p.plug (sym (ap (λ (r : NodeRow). nat_lt p.plug r.ins) shape) ∙ within)) device
      where
        w : (n : ℕ) × (x : NodeRow) × (slice_get e.nodes n ≡ Some x) × (is_input_of p x ≡ true)
        w = row_place (is_input_of p) e.nodes (sym (ap (λ o. is_input o p) is) ∙ on)

        shape : w.1 ≡ row_of w.1.device (kind_at s.declared.kinds w.1.device)
        shape = kind_row s e w.0 w.1 h w.2

        within : nat_lt p.plug w.1.ins ≡ true
        within = let x = w.3 in grind (arith, x)

        device : w.1.device ≡ p.device
        device = let x = w.3 in grind (arith, nat_tests, x)

    manager : has_manager s.account.latest ≡ true → IsSome (directory_of s).manager
    manager on = ap (λ o. is_some (manager_in o)) is ∙ (sym (ap has_manager is) ∙ on)

-- ---- the row of a device with a link

number_place : (rows : List NodeRow) (d n : ℕ) → node_number rows d ≡ Some n → node_of_device rows d ≡ n
number_place rows d n e = go (nat_lt (node_of_device rows d) (length rows)) e
  where
    go : (b : Bool) → cond b (Some (node_of_device rows d)) None ≡ Some n → node_of_device rows d ≡ n
    go true f = cc
    go false f = absurd (grind arith)

-- a device with a link stands at its number, with a row of its own
pub linked_at : (s : State) (e : ResetEntry) (d n : ℕ) → Shows s.declared.topology s.declared.kinds e → linked_number (Some e) d ≡ Some n
    → row_of_node (Some e) (node_of (Some e) d) ≡ Some (row_of d (kind_at s.declared.kinds d))
linked_at s e d n h is = let number = linked_number_is e d n is in ap (slice_get e.nodes) (number_place e.nodes d n number) ∙ h.numbers d n number

pub linked_small : (s : State) (e : ResetEntry) (d n : ℕ) → Shows s.declared.topology s.declared.kinds e → linked_number (Some e) d ≡ Some n → d < 63
linked_small s e d n h is = (h.network.range n (row_of d (kind_at s.declared.kinds d)) (h.numbers d n (linked_number_is e d n is))).0
