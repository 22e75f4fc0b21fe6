-- Which plug of the account an oPCR or iPCR is.
use Rattle.fw_watch_laws.proofs.Common.{◌≡◌, refl, ap, sym, ◌∙◌, ℕ, ◌+◌, ◌*◌, ◌<◌, ◌≤◌, ◌==◌, nat_lt, Bool, true, false, if◌then◌else◌, Option, Some, None, slice_get, arith, nat_tests, same_Some}
use Rattle.fw_watch_laws.proofs.Common.{PlugAt, ResetEntry, NodeRow, Place, OutputPlug, InputPlug, place_at, is_node, Output, Input, offset_of}
use Rattle.std.specs.Option.{option_or}
use Rattle.fw_terms.specs.Tables.{at_plug}
use Rattle.fw_model_account.specs.Words.{first_output, first_input}
use Rattle.fw_model_account.specs.Words.{plug_number, manager_register, output_register, input_register, plug_register}
use Rattle.fw_model_account.proofs.Places.{output_number, input_number, no_output}

-- it is the plug with this number of the node's device
pub record IsPlugOf (o : Option ResetEntry) (n k : ℕ) (p : PlugAt) : Type 0 where
  pub reset : ResetEntry
  pub latest : o ≡ Some reset
  pub row : NodeRow
  pub here : slice_get reset.nodes n ≡ Some row
  pub plug : p ≡ at_plug row.device k

no_manager : (offset : ℕ) → 0x900 ≤ offset → manager_register offset ≡ None
no_manager offset h =
    let a : (offset == 0x220) ≡ false = grind (arith, nat_tests, h) in
    let b : (offset == 0x224) ≡ false = grind (arith, nat_tests, h) in
    let c : (offset == 0x228) ≡ false = grind (arith, nat_tests, h) in
    rw (a, b, c) refl

no_input : (offset : ℕ) → offset < first_input → plug_number first_input offset ≡ None
no_input offset h = grind arith

one_if : (b : Bool) (x v : Place) → option_or (if b then Some x else None) None ≡ Some v → v ≡ x
one_if true x v e = sym (same_Some x v e)
one_if false x v e = cc

last_if : (b : Bool) (x v : Place) → option_or None (if b then Some x else None) ≡ Some v → v ≡ x
last_if true x v e = sym (same_Some x v e)
last_if false x v e = cc

none_first : (b : Bool) (o : Option Place) (rest : Option Place) (v : Place) → o ≡ None → option_or (if b then o else None) rest ≡ Some v → rest ≡ Some v
none_first true o rest v e f = ap (λ (x : Option Place). option_or x rest) (sym e) ∙ f
none_first false o rest v e f = f

output_row : (o : Option NodeRow) (n k : ℕ) (v : Place) → k < 31 → plug_register o (first_output + 4 * k) ≡ Some v → (row : NodeRow) × (o ≡ Some row) × (v ≡ OutputPlug (at_plug row.device k))
output_row None n k v h e = cc
output_row (Some row) n k v h e =
    let a : option_or (output_register row (Some k)) (input_register row (plug_number first_input (first_output + 4 * k))) ≡ Some v =
    ap (λ (x : Option ℕ). option_or (output_register row x) (input_register row (plug_number first_input (first_output + 4 * k)))) (sym (output_number k h)) ∙ e in
    let b : option_or (output_register row (Some k)) (input_register row None) ≡ Some v =
    ap (λ (x : Option ℕ). option_or (output_register row (Some k)) (input_register row x)) (sym (no_input (first_output + 4 * k) (omega (arith, h)))) ∙ a in
    (row, refl, one_if (nat_lt k row.outs) (OutputPlug (at_plug row.device k)) v b)

input_row : (o : Option NodeRow) (n k : ℕ) (v : Place) → k < 31 → plug_register o (first_input + 4 * k) ≡ Some v → (row : NodeRow) × (o ≡ Some row) × (v ≡ InputPlug (at_plug row.device k))
input_row None n k v h e = cc
input_row (Some row) n k v h e =
    let a : option_or (output_register row None) (input_register row (plug_number first_input (first_input + 4 * k))) ≡ Some v =
    ap (λ (x : Option ℕ). option_or (output_register row x) (input_register row (plug_number first_input (first_input + 4 * k)))) (sym (no_output (first_input + 4 * k) (omega arith))) ∙ e in
    let b : option_or (output_register row None) (input_register row (Some k)) ≡ Some v =
    ap (λ (x : Option ℕ). option_or (output_register row None) (input_register row x)) (sym (input_number k h)) ∙ a in
    (row, refl, last_if (nat_lt k row.ins) (InputPlug (at_plug row.device k)) v b)

pub output_place : (o : Option ResetEntry) (n k : ℕ) (v : Place) → k < 31 → place_at o n (offset_of (Output k)) ≡ Some v → (p : PlugAt) × (v ≡ OutputPlug p) × IsPlugOf o n k p
output_place None n k v h e = cc
output_place (Some r) n k v h e =
    let x = output_row (slice_get r.nodes n) n k v h
    (none_first (is_node n r.manager) (manager_register (first_output + 4 * k)) (plug_register (slice_get r.nodes n) (first_output + 4 * k)) v (no_manager (first_output + 4 * k) (omega arith)) e) in
    (at_plug x.0.device k, x.2, record { reset = r; latest = refl; row = x.0; here = x.1; plug = refl })

pub input_place : (o : Option ResetEntry) (n k : ℕ) (v : Place) → k < 31 → place_at o n (offset_of (Input k)) ≡ Some v → (p : PlugAt) × (v ≡ InputPlug p) × IsPlugOf o n k p
input_place None n k v h e = cc
input_place (Some r) n k v h e =
    let x = input_row (slice_get r.nodes n) n k v h
    (none_first (is_node n r.manager) (manager_register (first_input + 4 * k)) (plug_register (slice_get r.nodes n) (first_input + 4 * k)) v (no_manager (first_input + 4 * k) (omega arith)) e) in
    (at_plug x.0.device k, x.2, record { reset = r; latest = refl; row = x.0; here = x.1; plug = refl })
