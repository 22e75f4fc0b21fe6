-- What leaves a controller all that it has, and its plugs as they are, leaves it in step.
use Rattle.fw_model_controllers.proofs.Common.{PlugAt, ConnectionKind, ◌≡◌, ◌≢◌, ℕ, ◌<◌, ◌≤◌, Bool, true, false, Some, length}
use Rattle.fw_model_controllers.proofs.Common.{refl, ap, subst, sym, ◌∙◌, arith, ◌⊎◌, inl, inr, cases_lt, Account, has_connection}
use Rattle.fw_model_controllers.proofs.Common.{is_output, IsSound, Connection, Flow, Slot, Free, Making, Established, Restoring}
use Rattle.fw_model_controllers.proofs.Common.{Gone, Current, Nothing, Asking, Hearing, Overtaken, kind_of, output_of, input_of}
use Rattle.fw_model_controllers.proofs.Common.{ControllerState, slot_at, is_current_slot, has_output, has_input, stands_at_output}
use Rattle.fw_model_controllers.proofs.Common.{stands_at_input, slot_outputs, slot_inputs, connections_of, Keeps, Leaves}
use Rattle.fw_model_controllers.proofs.Common.{has_manager, units_at, IsFlow, others_of, slots_alone, IsToRestore, SlotInStep, CurrentInStep, ControllerInStep}
use Rattle.std.proofs.lemmas.List.{get_or_past}
use Rattle.fw_terms.proofs.Tables.{sum_to_at}
use Rattle.fw_model_controllers.proofs.Counts.{connected_by}
use Rattle.fw_model_controllers.proofs.Answers.{same_kind_self}
use Rattle.fw_terms.proofs.Tables.{same_plug_self}
use Rattle.fw_model_controllers.proofs.Slots.{Stands, stands_at, slot_counts}
use Rattle.fw_model_controllers.proofs.Spared.{spared}

-- ---- the plugs of a connection that stands are connected

pub slot_within : (c : ControllerState) (i : ℕ) (s : Slot) → length c.slots ≡ 32 → slot_at c i ≡ s → s ≢ Free → i < 32
slot_within c i s full e ne = go (cases_lt i 32)
  where
    go : (i < 32) ⊎ (32 ≤ i) → i < 32
    go (inl lt) = lt
    go (inr le) = absurd (ne (sym e ∙ get_or_past c.slots i Free (omega arith)))

-- the connections of the slots are among those of the controller
outputs_among : (l : Account) (d : ℕ) (c : ControllerState) (kind : ConnectionKind) (q : PlugAt) (current : Current) → CurrentInStep l d c current
    → slot_outputs c kind q ≤ connections_of d kind (l.outputs q)
outputs_among l d c kind q Nothing x = omega (arith, x.outputs kind q)
outputs_among l d c kind q (Asking j s) x = omega (arith, x.step.holds.outputs kind q)
outputs_among l d c kind q (Hearing j s) x = omega (arith, x.step.holds.outputs kind q)
outputs_among l d c kind q (Overtaken i o) x = omega (arith, x.outputs kind q)

inputs_among : (l : Account) (d : ℕ) (c : ControllerState) (kind : ConnectionKind) (q : PlugAt) (current : Current) → CurrentInStep l d c current
    → slot_inputs c kind q ≤ connections_of d kind (l.inputs q)
inputs_among l d c kind q Nothing x = omega (arith, x.inputs kind q)
inputs_among l d c kind q (Asking j s) x = omega (arith, x.step.holds.inputs kind q)
inputs_among l d c kind q (Hearing j s) x = omega (arith, x.step.holds.inputs kind q)
inputs_among l d c kind q (Overtaken i o) x = omega (arith, x.inputs kind q)

-- one slot's connection counts
one_stands : (stands : Stands) (c : ControllerState) (i : ℕ) (kind : ConnectionKind) (q : PlugAt) → i < 32 → is_current_slot c.current i ≡ false → stands (slot_at c i) kind q ≡ true
    → 0 < slot_counts stands c kind q
one_stands stands c i kind q lt other there = let one : stands_at stands c kind q i ≡ 1 = rw (other, there) refl in omega (arith, sum_to_at 32 i (stands_at stands c kind q) lt)

own_output : (conn : Connection) (p : PlugAt) → output_of conn ≡ Some p → has_output conn (kind_of conn) p ≡ true
own_output conn p e = rw e (grind (arith, same_plug_self p, same_kind_self (kind_of conn)))

own_input : (conn : Connection) (q : PlugAt) → input_of conn ≡ Some q → has_input conn (kind_of conn) q ≡ true
own_input conn q e = rw e (grind (arith, same_plug_self q, same_kind_self (kind_of conn)))

pub output_there : (l : Account) (d : ℕ) (c : ControllerState) (i : ℕ) (conn : Connection) (f : Flow) (p : PlugAt) → length c.slots ≡ 32 → CurrentInStep l d c c.current
    → slot_at c i ≡ Established conn f
    → is_current_slot c.current i ≡ false → output_of conn ≡ Some p → 0 < connections_of d (kind_of conn) (l.outputs p)
output_there l d c i conn f p full x at other e = omega (
  arith,
  outputs_among l d c (kind_of conn) p c.current x,
  one_stands stands_at_output c i (kind_of conn) p (slot_within c i (Established conn f) full at (λ y. grind arith)) other (rw at (own_output conn p e)),
)

pub input_there : (l : Account) (d : ℕ) (c : ControllerState) (i : ℕ) (conn : Connection) (f : Flow) (q : PlugAt) → length c.slots ≡ 32 → CurrentInStep l d c c.current
    → slot_at c i ≡ Established conn f
    → is_current_slot c.current i ≡ false → input_of conn ≡ Some q → 0 < connections_of d (kind_of conn) (l.inputs q)
input_there l d c i conn f q full x at other e = omega (
  arith,
  inputs_among l d c (kind_of conn) q c.current x,
  one_stands stands_at_input c i (kind_of conn) q (slot_within c i (Established conn f) full at (λ y. grind arith)) other (rw at (own_input conn q e)),
)

pub output_connected : (l : Account) (d : ℕ) (c : ControllerState) (i : ℕ) (conn : Connection) (f : Flow) (p : PlugAt) → IsSound l → length c.slots ≡ 32 → CurrentInStep l d c c.current
    → slot_at c i ≡ Established conn f → is_current_slot c.current i ≡ false → output_of conn ≡ Some p → has_connection (l.outputs p) ≡ true
output_connected l d c i conn f p sound full x at other e = connected_by d (kind_of conn) (l.outputs p) (λ k le. (sound.controllers p k le).0) (output_there l d c i conn f p full x at other e)

pub input_connected : (l : Account) (d : ℕ) (c : ControllerState) (i : ℕ) (conn : Connection) (f : Flow) (q : PlugAt) → IsSound l → length c.slots ≡ 32 → CurrentInStep l d c c.current
    → slot_at c i ≡ Established conn f → is_current_slot c.current i ≡ false → input_of conn ≡ Some q → has_connection (l.inputs q) ≡ true
input_connected l d c i conn f q sound full x at other e = connected_by d (kind_of conn) (l.inputs q) (λ k le. (sound.controllers q k le).1) (input_there l d c i conn f q full x at other e)

-- ---- slots

restore_kept : (l m : Account) (conn : Connection) (f : Flow) (over : Bool) → Keeps l m → (over ≡ false → (p : PlugAt) → output_of conn ≡ Some p → m.reclaiming ≡ true) → IsToRestore l conn f over
    → IsToRestore m conn f over
restore_kept l m conn f over k runs x = record {
  found = λ p e. ap (λ o. is_output o p) k.latest ∙ x.found p e;
  units = λ p e. x.units p e ∙ ap (λ r. units_at r f.overhead) (sym (k.rates p));
  listed = λ p e own. (runs own p e, (k.reclaims (runs own p e)).1 f.channel ∙ (x.listed p e own).1);
}

pub slot_kept : (l m : Account) (b : Bool) (s : Slot) → Keeps l m → (l.reclaiming ≡ true → m.reclaiming ≡ true)
    → ((conn : Connection) (f : Flow) (p : PlugAt) → b ≡ false → s ≡ Established conn f → output_of conn ≡ Some p → has_connection (l.outputs p) ≡ true)
    → ((conn : Connection) (f : Flow) (q : PlugAt) → b ≡ false → s ≡ Established conn f → input_of conn ≡ Some q → has_connection (l.inputs q) ≡ true) → SlotInStep l b s → SlotInStep m b s
slot_kept l m b Free k runs out into x = tt
slot_kept l m b (Making conn asked overhead) k runs out into x = tt
slot_kept l m true (Established conn f) k runs out into x = tt
slot_kept l m false (Established conn f) k runs out into x = record {
  output = λ p e. subst (λ n. IsFlow n f) (sym (k.settings p (out conn f p refl refl e))) (x.output p e);
  input = λ q e. k.channels q (into conn f q refl refl e) ∙ x.input q e;
  manager = λ e. ap has_manager k.latest ∙ x.manager e;
}
slot_kept l m b (Restoring conn f over) k runs out into x = restore_kept l m conn f over k (λ own p e. runs (x.listed p e own).0) x
slot_kept l m b (Gone conn) k runs out into x = tt

pub slots_kept : (l m : Account) (d : ℕ) (c : ControllerState) → IsSound l → length c.slots ≡ 32 → Keeps l m → (l.reclaiming ≡ true → m.reclaiming ≡ true) → ControllerInStep l d c → (i : ℕ)
    → SlotInStep m (is_current_slot c.current i) (slot_at c i)
slots_kept l m d c sound full k runs x i = slot_kept l m (is_current_slot c.current i) (slot_at c i) k runs (λ conn f p other at e. output_connected l d c i conn f p sound full x.current at other e)
    (λ conn f q other at e. input_connected l d c i conn f q sound full x.current at other e) (x.slots i)

-- ---- the whole controller

current_kept : (l m : Account) (d : ℕ) (c : ControllerState) (current : Current) → IsSound l → Keeps l m → Leaves d l m → CurrentInStep l d c current → CurrentInStep m d c current
current_kept l m d c Nothing sound k left x = left.holding (slots_alone c) x
current_kept l m d c (Asking j s) sound k left x = record { slot = x.slot; within = x.within; step = spared l m d j s false (others_of c) sound k left x.step }
current_kept l m d c (Hearing j s) sound k left x = record { slot = x.slot; within = x.within; step = spared l m d j s true (others_of c) sound k left x.step }
current_kept l m d c (Overtaken i o) sound k left x = left.holding (slots_alone c) x

pub kept_in_step : (l m : Account) (d : ℕ) (c : ControllerState) → IsSound l → length c.slots ≡ 32 → Keeps l m → Leaves d l m → (l.reclaiming ≡ true → m.reclaiming ≡ true) → ControllerInStep l d c
    → ControllerInStep m d c
kept_in_step l m d c sound full k left runs x = record { current = current_kept l m d c c.current sound k left x.current; slots = slots_kept l m d c sound full k runs x }
