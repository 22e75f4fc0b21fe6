-- What changes of the account leave of a controller's connections.
use Rattle.fw_model_reclaim.proofs.Common.{PlugAt, ConnectionKind, PointToPoint, Broadcast, ◌≡◌, ◌≢◌, ◌⊎◌, inl, inr, ℕ, ◌<◌, ◌≤◌}
use Rattle.fw_model_reclaim.proofs.Common.{true, false, Some, length, refl, sym, ap, subst, ◌∙◌, arith, not, ◌&&◌}
use Rattle.fw_model_reclaim.proofs.Common.{cases_lt, Account, has_connection, is_output, is_input, IsSound, Connection, Flow}
use Rattle.fw_model_reclaim.proofs.Common.{Slot, Free, Established, kind_of, output_of, input_of, ControllerState, slot_at}
use Rattle.fw_model_reclaim.proofs.Common.{count_of, is_current_slot, connections_of, IsFlow, has_manager, KeepsFlow, IsRestorable, LeavesPlugs}
use Rattle.std.specs.Prelude.{IsTrue}
use Rattle.std.proofs.lemmas.List.{get_or_past}
use Rattle.fw_terms.proofs.Tables.{sum_to_at, same_plug_self}
use Rattle.fw_cmp.specs.Holdings.{has_output, has_input, same_kind, is_plug, stands_at_output, stands_at_input, outputs_held, inputs_held}
use Rattle.fw_model_controllers.proofs.Counts.{connected_by}

-- ---- a slot that is in use is one of the 32

pub within : (c : ControllerState) (i : ℕ) (s : Slot) → length c.slots ≡ 32 → slot_at c i ≡ s → s ≢ Free → i < 32
within c i s few e ne = go (cases_lt i 32)
  where
    go : (i < 32) ⊎ (32 ≤ i) → i < 32
    go (inl lt) = lt
    go (inr le) = absurd (ne (sym e ∙ get_or_past c.slots i Free (omega arith)))

-- ---- a connection is counted at its plugs

pub same_kind_self : (kind : ConnectionKind) → same_kind kind kind ≡ true
same_kind_self PointToPoint = refl
same_kind_self Broadcast = refl

-- a connection has its own plugs
pub output_has : (conn : Connection) (p : PlugAt) → output_of conn ≡ Some p → has_output conn (kind_of conn) p ≡ true
output_has conn p e = let plug : is_plug (output_of conn) p ≡ true = rw e (same_plug_self p) in grind (arith, plug, same_kind_self (kind_of conn))

pub input_has : (conn : Connection) (q : PlugAt) → input_of conn ≡ Some q → has_input conn (kind_of conn) q ≡ true
input_has conn q e = let plug : is_plug (input_of conn) q ≡ true = rw e (same_plug_self q) in grind (arith, plug, same_kind_self (kind_of conn))

-- one that stands in a slot that is not the current job's
pub output_counted : (c : ControllerState) (i : ℕ) (conn : Connection) (f : Flow) (p : PlugAt) → i < 32 → slot_at c i ≡ Established conn f → is_current_slot c.current i ≡ false
    → output_of conn ≡ Some p
    → 0 < outputs_held c (kind_of conn) p
output_counted c i conn f p lt e idle has =
    let one : count_of (not (is_current_slot c.current i) && stands_at_output (slot_at c i) (kind_of conn) p) ≡ 1 = rw (idle, e, output_has conn p has) refl in
    let at = sum_to_at 32 i (λ k. count_of (not (is_current_slot c.current k) && stands_at_output (slot_at c k) (kind_of conn) p)) lt in
    omega arith

pub input_counted : (c : ControllerState) (i : ℕ) (conn : Connection) (f : Flow) (q : PlugAt) → i < 32 → slot_at c i ≡ Established conn f → is_current_slot c.current i ≡ false → input_of conn ≡ Some q
    → 0 < inputs_held c (kind_of conn) q
input_counted c i conn f q lt e idle has =
    let one : count_of (not (is_current_slot c.current i) && stands_at_input (slot_at c i) (kind_of conn) q) ≡ 1 = rw (idle, e, input_has conn q has) refl in
    let at = sum_to_at 32 i (λ k. count_of (not (is_current_slot c.current k) && stands_at_input (slot_at c k) (kind_of conn) q)) lt in
    omega arith

-- whose connection is counted at a plug, it is connected
pub has_at_output : (l : Account) (d : ℕ) (c : ControllerState) (kind : ConnectionKind) (p : PlugAt) → IsSound l → connections_of d kind (l.outputs p) ≡ outputs_held c kind p
    → 0 < outputs_held c kind p → has_connection (l.outputs p) ≡ true
has_at_output l d c kind p s e lt = connected_by d kind (l.outputs p) (λ k far. (s.controllers p k far).0) (subst (λ n. 0 < n) (sym e) lt)

pub has_at_input : (l : Account) (d : ℕ) (c : ControllerState) (kind : ConnectionKind) (q : PlugAt) → IsSound l → connections_of d kind (l.inputs q) ≡ inputs_held c kind q → 0 < inputs_held c kind q
    → has_connection (l.inputs q) ≡ true
has_at_input l d c kind q s e lt = connected_by d kind (l.inputs q) (λ k far. (s.controllers q k far).1) (subst (λ n. 0 < n) (sym e) lt)

-- ---- the account changes

-- what the plugs are set to stays, if they are connected or the second runs
pub keeps_flow : (l m : Account) (conn : Connection) (f : Flow) → LeavesPlugs l m → ((p : PlugAt) → output_of conn ≡ Some p → (has_connection (l.outputs p) ≡ true) ⊎ (l.reclaiming ≡ true))
    → ((q : PlugAt) → input_of conn ≡ Some q → (has_connection (l.inputs q) ≡ true) ⊎ (l.reclaiming ≡ true)) → KeepsFlow l conn f → KeepsFlow m conn f
keeps_flow l m conn f a out into k = record {
  output = λ p e. subst (λ x. IsFlow x f) (sym (a.settings p (out p e))) (k.output p e);
  input = λ q e. a.channels q (into q e) ∙ k.input q e;
  manager = λ e. subst (λ x. IsTrue (has_manager x)) (sym a.latest) (k.manager e);
}

pub stays_restorable : (l m : Account) (conn : Connection) (f : Flow) → LeavesPlugs l m → IsRestorable l conn f → IsRestorable m conn f
stays_restorable l m conn f a r = record {
  second = a.reclaiming ∙ r.second;
  keeps = keeps_flow l m conn f a (λ p e. inr r.second) (λ q e. inr r.second) r.keeps;
  listed = λ p e. a.reclaimable f.channel ∙ r.listed p e;
  output = λ p e. ap (λ x. is_output x p) a.latest ∙ r.output p e;
  input = λ q e. ap (λ x. is_input x q) a.latest ∙ r.input q e;
}
