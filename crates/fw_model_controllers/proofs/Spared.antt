-- What leaves a controller all that it has, and its plugs as they are, leaves its job in step.
use Rattle.fw_model_controllers.proofs.Common.{PlugAt, ◌≡◌, ℕ, Bool, true, Some, refl, ap, subst, sym, ◌∙◌}
use Rattle.fw_model_controllers.proofs.Common.{arith, Settings, Account, has_connection, is_output, is_input, IsSound, Job, Stage, ReadInput}
use Rattle.fw_model_controllers.proofs.Common.{ConnectInput, ReadInputToLeave, LeaveInput, ReadOutputToLeave, LeaveOutput, Made, kind_of}
use Rattle.fw_model_controllers.proofs.Common.{output_of, input_of, is_at_output, is_at_input, Keeps, Leaves, has_manager}
use Rattle.fw_model_controllers.proofs.Common.{Others, holding, units_at, IsInStep}
use Rattle.fw_model_controllers.specs.InStep.{Knows, KnowsFlow, KnowsChannel}
use Rattle.fw_model_controllers.proofs.Counts.{connected_by}
use Rattle.fw_model_controllers.proofs.Goes.{reclaim_kept}
use Rattle.fw_model_controllers.proofs.Answers.{at_own_output, at_own_input}

-- the plugs at which the job has its connection are connected
pub own_output_connected : (l : Account) (c : ℕ) (j : Job) (s : Stage) (b : Bool) (others : Others) (p : PlugAt) → IsSound l → IsInStep l c j s b others → output_of j.connection ≡ Some p
    → is_at_output s ≡ true → has_connection (l.outputs p) ≡ true
own_output_connected l c j s b others p sound i e at = connected_by c (kind_of j.connection) (l.outputs p) (λ d le. (sound.controllers p d le).0)
    (rw (i.holds.outputs (kind_of j.connection) p) (rw (at, at_own_output j p e) (omega arith)))

pub own_input_connected : (l : Account) (c : ℕ) (j : Job) (s : Stage) (b : Bool) (others : Others) (q : PlugAt) → IsSound l → IsInStep l c j s b others → input_of j.connection ≡ Some q
    → is_at_input s ≡ true → has_connection (l.inputs q) ≡ true
own_input_connected l c j s b others q sound i e at = connected_by c (kind_of j.connection) (l.inputs q) (λ d le. (sound.controllers q d le).1)
    (rw (i.holds.inputs (kind_of j.connection) q) (rw (at, at_own_input j q e) (omega arith)))

-- what a stage knows of a plug's settings is of a plug that it is connected to
flow_kept : (k n : Settings) (s : Stage) → (is_at_output s ≡ true → n ≡ k) → KnowsFlow k s → KnowsFlow n s
flow_kept k n (ReadInput f) same is = subst (λ x. KnowsFlow x (ReadInput f)) (sym (same refl)) is
flow_kept k n (ConnectInput f arg) same is = subst (λ x. KnowsFlow x (ConnectInput f arg)) (sym (same refl)) is
flow_kept k n (ReadInputToLeave ch u) same is = subst (λ x. KnowsFlow x (ReadInputToLeave ch u)) (sym (same refl)) is
flow_kept k n (LeaveInput ch u arg) same is = subst (λ x. KnowsFlow x (LeaveInput ch u arg)) (sym (same refl)) is
flow_kept k n (ReadOutputToLeave e ch u) same is = subst (λ x. KnowsFlow x (ReadOutputToLeave e ch u)) (sym (same refl)) is
flow_kept k n (LeaveOutput e ch u arg) same is = subst (λ x. KnowsFlow x (LeaveOutput e ch u arg)) (sym (same refl)) is
flow_kept k n (Made f) same is = subst (λ x. KnowsFlow x (Made f)) (sym (same refl)) is
flow_kept k n _ same is = tt

channel_kept : (a b : ℕ) (s : Stage) → (is_at_input s ≡ true → b ≡ a) → KnowsChannel a s → KnowsChannel b s
channel_kept a b (Made f) same is = same refl ∙ is
channel_kept a b _ same is = tt

pub spared : (l m : Account) (c : ℕ) (j : Job) (s : Stage) (b : Bool) (others : Others) → IsSound l → Keeps l m → Leaves c l m → IsInStep l c j s b others → IsInStep m c j s b others
spared l m c j s b others sound k left i = record {
  holds = left.holding (holding j s others) i.holds;
  knows = λ p e. subst (λ x. Knows x j s) (sym (k.rates p)) (i.knows p e);
  knows_flow = λ p e. flow_kept (l.settings p) (m.settings p) s (λ at. k.settings p (own_output_connected l c j s b others p sound i e at)) (i.knows_flow p e);
  knows_channel = λ q e. channel_kept (l.input_channel q) (m.input_channel q) s (λ at. k.channels q (own_input_connected l c j s b others q sound i e at)) (i.knows_channel q e);
  knows_input = i.knows_input;
  fresh = i.fresh;
  plugs = i.plugs;
  units = λ p u e f. i.units p u e f ∙ ap (λ r. units_at r j.overhead) (sym (k.rates p));
  reclaims = λ p e runs may. reclaim_kept l m p j k runs (i.reclaims p e (k.reclaims runs).0 may);
  addressed = λ p e x. left.addressed ∙ i.addressed p e x;
  found = λ p e x. ap (λ o. is_output o p) k.latest ∙ i.found p e x;
  found_input = λ q e x. ap (λ o. is_input o q) k.latest ∙ i.found_input q e x;
  manager = λ e x. ap has_manager k.latest ∙ i.manager e x;
}
