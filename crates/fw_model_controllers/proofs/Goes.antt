-- A controller that stays in step while its job goes on to another stage.
use Rattle.fw_model_controllers.proofs.Common.{PlugAt, ConnectionKind, ◌≡◌, ℕ, ◌+◌, Bool, true, false, Option, Some, refl, ap}
use Rattle.fw_model_controllers.proofs.Common.{subst, sym, ◌∙◌, Account, is_output, is_input, Job, HeldResources, Stage, output_of, input_of}
use Rattle.fw_model_controllers.proofs.Common.{pending_of, is_at_output, is_at_input, Holding, Holds, HasReserved, Keeps, has_manager}
use Rattle.fw_model_controllers.proofs.Common.{Others, reservation, holding, units_at, MayReclaim, allocates, sees, IsInStep}
use Rattle.std.proofs.Common.{◌||◌}
use Rattle.fw_model_controllers.specs.InStep.{works}
use Rattle.fw_model_controllers.proofs.Decisions.{IsNext}

-- the same, told in another way
pub holds_same : (l : Account) (c : ℕ) (h k : Holding) → Holds l c h → h.reserved ≡ k.reserved → ((kind : ConnectionKind) (q : PlugAt) → h.outputs kind q ≡ k.outputs kind q)
    → ((kind : ConnectionKind) (q : PlugAt) → h.inputs kind q ≡ k.inputs kind q) → Holds l c k
holds_same l c h k has e f g = record {
  reserved = subst (λ r. HasReserved c r l.allocations) e has.reserved;
  outputs = λ kind q. has.outputs kind q ∙ f kind q;
  inputs = λ kind q. has.inputs kind q ∙ g kind q;
}

pub or_false : (b : Bool) → (b || false) ≡ true → b ≡ true
or_false true e = refl
or_false false e = e

pub keeps_self : (l : Account) → Keeps l l
keeps_self l = record { rates = λ q. refl; settings = λ q h. refl; channels = λ q h. refl; latest = refl; reclaims = λ r. (r, λ ch. refl) }

-- a plug that the job has seen
pub record IsSeen (l : Account) (c : ℕ) (p : PlugAt) : Type 0 where
  pub addressed : l.addressed c ≡ Some p
  pub found : is_output l.latest p ≡ true

-- what the job rests on goes on, at a data rate that stays
pub reclaim_kept : (l m : Account) (p : PlugAt) (j : Job) → Keeps l m → m.reclaiming ≡ true → MayReclaim l p j → MayReclaim m p j
reclaim_kept l m p j k runs may = (may.0, may.1, (k.reclaims runs).1 may.0 ∙ (may.2 ∙ ap (λ r. Some (record { plug = p; units = units_at r j.overhead })) (sym (k.rates p))))

-- from account l to m the job goes from stage s, whose request was answered, to stage t
pub goes : (l m : Account) (c : ℕ) (j : Job) (s t : Stage) (others : Others) (h : Option HeldResources) (out into seen found : Bool) → Keeps l m → m.addressed c ≡ l.addressed c → works s ≡ true
    → IsInStep l c j s true others → (seen ≡ true → (p : PlugAt) → output_of j.connection ≡ Some p → IsSeen l c p)
    → (found ≡ true → (q : PlugAt) → input_of j.connection ≡ Some q → is_input l.latest q ≡ true) → IsNext m j h out into (allocates s) seen found t → Holds m c (holding j t others)
    → IsInStep m c j t false others
goes l m c j s t others h out into seen found k same working i saw had n has = record {
  holds = has;
  knows = n.knows;
  knows_flow = n.flow;
  knows_channel = n.channel;
  knows_input = n.keeps;
  fresh = n.fresh;
  plugs = n.plugs;
  units = λ p u e f. i.units p u e f ∙ ap (λ r. units_at r j.overhead) (sym (k.rates p));
  reclaims = λ p e runs may. reclaim_kept l m p j k runs (i.reclaims p e (k.reclaims runs).0 (n.allocates may));
  addressed = λ p e x. same ∙ (saw (n.sees (or_false (sees t) x)) p e).addressed;
  found = λ p e x. ap (λ o. is_output o p) k.latest ∙ (saw (n.sees x) p e).found;
  found_input = λ q e x. ap (λ o. is_input o q) k.latest ∙ had (n.sees_input x) q e;
  manager = λ e x. ap has_manager k.latest ∙ i.manager e working;
}

-- the account stands still
pub stays : (l : Account) (c : ℕ) (j : Job) (s t : Stage) (others : Others) (seen found : Bool) → works s ≡ true → IsInStep l c j s true others
    → (seen ≡ true → (p : PlugAt) → output_of j.connection ≡ Some p → IsSeen l c p) → (found ≡ true → (q : PlugAt) → input_of j.connection ≡ Some q → is_input l.latest q ≡ true)
    → IsNext l j (pending_of s) (is_at_output s) (is_at_input s) (allocates s) seen found t → IsInStep l c j t false others
stays l c j s t others seen found working i saw had n = goes l l c j s t others (pending_of s) (is_at_output s) (is_at_input s) seen found (keeps_self l) refl working i saw had n
    (holds_same l c (holding j s others) (holding j t others) i.holds (ap (reservation (output_of j.connection)) (sym n.pending))
    (λ kind q. ap (λ x. others.outputs kind q + x) (sym (n.output kind q))) (λ kind q. ap (λ x. others.inputs kind q + x) (sym (n.input kind q))))
