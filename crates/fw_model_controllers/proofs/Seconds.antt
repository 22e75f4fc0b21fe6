-- The end of the reclaim second, a start and new jobs keep each controller in step.
use Rattle.fw_model_controllers.proofs.Common.{PlugAt, ConnectionKind, ◌≡◌, ℕ, ◌<◌, ◌≤◌, Bool, true, false, not, ◌&&◌, Option, Some}
use Rattle.fw_model_controllers.proofs.Common.{List, length, eqb, cond, refl, ap, subst, sym, ◌∙◌, arith, ◌⊎◌, inl, inr}
use Rattle.fw_model_controllers.proofs.Common.{nat_tests, cases_lt, Account, after_second, IsSound, Connection, Slot, Free, Making}
use Rattle.fw_model_controllers.proofs.Common.{Established, Restoring, Gone, Current, Nothing, Asking, Hearing, Overtaken, Job}
use Rattle.fw_model_controllers.proofs.Common.{Stage, ControllerState, slot_at, with_slot, job_for, count_of, is_current_slot}
use Rattle.fw_model_controllers.proofs.Common.{stands_at_output, stands_at_input, slot_outputs, slot_inputs, Holds, Others, holding}
use Rattle.fw_model_controllers.proofs.Common.{IsInStep, others_of, slots_alone, SlotInStep, CurrentInStep, ControllerInStep}
use Rattle.std.proofs.Common.{get_or, replicate}
use Rattle.std.proofs.lemmas.List.{get_or_past, get_or-replicate}
use Rattle.fw_cmp.specs.declared.current.WaitingJob.{WaitingJob}
use Rattle.fw_cmp.specs.Controllers.{first_state}
use Rattle.fw_cmp.specs.Resets.{after_second as second_over}
use Rattle.fw_cmp_jobs.specs.Slots.{slot_over}
use Rattle.fw_model_controllers.specs.Holding.{no_holding}
use Rattle.fw_model_controllers.proofs.Goes.{holds_same}
use Rattle.fw_model_controllers.proofs.Slots.{Stands, slot_set, slot_mapped, counts_none, counts_same}
use Rattle.fw_model_controllers.proofs.Spared.{spared}
use Rattle.fw_model_controllers.proofs.Events.{second_keeps, second_leaves}

-- the same connections, told in another way
pub others_same : (l : Account) (d : ℕ) (j : Job) (s : Stage) (b : Bool) (o k : Others) → ((kind : ConnectionKind) (q : PlugAt) → o.outputs kind q ≡ k.outputs kind q)
    → ((kind : ConnectionKind) (q : PlugAt) → o.inputs kind q ≡ k.inputs kind q) → IsInStep l d j s b o → IsInStep l d j s b k
others_same l d j s b o k f g i = record {
  holds = holds_same l d (holding j s o) (holding j s k) i.holds refl (λ kind q. omega (arith, f kind q)) (λ kind q. omega (arith, g kind q));
  knows = i.knows;
  knows_flow = i.knows_flow;
  knows_channel = i.knows_channel;
  knows_input = i.knows_input;
  fresh = i.fresh;
  plugs = i.plugs;
  units = i.units;
  reclaims = i.reclaims;
  addressed = i.addressed;
  found = i.found;
  found_input = i.found_input;
  manager = i.manager;
}

-- a controller with the same slots as far as connections and jobs go
pub record IsAlike (c e : ControllerState) : Type 0 where
  pub outputs : (kind : ConnectionKind) (q : PlugAt) → slot_outputs c kind q ≡ slot_outputs e kind q
  pub inputs : (kind : ConnectionKind) (q : PlugAt) → slot_inputs c kind q ≡ slot_inputs e kind q

pub alike_current : (l : Account) (d : ℕ) (c e : ControllerState) (current : Current) → IsAlike c e
    → ((j : Job) → is_current_slot current j.slot ≡ true → job_for j.slot (slot_at c j.slot) ≡ Some j → job_for j.slot (slot_at e j.slot) ≡ Some j) → CurrentInStep l d c current
    → CurrentInStep l d e current
alike_current l d c e Nothing a f x = holds_same l d (slots_alone c) (slots_alone e) x refl a.outputs a.inputs
alike_current l d c e (Asking j s) a f x = record {
  slot = f j (grind (arith, nat_tests)) x.slot;
  within = x.within;
  step = others_same l d j s false (others_of c) (others_of e) a.outputs a.inputs x.step;
}
alike_current l d c e (Hearing j s) a f x = record {
  slot = f j (grind (arith, nat_tests)) x.slot;
  within = x.within;
  step = others_same l d j s true (others_of c) (others_of e) a.outputs a.inputs x.step;
}
alike_current l d c e (Overtaken i o) a f x = holds_same l d (slots_alone c) (slots_alone e) x refl a.outputs a.inputs

-- ---- the end of the second

stands_over_out : (s : Slot) (kind : ConnectionKind) (q : PlugAt) → stands_at_output s kind q ≡ stands_at_output (slot_over s) kind q
stands_over_out Free kind q = refl
stands_over_out (Making conn asked overhead) kind q = refl
stands_over_out (Established conn f) kind q = refl
stands_over_out (Restoring conn f over) kind q = refl
stands_over_out (Gone conn) kind q = refl

stands_over_in : (s : Slot) (kind : ConnectionKind) (q : PlugAt) → stands_at_input s kind q ≡ stands_at_input (slot_over s) kind q
stands_over_in Free kind q = refl
stands_over_in (Making conn asked overhead) kind q = refl
stands_over_in (Established conn f) kind q = refl
stands_over_in (Restoring conn f over) kind q = refl
stands_over_in (Gone conn) kind q = refl

job_over : (k : ℕ) (s : Slot) → job_for k (slot_over s) ≡ job_for k s
job_over k Free = refl
job_over k (Making conn asked overhead) = refl
job_over k (Established conn f) = refl
job_over k (Restoring conn f over) = refl
job_over k (Gone conn) = refl

slot_told_over : (l : Account) (b : Bool) (s : Slot) → SlotInStep l b s → SlotInStep (after_second l) b (slot_over s)
slot_told_over l b Free x = tt
slot_told_over l b (Making conn asked overhead) x = tt
slot_told_over l true (Established conn f) x = tt
slot_told_over l false (Established conn f) x = record { output = x.output; input = x.input; manager = x.manager }
slot_told_over l b (Restoring conn f over) x = record { found = x.found; units = x.units; listed = λ p e own. absurd (grind arith) }
slot_told_over l b (Gone conn) x = tt

over_at : (c : ControllerState) (i : ℕ) → slot_at (second_over c) i ≡ slot_over (slot_at c i)
over_at c i = slot_mapped slot_over c.slots i refl

over_alike : (c : ControllerState) → IsAlike c (second_over c)
over_alike c = record {
  outputs = λ kind q. counts_same stands_at_output c (second_over c) kind q
      (λ i lt. ap (λ b. count_of (not (is_current_slot c.current i) && b)) (stands_over_out (slot_at c i) kind q ∙ ap (λ s. stands_at_output s kind q) (sym (over_at c i))));
  inputs = λ kind q. counts_same stands_at_input c (second_over c) kind q
      (λ i lt. ap (λ b. count_of (not (is_current_slot c.current i) && b)) (stands_over_in (slot_at c i) kind q ∙ ap (λ s. stands_at_input s kind q) (sym (over_at c i))));
}

current_over : (l : Account) (d : ℕ) (c : ControllerState) (current : Current) → IsSound l → CurrentInStep l d c current → CurrentInStep (after_second l) d c current
current_over l d c Nothing s x = (second_leaves d l).holding (slots_alone c) x
current_over l d c (Asking j t) s x = record { slot = x.slot; within = x.within; step = spared l (after_second l) d j t false (others_of c) s (second_keeps l) (second_leaves d l) x.step }
current_over l d c (Hearing j t) s x = record { slot = x.slot; within = x.within; step = spared l (after_second l) d j t true (others_of c) s (second_keeps l) (second_leaves d l) x.step }
current_over l d c (Overtaken i o) s x = (second_leaves d l).holding (slots_alone c) x

pub second_in_step : (l : Account) (d : ℕ) (c : ControllerState) → IsSound l → ControllerInStep l d c → ControllerInStep (after_second l) d (second_over c)
second_in_step l d c s x = record {
  current = alike_current (after_second l) d c (second_over c) c.current (over_alike c) (λ j e is. ap (job_for j.slot) (over_at c j.slot) ∙ (job_over j.slot (slot_at c j.slot) ∙ is))
      (current_over l d c c.current s x.current);
  slots = λ i. subst (SlotInStep (after_second l) (is_current_slot c.current i)) (sym (over_at c i)) (slot_told_over l (is_current_slot c.current i) (slot_at c i) (x.slots i));
}

-- ---- a controller that starts

pub first_free : (i : ℕ) → slot_at first_state i ≡ Free
first_free i = go (cases_lt i 32)
  where
    go : (i < 32) ⊎ (32 ≤ i) → get_or (replicate 32 Free) i Free ≡ Free
    go (inl lt) = get_or-replicate 32 i Free Free lt
    go (inr le) = get_or_past (replicate 32 Free) i Free le

pub first_in_step : (l : Account) (d : ℕ) → Holds l d no_holding → ControllerInStep l d first_state
first_in_step l d has = record {
  current = holds_same l d no_holding (slots_alone first_state) has refl
      (λ kind q. sym (counts_none stands_at_output first_state kind q (λ i lt. ap (λ s. stands_at_output s kind q) (first_free i))))
      (λ kind q. sym (counts_none stands_at_input first_state kind q (λ i lt. ap (λ s. stands_at_input s kind q) (first_free i))));
  slots = λ i. subst (SlotInStep l false) (sym (first_free i)) tt;
}

-- ---- a new job

-- a slot that holds nothing has no current job
not_free : (k : ℕ) (s : Slot) (j : Job) → s ≡ Free → job_for k s ≡ Some j → ⊥
not_free k s j e is = let none : job_for k Free ≡ Some j = subst (λ x. job_for k x ≡ Some j) e is in absurd (grind arith)

not_current : (l : Account) (d : ℕ) (c : ControllerState) (i : ℕ) (current : Current) → slot_at c i ≡ Free → CurrentInStep l d c current → is_current_slot current i ≡ false
not_current l d c i Nothing free x = refl
not_current l d c i (Asking j s) free x = go (eqb j.slot i) refl
  where
    go : (b : Bool) → eqb j.slot i ≡ b → b ≡ false
    go true e = let same : i ≡ j.slot = grind (arith, nat_tests) in absurd (not_free j.slot (slot_at c j.slot) j (subst (λ n. slot_at c n ≡ Free) same free) x.slot)
    go false e = refl
not_current l d c i (Hearing j s) free x = go (eqb j.slot i) refl
  where
    go : (b : Bool) → eqb j.slot i ≡ b → b ≡ false
    go true e = let same : i ≡ j.slot = grind (arith, nat_tests) in absurd (not_free j.slot (slot_at c j.slot) j (subst (λ n. slot_at c n ≡ Free) same free) x.slot)
    go false e = refl
not_current l d c i (Overtaken k o) free x = refl

-- what a connection that is to be made says in a slot that was free
pub made_in_step : (l : Account) (d : ℕ) (c : ControllerState) (i : ℕ) (conn : Connection) (asked : Option ℕ) (overhead : ℕ) (ts : List WaitingJob) → length c.slots ≡ 32 → i < 32 → slot_at c i ≡ Free
    → ControllerInStep l d c → ControllerInStep l d (record (with_slot c i (Making conn asked overhead)) { waiting = ts })
made_in_step l d c i conn asked overhead ts full lt free x = record {
  current = alike_current l d c e c.current alike (λ j here is. ap (job_for j.slot) (apart j here) ∙ is) x.current;
  slots = λ k. subst (SlotInStep l (is_current_slot c.current k)) (sym (at k)) (told k (eqb k i));
}
  where
    e : ControllerState
    e = record (with_slot c i (Making conn asked overhead)) { waiting = ts }

    at : (k : ℕ) → slot_at e k ≡ cond (eqb k i) (Making conn asked overhead) (slot_at c k)
    at k = slot_set c i k (Making conn asked overhead) (omega arith)

    told : (k : ℕ) (b : Bool) → SlotInStep l (is_current_slot c.current k) (cond b (Making conn asked overhead) (slot_at c k))
    told k true = tt
    told k false = x.slots k

    apart : (j : Job) → is_current_slot c.current j.slot ≡ true → slot_at e j.slot ≡ slot_at c j.slot
    apart j here = at j.slot ∙ go (eqb j.slot i) refl
      where
        go : (b : Bool) → eqb j.slot i ≡ b → cond b (Making conn asked overhead) (slot_at c j.slot) ≡ slot_at c j.slot
        go true g = let same : j.slot ≡ i = grind (arith, nat_tests) in let no_ : is_current_slot c.current i ≡ false = not_current l d c i c.current free x.current in
            let yes_ : is_current_slot c.current i ≡ true = subst (λ n. is_current_slot c.current n ≡ true) same here in absurd (grind arith)
        go false g = refl

    -- neither a free slot nor one whose connection is being made has a connection
    stands_same : (stands : Stands) (kind : ConnectionKind) (q : PlugAt) → stands Free kind q ≡ false → stands (Making conn asked overhead) kind q ≡ false → (k : ℕ)
        → count_of (not (is_current_slot c.current k) && stands (slot_at c k) kind q) ≡ count_of (not (is_current_slot c.current k) && stands (slot_at e k) kind q)
    stands_same stands kind q f g k = ap (λ b. count_of (not (is_current_slot c.current k) && b)) (go (eqb k i) refl ∙ ap (λ s. stands s kind q) (sym (at k)))
      where
        go : (b : Bool) → eqb k i ≡ b → stands (slot_at c k) kind q ≡ stands (cond b (Making conn asked overhead) (slot_at c k)) kind q
        go true h = let same : i ≡ k = grind (arith, nat_tests) in ap (λ s. stands s kind q) (subst (λ n. slot_at c n ≡ Free) same free) ∙ (f ∙ sym g)
        go false h = refl

    alike : IsAlike c e
    alike = record {
      outputs = λ kind q. counts_same stands_at_output c e kind q (λ k kl. stands_same stands_at_output kind q refl refl k);
      inputs = λ kind q. counts_same stands_at_input c e kind q (λ k kl. stands_same stands_at_input kind q refl refl k);
    }

-- jobs that wait say nothing of what a controller has
pub waiting_in_step : (l : Account) (d : ℕ) (c : ControllerState) (ts : List WaitingJob) → ControllerInStep l d c → ControllerInStep l d (record c { waiting = ts })
waiting_in_step l d c ts x = record {
  current = alike_current l d c (record c { waiting = ts }) c.current (record { outputs = λ kind q. refl; inputs = λ kind q. refl }) (λ j e is. is) x.current;
  slots = x.slots;
}
