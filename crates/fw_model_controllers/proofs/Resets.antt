-- A bus reset, and the end of the reclaim second, keep each controller in step.
use Rattle.fw_model_controllers.proofs.Common.{PlugAt, ConnectionKind, ◌≡◌, ℕ, ◌<◌, Bool, true, false, Option, Some, None}
use Rattle.fw_model_controllers.proofs.Common.{is_some, cond, refl, ap, subst, sym, ◌∙◌, arith, ResetEntry, Settings, Account}
use Rattle.fw_model_controllers.proofs.Common.{has_connection, after_reset, is_output, IsSound, Connection, Flow, Slot, Free, Making}
use Rattle.fw_model_controllers.proofs.Common.{Established, Restoring, Gone, Current, Nothing, Asking, Hearing, Overtaken, Job}
use Rattle.fw_model_controllers.proofs.Common.{Ending, Stage, Begin, Ended, output_of, ControllerState, slot_at, job_for}
use Rattle.fw_model_controllers.proofs.Common.{restores, is_current_slot, stands_at_output, stands_at_input, Holds, Others, units_at}
use Rattle.fw_model_controllers.proofs.Common.{IsFlow, IsInStep, slots_alone, IsToRestore, SlotInStep, CurrentInStep, ControllerInStep}
use Rattle.fw_model_account.specs.Account.{talks}
use Rattle.fw_model_account.proofs.Events.{reset_reclaimable}
use Rattle.fw_cmp.specs.Resets.{slots_reset}
use Rattle.fw_cmp_jobs.specs.Slots.{slot_reset}
use Rattle.fw_model_controllers.proofs.Slots.{slot_mapped, counts_none}
use Rattle.fw_model_controllers.proofs.Begins.{alone, UnitsAre, ended_step, begin_step}
use Rattle.fw_model_controllers.proofs.Events.{reset_holds}

-- no output plug leaves the bus
abbrev pub Grows : Account → ResetEntry → Type 0
Grows l r = (p : PlugAt) → is_output l.latest p ≡ true → is_output (Some r) p ≡ true

-- ---- slots

-- if a plug was, there was a reset before
reset_before : (o : Option ResetEntry) (p : PlugAt) → is_output o p ≡ true → is_some o ≡ true
reset_before None p e = grind arith
reset_before (Some r) p e = refl

-- a plug that was there keeps its settings
kept_settings : (r : ResetEntry) (l : Account) (p : PlugAt) → is_output l.latest p ≡ true → (after_reset r l).settings p ≡ l.settings p
kept_settings r l p e = rw e refl

pub standing_reset : (r : ResetEntry) (l : Account) (conn : Connection) (f : Flow) → IsSound l → Grows l r → ((p : PlugAt) → output_of conn ≡ Some p → IsFlow (l.settings p) f)
    → ((p : PlugAt) → output_of conn ≡ Some p → has_connection (l.outputs p) ≡ true) → IsToRestore (after_reset r l) conn f false
standing_reset r l conn f s grows is connected = record {
  found = λ p e. grows p (there p e);
  units = λ p e. sym (is p e).units ∙ (ap (λ o. units_at (l.settings p).rate o) (is p e).overhead ∙ ap (λ (k : Settings). units_at k.rate f.overhead) (sym (kept_settings r l p (there p e))));
  listed = λ p e own. (
    reset_before l.latest p (there p e),
    ap (λ ch. (after_reset r l).reclaimable ch) (sym (is p e).channel)
        ∙ (reset_reclaimable r l p s (talking p e) ∙ ap (λ u. Some (record { plug = p; units = u })) (is p e).units),
  );
}
  where
    talking : (p : PlugAt) → output_of conn ≡ Some p → talks l p ≡ true
    talking p e = let has = connected p e in rw has refl

    there : (p : PlugAt) → output_of conn ≡ Some p → is_output l.latest p ≡ true
    there p e = s.there p (talking p e)

pub restoring_reset : (r : ResetEntry) (l : Account) (conn : Connection) (f : Flow) (over : Bool) → Grows l r → IsToRestore l conn f over → IsToRestore (after_reset r l) conn f over
restoring_reset r l conn f over grows x = record {
  found = λ p e. grows p (x.found p e);
  units = λ p e. x.units p e ∙ ap (λ (k : Settings). units_at k.rate f.overhead) (sym (kept_settings r l p (x.found p e)));
  listed = λ p e own. (
    reset_before l.latest p (x.found p e),
    ap (λ b. (cond b l.reclaimable ((after_reset r (record l { reclaiming = false })).reclaimable)) f.channel) (x.listed p e own).0
        ∙ (x.listed p e own).1,
  );
}

-- whether a connection stands, or stood
abbrev pub is_standing : Slot → Bool
is_standing (Established conn f) = true
is_standing _ = false

pub slot_told : (r : ResetEntry) (l : Account) (s : Slot) → IsSound l → Grows l r
    → ((conn : Connection) (f : Flow) (p : PlugAt) → s ≡ Established conn f → output_of conn ≡ Some p → has_connection (l.outputs p) ≡ true) → SlotInStep l false s
    → SlotInStep (after_reset r l) false (slot_reset s)
slot_told r l Free s grows connected x = tt
slot_told r l (Making conn asked overhead) s grows connected x = tt
slot_told r l (Established conn f) s grows connected x = standing_reset r l conn f s grows x.output (λ p e. connected conn f p refl e)
slot_told r l (Restoring conn f over) s grows connected x = restoring_reset r l conn f over grows x
slot_told r l (Gone conn) s grows connected x = tt

-- the slot of the current job, if it does not stand
pub own_told : (l : Account) (s : Slot) → is_standing s ≡ false → SlotInStep l true s → SlotInStep l false s
own_told l Free e x = tt
own_told l (Making conn asked overhead) e x = tt
own_told l (Established conn f) e x = absurd (grind arith)
own_told l (Restoring conn f over) e x = x
own_told l (Gone conn) e x = tt

-- after a reset a slot says the same, whether its job is current or not
reset_weaker : (l : Account) (b : Bool) (s : Slot) → SlotInStep l false (slot_reset s) → SlotInStep l b (slot_reset s)
reset_weaker l b Free x = tt
reset_weaker l b (Making conn asked overhead) x = tt
reset_weaker l b (Established conn f) x = x
reset_weaker l b (Restoring conn f over) x = x
reset_weaker l b (Gone conn) x = tt

none_stands_out : (s : Slot) (kind : ConnectionKind) (q : PlugAt) → stands_at_output (slot_reset s) kind q ≡ false
none_stands_out Free kind q = refl
none_stands_out (Making conn asked overhead) kind q = refl
none_stands_out (Established conn f) kind q = refl
none_stands_out (Restoring conn f over) kind q = refl
none_stands_out (Gone conn) kind q = refl

none_stands_in : (s : Slot) (kind : ConnectionKind) (q : PlugAt) → stands_at_input (slot_reset s) kind q ≡ false
none_stands_in Free kind q = refl
none_stands_in (Making conn asked overhead) kind q = refl
none_stands_in (Established conn f) kind q = refl
none_stands_in (Restoring conn f over) kind q = refl
none_stands_in (Gone conn) kind q = refl

reset_at : (c : ControllerState) (i : ℕ) → slot_at (slots_reset c) i ≡ slot_reset (slot_at c i)
reset_at c i = slot_mapped slot_reset c.slots i refl

-- ---- the controller after a reset has nothing

pub reset_alone : (r : ResetEntry) (l : Account) (d : ℕ) (c : ControllerState) → Holds (after_reset r l) d (slots_alone (slots_reset c))
reset_alone r l d c = record {
  reserved = (reset_holds r d l).reserved;
  outputs = λ kind q. (reset_holds r d l).outputs kind q ∙ sym
      (counts_none stands_at_output (slots_reset c) kind q (λ i lt. ap (λ s. stands_at_output s kind q) (reset_at c i) ∙ none_stands_out (slot_at c i) kind q));
  inputs = λ kind q. (reset_holds r d l).inputs kind q ∙ sym (counts_none stands_at_input (slots_reset c) kind q
      (λ i lt. ap (λ s. stands_at_input s kind q) (reset_at c i) ∙ none_stands_in (slot_at c i) kind q));
}

-- the job after a reset: a restoring begins again, or a job has ended
pub data IsAfterReset (j : Job) (s : Stage) : Type 0 where
  begins : s ≡ Begin → restores j ≡ true → IsAfterReset j s
  ends : (e : Ending) → s ≡ Ended e → IsAfterReset j s

job_after : (l : Account) (d : ℕ) (j : Job) (s : Stage) (b : Bool) (others : Others) → Holds l d (alone others) → UnitsAre l j → IsAfterReset j s → IsInStep l d j s b others
job_after l d j s b others has units (begins e fresh) = subst (λ t. IsInStep l d j t b others) (sym e) (begin_step l d j b others has units fresh)
job_after l d j s b others has units (ends end e) = subst (λ t. IsInStep l d j t b others) (sym e) (ended_step l d j end b others has units)

-- what is left of the current job
pub record JobLeft (m : Account) (c : ControllerState) (j : Job) (s : Stage) : Type 0 where
  pub slot : job_for j.slot (slot_reset (slot_at c j.slot)) ≡ Some j
  pub within : j.slot < 32
  pub units : UnitsAre m j
  pub left : IsAfterReset j s

abbrev pub CurrentLeft : Account → ControllerState → Current → Type 0
CurrentLeft m c Nothing = Unit {0}
CurrentLeft m c (Asking j s) = JobLeft m c j s
CurrentLeft m c (Hearing j s) = JobLeft m c j s
CurrentLeft m c (Overtaken i o) = Unit {0}

pub reset_done : (r : ResetEntry) (l : Account) (d : ℕ) (c : ControllerState) (current : Current) → CurrentLeft (after_reset r l) (record c { current = current }) current
    → ((i : ℕ) → SlotInStep (after_reset r l) false (slot_reset (slot_at c i))) → ControllerInStep (after_reset r l) d (slots_reset (record c { current = current }))
reset_done r l d c current left told = record {
  current = go current left;
  slots = λ i. subst (SlotInStep (after_reset r l) (is_current_slot current i)) (sym (reset_at (record c { current = current }) i))
      (reset_weaker (after_reset r l) (is_current_slot current i) (slot_at c i) (told i));
}
  where
    go : (cur : Current) → CurrentLeft (after_reset r l) (record c { current = cur }) cur → CurrentInStep (after_reset r l) d (slots_reset (record c { current = cur })) cur
    go Nothing x = reset_alone r l d (record c { current = Nothing })
    go (Asking j s) x = record {
      slot = ap (job_for j.slot) (reset_at (record c { current = Asking j s }) j.slot) ∙ x.slot;
      within = x.within;
      step = job_after (after_reset r l) d j s false _ (reset_alone r l d (record c { current = Asking j s })) x.units x.left;
    }
    go (Hearing j s) x = record {
      slot = ap (job_for j.slot) (reset_at (record c { current = Hearing j s }) j.slot) ∙ x.slot;
      within = x.within;
      step = job_after (after_reset r l) d j s true _ (reset_alone r l d (record c { current = Hearing j s })) x.units x.left;
    }
    go (Overtaken i o) x = reset_alone r l d (record c { current = Overtaken i o })
