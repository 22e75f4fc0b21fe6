-- The current job that makes a connection stays at the stages of one, whatever happens to its controller.
use Rattle.fw_model_reclaim.proofs.Common.{◌≡◌, ◌≢◌, ◌⊎◌, inl, inr, ℕ, Bool, true, false, Option, Some, None, List, []}
use Rattle.fw_model_reclaim.proofs.Common.{◌∷◌, refl, sym, ap, subst, ◌∙◌, cond, ltb, Ok, cases_eq, Reply, Slot, Free, Making}
use Rattle.fw_model_reclaim.proofs.Common.{Established, Restoring, Gone, Current, Nothing, Asking, Hearing, Overtaken, WaitingJob, Directory}
use Rattle.fw_model_reclaim.proofs.Common.{Job, Purpose, Make, Restore, Break, StartFault, Access, Stage, Begin}
use Rattle.fw_model_reclaim.proofs.Common.{Made, Ended, ControllerState, first_state, slot_at, StageFits, access_of}
use Rattle.fw_model_reclaim.proofs.Common.{heard, after_hear, overtaken, current_reset, lost_reset, after_reset, after_lost_reset}
use Rattle.fw_model_reclaim.proofs.Common.{state_reset, started, break_started, break_fault, with_task, after_asking, after_answer}
use Rattle.fw_model_reclaim.proofs.Common.{after_next, takes_next, to_restore, resumed, Becomes, World, CanReclaim}
use Rattle.fw_model_reclaim.proofs.Common.{Change, Turn, Answer, BusReset, SecondOver, Death, NewConnection, BreakOf, Withholding, Elsewhere, Happens}
use Rattle.fw_cmp.specs.Jobs.{current_for, takes_task, takes_waiting, waiting_break, is_empty}
use Rattle.fw_model_reclaim.specs.Makings.{MakesFor, CurrentMakes}
use Rattle.fw_model_reclaim.proofs.AfterReset.{interrupted_for, decided_current}
use Rattle.fw_model_reclaim.proofs.Living.{facts_in}
use Rattle.fw_model_reclaim.proofs.Makings.{making_heard, making_resumed}
use Rattle.fw_model_reclaim.proofs.Nexts.{going_at}

-- ---- a turn

begins_makes : (i : ℕ) (x : Slot) → CurrentMakes (current_for i x)
begins_makes i Free = tt
begins_makes i (Making conn asked overhead) = refl
begins_makes i (Established conn f) = tt
begins_makes i (Restoring conn f over) = refl
begins_makes i (Gone conn) = tt

picked_makes : (now : ℕ) (d : Directory) (c : ControllerState) → CurrentMakes c.current → CurrentMakes (takes_next (to_restore c) now d c).current
picked_makes now d c m = first (to_restore c)
  where
    begins : (b : Bool) → CurrentMakes (cond b c (takes_task c 0)).current
    begins true = m
    begins false = begins_makes _ _

    waits : (w : List WaitingJob) → CurrentMakes (cond (is_empty w) c (cond (ltb now d.over_at) c (takes_task c 0))).current
    waits [] = m
    waits (t ∷ ts) = begins (ltb now d.over_at)

    second : (o : Option ℕ) → CurrentMakes (takes_waiting o now d c).current
    second (Some k) = begins_makes _ _
    second None = waits c.waiting

    first : (o : Option ℕ) → CurrentMakes (takes_next o now d c).current
    first (Some i) = begins_makes i (slot_at c i)
    first None = second (waiting_break c)

answer_makes : (p : ControllerState) (d : Directory) (x : Current) → CurrentMakes x → CurrentMakes (after_answer (going_at p d x)).current
answer_makes p d Nothing m = tt
answer_makes p d (Asking j s) m = go (access_of j (resumed d (slot_at p j.slot) j s))
  where
    go : (o : Option Access) → CurrentMakes (after_asking (record p { current = Asking j (resumed d (slot_at p j.slot) j s) }) j (resumed d (slot_at p j.slot) j s) o).current
    go None = tt
    go (Some a) = making_resumed d (slot_at p j.slot) j s j.purpose refl m
answer_makes p d (Hearing j s) m = m
answer_makes p d (Overtaken k o) m = tt

turn_makes : (now : ℕ) (d : Directory) (c : ControllerState) → CurrentMakes c.current → CurrentMakes (after_next now d c).current
turn_makes now d c m = go c.current refl m
  where
    turn : ControllerState → ControllerState
    turn p = after_answer (going_at p d p.current)

    go : (x : Current) → c.current ≡ x → CurrentMakes x → CurrentMakes (turn (elim x as (λ y. ControllerState) [
      | Nothing ↦ takes_next (to_restore c) now d c
      | Asking j s ↦ c
      | Hearing j s ↦ c
      | Overtaken i o ↦ c
    ])).current
    go Nothing e y = answer_makes (takes_next (to_restore c) now d c) d (takes_next (to_restore c) now d c).current (picked_makes now d c m)
    go (Asking j s) e y = answer_makes c d c.current m
    go (Hearing j s) e y = answer_makes c d c.current m
    go (Overtaken k o) e y = answer_makes c d c.current m

-- ---- an answer, and a bus reset

heard_makes : (x : Current) (r : Reply) → ((j : Job) (s : Stage) → x ≡ Hearing j s → StageFits j s) → CurrentMakes x → CurrentMakes (heard x r)
heard_makes Nothing r fits m = tt
heard_makes (Asking j s) r fits m = m
heard_makes (Hearing j s) r fits m = making_heard j s r j.purpose (fits j s refl) m
heard_makes (Overtaken k o) r fits m = tt

interrupted_makes : (epoch : ℕ) (c : ControllerState) (j : Job) (why : Purpose) → j.purpose ≡ why → CurrentMakes (interrupted_for why epoch c j).current
interrupted_makes epoch c j Make e = tt
interrupted_makes epoch c j Restore e = subst (λ w. MakesFor w j.connection Begin) (sym e) refl
interrupted_makes epoch c j Break e = tt

overtaken_makes : (epoch : ℕ) (c : ControllerState) (j : Job) (s : Stage) → CurrentMakes c.current → CurrentMakes (overtaken epoch c j s).current
overtaken_makes epoch c j (Made f) m = tt
overtaken_makes epoch c j (Ended e) m = subst (λ x. CurrentMakes x) (sym (decided_current c j j.purpose)) m
overtaken_makes epoch c j _ m = interrupted_makes epoch c j j.purpose refl

reset_makes : (epoch : ℕ) (c : ControllerState) → CurrentMakes c.current → CurrentMakes (after_reset epoch c).current
reset_makes epoch c m = go c.current
  where
    go : (x : Current) → CurrentMakes (current_reset epoch c x).current
    go Nothing = m
    go (Asking j s) = overtaken_makes epoch c j s m
    go (Hearing j s) = overtaken_makes epoch c j s m
    go (Overtaken k o) = m

-- the same if the response to its request was lost
lost_makes : (epoch : ℕ) (c : ControllerState) → CurrentMakes c.current → CurrentMakes (after_lost_reset epoch c).current
lost_makes epoch c m = go c.current
  where
    go : (x : Current) → CurrentMakes (lost_reset epoch c x).current
    go Nothing = m
    go (Asking j s) = interrupted_makes epoch c j j.purpose refl
    go (Hearing j s) = interrupted_makes epoch c j j.purpose refl
    go (Overtaken k o) = m

state_makes : (epoch : ℕ) (lost : Bool) (c : ControllerState) → CurrentMakes c.current → CurrentMakes (state_reset epoch lost c).current
state_makes epoch true c m = lost_makes epoch c m
state_makes epoch false c m = reset_makes epoch c m

break_makes : (c : ControllerState) (i : ℕ) → CurrentMakes c.current → CurrentMakes (break_started c i).current
break_makes c i m = go (break_fault c i)
  where
    go : (o : Option StartFault) → CurrentMakes (elim o as (λ x. ControllerState) [ None ↦ with_task c (record { slot = i; breaks = true }) | Some fault ↦ c ]).current
    go None = m
    go (Some fault) = m

-- ---- each change

one_makes : (w v : World) (c : ℕ) (x : ControllerState) → Becomes w.controllers c x v.controllers → CurrentMakes x.current → ((e : ℕ) → CurrentMakes (w.controllers e).current) → (e : ℕ)
    → CurrentMakes (v.controllers e).current
one_makes w v c x b own before e = go (cases_eq e c)
  where
    go : (e ≡ c) ⊎ (e ≢ c) → CurrentMakes (v.controllers e).current
    go (inl is) = subst (λ y. CurrentMakes y.current) (sym (ap v.controllers is ∙ b.new)) own
    go (inr ne) = subst (λ y. CurrentMakes y.current) (sym (b.others e ne)) (before e)

pub makes_after : (w v : World) (x : Change) → CanReclaim w → Happens w x v → (e : ℕ) → CurrentMakes (v.controllers e).current
makes_after w v (Turn c now) h t = one_makes w v c (after_next now w.directory (w.controllers c)) t.turn.becomes (turn_makes now w.directory (w.controllers c) (h.makes c)) h.makes
makes_after w v (Answer c r) h t = one_makes w v c (after_hear (w.controllers c) r) t.becomes
    (heard_makes (w.controllers c).current r (λ j s e. (facts_in w c h).stage j s (inr e)) (h.makes c)) h.makes
makes_after w v (BusReset entry epoch lost) h t = λ e. subst (λ y. CurrentMakes y.current) (sym (t.each e)) (state_makes epoch (lost e) (w.controllers e) (h.makes e))
makes_after w v SecondOver h t = λ e. subst (λ y. CurrentMakes y.current) (sym (t.each e)) (h.makes e)
makes_after w v (Death c) h t = one_makes w v c first_state t.becomes tt h.makes
makes_after w v (NewConnection c i slot) h t = one_makes w v c (started (Ok i) slot (w.controllers c)) t.becomes (h.makes c) h.makes
makes_after w v (BreakOf c i) h t = one_makes w v c (break_started (w.controllers c) i) t.becomes (break_makes (w.controllers c) i (h.makes c)) h.makes
makes_after w v Withholding h t = λ e. subst (λ y. CurrentMakes y.current) (sym (t.each e)) (h.makes e)
makes_after w v Elsewhere h t = λ e. subst (λ y. CurrentMakes (y.controllers e).current) (sym t) (h.makes e)
