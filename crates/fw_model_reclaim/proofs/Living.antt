-- What a change of the whole leaves to each controller: it keeps what its connections rest on.
use Rattle.fw_model_reclaim.proofs.Common.{PlugAt, ConnectionKind, ◌≡◌, ◌≢◌, ◌⊎◌, inl, inr, ℕ, ◌<◌, ◌≤◌, false, refl}
use Rattle.fw_model_reclaim.proofs.Common.{sym, ap, subst, ◌∙◌, arith, Bool, Ok, cases_eq, nat_tests, Reply, ResetEntry, Account}
use Rattle.fw_model_reclaim.proofs.Common.{account_reset, is_output, is_input, IsSound, Connection, Flow, Slot, Restoring, Job, kind_of, output_of, input_of, ControllerState, first_state, slot_at}
use Rattle.fw_model_reclaim.proofs.Common.{StageFits, IsReached, after_hear, started, break_started, after_next, IsFlow, has_manager, Becomes, held_in, IsAtSlot, KeepsFlow, IsRestorable, LeavesPlugs}
use Rattle.fw_model_reclaim.proofs.Common.{Restores, Carries, CurrentMatches, CurrentCourse, Side, Output, Input, AreSeated, number_of}
use Rattle.fw_model_reclaim.proofs.Common.{most, World, CanReclaim, Change, Turn, Answer, BusReset, SecondOver}
use Rattle.fw_model_reclaim.proofs.Common.{Death, NewConnection, BreakOf, Withholding, Elsewhere, Happens}
use Rattle.fw_model_account.specs.Events.{after_second as account_second, after_death, after_withholding}
use Rattle.fw_model_account.specs.Packets.{ended}
use Rattle.fw_cmp.specs.Holdings.{pending_of}
use Rattle.fw_model_controllers.specs.Holding.{HasReserved}
use Rattle.fw_model_controllers.specs.InStep.{reservation}
use Rattle.fw_model_controllers.specs.Moves.{carried_out}
use Rattle.fw_model_reclaim.specs.Due.{due_in}
use Rattle.fw_model_reclaim.specs.Worlds.{SendsRequest, SendsNothing, TakesTurn, HearsAnswer, IsReset, EndsSecond, Withholds, Dies, AsksNew, AsksBreak}
use Rattle.fw_model_reclaim.proofs.AfterReset.{restores_reset}
use Rattle.fw_model_reclaim.proofs.Courses.{MayGoOn}
use Rattle.fw_model_reclaim.proofs.Events.{restores_second, restores_started, restores_first, restores_break}
use Rattle.fw_model_reclaim.proofs.Facts.{Facts, facts, carries}
use Rattle.fw_model_reclaim.proofs.Given.{takes_free, making_is}
use Rattle.fw_model_reclaim.proofs.Kept.{restores_other, restores_heard}
use Rattle.fw_model_reclaim.proofs.Moved.{carried_leaves}
use Rattle.fw_model_reclaim.proofs.Nexts.{MeetsTurn, restores_next}
use Rattle.fw_model_reclaim.proofs.Rooms.{output_due, input_due}
use Rattle.fw_model_reclaim.proofs.Seats.{has_room}
use Rattle.fw_model_reclaim.proofs.Unused.{nothing_held}

-- ---- accounts that agree

-- all that reclaiming rests on is the same
pub record Agrees (l m : Account) : Type 0 where
  pub settings : (q : PlugAt) → m.settings q ≡ l.settings q
  pub channels : (q : PlugAt) → m.input_channel q ≡ l.input_channel q
  pub latest : m.latest ≡ l.latest
  pub reclaiming : m.reclaiming ≡ l.reclaiming
  pub reclaimable : (ch : ℕ) → m.reclaimable ch ≡ l.reclaimable ch

agreed_flow : (l m : Account) (conn : Connection) (f : Flow) → Agrees l m → KeepsFlow l conn f → KeepsFlow m conn f
agreed_flow l m conn f a k = record {
  output = λ p e. subst (λ x. IsFlow x f) (sym (a.settings p)) (k.output p e);
  input = λ q e. a.channels q ∙ k.input q e;
  manager = λ e. ap has_manager a.latest ∙ k.manager e;
}

pub agreed : (l m : Account) (c : ControllerState) → Agrees l m → Restores l c → Restores m c
agreed l m c a r = record {
  matches = r.matches;
  standing = λ i conn f e idle. agreed_flow l m conn f a (r.standing i conn f e idle);
  restoring = λ i conn f e. restorable conn f (r.restoring i conn f e);
  course = λ runs. r.course (sym a.reclaiming ∙ runs);
}
  where
    restorable : (conn : Connection) (f : Flow) → IsRestorable l conn f → IsRestorable m conn f
    restorable conn f k = record {
      second = a.reclaiming ∙ k.second;
      keeps = agreed_flow l m conn f a k.keeps;
      listed = λ p e. a.reclaimable f.channel ∙ k.listed p e;
      output = λ p e. ap (λ x. is_output x p) a.latest ∙ k.output p e;
      input = λ q e. ap (λ x. is_input x q) a.latest ∙ k.input q e;
    }

all_same : (l : Account) → Agrees l l
all_same l = record { settings = λ q. refl; channels = λ q. refl; latest = refl; reclaiming = refl; reclaimable = λ ch. refl }

pub same_agrees : (l m : Account) → m ≡ l → Agrees l m
same_agrees l m e = subst (λ x. Agrees l x) (sym e) (all_same l)

-- a request, an answer and a death change nothing of it
pub turn_agrees : (w : World) (c now : ℕ) (m : Account) → SendsRequest w c now m ⊎ SendsNothing w c now m → Agrees w.account m
turn_agrees w c now m (inl x) = subst (λ y. Agrees w.account y) (sym x.account) (record { settings = λ q. refl; channels = λ q. refl; latest = refl; reclaiming = refl; reclaimable = λ ch. refl })
turn_agrees w c now m (inr x) = same_agrees w.account m x.account

pub ended_agrees : (l m : Account) (c : ℕ) → m ≡ ended c l → Agrees l m
ended_agrees l m c e = subst (λ y. Agrees l y) (sym e) (record { settings = λ q. refl; channels = λ q. refl; latest = refl; reclaiming = refl; reclaimable = λ ch. refl })

death_agrees : (l : Account) (c : ℕ) → Agrees l (after_death c l)
death_agrees l c = record { settings = λ q. refl; channels = λ q. refl; latest = refl; reclaiming = refl; reclaimable = λ ch. refl }

withholding_agrees : (l : Account) → Agrees l (after_withholding l)
withholding_agrees l = record { settings = λ q. refl; channels = λ q. refl; latest = refl; reclaiming = refl; reclaimable = λ ch. refl }

-- ---- one controller changes

-- the one keeps, and so do the others
one_changes : (w v : World) (c : ℕ) (after : ControllerState) → Becomes w.controllers c after v.controllers → Restores v.account after → ((d : ℕ) → d ≢ c → Restores v.account (w.controllers d))
    → (d : ℕ) → Restores v.account (v.controllers d)
one_changes w v c after b own others d = go (cases_eq d c)
  where
    go : (d ≡ c) ⊎ (d ≢ c) → Restores v.account (v.controllers d)
    go (inl e) = subst (λ x. Restores v.account x) (sym (ap v.controllers e ∙ b.new)) own
    go (inr ne) = subst (λ x. Restores v.account x) (sym (b.others d ne)) (others d ne)

-- ---- each change

pub facts_in : (w : World) (c : ℕ) → CanReclaim w → Facts w.account c (w.controllers c)
facts_in w c h = facts w.account c (w.controllers c) (h.step.fits c) (h.step.each c)

-- a connection that can be restored is reached
reached : (w v : World) (c now : ℕ) (conn : Connection) (f : Flow) → TakesTurn w c now v → IsRestorable w.account conn f → IsReached w.directory conn
reached w v c now conn f t r = record {
  output = λ p e. t.shows.outputs p (r.output p e);
  input = λ q e. t.shows.inputs q (r.input q e);
  manager = λ e. t.shows.manager (r.keeps.manager e);
}

-- what a turn finds
pub turn_meets : (w v : World) (c now : ℕ) → CanReclaim w → TakesTurn w c now v → MeetsTurn w.account now w.directory (w.controllers c)
turn_meets w v c now h t = record {
  slots = x.slots;
  at_slot = x.at_slot;
  heard = t.turn.heard;
  breaks = x.breaks;
  early = λ runs. grind (arith, nat_tests, t.turn.told.second runs);
  reached = λ i conn f own. reached w v c now conn f t ((h.each c).restoring i conn f own);
  made = x.made;
  restores = h.each c;
}
  where
    x : Facts w.account c (w.controllers c)
    x = facts_in w c h

turn_keeps : (w v : World) (c now : ℕ) → CanReclaim w → TakesTurn w c now v → (e : ℕ) → Restores v.account (v.controllers e)
turn_keeps w v c now h t = one_changes w v c (after_next now w.directory (w.controllers c)) t.turn.becomes
    (agreed w.account v.account (after_next now w.directory (w.controllers c)) agrees (restores_next w.account now w.directory (w.controllers c) (turn_meets w v c now h t)))
    (λ e ne. agreed w.account v.account (w.controllers e) agrees (h.each e))
  where
    agrees : Agrees w.account v.account
    agrees = turn_agrees w c now v.account t.turn.says

-- ---- an answer

-- all controllers have what their slots and stages say
pub seated_all : (w : World) → CanReclaim w → AreSeated w.account (held_in w.controllers)
seated_all w h = record { seated = λ c side kind q. (facts_in w c h).seated side kind q; beyond = λ c side kind q far. nothing_held (w.controllers c) side kind q (h.beyond c far) }

-- a restoring in its own second may go on
may_go_on : (w v : World) (c : ℕ) (r : Reply) (h : CanReclaim w) (t : HearsAnswer w c r v) → MayGoOn w.account c t.job (slot_at (w.controllers c) t.job.slot) t.stage
may_go_on w v c r h t conn f is job on = record {
  sound = h.step.sound;
  restorable = (h.each c).restoring t.job.slot conn f is;
  output_room = λ p e away. subst (λ k. number_of k (w.account.outputs p) < most k) kind
      (has_room w.account (held_in w.controllers) (due_in w.controllers) c Output (kind_of t.job.connection) p t.device (seated_all w h) h.fits (λ d. held_less d Output (kind_of t.job.connection) p)
      (output_due (w.controllers c) t.job t.stage f p lt t.current own (ap output_of same ∙ e) away));
  input_room = λ q e away. subst (λ k. number_of k (w.account.inputs q) < most k) kind
      (has_room w.account (held_in w.controllers) (due_in w.controllers) c Input (kind_of t.job.connection) q t.device (seated_all w h) h.fits (λ d. held_less d Input (kind_of t.job.connection) q)
      (input_due (w.controllers c) t.job t.stage f q lt t.current own (ap input_of same ∙ e) away));
  reserved = subst (λ x. HasReserved c (reservation (output_of x) (pending_of t.stage)) w.account.allocations) same (x.reserved t.job t.stage t.current);
  fits = subst (λ y. StageFits y t.stage) job (x.stage t.job t.stage (inr t.current));
}
  where
    x : Facts w.account c (w.controllers c)
    x = facts_in w c h

    lt : t.job.slot < 32
    lt = subst (λ y. IsAtSlot y) t.current x.at_slot

    same : t.job.connection ≡ conn
    same = ap (λ (j : Job). j.connection) job

    kind : kind_of t.job.connection ≡ kind_of conn
    kind = ap kind_of same

    own : slot_at (w.controllers c) t.job.slot ≡ Restoring t.job.connection f false
    own = is ∙ ap (λ y. Restoring y f false) (sym same)

    held_less : (d : ℕ) (side : Side) (k : ConnectionKind) (q : PlugAt) → held_in w.controllers d side k q ≤ due_in w.controllers d side k q
    held_less d side k q = omega arith

-- what the answer makes of the account
abbrev pub carried : (w : World) (c : ℕ) (r : Reply) (v : World) → HearsAnswer w c r v → Account
carried w c r v t = carried_out c t.job t.stage r w.account

pub answer_carries : (w v : World) (c : ℕ) (r : Reply) → CanReclaim w → (t : HearsAnswer w c r v) → Carries w.account c t.job t.stage (carried w c r v t)
answer_carries w v c r h t = carries w.account c (w.controllers c) t.job t.stage t.target r t.device h.step.sound (h.step.fits c) (h.step.each c) t.current t.asked t.answer

pub answer_leaves : (w v : World) (c : ℕ) (r : Reply) → CanReclaim w → (t : HearsAnswer w c r v) → LeavesPlugs w.account (carried w c r v t)
answer_leaves w v c r h t = carried_leaves w.account c t.job t.stage (slot_at (w.controllers c) t.job.slot) (carried w c r v t)
    (subst (λ x. CurrentMatches (w.controllers c) x) t.current (h.each c).matches) (λ runs. subst (λ x. CurrentCourse (w.controllers c) x) t.current ((h.each c).course runs))
    (λ conn f is. (h.each c).restoring t.job.slot conn f is) (answer_carries w v c r h t)

answer_keeps : (w v : World) (c : ℕ) (r : Reply) → CanReclaim w → HearsAnswer w c r v → (e : ℕ) → Restores v.account (v.controllers e)
answer_keeps w v c r h t = one_changes w v c (after_hear (w.controllers c) r) t.becomes
    (agreed (carried w c r v t) v.account (after_hear (w.controllers c) r) agrees
    (restores_heard w.account (carried w c r v t) c (w.controllers c) t.job t.stage r t.target h.step.sound (facts_in w c h).slots (facts_in w c h).seated t.current (answer_carries w v c r h t)
    (λ runs. may_go_on w v c r h t) t.asked t.answer (h.each c)))
    (λ e ne. agreed (carried w c r v t) v.account (w.controllers e) agrees
    (restores_other w.account (carried w c r v t) e (w.controllers e) h.step.sound (facts_in w e h).slots (facts_in w e h).seated (answer_leaves w v c r h t) (h.each e)))
  where
    agrees : Agrees (carried w c r v t) v.account
    agrees = ended_agrees (carried w c r v t) v.account c t.account

-- ---- bus resets, and the end of the second

reset_keeps : (w v : World) (entry : ResetEntry) (epoch : ℕ) (lost : ℕ → Bool) → CanReclaim w → IsReset w entry epoch lost v → IsSound v.account → (e : ℕ) → Restores v.account (v.controllers e)
reset_keeps w v entry epoch lost h t sound e = subst (λ a. Restores a (v.controllers e)) (sym t.account)
    (subst (λ y. Restores (account_reset entry w.account) y) (sym (t.each e))
    (restores_reset epoch (lost e) w.account entry e (w.controllers e)
    (record { sound = h.step.sound; after = subst (λ a. IsSound a) t.account sound; grows = t.grows; slots = x.slots; at_slot = x.at_slot; seated = x.seated; made = x.made; restores = h.each e })))
  where
    x : Facts w.account e (w.controllers e)
    x = facts_in w e h

second_keeps : (w v : World) → CanReclaim w → EndsSecond w v → (e : ℕ) → Restores v.account (v.controllers e)
second_keeps w v h t e = subst (λ a. Restores a (v.controllers e)) (sym t.account)
    (subst (λ y. Restores (account_second w.account) y) (sym (t.each e)) (restores_second w.account (w.controllers e) (h.each e)))

-- ---- deaths, and what is asked for

death_keeps : (w v : World) (c : ℕ) → CanReclaim w → Dies w c v → (e : ℕ) → Restores v.account (v.controllers e)
death_keeps w v c h t = one_changes w v c first_state t.becomes (restores_first v.account)
    (λ e ne. subst (λ a. Restores a (w.controllers e)) (sym t.account) (agreed w.account (after_death c w.account) (w.controllers e) (death_agrees w.account c) (h.each e)))

withholding_keeps : (w v : World) → CanReclaim w → Withholds w v → (e : ℕ) → Restores v.account (v.controllers e)
withholding_keeps w v h t e =
    subst (λ a. Restores a (v.controllers e)) (sym t.account)
    (subst (Restores (after_withholding w.account)) (sym (t.each e)) (agreed w.account (after_withholding w.account) (w.controllers e) (withholding_agrees w.account) (h.each e)))

new_keeps : (w v : World) (c i : ℕ) (slot : Slot) → CanReclaim w → AsksNew w c i slot v → (e : ℕ) → Restores v.account (v.controllers e)
new_keeps w v c i slot h t = one_changes w v c (started (Ok i) slot (w.controllers c)) t.becomes
    (agreed w.account v.account (started (Ok i) slot (w.controllers c)) agrees
    (restores_started w.account (w.controllers c) i slot (facts_in w c h).slots (takes_free (w.controllers c) i t.starts).0 (takes_free (w.controllers c) i t.starts).1 (making_is slot t.making)
    (h.each c))) (λ e ne. agreed w.account v.account (w.controllers e) agrees (h.each e))
  where
    agrees : Agrees w.account v.account
    agrees = same_agrees w.account v.account t.account

break_keeps : (w v : World) (c i : ℕ) → CanReclaim w → AsksBreak w c i v → (e : ℕ) → Restores v.account (v.controllers e)
break_keeps w v c i h t = one_changes w v c (break_started (w.controllers c) i) t.becomes
    (agreed w.account v.account (break_started (w.controllers c) i) agrees (restores_break w.account (w.controllers c) i (h.each c)))
    (λ e ne. agreed w.account v.account (w.controllers e) agrees (h.each e))
  where
    agrees : Agrees w.account v.account
    agrees = same_agrees w.account v.account t.account

pub restores_after : (w v : World) (x : Change) → CanReclaim w → Happens w x v → IsSound v.account → (e : ℕ) → Restores v.account (v.controllers e)
restores_after w v (Turn c now) h t sound = turn_keeps w v c now h t
restores_after w v (Answer c r) h t sound = answer_keeps w v c r h t
restores_after w v (BusReset entry epoch lost) h t sound = reset_keeps w v entry epoch lost h t sound
restores_after w v SecondOver h t sound = second_keeps w v h t
restores_after w v (Death c) h t sound = death_keeps w v c h t
restores_after w v (NewConnection c i slot) h t sound = new_keeps w v c i slot h t
restores_after w v (BreakOf c i) h t sound = break_keeps w v c i h t
restores_after w v Withholding h t sound = withholding_keeps w v h t
restores_after w v Elsewhere h t sound = λ e. subst (λ y. Restores y.account (y.controllers e)) (sym t) (h.each e)
