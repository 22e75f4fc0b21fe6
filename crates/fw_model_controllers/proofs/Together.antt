-- Whatever happens leaves all controllers in step.
use Rattle.fw_model_controllers.proofs.Common.{PlugAt, ConnectionKind, PointToPoint, Broadcast, ◌≡◌, ◌≢◌, ℕ, ◌+◌, ◌-◌, ◌^◌, ◌<◌, Bool, true}
use Rattle.fw_model_controllers.proofs.Common.{false, Some, None, refl, ap, subst, sym, ◌∙◌, arith, ◌⊎◌, inl, inr}
use Rattle.fw_model_controllers.proofs.Common.{cases_eq, word_of, Reply, ResetEntry, Account, is_open, after_reset, after_second, asked}
use Rattle.fw_model_controllers.proofs.Common.{ended, IsSound, Connection, Flow, Established, Restoring, Current, Nothing}
use Rattle.fw_model_controllers.proofs.Common.{Asking, Hearing, Overtaken, Job, Target, Stage, output_of, OutputPlug}
use Rattle.fw_model_controllers.proofs.Common.{InputPlug, Channels, BandwidthAvailable, ControllerState, slot_at, Fits, is_current_slot}
use Rattle.fw_model_controllers.proofs.Common.{CanGoOn, target_of, after_hear, connections_of, Holds, Keeps, Leaves, register_at, stands, IsAnswer, carried_out, IsToRestore, CurrentInStep, SlotInStep}
use Rattle.fw_model_controllers.proofs.Common.{ControllerInStep, outstanding_of, Directory}
use Rattle.fw_model_account.proofs.Bounds.{word_below}
use Rattle.fw_model_account.proofs.Words.{bits_below}
use Rattle.fw_model_account.specs.Events.{after_death, after_withholding}
use Rattle.fw_model_account.specs.Events.{no_connections}
use Rattle.fw_model_account.specs.Fold.{no_account}
use Rattle.fw_model_account.specs.Listing.{IsAllocatedForFlows}
use Rattle.fw_model_account.proofs.Listing.{flows_alone}
use Rattle.fw_model_account.proofs.Fold.{starts_sound}
use Rattle.fw_model_account.specs.Moves.{HasNoPending}
use Rattle.fw_model_account.proofs.Events.{reset_keeps, second_ends, withholding_keeps as withholding_sound}
use Rattle.fw_model_account.proofs.Deaths.{death_keeps as death_sound}
use Rattle.fw_model_account.proofs.Packets.{asked_keeps as asked_sound, ended_keeps as ended_sound}
use Rattle.fw_cmp.specs.Controllers.{first_state}
use Rattle.fw_cmp.proofs.Fitting.{first_fits}
use Rattle.fw_cmp.proofs.SlotsReset.{state_reset_fits, second_fits}
use Rattle.fw_model_controllers.specs.Holding.{no_holding}
use Rattle.fw_model_controllers.specs.Controllers.{holding_of, StandsAt}
use Rattle.fw_model_controllers.specs.Together.{AreInStep, Becomes, SendsRequest, SendsNothing, TakesTurn, HearsAnswer, TakesJob, BusResets, EndsSecond, Dies, Withholds}
use Rattle.fw_model_controllers.specs.Together.{Happens, half_step, turns, hears, given, resets, second, dies, withholds, AreSettled, IsWhole}
use Rattle.fw_model_controllers.proofs.Carried.{carried_is, carried_sound, carried_keeps, carried_leaves, carried_reclaims, hearing, hear_half, hear_in_step}
use Rattle.fw_model_controllers.proofs.Events.{asked_keeps, asked_leaves, ended_keeps, ended_leaves, death_keeps, death_leaves, dead_holds, withholding_keeps, withholding_leaves}
use Rattle.fw_model_controllers.proofs.Fits.{next_fits, heard_fits}
use Rattle.fw_model_controllers.proofs.Goes.{keeps_self}
use Rattle.fw_cmp.proofs.GoingOn.{next_goes_on, hear_goes_on}
use Rattle.fw_cmp.proofs.ResetGoesOn.{second_goes_on, state_reset_goes_on, first_goes_on}
use Rattle.fw_model_controllers.proofs.Given.{given_fits, given_in_step, given_goes_on}
use Rattle.fw_model_controllers.proofs.Standing.{update_here, update_there, carried_outstanding, heard_none, reset_outstanding, given_current}
use Rattle.fw_model_controllers.proofs.Kept.{output_there, input_there, kept_in_step}
use Rattle.fw_model_controllers.proofs.Nexts.{turn_in_step}
use Rattle.fw_model_controllers.proofs.Overtaken.{reset_in_step}
use Rattle.fw_model_controllers.proofs.Seconds.{second_in_step, first_in_step}

-- one controller is in step at the new account, and each other one is left alone
one_changed : (dir : Directory) (l m : Account) (before after : ℕ → ControllerState) (d : ℕ) (c : ControllerState) → AreInStep dir l before → IsSound m → Becomes before d c after → Fits c
    → ControllerInStep m d c → CanGoOn dir c → m.outstanding d ≡ outstanding_of dir c.current → ((k : ℕ) → k ≢ d → m.outstanding k ≡ l.outstanding k)
    → ((k : ℕ) → k ≢ d → ControllerInStep m k (before k)) → AreInStep dir m after
one_changed dir l m before after d c x sound b fits own reach out outs rest =
    record { sound = sound; fits = λ k. fit k (cases_eq k d); each = λ k. go k (cases_eq k d); goes_on = λ k. reaching k (cases_eq k d); requests = λ k. standing k (cases_eq k d) }
  where
    fit : (k : ℕ) → (k ≡ d) ⊎ (k ≢ d) → Fits (after k)
    fit k (inl e) = subst (λ n. Fits (after n)) (sym e) (subst Fits (sym b.new) fits)
    fit k (inr ne) = subst Fits (sym (b.others k ne)) (x.fits k)

    go : (k : ℕ) → (k ≡ d) ⊎ (k ≢ d) → ControllerInStep m k (after k)
    go k (inl e) = subst (λ n. ControllerInStep m n (after n)) (sym e) (subst (ControllerInStep m d) (sym b.new) own)
    go k (inr ne) = subst (ControllerInStep m k) (sym (b.others k ne)) (rest k ne)

    reaching : (k : ℕ) → (k ≡ d) ⊎ (k ≢ d) → CanGoOn dir (after k)
    reaching k (inl e) = subst (λ n. CanGoOn dir (after n)) (sym e) (subst (CanGoOn dir) (sym b.new) reach)
    reaching k (inr ne) = subst (CanGoOn dir) (sym (b.others k ne)) (x.goes_on k)

    standing : (k : ℕ) → (k ≡ d) ⊎ (k ≢ d) → m.outstanding k ≡ outstanding_of dir (after k).current
    standing k (inl e) = subst (λ n. m.outstanding n ≡ outstanding_of dir (after n).current) (sym e) (out ∙ ap (λ (y : ControllerState). outstanding_of dir y.current) (sym b.new))
    standing k (inr ne) = outs k ne ∙ (x.requests k ∙ ap (λ (y : ControllerState). outstanding_of dir y.current) (sym (b.others k ne)))

-- a change that keeps plugs and leaves the others what they have
others_kept : (dir : Directory) (l m : Account) (controllers : ℕ → ControllerState) (d : ℕ) → AreInStep dir l controllers → Keeps l m → ((k : ℕ) → k ≢ d → Leaves k l m)
    → (l.reclaiming ≡ true → m.reclaiming ≡ true) → (k : ℕ) → k ≢ d → ControllerInStep m k (controllers k)
others_kept dir l m controllers d x k left runs n ne = kept_in_step l m n (controllers n) x.sound (x.fits n).slots k (left n ne) runs (x.each n)

-- ---- one controller changes

-- the turn of controller d, with or without a request
turn_of : (dir : Directory) (l m : Account) (before after : ℕ → ControllerState) (d : ℕ) (c : ControllerState) → AreInStep dir l before → IsSound m → Keeps l m → ((k : ℕ) → k ≢ d → Leaves k l m)
    → (l.reclaiming ≡ true → m.reclaiming ≡ true) → Becomes before d c after → Fits c → ControllerInStep m d c → CanGoOn dir c → m.outstanding d ≡ outstanding_of dir c.current
    → ((k : ℕ) → k ≢ d → m.outstanding k ≡ l.outstanding k) → AreInStep dir m after
turn_of dir l m before after d c x sound k left runs b fits own reach out outs = one_changed dir l m before after d c x sound b fits own reach out outs (others_kept dir l m before d x k left runs)

-- a complete answer is a quadlet
answer_below : (l : Account) (t : Target) (r : Reply) → IsSound l → IsAnswer l t r → r.rcode ≡ 0 → r.value < 2 ^ 32
answer_below l t r s a e = go (stands l.latest t) refl
  where
    below : (t : Target) → stands l.latest t ≡ true → word_of l (register_at t) < 2 ^ 32
    below (OutputPlug p) f = word_below l (register_at (OutputPlug p)) s f
    below (InputPlug p) f = word_below l (register_at (InputPlug p)) s f
    below (Channels base) f = bits_below 32 (λ i. is_open l.withheld l.allocations (base + (31 - i)))
    below BandwidthAvailable f = word_below l (register_at BandwidthAvailable) s tt

    go : (b : Bool) → stands l.latest t ≡ b → r.value < 2 ^ 32
    go true f = subst (λ v. v < 2 ^ 32) (sym (a.complete f).1) (below t f)
    go false f = absurd (a.refused f e)

-- an answer: a move of controller d or none, and the end of its request
heard_in_step : (dir : Directory) (l : Account) (before after : ℕ → ControllerState) (d : ℕ) (c : ControllerState) (j : Job) (s : Stage) (t : Target) (r : Reply) → AreInStep dir l before → d < 63
    → before d ≡ hearing c j s → target_of j s ≡ Some t → IsAnswer l t r → Becomes before d (after_hear (hearing c j s) r) after → AreInStep dir (ended d (carried_out d j s r l)) after
heard_in_step dir l before after d c j s t r x lt e f a b =
    let own : ControllerInStep l d (hearing c j s) = subst (ControllerInStep l d) e (x.each d) in
    let fit : Fits (hearing c j s) = subst Fits e (x.fits d) in
    let is = carried_is l d j s _ t r (hear_half l d c j s t r lt x.sound fit f a own) in
    let m : Account = carried_out d j s r l in
    let sound : IsSound m = carried_sound l m d lt x.sound is in
    let mid = hear_in_step l d c j s t r lt x.sound fit f a own in
    one_changed dir l (ended d m) before after d (after_hear (hearing c j s) r) x (ended_sound d m sound) b (heard_fits c j s r (answer_below l t r x.sound a) fit)
    (kept_in_step m (ended d m) d (after_hear (hearing c j s) r) sound fit.slots (ended_keeps d m) (ended_leaves d d m) (λ y. y) mid)
    (hear_goes_on dir (hearing c j s) r (subst (CanGoOn dir) e (x.goes_on d))) (update_here m.outstanding d None) (λ k ne. update_there m.outstanding d k None ne ∙ carried_outstanding l m d is k)
    (λ k ne. kept_in_step m (ended d m) k (before k) sound (x.fits k).slots (ended_keeps d m) (ended_leaves d k m) (λ y. y)
    (others_kept dir l m before d x (carried_keeps l m d is) (λ n nn. carried_leaves l m d n lt nn x.sound is) (λ runs. carried_reclaims l m d is ∙ runs) k ne))

leaves_self : (k : ℕ) (l : Account) → Leaves k l l
leaves_self k l = record { holding = λ h has. has; addressed = refl }

-- ---- each thing that happens, over the directory before it

turn_together : (dir new : Directory) (l m : Account) (before after : ℕ → ControllerState) (d now : ℕ) → AreInStep dir l before → TakesTurn d now dir new l before m after
    → SendsRequest d now dir l before m ⊎ SendsNothing d now dir l before m → AreInStep dir m after
turn_together dir new l m before after d now x t (inl says) =
    let turn = (turn_in_step l d now (before d) dir (x.each d) t.told (x.fits d) (x.goes_on d) t.heard).asks says.request says.outstanding in
    subst (λ y. AreInStep dir y after) (sym says.account) (turn_of dir l (asked d says.request l) before after d _ x (asked_sound d says.request l turn.0 x.sound) (asked_keeps d says.request l)
    (λ k ne. asked_leaves d k says.request l ne) (λ y. y) t.becomes (next_fits now dir (before d) (x.fits d)) turn.1
    (next_goes_on now dir (before d) (x.fits d) (x.goes_on d)) (update_here l.outstanding d (Some says.request) ∙ sym says.outstanding) (λ k ne. update_there l.outstanding d k (Some says.request) ne))
turn_together dir new l m before after d now x t (inr says) =
    subst (λ y. AreInStep dir y after) (sym says.account) (turn_of dir l l before after d _ x x.sound (keeps_self l) (λ k ne. leaves_self k l) (λ y. y) t.becomes
    (next_fits now dir (before d) (x.fits d)) ((turn_in_step l d now (before d) dir (x.each d) t.told (x.fits d) (x.goes_on d) t.heard).rests says.outstanding)
    (next_goes_on now dir (before d) (x.fits d) (x.goes_on d)) (x.requests d ∙ (heard_none dir (before d).current t.heard ∙ sym says.outstanding)) (λ k ne. refl))

answer_together : (dir new : Directory) (l m : Account) (before after : ℕ → ControllerState) (d : ℕ) (r : Reply) → AreInStep dir l before → HearsAnswer d r dir new l before m after
    → AreInStep dir m after
answer_together dir new l m before after d r x t =
    let hearing_is : before d ≡ hearing (before d) t.job t.stage = λ i. record (before d) { current = t.current i } in
    subst (λ y. AreInStep dir y after) (sym t.account) (heard_in_step dir l before after d (before d) t.job t.stage t.target r x t.device hearing_is t.asked t.answer
    (subst (λ y. Becomes before d (after_hear y r) after) hearing_is t.becomes))

given_together : (dir new : Directory) (l m : Account) (before after : ℕ → ControllerState) (d : ℕ) (c : ControllerState) → AreInStep dir l before → TakesJob d c dir new l before m after
    → AreInStep dir m after
given_together dir new l m before after d c x t =
    subst (λ y. AreInStep dir y after) (sym t.account) (turn_of dir l l before after d c x x.sound (keeps_self l) (λ k ne. leaves_self k l) (λ y. y) t.becomes
    (given_fits (before d) c (x.fits d) t.given) (given_in_step l d (before d) c (x.fits d) (x.each d) t.given)
    (given_goes_on dir (before d) c (x.fits d) t.given (x.goes_on d)) (x.requests d ∙ ap (outstanding_of dir) (sym (given_current (before d) c t.given))) (λ k ne. refl))

second_together : (dir new : Directory) (l m : Account) (before after : ℕ → ControllerState) → AreInStep dir l before → EndsSecond dir new l before m after → AreInStep dir m after
second_together dir new l m before after x t =
    subst (λ y. AreInStep dir y after) (sym t.account) (record {
      sound = second_ends l x.sound;
      fits = λ d. subst Fits (sym (t.each d)) (second_fits (before d) (x.fits d));
      each = λ d. subst (ControllerInStep (after_second l) d) (sym (t.each d)) (second_in_step l d (before d) x.sound (x.each d));
      goes_on = λ d. subst (CanGoOn dir) (sym (t.each d)) (second_goes_on dir (before d) (x.goes_on d));
      requests = λ d. x.requests d ∙ ap (λ (y : ControllerState). outstanding_of dir y.current) (sym (t.each d));
    })

death_together : (dir new : Directory) (l m : Account) (before after : ℕ → ControllerState) (d : ℕ) → AreInStep dir l before → Dies d dir new l before m after → AreInStep dir m after
death_together dir new l m before after d x t =
    subst (λ y. AreInStep dir y after) (sym t.account) (turn_of dir l (after_death d l) before after d first_state x (death_sound d l x.sound) (death_keeps d l) (λ k ne. death_leaves d k l ne)
    (λ y. y) t.becomes first_fits (first_in_step (after_death d l) d (dead_holds d l))
    (first_goes_on dir) (update_here l.outstanding d None) (λ k ne. update_there l.outstanding d k None ne))

withholding_together : (dir new : Directory) (l m : Account) (before after : ℕ → ControllerState) → AreInStep dir l before → Withholds dir new l before m after → AreInStep dir m after
withholding_together dir new l m before after x t =
    subst (λ y. AreInStep dir y after) (sym t.account) (record {
      sound = withholding_sound l t.first x.sound;
      fits = λ d. subst Fits (sym (t.each d)) (x.fits d);
      each = λ d. subst (ControllerInStep (after_withholding l) d) (sym (t.each d))
          (kept_in_step l (after_withholding l) d (before d) x.sound (x.fits d).slots (withholding_keeps l) (withholding_leaves d l) (λ y. y) (x.each d));
      goes_on = λ d. subst (CanGoOn dir) (sym (t.each d)) (x.goes_on d);
      requests = λ d. x.requests d ∙ ap (λ (y : ControllerState). outstanding_of dir y.current) (sym (t.each d));
    })

-- a reset, with which another directory may come
reset_together : (new dir : Directory) (l m : Account) (before after : ℕ → ControllerState) (r : ResetEntry) (epoch : ℕ) (lost : ℕ → Bool) → AreInStep dir l before
    → BusResets r epoch lost l before m after → AreInStep new m after
reset_together new dir l m before after r epoch lost x t =
    subst (λ y. AreInStep new y after) (sym t.account) (record {
      sound = reset_keeps r l t.network x.sound;
      fits = λ d. subst Fits (sym (t.each d)) (state_reset_fits epoch (lost d) (before d) (x.fits d));
      each = λ d. subst (ControllerInStep (after_reset r l) d) (sym (t.each d)) (reset_in_step r l d epoch (lost d) (before d) x.sound t.grows (x.fits d).slots (x.each d));
      goes_on = λ d. subst (CanGoOn new) (sym (t.each d)) (state_reset_goes_on new epoch (lost d) (before d));
      requests = λ d. sym (ap (λ (y : ControllerState). outstanding_of new y.current) (t.each d) ∙ reset_outstanding new epoch (lost d) (before d));
    })

-- the directory stays, except at a bus reset
pub stay_in_step : (dir new : Directory) (l m : Account) (before after : ℕ → ControllerState) → AreInStep dir l before → Happens dir new l before m after → AreInStep new m after
stay_in_step dir new l m before after x (half_step d now (turns t)) = subst (λ y. AreInStep y m after) (sym t.directory) (turn_together dir new l m before after d now x t t.says)
stay_in_step dir new l m before after x (half_step d now (hears r t)) = subst (λ y. AreInStep y m after) (sym t.directory) (answer_together dir new l m before after d r x t)
stay_in_step dir new l m before after x (given d c t) = subst (λ y. AreInStep y m after) (sym t.directory) (given_together dir new l m before after d c x t)
stay_in_step dir new l m before after x (second t) = subst (λ y. AreInStep y m after) (sym t.directory) (second_together dir new l m before after x t)
stay_in_step dir new l m before after x (dies d t) = subst (λ y. AreInStep y m after) (sym t.directory) (death_together dir new l m before after d x t)
stay_in_step dir new l m before after x (withholds t) = subst (λ y. AreInStep y m after) (sym t.directory) (withholding_together dir new l m before after x t)
stay_in_step dir new l m before after x (resets r epoch lost t) = reset_together new dir l m before after r epoch lost x t

-- ---- what each controller has

pub holds_all : (l : Account) (d : ℕ) (c : ControllerState) → ControllerInStep l d c → Holds l d (holding_of c)
holds_all l d c x = go c.current x.current
  where
    go : (current : Current) → CurrentInStep l d (record c { current = current }) current → Holds l d (holding_of (record c { current = current }))
    go Nothing y = record { reserved = y.reserved; outputs = λ kind q. y.outputs kind q ∙ omega arith; inputs = λ kind q. y.inputs kind q ∙ omega arith }
    go (Asking j s) y = y.step.holds
    go (Hearing j s) y = y.step.holds
    go (Overtaken i o) y = record { reserved = y.reserved; outputs = λ kind q. y.outputs kind q ∙ omega arith; inputs = λ kind q. y.inputs kind q ∙ omega arith }

-- ---- settled

-- a controller with no current job has no Pending allocation
no_pending : (l : Account) (d : ℕ) (c : ControllerState) → ControllerInStep l d c → c.current ≡ Nothing → HasNoPending d l.allocations
no_pending l d c x e = (subst (CurrentInStep l d c) e x.current).reserved

pub settled : (dir : Directory) (l : Account) (controllers : ℕ → ControllerState) → AreInStep dir l controllers → AreSettled l controllers → IsAllocatedForFlows l
settled dir l controllers x is = (flows_alone l x.sound).0 (λ d. no_pending l d (controllers d) (x.each d) (is.idle d))

-- a connection that stands, and is not being broken
stands_at : (l : Account) (b : Bool) (conn : Connection) (f : Flow) → b ≡ false → SlotInStep l b (Established conn f) → StandsAt l conn f
stands_at l true conn f e x = absurd (grind arith)
stands_at l false conn f e x = x

pub whole : (l : Account) (d : ℕ) (c : ControllerState) (i : ℕ) (conn : Connection) (f : Flow) → Fits c → ControllerInStep l d c → slot_at c i ≡ Established conn f
    → is_current_slot c.current i ≡ false
    → IsWhole l d conn f
whole l d c i conn f fits x at other =
    let says : StandsAt l conn f = stands_at l (is_current_slot c.current i) conn f other (subst (SlotInStep l (is_current_slot c.current i)) at (x.slots i)) in
    record {
      output = λ p e. (output_there l d c i conn f p fits.slots x.current at other e, says.output p e);
      input = λ q e. (input_there l d c i conn f q fits.slots x.current at other e, says.input q e);
    }

-- ---- the first state

nothing_at_first : (d : ℕ) → Holds no_account d no_holding
nothing_at_first d = record { reserved = λ ch. refl; outputs = λ kind q. none kind; inputs = λ kind q. none kind }
  where
    none : (kind : ConnectionKind) → connections_of d kind no_connections ≡ 0
    none PointToPoint = refl
    none Broadcast = refl

pub first_step : (dir : Directory) → AreInStep dir no_account (λ d. first_state)
first_step dir = record { sound = starts_sound; fits = λ d. first_fits; goes_on = λ d. first_goes_on dir; requests = λ d. refl; each = λ d. first_in_step no_account d (nothing_at_first d) }

-- ---- what they rest on

pub goes_on : (dir : Directory) (l : Account) (controllers : ℕ → ControllerState) (d : ℕ) → AreInStep dir l controllers → CanGoOn dir (controllers d)
goes_on dir l controllers d x = x.goes_on d

pub restoring : (l : Account) (d : ℕ) (c : ControllerState) (i : ℕ) (conn : Connection) (f : Flow) (p : PlugAt) → ControllerInStep l d c → slot_at c i ≡ Restoring conn f false
    → output_of conn ≡ Some p → (l.reclaiming ≡ true) × (l.reclaimable f.channel ≡ Some (record { plug = p; units = f.units }))
restoring l d c i conn f p x at e = let says : IsToRestore l conn f false = subst (SlotInStep l (is_current_slot c.current i)) at (x.slots i) in says.listed p e refl
