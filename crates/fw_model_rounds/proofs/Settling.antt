-- Half steps over the account, with all controllers in step, are half steps over its registers; so rounds restore all.
use Rattle.fw_model_rounds.proofs.Common.{◌≡◌, ◌≢◌, ℕ, ◌+◌, ◌<◌, ◌≤◌, Bool, true, false, Option, Some, None, List, [], ◌∷◌, refl, ap, sym, subst, ◌∙◌, ◌⊎◌, inl, inr, cond, cases_eq, PlugAt, Account}
use Rattle.fw_model_rounds.proofs.Common.{Connection, Flow, Slot, Restoring, Current, Hearing, Directory, Job, Target, Stage, ControllerState, slot_at, is_restoring, CurrentFits, target_of, swap_of}
use Rattle.fw_model_rounds.proofs.Common.{words_of, has_begun, CurrentRestores, AccountSays, TakeHalfSteps, IsRound, AllRestore}
use Rattle.std.proofs.Common.{◌*◌}
use Rattle.std.proofs.Math.Path.{fun_ext}
use Rattle.fw_csr.specs.declared.reply.Reply.{Reply}
use Rattle.fw_model_account.specs.Account.{Request}
use Rattle.fw_model_account.specs.Moves.{Move, DisconnectOutput, after}
use Rattle.fw_model_account.specs.Network.{is_input}
use Rattle.fw_model_account.specs.Packets.{asked, ended}
use Rattle.fw_cmp_jobs.specs.declared.request.Target.TheVariants as target
use Rattle.fw_cmp_jobs.specs.Connections.{input_of}
use Rattle.fw_cmp.specs.Controllers.{RunsFitting}
use Rattle.fw_cmp.specs.Holdings.{is_current_slot}
use Rattle.fw_model_controllers.specs.Controllers.{CurrentInStep, JobInStep, SlotInStep, IsToRestore}
use Rattle.fw_model_controllers.specs.Moves.{carried_out, after_move, move_of}
use Rattle.fw_model_controllers.specs.Registers.{succeeds}
use Rattle.fw_model_controllers.specs.Together.{SendsRequest, SendsNothing, TakesHalfStep, turns, hears, half_step}
use Rattle.fw_model_controllers.proofs.Together.{stay_in_step}
use Rattle.fw_model_rounds.specs.Accounts.{OnlyLiving, situation_of, Hears}
use Rattle.fw_model_rounds.specs.Rounds.{HalfStep, rounds, AllReset, NoneToRestore, connections_to_restore}
use Rattle.fw_model_rounds.specs.Settling.{Settles, CanSettle}
use Rattle.fw_model_rounds.proofs.Carried.{answer_is_half_step, next_is_half_step}
use Rattle.fw_model_rounds.proofs.Enough.{enough_after_reset, all_restore_after_reset}
use Rattle.fw_model_rounds.proofs.Knows.{account_says}
use Rattle.fw_model_rounds.proofs.Living.{living_after}
use Rattle.fw_model_rounds.proofs.RegistersStand.{IsThere, register_stands}
use Rattle.fw_model_rounds.proofs.Rounds.{all_restore}
use Rattle.fw_model_rounds.proofs.SlotsStay.{SlotsStay, turn_stays}
use Rattle.fw_model_rounds.proofs.Controllers.{Owns, owns}

-- ---- what a half step leaves of the account

pub record Stays (l n : Account) : Type 0 where
  pub latest : n.latest ≡ l.latest
  pub reclaiming : n.reclaiming ≡ l.reclaiming
  pub living : OnlyLiving l.allocations → OnlyLiving n.allocations

moved_stays : (k : ℕ) (p : PlugAt) (m : Move) (l : Account) → k < 63 → Stays l (after k p m l)
moved_stays k p m l lt = record { latest = same m; reclaiming = goes_on m; living = living_after k p m l lt }
  where
    same : (m : Move) → (after k p m l).latest ≡ l.latest
    same (DisconnectOutput kind) = refl
    same m = refl

    goes_on : (m : Move) → (after k p m l).reclaiming ≡ l.reclaiming
    goes_on (DisconnectOutput kind) = refl
    goes_on m = refl

stays_same : (l : Account) → Stays l l
stays_same l = record { latest = refl; reclaiming = refl; living = λ a. a }

carried_stays : (k : ℕ) (j : Job) (s : Stage) (r : Reply) (l : Account) → k < 63 → Stays l (carried_out k j s r l)
carried_stays k j s r l lt = go (succeeds (swap_of j s) r)
  where
    moved : (o : Option (PlugAt × Move)) → Stays l (after_move k o l)
    moved None = stays_same l
    moved (Some m) = moved_stays k m.0 m.1 l lt

    go : (b : Bool) → Stays l (cond b (after_move k (move_of j s) l) l)
    go true = moved (move_of j s)
    go false = stays_same l

turn_stays_account : (now : ℕ) (dir : Directory) (k : ℕ) (l n : Account) (at mid : ℕ → ControllerState) → k < 63 → TakesHalfStep k now dir dir l at n mid → Stays l n
turn_stays_account now dir k l n at mid lt (turns t) = go t.says
  where
    go : SendsRequest k now dir l at n ⊎ SendsNothing k now dir l at n → Stays l n
    go (inl says) = subst (λ (x : Account). Stays l x) (sym says.account) (record { latest = refl; reclaiming = refl; living = λ a. a })
    go (inr says) = subst (λ (x : Account). Stays l x) (sym says.account) (stays_same l)
turn_stays_account now dir k l n at mid lt (hears r t) =
    let stay = carried_stays k t.job t.stage r l lt in
    subst (λ (x : Account). Stays l x) (sym t.account) (record { latest = stay.latest; reclaiming = stay.reclaiming; living = stay.living })

-- ---- the words of the registers

words_asked : (k : ℕ) (request : Request) (l : Account) → words_of (asked k request l) ≡ words_of l
words_asked k request l = fun_ext go
  where
    go : (t : Target) → words_of (asked k request l) t ≡ words_of l t
    go (target.OutputPlug p) = refl
    go (target.InputPlug p) = refl
    go (target.Channels base) = refl
    go target.BandwidthAvailable = refl

words_ended : (k : ℕ) (l : Account) → words_of (ended k l) ≡ words_of l
words_ended k l = fun_ext go
  where
    go : (t : Target) → words_of (ended k l) t ≡ words_of l t
    go (target.OutputPlug p) = refl
    go (target.InputPlug p) = refl
    go (target.Channels base) = refl
    go target.BandwidthAvailable = refl

-- ---- a half step

pub record Goes (dir : Directory) (l : Account) (at : ℕ → ControllerState) : Type 0 where
  pub can : CanSettle dir l at
  pub restore : AllRestore (situation_of l at)

-- the slot that a job restores is in step
restored_there : (dir : Directory) (l : Account) (at : ℕ → ControllerState) (k : ℕ) (j : Job) (s : Stage) → CanSettle dir l at → (o : Owns (slot_at (at k) j.slot) j s) → has_begun s ≡ true
    → IsThere l j.connection
restored_there dir l at k j s can o begun = subst (λ (x : Connection). IsThere l x) (sym (ap (λ (x : Job). x.connection) o.job))
    (record { output = place.found; input = λ q e. can.inputs k j.slot o.connection o.flow q (o.is ∙ ap (λ (b : Bool). Restoring o.connection o.flow b) (o.own begun)) e })
  where
    place : IsToRestore l o.connection o.flow o.over
    place = subst (λ (x : Slot). SlotInStep l (is_current_slot (at k).current j.slot) x) o.is ((can.step.each k).slots j.slot)

hears_there : (dir : Directory) (l : Account) (at : ℕ → ControllerState) (k : ℕ) (j : Job) (s : Stage) (t : Target) → Goes dir l at → k < 63 → (at k).current ≡ Hearing j s → target_of j s ≡ Some t
    → Hears l (at k) j s t
hears_there dir l at k j s t g lt c q = record { current = c; target = q; stands = register_stands l j s t (restored_there dir l at k j s g.can own restores.0) step.step.manager fits.stage q }
  where
    step : JobInStep l k (at k) j s true
    step = subst (λ (x : Current). CurrentInStep l k (at k) x) c (g.can.step.each k).current

    fits : RunsFitting (at k) j s
    fits = subst (λ (x : Current). CurrentFits (at k) x) c (g.can.step.fits k).current

    restores : CurrentRestores (at k) (Hearing j s)
    restores = subst (λ (x : Current). CurrentRestores (at k) x) c (g.restore k lt).current

    own : Owns (slot_at (at k) j.slot) j s
    own = owns (slot_at (at k) j.slot) j s restores.1

turn_is : (now : ℕ) (dir : Directory) (k : ℕ) (l n : Account) (at mid : ℕ → ControllerState) → Goes dir l at → k < 63 → TakesHalfStep k now dir dir l at n mid
    → HalfStep now dir k (situation_of l at) (situation_of n mid)
turn_is now dir k l n at mid g lt (turns t) = next_is_half_step now dir k l n at mid t.heard (words t.says) t.becomes
  where
    words : SendsRequest k now dir l at n ⊎ SendsNothing k now dir l at n → words_of n ≡ words_of l
    words (inl says) = ap words_of says.account ∙ words_asked k says.request l
    words (inr says) = ap words_of says.account
turn_is now dir k l n at mid g lt (hears r t) =
    answer_is_half_step now dir k l n at mid t.job t.stage t.target r (hears_there dir l at k t.job t.stage t.target g lt t.current t.asked) t.answer
    (ap words_of t.account ∙ words_ended k (carried_out k t.job t.stage r l)) t.becomes

-- each slot that is to be restored was so before
slots_were : (now : ℕ) (dir : Directory) (k : ℕ) (l n : Account) (at mid : ℕ → ControllerState) → now < dir.over_at → AllRestore (situation_of l at) → k < 63
    → HalfStep now dir k (situation_of l at) (situation_of n mid) → (e : ℕ) → SlotsStay (at e) (mid e)
slots_were now dir k l n at mid early r lt h e = go (cases_eq e k)
  where
    go : (e ≡ k) ⊎ (e ≢ k) → SlotsStay (at e) (mid e)
    go (inl same) = subst (λ (x : ℕ). SlotsStay (at x) (mid x)) (sym same)
        (subst (λ (x : ControllerState). SlotsStay (at k) x) (sym h.own) (turn_stays (words_of l) now dir (at k) (at k).current early (r k lt).no_break))
    go (inr ne) = subst (λ (x : ControllerState). SlotsStay (at e) x) (sym (h.others e ne)) (λ i is. refl)

goes_on : (now : ℕ) (dir : Directory) (k : ℕ) (l n : Account) (at mid : ℕ → ControllerState) → now < dir.over_at → Goes dir l at → k < 63 → TakesHalfStep k now dir dir l at n mid → Goes dir n mid
goes_on now dir k l n at mid early g lt t = record {
  can = record {
    step = stay_in_step dir dir l n at mid g.can.step (half_step k now t);
    second = kept.reclaiming ∙ g.can.second;
    living = kept.living g.can.living;
    inputs = inputs;
  };
  restore = all_restore now dir k (situation_of l at) (situation_of n mid) early g.restore lt (turn_is now dir k l n at mid g lt t);
}
  where
    kept : Stays l n
    kept = turn_stays_account now dir k l n at mid lt t

    were : (e : ℕ) → SlotsStay (at e) (mid e)
    were = slots_were now dir k l n at mid early g.restore lt (turn_is now dir k l n at mid g lt t)

    inputs : (e i : ℕ) (conn : Connection) (f : Flow) (q : PlugAt) → slot_at (mid e) i ≡ Restoring conn f false → input_of conn ≡ Some q → is_input n.latest q ≡ true
    inputs e i conn f q is input = ap (λ x. is_input x q) kept.latest ∙ g.can.inputs e i conn f q (sym (were e i (ap is_restoring is)) ∙ is) input

-- ---- many half steps

pub settles_turns : (now : ℕ) (dir : Directory) (ks : List ℕ) (l m : Account) (at end : ℕ → ControllerState) → now < dir.over_at → Goes dir l at → Settles now dir ks l at m end
    → TakeHalfSteps now dir ks (situation_of l at) (situation_of m end)
unfolding Settles TakeHalfSteps
settles_turns now dir [] l m at end early g h = ap (λ (x : Account). situation_of x at) h.0 ∙ ap (λ (x : ℕ → ControllerState). situation_of m x) h.1
settles_turns now dir (k ∷ ks) l m at end early g h =
    let rest = h.1 in
    let turn = turn_is now dir k l rest.0 at rest.1 g h.0 rest.2 in
    let next = goes_on now dir k l rest.0 at rest.1 early g h.0 rest.2 in
    (h.0, says, (situation_of rest.0 rest.1, turn, settles_turns now dir ks rest.0 m rest.1 end early next rest.3))
  where
    says : AccountSays (situation_of l at)
    says = account_says l (situation_of l at) (record {
      sound = g.can.step.sound;
      second = g.can.second;
      living = g.can.living;
      words = refl;
      fits = λ e lt. g.can.step.fits e;
      in_step = λ e lt. g.can.step.each e;
    })

pub settle_restores : (n now : ℕ) (dir : Directory) (ks : List ℕ) (l m : Account) (at end : ℕ → ControllerState) → now < dir.over_at → CanSettle dir l at → AllReset (situation_of l at)
    → IsRound ks (situation_of l at) → 64 * (connections_to_restore (situation_of l at) + 1) ≤ n → Settles now dir (rounds n ks) l at m end → NoneToRestore (situation_of m end)
settle_restores n now dir ks l m at end early can reset round le h =
    let g : Goes dir l at = record { can = can; restore = all_restore_after_reset (situation_of l at) reset } in
    enough_after_reset n now dir ks (situation_of l at) (situation_of m end) early reset round le (settles_turns now dir (rounds n ks) l m at end early g h)
