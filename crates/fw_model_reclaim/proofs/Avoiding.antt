-- No controller comes to a channel that the bus withholds, and no input plug is connected on it, whatever happens.
use Rattle.fw_model_reclaim.proofs.Common.{◌≡◌, ◌≢◌, ◌⊎◌, inl, inr, ℕ, Bool, true, false, Some, refl, sym, ap, subst, ◌∙◌, Ok, cases_eq, PlugAt, Reply, Account, has_connection, account_reset}
use Rattle.fw_model_reclaim.proofs.Common.{Directory, ControllerState, first_state, after_hear, started, break_started, after_next, Becomes, Carries, Unchanged, Moved, World, CanReclaim, Change, Turn}
use Rattle.fw_model_reclaim.proofs.Common.{Answer, BusReset, SecondOver, Death, NewConnection, BreakOf, Withholding, Elsewhere, Happens}
use Rattle.std.proofs.Common.{true≢false}
use Rattle.fw_model_account.specs.Account.{is_withheld}
use Rattle.fw_model_account.specs.Events.{after_death, after_withholding}
use Rattle.fw_model_account.specs.Fold.{no_account}
use Rattle.fw_model_account.proofs.Deaths.{orphaned_has}
use Rattle.fw_model_account.proofs.Resets.{no_connection_at_first}
use Rattle.fw_model_controllers.specs.Moves.{move_of}
use Rattle.fw_model_reclaim.specs.Avoids.{StageAvoids, CurrentAvoids, Avoids, AvoidsWithheld, AsksElsewhere}
use Rattle.fw_model_reclaim.specs.Worlds.{SendsRequest, SendsNothing, TakesTurn, HearsAnswer}
use Rattle.fw_model_reclaim.proofs.AvoidsTurns.{turn_avoids, heard_avoids, reset_avoids, second_avoids, first_avoids, new_avoids, break_avoids}
use Rattle.fw_model_reclaim.proofs.Living.{carried, answer_carries, facts_in}
use Rattle.fw_model_reclaim.proofs.WithheldChannels.{not_last, InputsAvoid, answer_away, joined, join_away, moved_inputs, moved_withheld}

-- ---- one controller changes, or all of them

-- what is withheld stays
abbrev Same : World → World → Type 0
Same w v = v.account.withheld ≡ w.account.withheld

one_avoids : (w v : World) (c : ℕ) (x : ControllerState) → Becomes w.controllers c x v.controllers → Same w v → ((ch : ℕ) → is_withheld w.account.withheld ch ≡ true → Avoids ch x) → AvoidsWithheld w
    → (ch : ℕ) → is_withheld v.account.withheld ch ≡ true → (e : ℕ) → Avoids ch (v.controllers e)
one_avoids w v c x b same own h ch withheld e = go (cases_eq e c)
  where
    before : is_withheld w.account.withheld ch ≡ true
    before = ap (λ y. is_withheld y ch) (sym same) ∙ withheld

    go : (e ≡ c) ⊎ (e ≢ c) → Avoids ch (v.controllers e)
    go (inl is) = subst (Avoids ch) (sym (ap v.controllers is ∙ b.new)) (own ch before)
    go (inr ne) = subst (Avoids ch) (sym (b.others e ne)) (h.controllers ch before e)

all_avoid : (w v : World) (f : ℕ → ControllerState) → ((e : ℕ) → v.controllers e ≡ f e) → Same w v → ((ch e : ℕ) → is_withheld w.account.withheld ch ≡ true → Avoids ch (f e))
    → (ch : ℕ) → is_withheld v.account.withheld ch ≡ true → (e : ℕ) → Avoids ch (v.controllers e)
all_avoid w v f each same own ch withheld e = subst (Avoids ch) (sym (each e)) (own ch e (ap (λ y. is_withheld y ch) (sym same) ∙ withheld))

-- ---- each change

turn_away : (w v : World) (c now : ℕ) → TakesTurn w c now v → AvoidsWithheld w → AvoidsWithheld v
turn_away w v c now t h = record {
  controllers = one_avoids w v c (after_next now w.directory (w.controllers c)) t.turn.becomes (go t.turn.says).0
      (λ ch withheld. turn_avoids ch now w.directory (w.controllers c) (not_last w.account.withheld ch withheld) (h.controllers ch withheld c)) h;
  inputs = (go t.turn.says).1;
}
  where
    go : SendsRequest w c now v.account ⊎ SendsNothing w c now v.account → Same w v × InputsAvoid v.account
    go (inl x) = (ap (λ (a : Account). a.withheld) x.account, subst InputsAvoid (sym x.account) h.inputs)
    go (inr x) = (ap (λ (a : Account). a.withheld) x.account, subst InputsAvoid (sym x.account) h.inputs)

answer_avoids : (w v : World) (c : ℕ) (r : Reply) → CanReclaim w → HearsAnswer w c r v → AvoidsWithheld w → AvoidsWithheld v
answer_avoids w v c r can t h = record {
  controllers = one_avoids w v c (after_hear (w.controllers c) r) t.becomes (ap (λ (a : Account). a.withheld) t.account ∙ (go (answer_carries w v c r can t)).0) own h;
  inputs = subst InputsAvoid (sym t.account) (go (answer_carries w v c r can t)).1;
}
  where
    stage : (ch : ℕ) → is_withheld w.account.withheld ch ≡ true → StageAvoids ch t.stage
    stage ch withheld = (subst (CurrentAvoids ch) t.current (h.controllers ch withheld c).current).1

    own : (ch : ℕ) → is_withheld w.account.withheld ch ≡ true → Avoids ch (after_hear (w.controllers c) r)
    own ch withheld = heard_avoids ch (w.controllers c) t.job t.stage r t.current ((facts_in w c can).stage t.job t.stage (inr t.current))
        (answer_away w.account ch t.job t.stage t.target r can.step.sound h.inputs withheld t.asked t.answer) (h.controllers ch withheld c)

    -- the channel on which an input plug is joined is not withheld
    joins : (k : ℕ) → joined (move_of t.job t.stage) ≡ Some k → is_withheld w.account.withheld k ≡ false
    joins k e = by (is_withheld w.account.withheld k) refl
      where
        by : (b : Bool) → is_withheld w.account.withheld k ≡ b → b ≡ false
        by false x = refl
        by true x = absurd (join_away k k t.job t.stage (stage k x) e refl)

    go : Carries w.account c t.job t.stage (carried w c r v t) → ((carried w c r v t).withheld ≡ w.account.withheld) × InputsAvoid (carried w c r v t)
    go (Unchanged e) = (ap (λ (a : Account). a.withheld) e, subst InputsAvoid (sym e) h.inputs)
    go (Moved p m is may e) = (
      ap (λ (a : Account). a.withheld) e ∙ moved_withheld c p m w.account,
      subst InputsAvoid (sym e) (moved_inputs c p m w.account t.device may (λ k at. joins k (ap joined is ∙ at)) h.inputs),
    )

death_inputs : (w : World) (c : ℕ) → CanReclaim w → InputsAvoid w.account → InputsAvoid (after_death c w.account)
death_inputs w c can h = λ q has. h q (sym (orphaned_has c (w.account.inputs q) (λ d le. (can.step.sound.controllers q d le).1)) ∙ has)

-- no plug is connected right after a bus reset, and before the first one
reset_inputs : (w : World) (v : World) (a : Account) → v.account ≡ a → ((q : PlugAt) → has_connection (a.inputs q) ≡ false) → InputsAvoid v.account
reset_inputs w v a is none = subst InputsAvoid (sym is) (λ q has. absurd (true≢false (sym has ∙ none q)))

-- before the first device there is nothing
pub first_avoided : (d : Directory) → AvoidsWithheld (record { account = no_account; controllers = λ c. first_state; directory = d })
first_avoided d = record { controllers = λ ch withheld c. first_avoids ch; inputs = λ q has. absurd (true≢false (sym has ∙ no_connection_at_first)) }

pub avoids_after : (w v : World) (x : Change) → CanReclaim w → AsksElsewhere w x → Happens w x v → AvoidsWithheld w → AvoidsWithheld v
avoids_after w v (Turn c now) can ok t h = turn_away w v c now t h
avoids_after w v (Answer c r) can ok t h = answer_avoids w v c r can t h
avoids_after w v (BusReset entry epoch lost) can ok t h = record {
  controllers = all_avoid w v _ t.each (ap (λ (a : Account). a.withheld) t.account) (λ ch e withheld. reset_avoids ch epoch (lost e) (w.controllers e) (h.controllers ch withheld e));
  inputs = reset_inputs w v (account_reset entry w.account) t.account (λ q. no_connection_at_first);
}
avoids_after w v SecondOver can ok t h = record {
  controllers = all_avoid w v _ t.each (ap (λ (a : Account). a.withheld) t.account) (λ ch e withheld. second_avoids ch (w.controllers e) (h.controllers ch withheld e));
  inputs = subst InputsAvoid (sym t.account) h.inputs;
}
avoids_after w v (Death c) can ok t h = record {
  controllers = one_avoids w v c first_state t.becomes (ap (λ (a : Account). a.withheld) t.account) (λ ch withheld. first_avoids ch) h;
  inputs = subst InputsAvoid (sym t.account) (death_inputs w c can h.inputs);
}
avoids_after w v (NewConnection c i slot) can ok t h = record {
  controllers = one_avoids w v c (started (Ok i) slot (w.controllers c)) t.becomes (ap (λ (a : Account). a.withheld) t.account)
      (λ ch withheld. new_avoids ch (w.controllers c) i slot (ok ch withheld) (h.controllers ch withheld c)) h;
  inputs = subst InputsAvoid (sym t.account) h.inputs;
}
avoids_after w v (BreakOf c i) can ok t h = record {
  controllers = one_avoids w v c (break_started (w.controllers c) i) t.becomes (ap (λ (a : Account). a.withheld) t.account)
      (λ ch withheld. break_avoids ch (w.controllers c) i (h.controllers ch withheld c)) h;
  inputs = subst InputsAvoid (sym t.account) h.inputs;
}
avoids_after w v Withholding can ok t h = record {
  controllers = λ ch withheld e. subst (Avoids ch) (sym (t.each e ∙ t.unused e)) (first_avoids ch);
  inputs = reset_inputs w v (after_withholding w.account) t.account (can.step.sound.begins t.first).inputs;
}
avoids_after w v Elsewhere can ok t h = subst AvoidsWithheld (sym t) h

-- ---- what is withheld stays so

same_on : (w v : World) → Same w v → w.account.withheld ≡ true → v.account.withheld ≡ true
same_on w v same on = same ∙ on

pub stays_withheld : (w v : World) (x : Change) → CanReclaim w → Happens w x v → w.account.withheld ≡ true → v.account.withheld ≡ true
stays_withheld w v (Turn c now) can t on = go t.turn.says
  where
    go : SendsRequest w c now v.account ⊎ SendsNothing w c now v.account → v.account.withheld ≡ true
    go (inl x) = same_on w v (ap (λ (a : Account). a.withheld) x.account) on
    go (inr x) = same_on w v (ap (λ (a : Account). a.withheld) x.account) on
stays_withheld w v (Answer c r) can t on = same_on w v (ap (λ (a : Account). a.withheld) t.account ∙ go (answer_carries w v c r can t)) on
  where
    go : Carries w.account c t.job t.stage (carried w c r v t) → (carried w c r v t).withheld ≡ w.account.withheld
    go (Unchanged e) = ap (λ (a : Account). a.withheld) e
    go (Moved p m is may e) = ap (λ (a : Account). a.withheld) e ∙ moved_withheld c p m w.account
stays_withheld w v (BusReset entry epoch lost) can t on = same_on w v (ap (λ (a : Account). a.withheld) t.account) on
stays_withheld w v SecondOver can t on = same_on w v (ap (λ (a : Account). a.withheld) t.account) on
stays_withheld w v (Death c) can t on = same_on w v (ap (λ (a : Account). a.withheld) t.account) on
stays_withheld w v (NewConnection c i slot) can t on = same_on w v (ap (λ (a : Account). a.withheld) t.account) on
stays_withheld w v (BreakOf c i) can t on = same_on w v (ap (λ (a : Account). a.withheld) t.account) on
stays_withheld w v Withholding can t on = ap (λ (a : Account). a.withheld) t.account
stays_withheld w v Elsewhere can t on = same_on w v (ap (λ (x : World). x.account.withheld) t) on
