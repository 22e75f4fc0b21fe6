-- Before the first device channel 31 may be withheld, which leads from a good state to a good state.
use Rattle.fw_model_run.proofs.Common.{◌≡◌, ℕ, ◌&&◌, not, cond, List, [], length, Bool, true, false, Option, Some, None, is_some, unwrap_or, refl, ap, sym, subst, arith, IsTrue, nat_tests, ResetEntry}
use Rattle.fw_model_run.proofs.Common.{Account, next_account, new_controller, goes_on_reclaiming, Wanted, PlugToPlug, BroadcastOut}
use Rattle.fw_model_run.proofs.Common.{BroadcastIn, slot_of, withheld, State, entered, linked_number, IsGood}
use Rattle.fw_model_run.proofs.Common.{IsLatest, world_of}
use Rattle.fw_model_account.specs.Account.{is_withheld}
use Rattle.fw_model_account.specs.Events.{after_withholding}
use Rattle.fw_model_reclaim.specs.Avoids.{SlotAvoids}
use Rattle.fw_model_reclaim.specs.Worlds.{Withholds, Withholding}

-- ---- the account

-- if no device is declared, there was no bus reset yet
pub none_before : (s : State) → IsGood s → s.declared.names ≡ [] → s.account.latest ≡ None
none_before s g empty = go s.account.latest refl g.latest
  where
    go : (o : Option ResetEntry) → s.account.latest ≡ o → IsLatest o s.declared s.account → s.account.latest ≡ None
    go None is h = is
    go (Some e) is h = let some = h.0 in absurd (omega (arith, some, ap (λ (xs : List (List ℕ)). length xs) empty))

pub withheld_next : (l : Account) → l.latest ≡ None → next_account l withheld ≡ Some (after_withholding l)
withheld_next l none = ap (λ o. cond (is_some o) None (Some (after_withholding l))) none

pub withholding_is : (l : Account) → l.latest ≡ None → entered l withheld ≡ after_withholding l
withholding_is l none = ap (λ o. unwrap_or o l) (withheld_next l none)

-- what withholding leaves, the event leaves
pub withholding_keeps : {A : Type 0} (f : Account → A) (l : Account) → f (after_withholding l) ≡ f l → f (entered l withheld) ≡ f l
withholding_keeps f l same = go (is_some l.latest)
  where
    go : (b : Bool) → f (unwrap_or (cond b None (Some (after_withholding l))) l) ≡ f l
    go true = refl
    go false = same

-- ---- the state

-- no controller has done anything yet
unused_before : (s : State) → IsGood s → s.declared.names ≡ [] → (d : ℕ) → s.controllers d ≡ new_controller
unused_before s g empty d = g.unused d (ap (λ o. is_some (linked_number o d) && not (s.dead d)) (none_before s g empty))

pub withholds_is : (s : State) → IsGood s → s.declared.names ≡ [] → Withholds (world_of s) (world_of (record s { account = after_withholding s.account }))
withholds_is s g empty = record { first = none_before s g empty; unused = unused_before s g empty; account = refl; each = λ c. refl; directory = refl }

withholding_good : (s : State) → IsGood s → s.declared.names ≡ [] → IsGood (record s { account = after_withholding s.account })
withholding_good s g empty = record {
  declared = g.declared;
  latest = latest_ s.account.latest g.latest;
  reclaims = goes_on_reclaiming (world_of s) (world_of (record s { account = after_withholding s.account })) Withholding g.reclaims (withholds_is s g empty);
  stands = g.stands;
  unused = g.unused;
  time = g.time;
  losses = record { asks = g.losses.asks; counted = g.losses.counted; came = g.losses.came; few = g.losses.few };
  half_steps = g.half_steps;
  written = g.written;
  decks = g.decks;
  streams = g.streams;
}
  where
    latest_ : (o : Option ResetEntry) → IsLatest o s.declared s.account
        → IsLatest o (record s { account = after_withholding s.account }).declared (record s { account = after_withholding s.account }).account
    latest_ None h = (h.0, ap after_withholding h.1)
    latest_ (Some e) h = h

pub withhold_good : (s : State) → IsGood s → s.declared.names ≡ [] → IsGood (record s { account = entered s.account withheld })
withhold_good s g empty = subst (λ l. IsGood (record s { account = l })) (sym (withholding_is s.account (none_before s g empty))) (withholding_good s g empty)

-- ---- what a command asks a controller for

withheld_is : (b : Bool) (ch : ℕ) → is_withheld b ch ≡ true → ch ≡ 31
withheld_is true ch e = grind (arith, nat_tests)
withheld_is false ch e = grind arith

-- a controller listens on channel 63, if it is asked to
pub slot_avoids : (b : Bool) (ch : ℕ) (w : Wanted) → IsTrue (is_withheld b ch) → SlotAvoids ch (slot_of w)
slot_avoids b ch (PlugToPlug out into channel overhead) withheld = λ listens. absurd (grind (arith, listens))
slot_avoids b ch (BroadcastOut out overhead) withheld = λ listens. absurd (grind (arith, listens))
slot_avoids b ch (BroadcastIn into) withheld = λ listens same. let is = withheld_is b ch withheld in omega (arith, is, same)
