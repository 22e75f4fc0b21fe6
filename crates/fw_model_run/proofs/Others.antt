-- A controller that starts, what the script asks, and entries that change nothing lead from a good state to a good state.
use Rattle.fw_model_run.proofs.Common.{◌≡◌, ◌≢◌, ◌⊎◌, inl, inr, ℕ, ◌&&◌, not, true, false, Bool, Option}
use Rattle.fw_model_run.proofs.Common.{ap, sym, subst, ◌∙◌, arith, IsTrue, IsFalse, cases_eq, update, EndEntry}
use Rattle.fw_model_run.proofs.Common.{new_controller, AsksWhatStands, Transaction, State, entered, is_linked, is_living, directory_of, after_start, IsGood}
use Rattle.std.proofs.Math.Path.{fun_ext}
use Rattle.fw_model_reclaim.specs.Worlds.{CanReclaim}
use Rattle.fw_model_run.specs.Entries.{unsettled, lost}
use Rattle.fw_model_run.proofs.Turns.{each_of, update_new, update_others, new_losses}

-- ---- entries that change nothing

pub unsettled_good : (s : State) → IsGood s → IsGood (record s { account = entered s.account unsettled })
unsettled_good s g = g

pub finish_good : (s : State) → IsGood s → IsGood (record s { account = entered s.account EndEntry })
finish_good s g = g

pub told_good : (s : State) (d : ℕ) → IsGood s → IsGood (record s { account = entered s.account (lost d) })
told_good s d g = g

-- ---- transactions of the script

pub transaction_good : (s : State) (x : Option Transaction) (id : ℕ) → IsGood s → IsGood (record s { transaction = x; bus_manager_id = id })
transaction_good s x id g = record {
  declared = g.declared;
  latest = g.latest;
  reclaims = g.reclaims;
  stands = g.stands;
  unused = g.unused;
  time = g.time;
  losses = g.losses;
  half_steps = g.half_steps;
  written = g.written;
  decks = g.decks;
  streams = g.streams;
}

-- ---- a controller that starts

-- that of a dead one has just started already
pub same_table : {A : Type 0} → (f : ℕ → A) (d : ℕ) (x : A) → f d ≡ x → update f d x ≡ f
same_table f d x e = fun_ext (λ k. go k (cases_eq k d))
  where
    go : (k : ℕ) → (k ≡ d) ⊎ (k ≢ d) → update f d x k ≡ f k
    go k (inl same) = ap (update f d x) same ∙ (update_new f d x ∙ (sym e ∙ ap f (sym same)))
    go k (inr ne) = update_others f d x k ne

pub start_good : (s : State) (d : ℕ) → IsGood s → IsTrue (s.dead d) → IsGood (after_start s d)
start_good s d g dead = record {
  declared = g.declared;
  latest = g.latest;
  reclaims = subst (λ f. CanReclaim (record { account = s.account; controllers = f; directory = directory_of s })) (sym same) g.reclaims;
  stands = each_of (λ c. AsksWhatStands c.current) s.controllers d new_controller tt g.stands;
  unused = λ k off. unused k off (cases_eq k d);
  time = g.time;
  losses = new_losses s d new_controller g;
  half_steps = g.half_steps;
  written = g.written;
  decks = g.decks;
  streams = g.streams;
}
  where
    rests : (a b : Bool) → b ≡ true → (a && not b) ≡ false
    rests a b e = grind (arith, e)

    same : update s.controllers d new_controller ≡ s.controllers
    same = same_table s.controllers d new_controller (g.unused d (rests (is_linked s d) (s.dead d) dead))

    unused : (k : ℕ) → IsFalse (is_living (after_start s d) k) → (k ≡ d) ⊎ (k ≢ d) → update s.controllers d new_controller k ≡ new_controller
    unused k off (inl e) = ap (update s.controllers d new_controller) e ∙ update_new s.controllers d new_controller
    unused k off (inr ne) = update_others s.controllers d new_controller k ne ∙ g.unused k (sym (ap (λ b. is_linked s k && not b) (update_others s.dead d false k ne)) ∙ off)
