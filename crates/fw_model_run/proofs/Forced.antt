-- A bus reset that a controller forces can come, and finds the same cables, so it leaves all that live living.
use Rattle.fw_model_run.proofs.Common.{◌≡◌, ℕ, ◌<◌, ◌&&◌, not, List, length, Bool, true, false, Option, Some}
use Rattle.fw_model_run.proofs.Common.{None, is_some, refl, ap, sym, ◌∙◌, arith, IsTrue, ResetEntry, Timed, MOST_HALF_STEPS, Resets}
use Rattle.fw_model_run.proofs.Common.{counted, IsGood, IsLatest, State, epoch_of, linked_number, is_on, is_living, is_deaf}
use Rattle.fw_model_run.proofs.Cables.{forced_may, living_on, on_is_bus, on_some}
use Rattle.fw_model_run.proofs.Grows.{Follows, number_there, stays_linked}
use Rattle.fw_model_run.proofs.NextEntry.{Another, another_entry}
use Rattle.fw_model_run.proofs.Resets.{MayReset, reset_follows, still_linked}
use Rattle.fw_model_run.proofs.Turns.{living_linked}

-- ---- that it can come

-- its entry is that of the latest bus reset, with the next epoch and another initiator
pub forced_exists : (s : State) (d : ℕ) → IsGood s → IsTrue (is_living s d) → Another s.declared.topology s.declared.kinds (epoch_of s.account.latest) d
forced_exists s d g lives = go s.account.latest g.latest
  where
    on : IsTrue (is_on s d)
    on = living_on s d lives

    some : 0 < length s.declared.names
    some = on_some s d g on

    go : (o : Option ResetEntry) → IsLatest o s.declared s.account → Another s.declared.topology s.declared.kinds (epoch_of o) d
    go None h = absurd (omega (arith, some, ap (λ (xs : List (List ℕ)). length xs) h.0))
    go (Some e) h = another_entry s.declared.topology s.declared.kinds e.epoch h.5.0 d e h.5.1 ((on_is_bus s g some d).0 on)

-- ---- who lives

same_bool : (a b : Bool) → (IsTrue a → IsTrue b) → (IsTrue b → IsTrue a) → b ≡ a
same_bool true true f h = refl
same_bool true false f h = f refl
same_bool false true f h = sym (h refl)
same_bool false false f h = refl

-- the bus reset may be turned round: what it shows of nodes was so before
turned : (s t : State) (d : ℕ) (out : List Timed) → MayReset (counted s 1) s.declared → (r : Resets (counted s 1) d out t) → (k : ℕ)
    → IsTrue (is_some (linked_number s.account.latest d)) → IsTrue (is_some (linked_number (Some r.entry) k)) → IsTrue (is_some (linked_number s.account.latest k))
turned s t d out m r k there on = go s.account.latest refl m.good.latest there
  where
    go : (o : Option ResetEntry) → s.account.latest ≡ o → IsLatest o (counted s 1).declared (counted s 1).account → IsTrue (is_some (linked_number o d)) → IsTrue (is_some (linked_number o k))
    go None is h there = absurd (grind (arith, there))
    go (Some e) is h there =
        let f = reset_follows (counted s 1) s.declared d out t m r e is h in
        let a = number_there (linked_number (Some r.entry) k) on in
        let back : Follows s.declared.topology s.declared.topology s.declared.kinds r.entry e = record { made = f.made; some = f.some; before = f.after; after = f.before; stays = λ j walk. walk } in
        ap is_some (stays_linked s.declared.topology s.declared.topology s.declared.kinds r.entry e back k a.number a.is).is

pub forced_living : (s t : State) (d : ℕ) (out : List Timed) → IsGood s → IsTrue (is_living s d) → IsTrue (is_deaf s d) → s.half_steps < MOST_HALF_STEPS
    → Resets (counted s 1) d out t → (k : ℕ) → is_living t k ≡ is_living s k
forced_living s t d out g lives deaf few r k =
    let m = forced_may s d g lives deaf few in
    let linked : is_some (linked_number (Some r.entry) k) ≡ is_some (linked_number s.account.latest k) =
    same_bool (is_some (linked_number s.account.latest k)) (is_some (linked_number (Some r.entry) k))
    (still_linked (counted s 1) s.declared d out t m r k) (turned s t d out m r k (living_linked s d lives)) in
    ap (λ u. is_living u k) r.state_is ∙ ap (λ b. b && not (s.dead k)) linked
