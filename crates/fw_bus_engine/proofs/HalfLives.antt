-- A half step leaves the bus, and which controllers live.
use Rattle.fw_bus_engine.proofs.Common.{◌≡◌, ℕ, ◌&&◌, not, true, Option, is_some, unwrap_or, refl, ap, sym, subst}
use Rattle.fw_bus_engine.proofs.Common.{◌∙◌, IsTrue, IsFalse, Entry, Current, Nothing, Asking, Hearing, Overtaken, IsHeard, State}
use Rattle.fw_bus_engine.proofs.Common.{linked_number, is_living, half, taken, after_half, IsGood, half_hears, Machine, TakesHalf, IsReady, is_living_in, states_of, quiet_here, living_same}
use Rattle.fw_model_run.proofs.Hears.{heard_of, reply_heard, carried_bus}
use Rattle.fw_model_run.proofs.HalfSteps.{half_good}
use Rattle.fw_bus_engine.proofs.HalfTurns.{asks_is, asks_leaves}

-- the bus is the same after any half step
half_latest : (s : State) (d : ℕ) → IsGood s → IsTrue (is_living s d) → (after_half s d).account.latest ≡ s.account.latest
half_latest s d g lives = go (s.controllers d).current refl
  where
    quiet : IsHeard (s.controllers d).current → (after_half s d).account.latest ≡ s.account.latest
    quiet heard = ap (λ h. (taken s d h).account.latest) (asks_is s d heard) ∙ (asks_leaves s d g lives heard).bus.latest

    go : (c : Current) → (s.controllers d).current ≡ c → (after_half s d).account.latest ≡ s.account.latest
    go Nothing e = quiet (subst IsHeard (sym e) tt)
    go (Asking j stage) e = quiet (subst IsHeard (sym e) tt)
    go (Overtaken i o) e = quiet (subst IsHeard (sym e) tt)
    go (Hearing j stage) e =
        let x = heard_of s d j stage g lives e in
        let h = half_hears s d j stage g e x in
        ap (λ y. (taken s d y).account.latest) h.half_is
        ∙ (ap (λ o. (unwrap_or o s.account).latest) h.leads ∙ (carried_bus d j stage (reply_heard s d j stage x) s.account).0)

-- so the same controllers live
pub living_stays : (m now : Machine) (d : ℕ) (e : Option Entry) → IsReady m → IsTrue (is_living_in m d) → IsFalse (states_of m.controllers d).lost → TakesHalf half m now d e → (k : ℕ)
    → is_living_in now k ≡ is_living_in m k
living_stays m now d e ready lives quiet takes k =
    let s = ready.state in
    let living : is_living s d ≡ true = sym (living_same m s d ready.good ready.stands) ∙ lives in
    let same : is_living (after_half s d) k ≡ is_living s k = ap (λ o. is_some (linked_number o k) && not (s.dead k)) (half_latest s d ready.good living) in
    living_same now (after_half s d) k (half_good s d ready.good living (quiet_here m s d ready.stands quiet)) (takes s ready.good ready.stands).1
    ∙ (same ∙ sym (living_same m s k ready.good ready.stands))
