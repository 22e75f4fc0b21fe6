-- A controller that is not busy, and that no reclaim second holds back, has nothing to do.
use Rattle.fw_bus_state.proofs.Common.{◌≡◌, ◌⊎◌, inl, inr, ℕ, ◌≤◌, Bool, true, false, cond, refl, ap, sym, ◌∙◌, arith, IsTrue, Current, IsAtRest, Nothing, Asking, Hearing, Overtaken, Listening, next}
use Rattle.std.specs.Prelude.{nat_lt}
use Rattle.fw_cmp_jobs.specs.declared.directory.Directory.{Directory}
use Rattle.fw_cmp.specs.Controllers.{IsHeard, IsStanding}
use Rattle.fw_cmp.specs.Losses.{Awaits, ListeningFits, MayTurn, deaf_turn, deaf_until, turn_of}
use Rattle.fw_cmp.specs.Turns.{is_busy}
use Rattle.fw_cmp.specs.declared.outcome.Next.{Next}
use Rattle.fw_cmp.specs.declared.outcome.Next.TheVariants.{Send, End, Idle, Waiting, Deaf, Force}
use Rattle.fw_cmp.proofs.Resting.{idle_means, waiting_means}

deaf_busy : (b : Bool) (until : ℕ) → is_busy (cond b (Deaf until) Force) ≡ true
deaf_busy true until = refl
deaf_busy false until = refl

heard_or_standing : (cur : Current) → IsHeard cur ⊎ IsStanding cur
heard_or_standing Nothing = inl tt
heard_or_standing (Asking j s) = inl tt
heard_or_standing (Hearing j s) = inr tt
heard_or_standing (Overtaken i o) = inl tt

pub rest_unless_busy : (now : ℕ) (d : Directory) (x : Listening) → ListeningFits x → d.over_at ≤ now → (MayTurn x → false ≡ is_busy (turn_of now d x)) → (Awaits x → IsTrue false) → IsAtRest x.state
rest_unless_busy now d x fits over turns awaits = at x.lost refl
  where
    -- by what it does next
    by : IsHeard x.state.current → (n : Next) → next now d x.state ≡ n → is_busy n ≡ false → IsAtRest x.state
    by heard (Send to r) is idle = cc
    by heard (End i o) is idle = cc
    by heard Idle is idle = idle_means now d x.state fits.state heard is
    by heard (Waiting until) is idle = let early = (waiting_means now d x.state until fits.state heard is).0.early in absurd (omega (arith, early, over))
    by heard (Deaf until) is idle = cc
    by heard Force is idle = cc

    here : x.lost ≡ false → IsHeard x.state.current ⊎ IsStanding x.state.current → IsAtRest x.state
    here e (inl heard) =
        let turn : turn_of now d x ≡ next now d x.state = ap (λ b. cond b (deaf_turn now (deaf_until x)) (next now d x.state)) e in
        by heard (next now d x.state) refl (sym (turns (inr heard) ∙ ap is_busy turn))
    here e (inr stands) = let clash : false ≡ true = awaits (e, stands) in cc

    at : (b : Bool) → x.lost ≡ b → IsAtRest x.state
    at false e = here e (heard_or_standing x.state.current)
    at true e =
        let turn : turn_of now d x ≡ deaf_turn now (deaf_until x) = ap (λ b. cond b (deaf_turn now (deaf_until x)) (next now d x.state)) e in
        let clash : false ≡ true = turns (inl e) ∙ (ap is_busy turn ∙ deaf_busy (nat_lt now (deaf_until x)) (deaf_until x)) in cc
