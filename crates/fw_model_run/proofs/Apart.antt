-- What happens to one controller leaves all others as they are: so goes the table of all.
use Rattle.fw_model_run.proofs.Common.{◌≡◌, ◌≢◌, ◌⊎◌, inl, inr, ℕ, false, is_some, refl, ap, sym, ◌∙◌}
use Rattle.fw_model_run.proofs.Common.{IsTrue, IsFalse, None, cases_eq, update, ResetEntry, Hearing, Job, Stage, IsHeard, new_controller}
use Rattle.fw_model_run.proofs.Common.{break_started, Wanted, after_loss, after_reset_entry, after_death, after_start, with_connection, slot_of, start_of, IsGood, half, after_half, has_request}
use Rattle.fw_model_run.proofs.Common.{with_controller, State, directory_of, is_deaf, is_living}
use Rattle.fw_cmp.specs.Losses.{Listening, first_listening, after_turn, after_answer, after_loss as lost, after_bus_reset, with_state}
use Rattle.fw_cmp.specs.Starts.{started}
use Rattle.fw_model_run.specs.Afterwards.{stage_of}
use Rattle.fw_model_run.specs.HalfSteps.{HalfStep}
use Rattle.fw_model_run.specs.Truth.{in_truth, controller_at}
use Rattle.fw_model_run.proofs.Hears.{Heard, half_hears, reply_heard}
use Rattle.fw_model_run.proofs.Truth.{quiet_at, quiet_turns, loses_as, resets_as, starts_as, breaking_as, dies_as}
use Rattle.fw_model_run.proofs.Turns.{update_new, update_others}

-- the controllers of all devices
abbrev pub controllers_of : State → ℕ → Listening
controllers_of s d = controller_at s d

pub same_at : (s t : State) (k : ℕ) → t.controllers k ≡ s.controllers k → t.lost k ≡ s.lost k → t.asked_at k ≡ s.asked_at k → controller_at t k ≡ controller_at s k
same_at s t k c l a = λ i. record { state = in_truth (c i) (l i); asked_at = a i; lost = is_some (l i) }

pub one_changes : (s t : State) (d : ℕ) (x : Listening) → controller_at t d ≡ x → ((k : ℕ) → k ≢ d → controller_at t k ≡ controller_at s k)
    → controllers_of t ≡ update (controllers_of s) d x
one_changes s t d x here others = λ i k. at k (cases_eq k d) i
  where
    at : (k : ℕ) → (k ≡ d) ⊎ (k ≢ d) → controller_at t k ≡ update (controllers_of s) d x k
    at k (inl is) = ap (controllers_of t) is ∙ (here ∙ sym (ap (update (controllers_of s) d x) is ∙ update_new (controllers_of s) d x))
    at k (inr ne) = others k ne ∙ sym (update_others (controllers_of s) d x k ne)

-- ---- half steps

pub half_others : (s : State) (d k : ℕ) → k ≢ d → controller_at (after_half s d) k ≡ controller_at s k
half_others s d k ne = same_at s (after_half s d) k (update_others s.controllers d (half s d).controller k ne) refl (update_others s.asked_at d (half s d).asked_at k ne)

-- no request is outstanding, and it says what it does next
pub all_turn : (s : State) (d : ℕ) → IsFalse (is_deaf s d) → IsHeard (s.controllers d).current
    → controllers_of (after_half s d) ≡ update (controllers_of s) d (after_turn s.clock.cycle (directory_of s) (controller_at s d))
all_turn s d quiet heard = one_changes s (after_half s d) d _ (quiet_turns s d quiet heard) (half_others s d)

-- it hears the reply
pub hears_as : (s : State) (d : ℕ) (j : Job) (stage : Stage) → IsGood s → IsFalse (is_deaf s d) → (s.controllers d).current ≡ Hearing j stage → (x : Heard s d j stage)
    → controller_at (after_half s d) d ≡ after_answer (controller_at s d) (reply_heard s d j stage x)
hears_as s d j stage g quiet current x =
    let is = (half_hears s d j stage g current x).half_is in
    let c = update_new s.controllers d (half s d).controller ∙ ap (λ (h : HalfStep). h.controller) is in
    let a = update_new s.asked_at d (half s d).asked_at ∙ ap (λ (h : HalfStep). h.asked_at) is in
    quiet_at (after_half s d) d quiet ∙ ((λ i. record { state = c i; asked_at = a i; lost = false }) ∙ sym (ap (λ y. after_answer y (reply_heard s d j stage x)) (quiet_at s d quiet)))

pub all_hear : (s : State) (d : ℕ) (j : Job) (stage : Stage) → IsGood s → IsFalse (is_deaf s d) → (s.controllers d).current ≡ Hearing j stage → (x : Heard s d j stage)
    → controllers_of (after_half s d) ≡ update (controllers_of s) d (after_answer (controller_at s d) (reply_heard s d j stage x))
all_hear s d j stage g quiet current x = one_changes s (after_half s d) d _ (hears_as s d j stage g quiet current x) (half_others s d)

-- it loses the response
pub all_lose : (s : State) (d : ℕ) → IsGood s → IsTrue (is_living s d) → IsTrue (has_request (s.controllers d).current)
    → controllers_of (after_loss s d) ≡ update (controllers_of s) d (lost (controller_at s d))
all_lose s d g lives stands = one_changes s (after_loss s d) d _ (loses_as s d g lives stands) others
  where
    others : (k : ℕ) → k ≢ d → controller_at (after_loss s d) k ≡ controller_at s k
    others k ne = same_at s (after_loss s d) k (update_others s.controllers d (half s d).controller k ne) (update_others s.lost d (stage_of (s.controllers d).current) k ne)
        (update_others s.asked_at d (half s d).asked_at k ne)

-- ---- bus resets

pub all_reset : (s : State) (e : ResetEntry) → controllers_of (after_reset_entry s e) ≡ (λ d. after_bus_reset e.epoch (controllers_of s d))
all_reset s e = λ i d. resets_as s e d i

-- ---- what commands ask for

pub all_start : (s : State) (d : ℕ) (w : Wanted)
    → controllers_of (with_connection s d w) ≡ update (controllers_of s) d (with_state (controller_at s d) (started (start_of d w (controller_at s d).state) (slot_of w) (controller_at s d).state))
all_start s d w = one_changes s (with_connection s d w) d _ (starts_as s d w) (λ k ne. same_at s (with_connection s d w) k (update_others s.controllers d _ k ne) refl refl)

pub all_break : (s : State) (d i : ℕ)
    → controllers_of (with_controller s d (break_started (s.controllers d) i)) ≡ update (controllers_of s) d (with_state (controller_at s d) (break_started (controller_at s d).state i))
all_break s d i = one_changes s (with_controller s d (break_started (s.controllers d) i)) d _ (breaking_as s d i)
    (λ k ne. same_at s (with_controller s d (break_started (s.controllers d) i)) k (update_others s.controllers d _ k ne) refl refl)

pub all_die : (s : State) (d : ℕ) → controllers_of (after_death s d) ≡ update (controllers_of s) d first_listening
all_die s d = one_changes s (after_death s d) d first_listening (dies_as s d)
    (λ k ne. same_at s (after_death s d) k (update_others s.controllers d new_controller k ne) (update_others s.lost d None k ne) (update_others s.asked_at d 0 k ne))

pub all_start_again : (s : State) (d : ℕ) → controllers_of (after_start s d) ≡ update (controllers_of s) d first_listening
all_start_again s d = one_changes s (after_start s d) d first_listening here
    (λ k ne. same_at s (after_start s d) k (update_others s.controllers d new_controller k ne) (update_others s.lost d None k ne) (update_others s.asked_at d 0 k ne))
  where
    here : controller_at (after_start s d) d ≡ first_listening
    here =
        let c = update_new s.controllers d new_controller in
        let a = update_new s.asked_at d 0 in
        let l = update_new s.lost d None in
        λ i. record { state = in_truth (c i) (l i); asked_at = a i; lost = is_some (l i) }
