-- While a slot is to be restored, eight rounds make progress; so all is restored within eight times what is still to come.
use Rattle.fw_model_rounds.proofs.Common.{◌≡◌, ◌≢◌, ℕ, ◌+◌, ◌<◌, ◌≤◌, List, [], ◌∷◌, ap, sym, subst}
use Rattle.fw_model_rounds.proofs.Common.{◌∙◌, arith, ◌⊎◌, inl, inr, cases_eq, flag, Directory, ControllerState, progresses, to_come, Situation}
use Rattle.fw_model_rounds.proofs.Common.{AccountSays, TakeHalfSteps, all_to_come, AllRestore}
use Rattle.fw_terms.proofs.Tables.{sum_to_changed}
use Rattle.fw_model_rounds.specs.HalfSteps.{OnlyRestores}
use Rattle.fw_model_rounds.specs.Rounds.{HalfStep}
use Rattle.fw_model_rounds.proofs.Kept.{turn_restores}
use Rattle.fw_model_rounds.proofs.Lowering.{turn_leaves}

-- ---- one half step

own_leaves : (now : ℕ) (d : Directory) (k : ℕ) (s m : Situation) → now < d.over_at → k < 63 → OnlyRestores (s.at k) → AccountSays s → HalfStep now d k s m
    → to_come (m.at k) + flag (progresses s.words now d (s.at k)) ≤ to_come (s.at k)
own_leaves now d k s m lt below r a h =
    let leaves = turn_leaves s.words now d (s.at k) (s.at k).current lt r.no_break (a.fits k below).current r.current (a.knows k below) in
    rw h.own leaves

pub all_leaves : (now : ℕ) (d : Directory) (k : ℕ) (s m : Situation) → now < d.over_at → k < 63 → OnlyRestores (s.at k) → AccountSays s → HalfStep now d k s m
    → all_to_come m + flag (progresses s.words now d (s.at k)) ≤ all_to_come s
all_leaves now d k s m lt below r a h = omega (
  arith,
  own_leaves now d k s m lt below r a h,
  sum_to_changed 63 k (λ e. to_come (s.at e)) (λ e. to_come (m.at e)) below (λ e ne. ap to_come (sym (h.others e ne))),
)

each_leaves : (now : ℕ) (d : Directory) (k : ℕ) (s m : Situation) → now < d.over_at → k < 63 → OnlyRestores (s.at k) → AccountSays s → HalfStep now d k s m → (e : ℕ)
    → to_come (m.at e) ≤ to_come (s.at e)
each_leaves now d k s m lt below r a h e = go (cases_eq e k)
  where
    go : (e ≡ k) ⊎ (e ≢ k) → to_come (m.at e) ≤ to_come (s.at e)
    go (inl same) = rw same (omega (arith, own_leaves now d k s m lt below r a h))
    go (inr ne) = rw (h.others e ne) (omega arith)

pub all_restore : (now : ℕ) (d : Directory) (k : ℕ) (s m : Situation) → now < d.over_at → AllRestore s → k < 63 → HalfStep now d k s m → AllRestore m
all_restore now d k s m lt r below h e le = go (cases_eq e k)
  where
    go : (e ≡ k) ⊎ (e ≢ k) → OnlyRestores (m.at e)
    go (inl same) = subst (λ (x : ControllerState). OnlyRestores x) (sym (ap m.at same ∙ h.own)) (turn_restores s.words now d (s.at k) lt (r k below))
    go (inr ne) = subst (λ (x : ControllerState). OnlyRestores x) (sym (h.others e ne)) (r e le)

-- ---- many half steps

pub record Leaves (s t : Situation) : Type 0 where
  pub all : all_to_come t ≤ all_to_come s
  pub each : (e : ℕ) → to_come (t.at e) ≤ to_come (s.at e)
  pub restore : AllRestore t

pub turns_leave : (now : ℕ) (d : Directory) (ks : List ℕ) (s t : Situation) → now < d.over_at → AllRestore s → TakeHalfSteps now d ks s t → Leaves s t
unfolding TakeHalfSteps
turns_leave now d [] s t lt r h = subst (λ (x : Situation). Leaves s x) h (record { all = omega arith; each = λ e. omega arith; restore = r })
turns_leave now d (k ∷ ks) s t lt r h =
    let rest = turns_leave now d ks h.2.0 t lt (all_restore now d k s h.2.0 lt r h.0 h.2.1) h.2.2 in
    let first = all_leaves now d k s h.2.0 lt h.0 (r k h.0) h.1 h.2.1 in
    record { all = omega (arith, rest.all, first); each = λ e. omega (arith, rest.each e, each_leaves now d k s h.2.0 lt h.0 (r k h.0) h.1 h.2.1 e); restore = rest.restore }
