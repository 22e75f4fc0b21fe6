-- A step from a place: of all schedules that lead there alike.
use Rattle.fw_explore_meaning.proofs.Common.{ℕ, ◌≡◌, ◌+◌, ◌<◌, ◌≤◌, List, [], ◌∷◌, ◌++◌, Bool, true, false, Option, Some}
use Rattle.fw_explore_meaning.proofs.Common.{None, Err, drop, length, get_or, IsTrue, IsFalse, inl, inr, refl, sym, ap, subst}
use Rattle.fw_explore_meaning.proofs.Common.{◌∙◌, arith, All, Timed, Command, Machine, RuleFault, DeskRelations, IsFunction}
use Rattle.fw_explore_meaning.proofs.Common.{Decides, State, BusView, StandsFor, ContinuesRun, Mover, MoverKind, HalfSteps}
use Rattle.fw_explore_meaning.proofs.Common.{Once, Explored, IsMover, IsMove, Moves, commands_of, History, told_entries, Leads, LeadsAt, LeadsTo, AreDone, Had}
use Rattle.std.proofs.Common.{◌^◌, set, slice_index}
use Rattle.std.proofs.Common.{append_assoc, append-nil}
use Rattle.std.proofs.lemmas.List.Elements.{All-cons}
use Rattle.fw_log_entry.specs.Log.{entries_bytes, TimedFits}
use Rattle.fw_log_entry.specs.declared.version.Version.TheVariants.{Two}
use Rattle.fw_kept_parts.specs.Words.{bytes_of}
use Rattle.fw_model_run.specs.Actions.{Action}
use Rattle.fw_model_run.specs.Runs.{Run}
use Rattle.fw_model_run.specs.State.{epoch_of}
use Rattle.fw_explore_movers.specs.Explored.{half_step_of}
use Rattle.fw_explore_meaning.specs.Moves.{IsAllowed}
use Rattle.fw_explore_meaning.specs.Steps.{CarriesOn, MayCome, MayNotCome, IsThere, Steps, IsArrived, past_in, half_in, half_after, history_after}
use Rattle.fw_explore_meaning.proofs.HistoryLaws.{done_once, done_half}
use Rattle.fw_explore_meaning.proofs.PlaceLaws.{not_again, not_before, not_beyond, not_ruled, not_silent, is_move, half_allowed, once_allowed, leads_on, moves_on}

-- entries after others fit
pub fit_after : (log out : List Timed) → ((prefix rest : List Timed) (t : Timed) → log ++ out ≡ prefix ++ t ∷ rest → TimedFits t) → All TimedFits out
fit_after log [] h = λ k d l. absurd (omega (arith, l))
fit_after log (t ∷ ts) h = All-cons TimedFits t ts (h log ts t refl) (fit_after (log ++ t ∷ []) ts (λ prefix rest u e. h prefix rest u (sym (append_assoc log (t ∷ []) ts) ∙ e)))

-- no bytes are no entries
pub no_bytes : (epoch : ℕ) (out : List Timed) → out ≡ [] → entries_bytes Two epoch out ≡ []
no_bytes epoch out e = ap (entries_bytes Two epoch) e

pub some_bytes : (epoch : ℕ) (out : List Timed) → entries_bytes Two epoch out ≡ [] → out ≡ []
some_bytes epoch [] e = refl
some_bytes epoch (t ∷ ts) e = absurd (cc e)

module _ (D : DeskRelations) (script : List Command) (x : Explored) (pasts : List History) (Kept : List ℕ → Machine → Type 0) (w words : List ℕ) (l : LeadsAt D script x (Had pasts) Kept w words)
    (p : ℕ) (mover : Mover) (is : IsMover x p mover) where
  -- what the numbers of the place are
  past_is : (d : History) → get_or pasts (past_in words) d ≡ l.past
  past_is d = ap (λ n. get_or pasts n d) (ap past_in l.words_are) ∙ l.had.at d

  half_is : half_in words ≡ l.half
  half_is = ap half_in l.words_are

  machine_is : drop 2 words ≡ l.machine_at
  machine_is = ap (drop 2) l.words_are

  -- ---- no move

  pub none_there : IsThere x l.past.done p mover false → IsMove D script x w p → ⊥
  none_there n = elim n.why [
    | inl done ↦ not_again D script x l.half l.past l.machine w l.leads p mover is n.once done
    | inr e ↦ not_before D script x l.half l.past l.machine w l.leads p mover is n.once e.place e.mover e.earlier e.is e.once e.same e.still
  ]

  pub none_beyond : mover.kind ≡ HalfSteps → x.most ≤ half_in words → IsMove D script x w p → ⊥
  none_beyond e full = let h = half_is in not_beyond D script x l.half l.past l.machine w l.leads p mover is e (omega (arith, full, h))

  module _ (only : IsFunction D) (bus : Machine) (stands : (m : Machine) (s : State) → Kept (drop 2 words) m → StandsFor m s → StandsFor bus s) (now : BusView) (bytes : List ℕ) (o : Option RuleFault)
      (carries : (commands : List Command) (actions : List Action) (log : List Timed) (s : State) → Run commands actions log s → StandsFor bus s
      → CarriesOn D commands actions log s mover.command now bytes o) where
    pub here : CarriesOn D (script ++ commands_of x w) l.leads.following.whole.actions (l.leads.following.earlier ++ l.leads.out) l.leads.state mover.command now bytes o
    here = carries (script ++ commands_of x w) l.leads.following.whole.actions (l.leads.following.earlier ++ l.leads.out) l.leads.state l.leads.following.whole.run
        (stands l.machine l.leads.state (subst (λ n. Kept n l.machine) (sym machine_is) l.kept) l.leads.stands)

    pub none_ruled : (rule : RuleFault) → o ≡ Some rule → IsMove D script x w p → ⊥
    none_ruled rule e =
        let h = subst (λ z. CarriesOn D (script ++ commands_of x w) l.leads.following.whole.actions (l.leads.following.earlier ++ l.leads.out) l.leads.state mover.command now bytes z) e here in
        not_ruled D script x l.half l.past l.machine w l.leads p mover is only rule h.0

    pub going : o ≡ None → ContinuesRun D (script ++ commands_of x w) l.leads.following.whole.actions (l.leads.following.earlier ++ l.leads.out) l.leads.state mover.command now (Some []) (Some bytes)
    going e = subst (λ z. CarriesOn D (script ++ commands_of x w) l.leads.following.whole.actions (l.leads.following.earlier ++ l.leads.out) l.leads.state mover.command now bytes z) e here

    pub none_silent : o ≡ None → mover.kind ≡ HalfSteps → bytes ≡ [] → IsMove D script x w p → ⊥
    none_silent e half none =
        let d = going e in
        let nothing : d.out ≡ [] = some_bytes (epoch_of l.leads.state.account.latest) d.out (sym d.grew ∙ none) in
        not_silent D script x l.half l.past l.machine w l.leads p mover is only half
        (subst (Moves D script (commands_of x w) mover.command) nothing (moves_on D script x l.half l.past l.machine w l.leads p mover is now (Some []) (Some bytes) d))

    -- ---- a move

    allowed : (out : List Timed) → IsThere x l.past.done p mover true → (kind : MoverKind) → mover.kind ≡ kind → (mover.kind ≡ HalfSteps → half_in words < x.most) → (mover.kind ≡ HalfSteps
        → out ≡ [] → ⊥)
        → IsAllowed x w p mover out mover.kind
    allowed out there HalfSteps e below wrote = let h = half_is in let b = below e in half_allowed D script x l.half l.past l.machine w l.leads p mover is e (omega (arith, b, h)) out (wrote e)
    allowed out there Once e below wrote =
        let m = there e in once_allowed D script x l.half l.past l.machine w l.leads p mover is e m.still m.earlier out

    pub steps_on : (Had' : ℕ → History → Type 0) (Kept' : List ℕ → Machine → Type 0) (key : List ℕ) → o ≡ None → length l.past.done ≡ 32 → p < 32 → IsThere x l.past.done p mover true
        → (mover.kind ≡ HalfSteps → half_in words < x.most) → (mover.kind ≡ HalfSteps → bytes ≡ [] → ⊥)
        → ((epoch : ℕ) (out : List Timed) (past : History) → All TimedFits out → bytes ≡ entries_bytes Two epoch out → Had pasts (past_in words) past
        → IsArrived Had' Kept' now.machine past (half_in words) out p mover.kind key)
        → Steps D script x Had' Kept' w p key true
    steps_on Had' Kept' key e size few there below wrote arrives =
        let d = going e in
        let epoch = epoch_of l.leads.state.account.latest in
        let fits = fit_after (l.leads.following.earlier ++ l.leads.out) d.out d.sound.fits in
        let had : Had pasts (past_in words) l.past = subst (λ n. Had pasts n l.past) (sym (ap past_in l.words_are)) l.had in
        let a = arrives epoch d.out l.past fits d.grew had in
        let moves = moves_on D script x l.half l.past l.machine w l.leads p mover is now (Some []) (Some bytes) d in
        let some : mover.kind ≡ HalfSteps → d.out ≡ [] → ⊥ = λ k n. wrote k (d.grew ∙ no_bytes epoch d.out n) in (
          is_move D script x l.half l.past l.machine w l.leads p mover is d.out moves (allowed d.out there mover.kind refl below some),
          record {
            words = a.past_at ∷ half_after mover.kind (half_in words) ∷ a.machine_at;
            key_is = a.key_is;
            small = a.small;
            at = record {
              past_at = a.past_at;
              half = half_after mover.kind (half_in words);
              machine_at = a.machine_at;
              words_are = refl;
              past = history_after mover.kind p d.out l.past;
              had = a.had;
              machine = now.machine;
              kept = a.kept;
              leads = led mover.kind refl d;
            };
          },
        )
      where
        led : (kind : MoverKind) → mover.kind ≡ kind
            → (d : ContinuesRun D (script ++ commands_of x w) l.leads.following.whole.actions (l.leads.following.earlier ++ l.leads.out) l.leads.state mover.command
            now (Some []) (Some bytes))
            → Leads D script x (half_after kind (half_in words)) (history_after kind p d.out l.past) now.machine (w ++ p ∷ [])
        led HalfSteps k d =
            let r = leads_on D script x l.half l.past l.machine w l.leads p mover is now (Some []) (Some bytes) d (history_after HalfSteps p d.out l.past) (done_half x w p mover is l.past.done k
            l.leads.done) refl in
            let same : l.half + half_step_of (Some mover) ≡ half_in words + 1 = ap (λ n. l.half + elim n [ HalfSteps ↦ 1 | Once ↦ 0 ]) k ∙ ap (λ n. n + 1) (sym half_is) in
            subst (λ n. Leads D script x n (history_after HalfSteps p d.out l.past) now.machine (w ++ p ∷ [])) same r
        led Once k d =
            let r = leads_on D script x l.half l.past l.machine w l.leads p mover is now (Some []) (Some bytes) d (history_after Once p d.out l.past) (done_once x w p mover is l.past.done (omega
            (arith, few, size)) l.leads.done) refl in
            let none : l.half + 0 ≡ l.half = omega arith in
            let same : l.half + half_step_of (Some mover) ≡ half_in words = ap (λ n. l.half + elim n [ HalfSteps ↦ 1 | Once ↦ 0 ]) k ∙ none ∙ sym half_is in
            subst (λ n. Leads D script x n (history_after Once p d.out l.past) now.machine (w ++ p ∷ [])) same r
