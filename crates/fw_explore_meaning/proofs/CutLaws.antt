-- Whether an interleaving is cut off.
use Rattle.fw_explore_meaning.proofs.Common.{ℕ, ◌≡◌, ◌<◌, List, [], ◌∷◌, ◌++◌, Option, Some, None, drop, length}
use Rattle.fw_explore_meaning.proofs.Common.{refl, sym, ap, subst, ◌∙◌, same_Some, Timed, Command, Machine, RuleFault, DeskRelations}
use Rattle.fw_explore_meaning.proofs.Common.{IsFunction, State, BusView, StandsFor, Mover, HalfSteps, Once, Explored, IsMover, History, IsCutOff, Moves, commands_of, LeadsAt, Had}
use Rattle.std.proofs.lemmas.Option.{slice_get_within}
use Rattle.fw_model_run.specs.Actions.{Action}
use Rattle.fw_model_run.specs.Runs.{Run}
use Rattle.fw_model_run.specs.State.{epoch_of}
use Rattle.fw_explore_meaning.specs.Steps.{CarriesOn, half_in}
use Rattle.fw_explore_meaning.specs.Finishing.{WritesMore}
use Rattle.fw_explore_meaning.proofs.AfterLaws.{moves_one, not_refused}
use Rattle.fw_explore_meaning.proofs.HistoryLaws.{apart}
use Rattle.fw_explore_meaning.proofs.PlaceLaws.{moves_on}
use Rattle.fw_explore_meaning.proofs.StepLaws.{here, going, no_bytes, some_bytes}

module _ (D : DeskRelations) (script : List Command) (x : Explored) (pasts : List History) (Kept : List ℕ → Machine → Type 0) (w words : List ℕ) (l : LeadsAt D script x (Had pasts) Kept w words) where
  -- it has fewer half steps than may be
  pub not_full : (half_in words ≡ x.most → ⊥) → IsCutOff D script x w → ⊥
  not_full n c = n (ap half_in l.words_are ∙ l.leads.half_is ∙ c.full)

  -- it has as many, and one more of a mover would write an entry
  pub cut_full : half_in words ≡ x.most → (p : ℕ) → WritesMore D script x w p → IsCutOff D script x w
  cut_full full p m = record {
    full = sym l.leads.half_is ∙ sym (ap half_in l.words_are) ∙ full;
    place = p;
    mover = m.mover;
    is = m.is;
    kind = m.kind;
    out = m.out;
    moves = m.moves;
    writes = m.writes;
  }

  -- or one of none would
  pub none_cut : ((p : ℕ) → p < length x.movers.items → WritesMore D script x w p → ⊥) → IsCutOff D script x w → ⊥
  none_cut n c = n c.place (slice_get_within x.movers.items c.place c.mover c.is) (record { mover = c.mover; is = c.is; kind = c.kind; out = c.out; moves = c.moves; writes = c.writes })

  module _ (p : ℕ) (mover : Mover) (is : IsMover x p mover) where
    same_mover : (m : WritesMore D script x w p) → m.mover ≡ mover
    same_mover m = same_Some m.mover mover (sym m.is ∙ is)

    its_moves : (m : WritesMore D script x w p) → Moves D script (commands_of x w) mover.command m.out
    its_moves m = subst (λ (n : Mover). Moves D script (commands_of x w) n.command m.out) (same_mover m) m.moves

    -- a line takes no half steps
    pub never_writes : mover.kind ≡ Once → WritesMore D script x w p → ⊥
    never_writes e m = apart mover.kind (sym (ap (λ (n : Mover). n.kind) (same_mover m)) ∙ m.kind) e

    module _ (only : IsFunction D) (bus : Machine) (stands : (m : Machine) (s : State) → Kept (drop 2 words) m → StandsFor m s
        → StandsFor bus s) (now : BusView) (bytes : List ℕ) (o : Option RuleFault)
        (carries : (commands : List Command) (actions : List Action) (log : List Timed) (s : State) → Run commands actions log s → StandsFor bus s
        → CarriesOn D commands actions log s mover.command now bytes o) where
      pub never_ruled : (rule : RuleFault) → o ≡ Some rule → WritesMore D script x w p → ⊥
      never_ruled rule e m =
          let h = subst (λ z. CarriesOn D (script ++ commands_of x w) l.leads.following.whole.actions (l.leads.following.earlier ++ l.leads.out) l.leads.state mover.command now bytes z) e
          (here D script x pasts Kept w words l p mover is only bus stands now bytes o carries) in
          not_refused D script only (commands_of x w) mover.command l.leads.out m.out l.leads.state rule l.leads.following h.0 (its_moves m)

      pub never_silent : o ≡ None → bytes ≡ [] → WritesMore D script x w p → ⊥
      never_silent e none m =
          let d = going D script x pasts Kept w words l p mover is only bus stands now bytes o carries e in
          let nothing : d.out ≡ [] = some_bytes (epoch_of l.leads.state.account.latest) d.out (sym d.grew ∙ none) in
          let moves = moves_on D script x l.half l.past l.machine w l.leads p mover is now (Some []) (Some bytes) d in
          m.writes (moves_one D script only (commands_of x w) mover.command m.out d.out (its_moves m) moves ∙ nothing)

      pub writes_more : o ≡ None → mover.kind ≡ HalfSteps → (bytes ≡ [] → ⊥) → WritesMore D script x w p
      writes_more e half wrote =
          let d = going D script x pasts Kept w words l p mover is only bus stands now bytes o carries e in
          record {
            mover = mover;
            is = is;
            kind = half;
            out = d.out;
            moves = moves_on D script x l.half l.past l.machine w l.leads p mover is now (Some []) (Some bytes) d;
            writes = λ n. wrote (d.grew ∙ no_bytes (epoch_of l.leads.state.account.latest) d.out n);
          }
