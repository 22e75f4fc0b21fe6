-- One line after an interleaving, from what a call of `carry` says.
use Rattle.fw_explore.proofs.Common.{ℕ, ◌≡◌, ◌<◌, List, [], ◌∷◌, ◌++◌, Option, Some, None, drop, get_or, length, sym, ap, subst, ◌∙◌, Timed, Command, Machine, DeskRelations, State, StandsFor, Line}
use Rattle.fw_explore.proofs.Common.{History}
use Rattle.std.proofs.Common.{◌+◌}
use Rattle.std.specs.List.{All}
use Rattle.std.proofs.lemmas.List.{drop_more}
use Rattle.fw_log_entry.specs.Log.{entries_bytes, TimedFits}
use Rattle.fw_log_entry.specs.declared.version.Version.TheVariants.{Two}
use Rattle.fw_order.specs.declared.rule.RuleFault.{RuleFault}
use Rattle.fw_model_run.specs.Actions.{Action}
use Rattle.fw_model_run.specs.Runs.{Run}
use Rattle.fw_model_run.specs.State.{epoch_of}
use Rattle.fw_bus.specs.Buses.{BusView}
use Rattle.fw_explore_meaning.specs.Endings.{refusal_of}
use Rattle.fw_explore_told.specs.Histories.{told_entries}
use Rattle.fw_explore_meaning.specs.Finishing.{CarriedAfter}
use Rattle.fw_explore_meaning.specs.Steps.{CarriesOn}
use Rattle.fw_explore_meaning.proofs.AfterLines.{Midway, line_of, midway_carried, midway_refused}
use Rattle.fw_explore_meaning.proofs.StepLaws.{fit_after}

module _ (D : DeskRelations) (script commands : List Command) (out : List Timed) (lines : List Line) (past : History) (refused text : List ℕ) (k : ℕ) (past' : History)
    (refused' text' : List ℕ) (bus : Machine) (m : Midway D script commands out lines k past past' refused refused' text text' bus)
    (line : Line) (less : k < length lines) (read : line ≡ get_or lines k line) (now : BusView) (bytes : List ℕ) (o : Option RuleFault)
    (carries : (cs : List Command) (actions : List Action) (log : List Timed) (s : State) → Run cs actions log s → StandsFor bus s
    → CarriesOn D cs actions log s line.command now bytes o) where
  next : drop k lines ≡ line ∷ drop (k + 1) lines
  next = drop_more lines k line less ∙ ap (λ l. l ∷ drop (k + 1) lines) (sym read)

  on : CarriesOn D (script ++ m.now) m.following.whole.actions (m.following.earlier ++ (out ++ m.written)) m.state line.command now bytes o
  on = carries (script ++ m.now) m.following.whole.actions (m.following.earlier ++ (out ++ m.written)) m.state m.following.whole.run m.stands

  on_as : (p : Option RuleFault) → o ≡ p → CarriesOn D (script ++ m.now) m.following.whole.actions (m.following.earlier ++ (out ++ m.written)) m.state line.command now bytes p
  on_as p e = subst (CarriesOn D (script ++ m.now) m.following.whole.actions (m.following.earlier ++ (out ++ m.written)) m.state line.command now bytes) e on

  pub line_carried : o ≡ None → (past'' : History) (refused'' text'' : List ℕ) → past''.done ≡ past'.done
      → ((epoch : ℕ) (entries : List Timed) → All TimedFits entries → bytes ≡ entries_bytes Two epoch entries → past''.said ≡ past'.said ++ told_entries entries)
      → refused'' ≡ refused' → text'' ≡ text' ++ line_of line
      → Midway D script commands out lines (k + 1) past past'' refused refused'' text text'' now.machine
  line_carried e past'' refused'' text'' same said refused_is lines_are =
      let d = on_as None e in
      let fits = fit_after (m.following.earlier ++ (out ++ m.written)) d.out d.sound.fits in
      subst (λ (z : List ℕ). Midway D script commands out lines (k + 1) past past'' refused z text text'' now.machine) (sym refused_is)
      (midway_carried D script commands out lines past refused text k past' refused' text' bus m line next now (Some []) (Some bytes) d past'' text'' same
      (said (epoch_of m.state.account.latest) d.out fits d.grew) lines_are)

  pub line_refused : (rule : RuleFault) → o ≡ Some rule → (past'' : History) (refused'' text'' : List ℕ) → past'' ≡ past' → refused'' ≡ refused' ++ refusal_of rule line → text'' ≡ text'
      → Midway D script commands out lines (k + 1) past past'' refused refused'' text text'' now.machine
  line_refused rule e past'' refused'' text'' past_is is text_is =
      let r = on_as (Some rule) e in
      subst (λ (z : List ℕ). Midway D script commands out lines (k + 1) past past'' refused refused'' text z now.machine) (sym text_is)
      (subst (λ (z : History). Midway D script commands out lines (k + 1) past z refused refused'' text text' now.machine) (sym past_is)
      (midway_refused D script commands out lines past refused text k past' refused' text' bus m line next now.machine rule r.0 r.1 refused'' is))

-- what was carried out after a history, from nothing
pub carried_from : (D : DeskRelations) (script commands : List Command) (read lines : List Line) (past old past' : History) (refused refused' text text' : List ℕ) → read ≡ lines
    → old ≡ past → refused ≡ [] → text ≡ []
    → CarriedAfter D script commands read old past' refused refused' text text' → CarriedAfter D script commands lines past past' [] refused' [] text'
carried_from D script commands read lines past old past' refused refused' text text' b p r t c =
    subst (λ (z : List ℕ). CarriedAfter D script commands lines past past' [] refused' z text') t
    (subst (λ (z : List ℕ). CarriedAfter D script commands lines past past' z refused' text text') r
    (subst (λ (z : History). CarriedAfter D script commands lines z past' refused refused' text text') p
    (subst (λ (z : List Line). CarriedAfter D script commands z old past' refused refused' text text') b c)))
