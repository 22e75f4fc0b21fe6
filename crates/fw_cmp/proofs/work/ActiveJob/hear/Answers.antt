use Rattle.fw_cmp.proofs.Common.{ap, sym, subst, ◌∙◌, false≢true, Current, IsHeard, IsStanding, heard, asked}
use Rattle.fw_cmp.specs.Works.{CurrentRuns}
use Rattle.fw_cmp.proofs.Works.{heard_hears, runs_kept, standing_kept}
use Rattle.fw_cmp.proofs.work.ActiveJob.hear.Goals as goal

pub hear-requires-clause-asking : goal.hear-requires-clause-asking
hear-requires-clause-asking c = (standing_kept c.self.inside.stands c.self.inside.current c.self.invariant (subst IsStanding (sym c.self.view_is) c.requires.stands)).0

pub hear-requires-clause-runs : goal.hear-requires-clause-runs
hear-requires-clause-runs c = runs_kept c.self.inside.stands c.self.inside.current (subst CurrentRuns (sym c.self.view_is) c.requires.runs)

pub invariant_of-self : goal.invariant_of-self
invariant_of-self c = record { heard = subst IsHeard (sym c.hear.ensures.state) (heard_hears (asked c.self.inside.current) c.args.r.now); asking = λ e. absurd (false≢true e) }

pub returns-clause-state : goal.returns-clause-state
returns-clause-state c =
    let at = (standing_kept c.self.inside.stands c.self.inside.current c.self.invariant (subst IsStanding (sym c.self.view_is) c.requires.stands)).1 ∙ c.self.view_is in
    c.hear.ensures.state ∙ ap (λ (x : Current). heard x c.args.r.now) at
