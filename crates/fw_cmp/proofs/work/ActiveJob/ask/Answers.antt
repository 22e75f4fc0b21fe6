use Rattle.fw_cmp.proofs.Common.{◌≡◌, ap, sym, subst, ◌∙◌, asked}
use Rattle.fw_cmp.specs.Works.{IsAsking, shown}
use Rattle.fw_cmp.proofs.Works.{asking_kept}
use Rattle.fw_cmp.proofs.work.ActiveJob.ask.Goals as goal

kept : (c : goal.After-self-1) → IsAsking c.self.inside.current × (c.self.inside.current ≡ shown c.self.inside.stands c.self.inside.current)
kept c = asking_kept c.self.inside.stands c.self.inside.current (subst IsAsking (sym c.self.view_is) c.requires)

pub invariant_of-self : goal.invariant_of-self
invariant_of-self c = record { heard = c.self.invariant.heard; asking = λ e. (kept c).0 }

pub returns : goal.returns
returns c = ap asked ((kept c).1 ∙ c.self.view_is)
