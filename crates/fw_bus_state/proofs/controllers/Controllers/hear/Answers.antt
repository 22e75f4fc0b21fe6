use Rattle.fw_bus_state.proofs.Common.{ap, sym, subst, ◌∙◌, IsAtRest, Listening}
use Rattle.fw_cmp.specs.Controllers.{IsStanding}
use Rattle.fw_cmp.specs.Losses.{Awaits, after_answer}
use Rattle.fw_bus_state.proofs.Tables.{table_set}
use Rattle.fw_bus_state.proofs.Touched.{passes_busy, stays}
use Rattle.fw_bus_state.proofs.controllers.Controllers.hear.Goals as goal

-- one that awaits an answer has something to do
awaits_busy : (x : Listening) → Awaits x → IsAtRest x.state → ⊥
awaits_busy x awaits rest = subst IsStanding rest.no_job.current awaits.1

pub returns-clause-state : goal.returns-clause-state
returns-clause-state c =
    table_set c.args.self.now c.self.inside.list.items c.self.inside.dead c.args.device c.from.result (λ x. after_answer x c.args.reply.now) c.index_mut.result.now c.hear.new.self
    c.self.view_is c.requires.device c.from.ensures c.index_mut.ensures.value c.hear.ensures.state

pub invariant_of-self : goal.invariant_of-self
invariant_of-self c =
    let x : Listening = c.index_mut.result.now in
    let y : Listening = c.hear.new.self in
    stays c.self.inside c.args.self.now c.args.device c.from.result x y c.self.view_is c.requires.device c.from.ensures c.index_mut.ensures.value
    (λ here. passes_busy x y (awaits_busy x (subst Awaits (sym here) c.requires.stands)) (λ none. ap (λ (z : Listening). z.lost) c.hear.ensures.state ∙ none)) c.self.invariant
