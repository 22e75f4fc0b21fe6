use Rattle.fw_bus_state.proofs.Common.{◌≡◌, ◌⊎◌, inl, inr, ◌<◌, ℕ, List, Bool, true, false, cond, refl, length, rules, arith}
use Rattle.fw_bus_state.proofs.Common.{sym, subst, ap, ◌∙◌, IsTrue, IsFalse, Listening, first_listening, next, IsAtRest, count_of}
use Rattle.fw_cmp.specs.Losses.{after_turn, asked_by}
use Rattle.fw_cmp.specs.Turns.{after_next}
use Rattle.fw_cmp.specs.declared.outcome.Next.TheVariants.{Idle}
use Rattle.fw_cmp_jobs.specs.declared.directory.Directory.{Directory}
use Rattle.fw_cmp.proofs.Resting.{rest_same}
use Rattle.fw_bus_state.proofs.Tables.{hearing_put, marked_put, table_set, unmarked}
use Rattle.fw_bus_state.proofs.controllers.Controllers.next.Goals as goal

pub returns-clause-state : goal.returns-clause-state
returns-clause-state c =
    let x : Listening = c.index_mut-controller.result.now in
    table_set c.args.self.now c.self.inside.list.items c.self.inside.dead c.args.device c.from.result (after_turn c.args.now c.args.directory.now) x c.next-next.new.self
    c.self.view_is c.requires.device c.from.ensures c.index_mut-controller.ensures.value c.next-next.ensures.state

-- the turn of one that has lost no response
abbrev heard_turn : ℕ → Directory → Listening → Listening
heard_turn now d x = record x { state = after_next now d x.state; asked_at = asked_by now x.asked_at (next now d x.state) }

-- if it has nothing to do, it stays as it is
turn_rests : (now : ℕ) (d : Directory) (x : Listening) → IsAtRest x.state → IsAtRest (after_turn now d x).state
turn_rests now d x here = go x.lost refl
  where
    go : (b : Bool) → x.lost ≡ b → IsAtRest (after_turn now d x).state
    go true e = subst (λ b. IsAtRest (cond b x (heard_turn now d x)).state) (sym e) here
    go false e = subst (λ b. IsAtRest (cond b x (heard_turn now d x)).state) (sym e) (subst IsAtRest (sym (rest_same now d x.state here)) here)

-- it hears if it heard
turn_hears : (now : ℕ) (d : Directory) (x : Listening) → IsFalse x.lost → IsFalse (after_turn now d x).lost
turn_hears now d x here = subst (λ b. IsFalse (cond b x (heard_turn now d x)).lost) (sym here) here

rests : (c : goal.After-from-3) → IsTrue c.is_at_rest.result → IsAtRest c.next-next.new.self.state
rests c on = by (c.is_at_rest.ensures on)
  where
    by : (c.next-next.result ≡ Idle) ⊎ IsAtRest c.next-next.new.self.state → IsAtRest c.next-next.new.self.state
    by (inr rest) = rest
    by (inl idle) =
        let old : Listening = c.index_mut-controller.result.now in
        subst (λ (x : Listening). IsAtRest x.state) (sym c.next-next.ensures.state) (turn_rests c.args.now c.args.directory.now old (c.next-next.ensures.idle.0 idle))

hears : (c : goal.After-from-3) → IsFalse c.index_mut-controller.result.now.lost → IsFalse c.next-next.new.self.lost
hears c here = ap (λ (x : Listening). x.lost) c.next-next.ensures.state ∙ turn_hears c.args.now c.args.directory.now c.index_mut-controller.result.now here

pub invariant_of-self : goal.invariant_of-self
invariant_of-self c =
    let items : List Listening = c.self.inside.list.items in
    let size = ap count_of c.self.view_is in
    let within : c.args.device < length items = omega (arith, size, c.requires.device) in
    let few = c.self.invariant.0.few in (
      search rules,
      marked_put
          (λ (x : Listening). IsAtRest x.state) c.self.inside.calm items c.args.device c.from.result c.from-2.result c.is_at_rest.result c.next-next.new.self c.self.invariant.1 within few
          c.from.ensures c.from-2.ensures (rests c),
      marked_put
          (λ x. x ≡ first_listening) c.self.inside.fresh items c.args.device c.from.result c.from-3.result false c.next-next.new.self c.self.invariant.2 within few c.from.ensures c.from-3.ensures
          (unmarked _),
      hearing_put
          c.self.inside.deaf items c.from.result c.index_mut-controller.result.now c.next-next.new.self c.self.invariant.3 (omega (arith, within, c.from.ensures))
          c.index_mut-controller.ensures.value (hears c),
    )
