use Rattle.fw_bus_engine.proofs.Common.{◌≡◌, ◌∙◌, ◌+◌, ap, sym, refl, IsFalse, None, Listening, states_of, living_there, Ok, Err, Failed}
use Rattle.fw_bus_engine.proofs.OneAction.{does_one, does_silent}
use Rattle.fw_bus_engine.proofs.Leaves.{half_counted, half_only_counted, said_nothing}
use Rattle.fw_bus_engine.proofs.StepTurns.{idle_turns, step_turns}
use Rattle.fw_bus_engine.proofs.steps.half_step.Goals as goal

pub get-requires : goal.get-requires
get-requires g c = (living_there c.args.machine.now c.args.device c.requires.ready c.requires.living).controller

pub deaf_step-requires : goal.deaf_step-requires
deaf_step-requires g c = record {
  ready = c.requires.ready;
  living = c.requires.living;
  deaf = sym (ap (λ (x : Listening). x.lost) c.get.ensures) ∙ (sym c.is_deaf.ensures ∙ c.if-is_deaf.true);
  few = c.requires.few;
}

pub turn-requires : goal.turn-requires
turn-requires g c = record {
  ready = c.requires.ready;
  may = (c.requires.living, sym (ap (λ (x : Listening). x.lost) c.get.ensures) ∙ (sym c.is_deaf.ensures ∙ c.if-is_deaf.false));
}

pub returns-then-is_calm-clause-does : goal.returns-then-is_calm-clause-does
returns-then-is_calm-clause-does g c =
    does_silent (g.K.Sink.held c.args.sink.now) (g.K.Sink.faults c.args.sink.now) c.args.machine.now.cycle tt
    (idle_turns c.args.machine.now c.args.device c.requires.living c.requires.few (c.is_calm.ensures c.if-is_calm.true))

pub returns-in-Ok-clause-does : goal.returns-in-Ok-clause-does
returns-in-Ok-clause-does g c =
    let x = c.in-Ok.ensures in
    let quiet : IsFalse (states_of c.args.machine.now.controllers c.args.device).lost =
    sym (ap (λ (x : Listening). x.lost) c.get.ensures) ∙ (sym c.is_deaf.ensures ∙ c.if-is_deaf.false) in
    does_one c.turn.new.machine.cycle x.entry (Ok tt) (step_turns _ _ _ _ c.requires.living c.requires.few x.turns.time quiet x.turns.takes) x.gives x.faults

pub returns-in-Err-clause-does : goal.returns-in-Err-clause-does
returns-in-Err-clause-does g c =
    let x = c.in-Err.ensures in
    let quiet : IsFalse (states_of c.args.machine.now.controllers c.args.device).lost =
    sym (ap (λ (x : Listening). x.lost) c.get.ensures) ∙ (sym c.is_deaf.ensures ∙ c.if-is_deaf.false) in
    does_one c.turn.new.machine.cycle x.entry (Err c.in-Err.failed) (step_turns _ _ _ _ c.requires.living c.requires.few x.turns.time quiet x.turns.takes) x.gives x.faults

pub returns-then-is_calm-clause-half : goal.returns-then-is_calm-clause-half
returns-then-is_calm-clause-half g c = λ same asks may. half_only_counted c.args.device _ asks c.args.machine.now

pub returns-then-is_calm-clause-silent : goal.returns-then-is_calm-clause-silent
returns-then-is_calm-clause-silent g c = λ bytes before after. refl

pub returns-in-Ok-clause-half : goal.returns-in-Ok-clause-half
returns-in-Ok-clause-half g c = λ same asks may. half_counted c.args.device _ asks c.args.machine.now _ (c.in-Ok.ensures.turns.leaves asks may)

pub returns-in-Err-clause-half : goal.returns-in-Err-clause-half
returns-in-Err-clause-half g c = λ same asks may. half_counted c.args.device _ asks c.args.machine.now _ (c.in-Err.ensures.turns.leaves asks may)

pub returns-in-Ok-clause-silent : goal.returns-in-Ok-clause-silent
returns-in-Ok-clause-silent g c =
    λ bytes before after.
    let x = c.in-Ok.ensures in
    let none : x.entry ≡ None = said_nothing {T = Unit {0}} {E = Failed} _ _ (Ok (tt {0})) c.turn.new.machine.cycle c.turn.new.machine.devices.epoch x.entry x.gives bytes before after in
    let stays : c.turn.new.machine ≡ c.args.machine.now = x.turns.silent none in
    λ i. record (stays i) { half_steps = (stays i).half_steps + 1 }

pub returns-in-Ok-clause-living : goal.returns-in-Ok-clause-living
returns-in-Ok-clause-living g c = c.in-Ok.ensures.turns.living

pub returns-in-Err-clause-living : goal.returns-in-Err-clause-living
returns-in-Err-clause-living g c = c.in-Err.ensures.turns.living

pub returns-in-Ok-clause-names : goal.returns-in-Ok-clause-names
returns-in-Ok-clause-names g c = c.in-Ok.ensures.turns.names

pub returns-in-Err-clause-names : goal.returns-in-Err-clause-names
returns-in-Err-clause-names g c = c.in-Err.ensures.turns.names

pub returns-in-Ok-clause-count : goal.returns-in-Ok-clause-count
returns-in-Ok-clause-count g c = ap (λ n. n + 1) c.in-Ok.ensures.turns.half_steps

pub returns-in-Err-clause-count : goal.returns-in-Err-clause-count
returns-in-Err-clause-count g c = ap (λ n. n + 1) c.in-Err.ensures.turns.half_steps
