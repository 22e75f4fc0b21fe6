use Rattle.fw_bus_engine.proofs.Common.{subst, Carries}
use Rattle.fw_bus_state.specs.Orders.{MayCarry}
use Rattle.fw_bus_engine.proofs.CarryLaws.{by_desk, carried, finish_turns, given_prefix}
use Rattle.fw_bus_engine.proofs.OneAction.{does_entry}
use Rattle.fw_bus_engine.proofs.carry.carry_out.Goals as goal

-- ---- what each call asks

pub withhold-requires : goal.withhold-requires
withhold-requires g c = record { ready = c.requires.ready; first = subst (MayCarry c.args.machine.now) c.in-Withhold.is c.requires.may }

pub declare-requires : goal.declare-requires
declare-requires g c = let may = subst (MayCarry c.args.machine.now) c.in-Declare.is c.requires.may in record { ready = c.requires.ready; room = may.0; some = may.1; most = may.2; speed = may.3 }

pub join-requires : goal.join-requires
join-requires g c = let may = subst (MayCarry c.args.machine.now) c.in-Cable.is c.requires.may in record { ready = c.requires.ready; free = may.0; few = may.1 }

pub reset-requires : goal.reset-requires
reset-requires g c = let may = subst (MayCarry c.args.machine.now) c.in-Reset.is c.requires.may in record { ready = c.requires.ready; on = may.0; few = may.1 }

pub connect-requires : goal.connect-requires
connect-requires g c = let may = subst (MayCarry c.args.machine.now) c.in-Connect.is c.requires.may in record { ready = c.requires.ready; living = may.0; held = may.1; found = may.2 }

pub break_connection-requires : goal.break_connection-requires
break_connection-requires g c = let may = subst (MayCarry c.args.machine.now) c.in-Break.is c.requires.may in record { ready = c.requires.ready; living = may.0; accepted = may.1 }

pub steps-requires : goal.steps-requires
steps-requires g c = let may = subst (MayCarry c.args.machine.now) c.in-Step.is c.requires.may in record { ready = c.requires.ready; living = may.0; few = may.1 }

pub settle-requires : goal.settle-requires
settle-requires g c = record { ready = c.requires.ready; few = subst (MayCarry c.args.machine.now) c.in-Settle.is c.requires.may }

pub wait-requires : goal.wait-requires
wait-requires g c = record { ready = c.requires.ready; few = subst (MayCarry c.args.machine.now) c.in-Wait.is c.requires.may }

pub cycles-requires : goal.cycles-requires
cycles-requires g c = let may = subst (MayCarry c.args.machine.now) c.in-Cycles.is c.requires.may in record { ready = c.requires.ready; desk = c.requires.blocks; few = may.0; written = may.1 }

pub die-requires : goal.die-requires
die-requires g c = record { ready = c.requires.ready; living = subst (MayCarry c.args.machine.now) c.in-Die.is c.requires.may }

pub lose-requires : goal.lose-requires
lose-requires g c = let may = subst (MayCarry c.args.machine.now) c.in-Lose.is c.requires.may in record { ready = c.requires.ready; living = may.0; standing = may.1; few = may.2 }

pub start-requires : goal.start-requires
start-requires g c = record { ready = c.requires.ready; linked = subst (MayCarry c.args.machine.now) c.in-Start.is c.requires.may }

pub transact-requires : goal.transact-requires
transact-requires g c = let may = subst (MayCarry c.args.machine.now) c.in-Transact.is c.requires.may in record { ready = c.requires.ready; from = may.0; to = may.1; free = may.2; access = may.3 }

pub command-requires : goal.command-requires
command-requires g c = let may = subst (MayCarry c.args.machine.now) c.in-Command.is c.requires.may in
    record { ready = c.requires.ready; desk = c.requires.desk; quiet = c.requires.quiet; from = may.0; to = may.1; few = may.2 }

pub insert-requires : goal.insert-requires
insert-requires g c = let may = subst (MayCarry c.args.machine.now) c.in-Insert.is c.requires.may in record { ready = c.requires.ready; declared = may.0; deck = may.1 }

pub eject-requires : goal.eject-requires
eject-requires g c = let may = subst (MayCarry c.args.machine.now) c.in-Eject.is c.requires.may in record { ready = c.requires.ready; declared = may.0; deck = may.1 }

pub show-requires : goal.show-requires
show-requires g c = let may = subst (MayCarry c.args.machine.now) c.in-Show.is c.requires.may in record { ready = c.requires.ready; linked = may.0; offset = may.1; complete = may.2 }

pub become_candidate-requires : goal.become_candidate-requires
become_candidate-requires g c = let may = subst (MayCarry c.args.machine.now) c.in-Candidate.is c.requires.may in record { ready = c.requires.ready; living = may.0; capable = may.1 }

pub contend-requires : goal.contend-requires
contend-requires g c = let may = subst (MayCarry c.args.machine.now) c.in-Contend.is c.requires.may in record { ready = c.requires.ready; candidate = may.1; few = may.2 }

pub dub-requires : goal.dub-requires
dub-requires g c = let may = subst (MayCarry c.args.machine.now) c.in-Dub.is c.requires.may in record { ready = c.requires.ready; declared = may.0; deck = may.1; on = may.2 }

-- ---- what each call did

pub returns-in-Declare : goal.returns-in-Declare
returns-in-Declare g c = record { does = carried _ c.in-Declare.is tt (λ s t out f. Carries.declares f) c.declare.ensures.does }

pub returns-in-Cable : goal.returns-in-Cable
returns-in-Cable g c = record { does = carried _ c.in-Cable.is tt (λ s t out f. Carries.joins f) c.join.ensures.does }

pub returns-in-Reset : goal.returns-in-Reset
returns-in-Reset g c = record { does = carried _ c.in-Reset.is tt (λ s t out f. Carries.resets f) c.reset.ensures.does }

pub returns-in-Connect : goal.returns-in-Connect
returns-in-Connect g c = record { does = carried _ c.in-Connect.is tt (λ s t out f. Carries.connects f) c.connect.ensures.does }

pub returns-in-Break : goal.returns-in-Break
returns-in-Break g c = record { does = carried _ c.in-Break.is tt (λ s t out f. Carries.breaks f) c.break_connection.ensures.does }

pub returns-in-Step : goal.returns-in-Step
returns-in-Step g c = record { does = carried _ c.in-Step.is tt (λ s t out f. Carries.steps f) c.steps.ensures.does }

pub returns-in-Transact : goal.returns-in-Transact
returns-in-Transact g c = record { does = carried _ c.in-Transact.is tt (λ s t out f. Carries.transacts f) c.transact.ensures.does }

pub returns-in-Show : goal.returns-in-Show
returns-in-Show g c = record { does = carried _ c.in-Show.is tt (λ s t out f. Carries.shows f) c.show.ensures.does }

pub returns-in-Candidate : goal.returns-in-Candidate
returns-in-Candidate g c = record { does = by_desk c.in-Candidate.is tt c.become_candidate.ensures.does }

pub returns-in-Contend : goal.returns-in-Contend
returns-in-Contend g c = record { does = carried _ c.in-Contend.is tt (λ s t out f. Carries.contends f) c.contend.ensures.does }

pub returns-in-Dub : goal.returns-in-Dub
returns-in-Dub g c = record { does = carried _ c.in-Dub.is tt (λ s t out f. Carries.dubs f) c.dub.ensures.does }

pub returns-in-End : goal.returns-in-End
returns-in-End g c = record { does = carried _ c.in-End.is tt (λ s t out f. Carries.ends f) (does_entry (finish_turns _) c.emit.ensures) }

pub returns-in-Withhold : goal.returns-in-Withhold
returns-in-Withhold g c = record { does = by_desk c.in-Withhold.is tt c.withhold.ensures.does }

pub returns-in-Settle : goal.returns-in-Settle
returns-in-Settle g c = record { does = by_desk c.in-Settle.is tt c.settle.ensures.does }

pub returns-in-Wait : goal.returns-in-Wait
returns-in-Wait g c = record { does = by_desk c.in-Wait.is tt c.wait.ensures.does }

pub returns-in-Die : goal.returns-in-Die
returns-in-Die g c = record { does = by_desk c.in-Die.is tt c.die.ensures.does }

pub returns-in-Lose : goal.returns-in-Lose
returns-in-Lose g c = record { does = by_desk c.in-Lose.is tt c.lose.ensures.does }

pub returns-in-Start : goal.returns-in-Start
returns-in-Start g c = record { does = by_desk c.in-Start.is tt c.start.ensures.does }

pub returns-in-Insert : goal.returns-in-Insert
returns-in-Insert g c = record { does = by_desk c.in-Insert.is tt c.insert.ensures.does }

pub returns-in-Eject : goal.returns-in-Eject
returns-in-Eject g c = record { does = by_desk c.in-Eject.is tt c.eject.ensures.does }

pub returns-in-Command : goal.returns-in-Command
returns-in-Command g c = record { does = rw c.in-Command.is (given_prefix _ c.command.ensures.does) }

pub returns-in-Cycles : goal.returns-in-Cycles
returns-in-Cycles g c = record { does = rw c.in-Cycles.is c.cycles.ensures.does }
