use Rattle.fw_bus_engine.proofs.Common.{ℕ, Option, Some, None, refl, sym, subst}
use Rattle.fw_bus_engine.specs.Playing.{IsAt}
use Rattle.fw_bus_engine.proofs.cycle_streams.talking_plug_on.Goals as goal

pub talking_plug_of-requires : goal.talking_plug_of-requires
talking_plug_of-requires c =
    let talk = c.requires.talkers.talk _ _ (sym c.in-Some.ensures) in
    record { ready = c.requires.ready; declared = talk.0; talks = talk.1 }

pub returns-in-Some : goal.returns-in-Some
returns-in-Some c =
    let m = c.args.machine.now in
    subst (λ (o : Option ℕ). IsAt m.devices.nodes m.streams c.args.channel o (Some c.talking_plug_of.result)) c.in-Some.ensures (c.talking_plug_of.result, refl, c.talking_plug_of.ensures)

pub returns-in-None : goal.returns-in-None
returns-in-None c = subst (λ (o : Option ℕ). IsAt c.args.machine.now.devices.nodes c.args.machine.now.streams c.args.channel o None) c.in-None.ensures refl
