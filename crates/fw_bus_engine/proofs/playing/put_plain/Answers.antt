use Rattle.fw_bus_engine.proofs.Common.{◌+◌, subst, ap, refl, sym, ◌∙◌, arith, ResetEntry}
use Rattle.fw_model_run.specs.Streams.{cycle_start}
use Rattle.fw_bus_engine.specs.Playing.{AreTalkingPlugs, recorded}
use Rattle.fw_bus_engine.proofs.OneCycle.{cycle_then, cycle_unheard}
use Rattle.fw_bus_engine.proofs.Doings.{ready_after}
use Rattle.fw_bus_engine.proofs.Plain.{begun_ahead, deck_stays, root_ahead}
use Rattle.fw_bus_engine.proofs.Players.{lent_back}
use Rattle.fw_bus_engine.proofs.playing.put_plain.Goals as goal

pub cycle_start-start-requires : goal.cycle_start-start-requires
cycle_start-start-requires g c =
    let root = root_ahead c.args.cycle_streams.now.gone c.args.machine.now c.args.room.now.cycle c.requires.ready c.requires.some c.requires.few c.requires.apart in
    let is = ap (λ (e : ResetEntry). e.root) (c.get.ensures ∙ c.latest.ensures) in
    omega (arith, root, is)

pub put_entry-requires : goal.put_entry-requires
put_entry-requires g c = record { fits = c.cycle_start-start.ensures.fits; room = let room = c.requires.room in omega (arith, room) }

pub put_talking_plugs-requires : goal.put_talking_plugs-requires
put_talking_plugs-requires g c =
    let n = c.args.cycle_streams.now.gone in
    let m = c.args.machine.now in
    let is = c.cycle_start-start.ensures.value ∙ ap (λ (e : ResetEntry). cycle_start e.root (m.cycle + 1)) (c.get.ensures ∙ c.latest.ensures) in
    let begun = begun_ahead n m _ c.requires.ready c.requires.some c.requires.written c.requires.few c.requires.apart is c.put_entry.ensures.gives in
    record {
      ready = ready_after c.requires.ready begun;
      desk = c.requires.desk;
      talking_plugs = subst (AreTalkingPlugs _ _) (sym c.as_mut_slice-talking_plugs.ensures.value) c.requires.cycle_streams.talking_plugs;
      nothing = tt;
      room = let room = c.requires.room in let size = c.put_entry.ensures.size in omega (arith, room, size);
    }

pub put_recorded-requires : goal.put_recorded-requires
put_recorded-requires g c =
    let n = c.args.cycle_streams.now.gone in
    let m = c.args.machine.now in
    let is = c.cycle_start-start.ensures.value ∙ ap (λ (e : ResetEntry). cycle_start e.root (m.cycle + 1)) (c.get.ensures ∙ c.latest.ensures) in
    let begun = begun_ahead n m _ c.requires.ready c.requires.some c.requires.written c.requires.few c.requires.apart is c.put_entry.ensures.gives in
    record {
      ready = ready_after c.requires.ready begun;
      desk = c.requires.desk;
      talking_plugs = subst (AreTalkingPlugs _ _) (sym c.as_mut_slice-talking_plugs.ensures.value) c.requires.cycle_streams.talking_plugs;
      limit = rw c.in-Some.is at c.requires.cycle_streams.limit;
      room = let room = c.requires.room in let size = c.put_entry.ensures.size in omega (arith, room, size);
    }

pub returns-in-Some : goal.returns-in-Some
returns-in-Some g c =
    let n = c.args.cycle_streams.now.gone in
    let m = c.args.machine.now in
    let is = c.cycle_start-start.ensures.value ∙ ap (λ (e : ResetEntry). cycle_start e.root (m.cycle + 1)) (c.get.ensures ∙ c.latest.ensures) in
    let begun = begun_ahead n m _ c.requires.ready c.requires.some c.requires.written c.requires.few c.requires.apart is c.put_entry.ensures.gives in
    let x = c.put_recorded.ensures.puts in
    rw x.kept (record {
      cycle_streams = record {
        talking_plugs = lent_back c.as_mut_slice-talking_plugs.ensures.value c.put_recorded.ensures.count c.put_recorded.ensures.talking_plugs;
        deck = deck_stays n m _ _ c.requires.ready c.requires.cycle_streams.deck refl refl;
        limit = c.requires.cycle_streams.limit;
      };
      gone = refl;
      cycle = refl;
      fills = cycle_then _ _ x.heard refl
          (λ s good st. sym (ap recorded c.in-Some.is) ∙ deck_stays n m _ _ c.requires.ready c.requires.cycle_streams.deck refl refl s good st)
          x.same begun x.puts;
    })

pub returns-in-None : goal.returns-in-None
returns-in-None g c =
    let n = c.args.cycle_streams.now.gone in
    let m = c.args.machine.now in
    let is = c.cycle_start-start.ensures.value ∙ ap (λ (e : ResetEntry). cycle_start e.root (m.cycle + 1)) (c.get.ensures ∙ c.latest.ensures) in
    let begun = begun_ahead n m _ c.requires.ready c.requires.some c.requires.written c.requires.few c.requires.apart is c.put_entry.ensures.gives in
    record {
      cycle_streams = record {
        talking_plugs = lent_back c.as_mut_slice-talking_plugs.ensures.value c.put_talking_plugs.ensures.count c.put_talking_plugs.ensures.talking_plugs;
        deck = deck_stays n m _ _ c.requires.ready c.requires.cycle_streams.deck refl refl;
        limit = c.requires.cycle_streams.limit;
      };
      gone = refl;
      cycle = refl;
      fills = cycle_unheard _ c.put_talking_plugs.new.heard refl
          (λ s good st. sym (ap recorded c.in-None.is) ∙ deck_stays n m _ _ c.requires.ready c.requires.cycle_streams.deck refl refl s good st)
          c.put_talking_plugs.ensures.same begun c.put_talking_plugs.ensures.puts;
    }
