use Rattle.fw_explore.proofs.Common.{Ok, sym, subst, Machine}
use Rattle.std.proofs.Common.{Err, OnOk}
use Rattle.std.specs.declared.result.Result.{Result}
use Rattle.fw_bus.specs.Changes.{IsHalfFrom}
use Rattle.fw_bus_places.specs.Places.{IsPlace}
use Rattle.fw_bus_places.proofs.PlaceLaws.{place_stays}
use Rattle.fw_explore.proofs.keeping.PlacesKeeper.keep_half.Goals as goal

pub keep_half-requires : goal.keep_half-requires
keep_half-requires c =
    let m = c.requires.now.0 in
    record { now = (m, c.requires.now.1.place, subst (IsHalfFrom c.args.device c.args.asks m) (sym c.machine.ensures) c.requires.now.2) }

-- what follows if a call was Ok
so_then : {T E : Type 0} (r : Result T E) (P Q : Type 0) → (P → Q) → OnOk r P → OnOk r Q
so_then (Ok t) P Q f h = f h
so_then (Err e) P Q f h = tt

pub returns-clause-place : goal.returns-clause-place
returns-clause-place c = so_then c.keep_half.result _ _ (λ p. record {
  place = subst (λ (m : Machine). IsPlace c.keep_half.new.self c.keep_half.new.out.items m) c.machine.ensures p;
  reached =
      c.stands.ensures;
}) c.keep_half.ensures.place

pub returns-clause-wider : goal.returns-clause-wider
returns-clause-wider c =
    so_then c.keep_half.result _ _ (λ more words m k. record { place = place_stays _ _ words m more k.place; reached = k.reached }) c.keep_half.ensures.wider
