use Rattle.fw_explore.proofs.Common.{Ok, subst, Machine}
use Rattle.std.proofs.Common.{Err, OnOk}
use Rattle.std.specs.declared.result.Result.{Result}
use Rattle.fw_bus_places.specs.Places.{IsPlace}
use Rattle.fw_bus_places.proofs.PlaceLaws.{place_stays}
use Rattle.fw_explore.proofs.keeping.PlacesKeeper.keep.Goals as goal

-- what follows if a call was Ok
so_then : {T E : Type 0} (r : Result T E) (P Q : Type 0) → (P → Q) → OnOk r P → OnOk r Q
so_then (Ok t) P Q f h = f h
so_then (Err e) P Q f h = tt

pub returns-clause-place : goal.returns-clause-place
returns-clause-place c = so_then c.keep.result _ _ (λ p. record {
  place = subst (λ (m : Machine). IsPlace c.keep.new.self c.keep.new.out.items m) c.machine.ensures p;
  reached =
      c.stands.ensures;
}) c.keep.ensures.place

pub returns-clause-wider : goal.returns-clause-wider
returns-clause-wider c =
    so_then c.keep.result _ _ (λ more words m k. record { place = place_stays _ _ words m more k.place; reached = k.reached }) c.keep.ensures.wider
