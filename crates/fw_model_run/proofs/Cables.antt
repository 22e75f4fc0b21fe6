-- A cable, and a bus reset that a device begins, lead from a good state to a good state.
use Rattle.fw_model_run.proofs.Common.{◌≡◌, ℕ, ◌+◌, ◌<◌, List, length, Bool, true, false, Option, Some, None, refl, ap}
use Rattle.fw_model_run.proofs.Common.{sym, subst, ◌∙◌, arith, is_some, IsTrue, not, ◌&&◌, ResetEntry, PhyFacts, IsOnBus}
use Rattle.fw_model_run.proofs.Common.{Topology, IsJoined, kind_at, node_number, row_of, Shows, on_bus_declared, MOST_HALF_STEPS, MOST_RESETS, State, Declared, is_on, number_in, is_living, is_linked}
use Rattle.fw_model_run.proofs.Common.{is_deaf, linked_number, with_link, after_reset_entry, with_topology, counted, IsGood, IsLatest, AreDeclared, NodeRow}
use Rattle.std.proofs.Common.{◌↔◌}
use Rattle.fw_tree.specs.declared.facts.End.{End}
use Rattle.fw_tree.specs.Topology as Topologies
use Rattle.fw_devices.specs.Network.{AreKinds}
use Rattle.fw_devices.proofs.BusLaws.{bus_stays}
use Rattle.fw_devices.proofs.JoinLaws.{bus_grows}
use Rattle.fw_model_run.specs.Afterwards.{counting}
use Rattle.fw_model_run.specs.BusDeeds.{MayJoin, MayResetBus, joining, joining_ends, resetting}
use Rattle.fw_model_run.specs.Found.{FoundBetween, FoundCable}
use Rattle.fw_model_run.proofs.Networks.{shows_cabled, never_both}
use Rattle.fw_model_run.proofs.OffCables.{entry_cabled}
use Rattle.fw_model_run.proofs.Resets.{MayReset, reset_good, resets_by}
use Rattle.fw_model_run.proofs.Times.{counting_good, counted_good}

-- ---- which devices are on the bus

-- a device with a number is declared
number_declared : (s : State) (e : ResetEntry) → Shows s.declared.topology s.declared.kinds e → (d : ℕ) (o : Option ℕ) → node_number e.nodes d ≡ o → IsTrue (is_some o)
    → d < length s.declared.topology.devices
number_declared s e h d None at on = absurd (grind (arith, on))
number_declared s e h d (Some n) at on = h.declared n (row_of d (kind_at s.declared.kinds d)) (h.numbers d n at)

pub on_is_bus : (s : State) → IsGood s → 0 < length s.declared.names → (d : ℕ) → IsTrue (is_on s d) ↔ IsOnBus s.declared.topology.cables d
on_is_bus s g some d = go s.account.latest refl g.latest
  where
    go : (o : Option ResetEntry) → s.account.latest ≡ o → IsLatest o s.declared s.account → IsTrue (is_some (number_in o d)) ↔ IsOnBus s.declared.topology.cables d
    go None is h = absurd (omega (arith, some, ap (λ (xs : List (List ℕ)). length xs) h.0))
    go (Some e) is h = (
      λ num. (h.1.nodes d (number_declared s e h.1 d (node_number e.nodes d) refl num)).0 num,
      λ on. (h.1.nodes d (on_bus_declared s.declared.topology g.declared.made (subst (λ n. 0 < n) g.declared.named some) d on)).1 on,
    )

-- if a device is on the bus there is a device
pub on_some : (s : State) (d : ℕ) → IsGood s → IsTrue (is_on s d) → 0 < length s.declared.names
on_some s d g on = go s.account.latest refl g.latest on
  where
    go : (o : Option ResetEntry) → s.account.latest ≡ o → IsLatest o s.declared s.account → IsTrue (is_some (number_in o d)) → 0 < length s.declared.names
    go None is h num = absurd (grind (arith, num))
    go (Some e) is h num = h.0

-- ---- a cable more

pub cabled_declared : (n : Declared) (u : Topology) (a b : End) → IsJoined n.topology u a b → AreDeclared n → AreDeclared (record n { topology = u })
cabled_declared n u a b j h = record {
  made = Topologies.cable h.made a b j;
  kinds = subst (λ (xs : List PhyFacts). AreKinds xs n.kinds) (sym j.same) h.kinds;
  named = h.named ∙ ap (λ (xs : List PhyFacts). length xs) (sym j.same);
}

pub cabled_may : (s : State) (u : Topology) (a b : End) → IsGood s → IsJoined s.declared.topology u a b → 0 < length s.declared.names → s.resets < MOST_RESETS
    → MayReset (counting s) (record s.declared { topology = u })
cabled_may s u a b g j some few = record {
  good = counting_good s g few;
  counted = omega (arith, g.losses.came);
  declared = cabled_declared s.declared u a b j g.declared;
  some = some;
  kinds = λ e is. refl;
  stays = λ e is d on. bus_grows s.declared.topology u a b j g.declared.made d on;
}

-- between two devices that are off
pub cabled_good : (s : State) (u : Topology) (a b : End) → IsGood s → IsJoined s.declared.topology u a b → (IsTrue (is_on s a.device) → ⊥) → (IsTrue (is_on s b.device) → ⊥)
    → IsGood (with_topology s u)
cabled_good s u a b g j off_a off_b = record {
  declared = cabled_declared s.declared u a b j g.declared;
  latest = latest_ s.account.latest g.latest;
  reclaims = g.reclaims;
  stands = g.stands;
  unused = g.unused;
  time = g.time;
  losses = g.losses;
  half_steps = g.half_steps;
  written = g.written;
  decks = g.decks;
  streams = g.streams;
}
  where
    latest_ : (o : Option ResetEntry) → IsLatest o s.declared s.account → IsLatest o (with_topology s u).declared (with_topology s u).account
    latest_ None h = h
    latest_ (Some e) h = (
      h.0,
      shows_cabled s.declared.topology u s.declared.kinds e j.same
          (bus_stays s.declared.topology u a b j g.declared.made (λ on. off_a ((on_is_bus s g h.0 a.device).1 on)) (λ on. off_b ((on_is_bus s g h.0 b.device).1 on))) h.1,
      h.2,
      h.3,
      h.4,
      (h.5.0, entry_cabled s.declared.topology u a b s.declared.kinds e.epoch h.5.0 e j (λ on. off_a ((on_is_bus s g h.0 a.device).1 on)) (λ on. off_b ((on_is_bus s g h.0 b.device).1 on)) h.5.1),
    )

pub cable_good : (s : State) (a b : End) (found : FoundCable (is_on s a.device) (is_on s b.device)) → IsGood s → (joining s a b found).may → IsGood (joining s a b found).after
cable_good s a b found g may = go (is_on s a.device) (is_on s b.device) refl refl found.begun may
  where
    u : Topology
    u = found.topology

    begins : (d : ℕ) (e : ResetEntry) → IsTrue (is_on s d) → MayJoin s a b u d e → IsGood (after_reset_entry (counting (with_topology s u)) e)
    begins d e on may =
        reset_good (counting s) (record s.declared { topology = u }) d _ _ (cabled_may s u a b g may.joined (on_some s d g on) may.begins.counts)
        (resets_by (s.resets + 1) s.half_steps may.begins.reset refl refl)

    go : (x y : Bool) → is_on s a.device ≡ x → is_on s b.device ≡ y → (f : FoundBetween x y) → (joining_ends x y s a b u f).may → IsGood (joining_ends x y s a b u f).after
    go true false on_a off_b e may = begins a.device e on_a may
    go false true off_a on_b e may = begins b.device e on_b may
    go true true on_a on_b f may =
        let some = on_some s a.device g on_a in
        absurd (never_both s.declared.topology u a b g.declared.made may ((on_is_bus s g some a.device).0 on_a) ((on_is_bus s g some b.device).0 on_b))
    go false false off_a off_b f may = cabled_good s u a b g may (λ on. grind (arith, on, off_a)) (λ on. grind (arith, on, off_b))

-- ---- a bus reset that a device begins

pub begun_may : (s : State) (d : ℕ) → IsGood s → IsTrue (is_on s d) → s.resets < MOST_RESETS → MayReset (counting s) s.declared
begun_may s d g on few = record {
  good = counting_good s g few;
  counted = omega (arith, g.losses.came);
  declared = g.declared;
  some = on_some s d g on;
  kinds = λ e is. refl;
  stays = λ e is k walk. walk;
}

pub begun_good : (s : State) (d : ℕ) (e : ResetEntry) → IsGood s → MayResetBus s d e → IsGood (resetting s d e).after
begun_good s d e g may =
    reset_good (counting s) s.declared d _ _ (begun_may s d g may.on may.begins.counts) (resets_by (s.resets + 1) s.half_steps may.begins.reset refl refl)

-- ---- a bus reset that a controller forces

-- a living controller's device is on the bus
pub living_on : (s : State) (d : ℕ) → IsTrue (is_living s d) → IsTrue (is_on s d)
living_on s d lives = go s.account.latest (first (is_linked s d) (not (s.dead d)) lives)
  where
    first : (a b : Bool) → (a && b) ≡ true → a ≡ true
    first a b e = grind (arith, e)

    of_node : (rows : List NodeRow) (n : Option ℕ) → is_some (with_link rows n) ≡ true → is_some n ≡ true
    of_node rows None e = e
    of_node rows (Some n) e = refl

    go : (o : Option ResetEntry) → is_some (linked_number o d) ≡ true → is_some (number_in o d) ≡ true
    go None e = e
    go (Some r) e = of_node r.nodes (node_number r.nodes d) e

pub forced_may : (s : State) (d : ℕ) → IsGood s → IsTrue (is_living s d) → IsTrue (is_deaf s d) → s.half_steps < MOST_HALF_STEPS → MayReset (counted s 1) s.declared
forced_may s d g lives deaf few = record {
  good = counted_good s 1 g (omega (arith, few));
  counted = g.losses.counted d deaf;
  declared = g.declared;
  some = on_some s d g (living_on s d lives);
  kinds = λ e is. refl;
  stays = λ e is k walk. walk;
}
