-- What the latest reset entry shows stays true while devices and cables come that are off.
use Rattle.fw_model_run.proofs.Common.{◌≡◌, ◌≢◌, ◌⊎◌, inl, inr, ℕ, ◌+◌, ◌<◌, ◌≤◌, List, [], ◌∷◌, ◌++◌, length, false, Option, Some, None, refl, ap, sym, subst, ◌∙◌, arith, is_some, IsTrue, cases_eq}
use Rattle.fw_model_run.proofs.Common.{DeviceKind, is_contender, ResetEntry, PhyFacts, IsOnBus, facts_at, Topology, Made, IsJoined, sound_made, kind_at, node_number, row_of, Shows, on_bus_declared}
use Rattle.std.proofs.Common.{◌↔◌}
use Rattle.std.proofs.lemmas.List.{length-append, get_or_append_left}
use Rattle.std.proofs.Math.Seq.{get_or-append_seam}
use Rattle.fw_terms.specs.declared.device.DeviceKind.TheVariants.{Relay}
use Rattle.fw_terms.specs.Devices.{has_link}
use Rattle.fw_tree.specs.declared.facts.End.{End}
use Rattle.fw_tree.specs.Topology as Topologies
use Rattle.fw_tree.proofs.RoundLaws.{joins, walk_back}
use Rattle.fw_devices.specs.Network.{AreKinds, facts_of}

-- ---- one more of a list

pub kind_before : (kinds : List DeviceKind) (kind : DeviceKind) (d : ℕ) → d < length kinds → kind_at (kinds ++ kind ∷ []) d ≡ kind_at kinds d
kind_before kinds kind d lt = get_or_append_left kinds (kind ∷ []) Relay d lt

pub kind_last : (kinds : List DeviceKind) (kind : DeviceKind) → kind_at (kinds ++ kind ∷ []) (length kinds) ≡ kind
kind_last kinds kind = get_or-append_seam kinds kind [] Relay

pub facts_before : (devices : List PhyFacts) (facts : PhyFacts) (d : ℕ) → d < length devices → facts_at (devices ++ facts ∷ []) d ≡ facts_at devices d
facts_before devices facts d lt = get_or_append_left devices (facts ∷ []) (record { ports = 0; speed = 0; link = false; contender = false }) d lt

pub facts_last : (devices : List PhyFacts) (facts : PhyFacts) → facts_at (devices ++ facts ∷ []) (length devices) ≡ facts
facts_last devices facts = get_or-append_seam devices facts [] (record { ports = 0; speed = 0; link = false; contender = false })

pub one_more : {A : Type 0} → (xs : List A) (x : A) → length (xs ++ x ∷ []) ≡ length xs + 1
one_more xs x = length-append xs (x ∷ [])

before_or_last : (d n : ℕ) → d < n + 1 → (d < n) ⊎ (d ≡ n)
before_or_last d n lt = of (cases_eq d n)
  where
    of : (d ≡ n) ⊎ (d ≢ n) → (d < n) ⊎ (d ≡ n)
    of (inl e) = inr e
    of (inr ne) = inl (grind (arith, lt, ne))

-- ---- a device more

pub kinds_more : (devices : List PhyFacts) (kinds : List DeviceKind) (kind : DeviceKind) (ports speed : ℕ) → AreKinds devices kinds
    → AreKinds (devices ++ facts_of kind ports speed ∷ []) (kinds ++ kind ∷ [])
kinds_more devices kinds kind ports speed h = record {
  size = one_more kinds kind ∙ (ap (λ n. n + 1) h.size ∙ sym (one_more devices (facts_of kind ports speed)));
  link = λ d lt. link_ d (before_or_last d (length devices) (subst (λ n. d < n) (one_more devices (facts_of kind ports speed)) lt));
  contender = λ d lt. contender_ d (before_or_last d (length devices) (subst (λ n. d < n) (one_more devices (facts_of kind ports speed)) lt));
}
  where
    facts : PhyFacts
    facts = facts_of kind ports speed

    last_kind : kind_at (kinds ++ kind ∷ []) (length devices) ≡ kind
    last_kind = subst (λ n. kind_at (kinds ++ kind ∷ []) n ≡ kind) h.size (kind_last kinds kind)

    link_ : (d : ℕ) → (d < length devices) ⊎ (d ≡ length devices) → (facts_at (devices ++ facts ∷ []) d).link ≡ has_link (kind_at (kinds ++ kind ∷ []) d)
    link_ d (inl lt) = ap (λ (f : PhyFacts). f.link) (facts_before devices facts d lt) ∙ (h.link d lt ∙ ap has_link (sym (kind_before kinds kind d (subst (λ n. d < n) (sym h.size) lt))))
    link_ d (inr e) = subst (λ k. (facts_at (devices ++ facts ∷ []) k).link ≡ has_link (kind_at (kinds ++ kind ∷ []) k)) (sym e)
        (ap (λ (f : PhyFacts). f.link) (facts_last devices facts) ∙ ap has_link (sym last_kind))

    contender_ : (d : ℕ) → (d < length devices) ⊎ (d ≡ length devices) → (facts_at (devices ++ facts ∷ []) d).contender ≡ is_contender (kind_at (kinds ++ kind ∷ []) d)
    contender_ d (inl lt) = ap (λ (f : PhyFacts). f.contender) (facts_before devices facts d lt)
        ∙ (h.contender d lt ∙ ap is_contender (sym (kind_before kinds kind d (subst (λ n. d < n) (sym h.size) lt))))
    contender_ d (inr e) = subst (λ k. (facts_at (devices ++ facts ∷ []) k).contender ≡ is_contender (kind_at (kinds ++ kind ∷ []) k)) (sym e)
        (ap (λ (f : PhyFacts). f.contender) (facts_last devices facts) ∙ ap is_contender (sym last_kind))

-- a device without a number is not on the bus
pub made_more : (t : Topology) (facts : PhyFacts) → Made t → length t.devices < 63 → 0 < facts.ports → facts.ports ≤ 27 → facts.speed ≤ 2
    → Made (record { devices = t.devices ++ facts ∷ []; cables = t.cables })
made_more t facts made room some most speed = Topologies.device made facts (record { room = room; some = some; most = most; speed = speed; is = refl })

-- the entry still shows the bus: the new device is off
pub shows_more : (t : Topology) (kinds : List DeviceKind) (e : ResetEntry) (facts : PhyFacts) (kind : DeviceKind) → Made t → length kinds ≡ length t.devices → 0 < length t.devices → Shows t kinds e
    → Shows (record { devices = t.devices ++ facts ∷ []; cables = t.cables }) (kinds ++ kind ∷ []) e
shows_more t kinds e facts kind made size some h = record {
  network = h.network;
  declared = λ n row at. let lt = h.declared n row at in subst (λ k. row.device < k) (sym (one_more t.devices facts)) (omega (arith, lt));
  rows = λ n row at. let x = h.rows n row at in (x.0 ∙ ap (λ k. row_of row.device k) (sym (kind_before kinds kind row.device (below row.device (h.declared n row at)))), x.1);
  numbers = λ d n at. let x = h.numbers d n at in x ∙ ap (λ k. Some (row_of d k)) (sym (kind_before kinds kind d (below d (there d n at))));
  nodes = λ d lt. nodes_ d (before_or_last d (length t.devices) (subst (λ n. d < n) (one_more t.devices facts) lt));
  speeds = λ d n at. h.speeds d n at ∙ ap (λ (f : PhyFacts). f.speed) (sym (facts_before t.devices facts d (there d n at)));
  manager = λ n is. let x = h.manager n is in (x.0, x.1, subst (λ k. IsTrue (has_link k)) (sym (kind_before kinds kind x.0 (below x.0 (there x.0 n x.1)))) x.2);
}
  where
    below : (d : ℕ) → d < length t.devices → d < length kinds
    below d lt = subst (λ n. d < n) (sym size) lt

    there : (d n : ℕ) → node_number e.nodes d ≡ Some n → d < length t.devices
    there d n at = h.declared n (row_of d (kind_at kinds d)) (h.numbers d n at)

    off : (d : ℕ) → d ≡ length t.devices → (o : Option ℕ) → node_number e.nodes d ≡ o → IsTrue (is_some o) → ⊥
    off d e None at on = let no : ⊥ = cc in no
    off d e (Some n) at on = let lt = there d n at in omega (arith, lt, e)

    nodes_ : (d : ℕ) → (d < length t.devices) ⊎ (d ≡ length t.devices) → IsTrue (is_some (node_number e.nodes d)) ↔ IsOnBus t.cables d
    nodes_ d (inl lt) = h.nodes d lt
    nodes_ d (inr last) = (λ num. absurd (off d last (node_number e.nodes d) refl num), λ on. let lt = on_bus_declared t made some d on in absurd (omega (arith, lt, last)))

-- ---- a cable more, between two devices that are off

pub shows_cabled : (t u : Topology) (kinds : List DeviceKind) (e : ResetEntry) → u.devices ≡ t.devices → ((d : ℕ) → IsOnBus u.cables d ↔ IsOnBus t.cables d) → Shows t kinds e → Shows u kinds e
shows_cabled t u kinds e same bus h = record {
  network = h.network;
  declared = λ n row at. subst (λ (xs : List PhyFacts). row.device < length xs) (sym same) (h.declared n row at);
  rows = h.rows;
  numbers = h.numbers;
  nodes = λ d lt. let x = h.nodes d (subst (λ (xs : List PhyFacts). d < length xs) same lt) in let y = bus d in (λ num. y.1 (x.0 num), λ on. x.1 (y.0 on));
  speeds = λ d n at. h.speeds d n at ∙ ap (λ (xs : List PhyFacts). (facts_at xs d).speed) (sym same);
  manager = h.manager;
}

-- two devices of the bus are not joined once more
pub never_both : (t u : Topology) (a b : End) → Made t → IsJoined t u a b → IsOnBus t.cables a.device → IsOnBus t.cables b.device → ⊥
never_both t u a b made joined on_a on_b =
    let s = sound_made t made in
    joined.apart (joins t.cables a.device 0 b.device (walk_back t.cables 0 a.device s.cables on_a) on_b)
