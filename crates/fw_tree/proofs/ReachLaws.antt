-- What can be reached, found by a search; and what that says of each topology that can be made.
use Rattle.fw_tree.proofs.Common.{◌≡◌, ◌⊎◌, inl, inr, ℕ, zero, suc, ◌<◌, ◌≤◌, List, [], length, Option, Some, None, IfSome, Bool, true, false, not, ◌&&◌, slice_index_or, slice_set, replicate, arith}
use Rattle.fw_tree.proofs.Common.{refl, sym, ap, subst, ◌∙◌, length-set, get_or_past, cases_lt, End, PhyFacts, Peers, peer, LeadsTo, Walk, along, InRange, is_seen, unseen, IsOn, Topology, Made}
use Rattle.fw_tree.proofs.Common.{IsSound}
use Rattle.std.proofs.lemmas.List.{length-replicate}
use Rattle.fw_tree.specs.Cables.{AllReached, IsClosed}
use Rattle.fw_tree.specs.declared.TreeFault.{TreeFault}
use Rattle.fw_tree.specs.declared.TreeFault.TheVariants.{NoPort, PortUsed, Loop}
use Rattle.fw_tree.specs.Topology.{empty, device, cable, IsFault, IsJoined, Separates, with_cable, has_port, are_used}
use Rattle.fw_tree.proofs.ForestLaws.{truth, both, first_of, second_of}
use Rattle.fw_tree.proofs.RoundLaws.{in_range}
use Rattle.fw_tree.proofs.SeenLaws.{seen_same, seen_keeps, seen_from, unseen_set, only_from, reached_first, walked}
use Rattle.fw_tree.proofs.TopologyLaws.{Ends, sound_new, sound_add, sound_join, ends_within}
use Rattle.fw_tree.proofs.BranchLaws.{port_within}

-- a cable at the port leads to a device that was not seen
leads_out : List Bool → Option End → Bool
leads_out seen None = false
leads_out seen (Some e) = not (is_seen seen e.device)

-- a cable from a seen device to one that was not
record Step (g : Peers) (seen : List Bool) : Type 0 where
  device : ℕ
  port : ℕ
  end : End
  is : peer g device port ≡ Some end
  from : is_seen seen device ≡ true
  to : is_seen seen end.device ≡ false

-- one of the numbers below n, or none
one_below : (P : ℕ → Type 0) → ((d : ℕ) → P d ⊎ (P d → ⊥)) → (n : ℕ) → ((d : ℕ) × P d) ⊎ ((d : ℕ) → d < n → P d → ⊥)
one_below P decide zero = inr (λ d h p. omega arith)
one_below P decide (suc n) = elim (decide n) [
  | inl p ↦ inl (n, p)
  | inr none ↦ elim (one_below P decide n) [
    | inl w ↦ inl w
    | inr below ↦ inr (λ d h p. elim (cases_lt d n) [ inl less ↦ below d less p | inr most ↦ none (let e : d ≡ n = omega arith in subst P e p) ])
  ]
]

step_of : (g : Peers) (seen : List Bool) (d p : ℕ) (o : Option End) → peer g d p ≡ o → is_seen seen d ≡ true → leads_out seen o ≡ true → Step g seen
unfolding leads_out
step_of g seen d p None is from out = absurd (let z : ⊥ = cc in z)
step_of g seen d p (Some e) is from out = record { device = d; port = p; end = e; is = is; from = from; to = was_not (is_seen seen e.device) out }
  where
    was_not : (b : Bool) → not b ≡ true → b ≡ false
    was_not true h = cc
    was_not false h = refl

stays_in : (seen : List Bool) (o : Option End) → (leads_out seen o ≡ true → ⊥) → IfSome o (λ e. is_seen seen e.device ≡ true)
unfolding leads_out
stays_in seen None h = tt
stays_in seen (Some e) h = in_it (is_seen seen e.device) h
  where
    in_it : (b : Bool) → (not b ≡ true → ⊥) → b ≡ true
    in_it true h = refl
    in_it false h = absurd (h refl)

seen_low : (seen : List Bool) (d : ℕ) → is_seen seen d ≡ true → d < length seen
seen_low seen d h = elim (cases_lt d (length seen)) [ inl low ↦ low | inr high ↦ absurd (let e = get_or_past seen d false high in let z : ⊥ = cc in z) ]

-- a cable of a seen device leads out at the port
Out : Peers → List Bool → ℕ → ℕ → Type 0
Out g seen d p = (is_seen seen d && leads_out seen (peer g d p)) ≡ true

OutOf : Peers → List Bool → ℕ → Type 0
OutOf g seen d = (p : ℕ) × Out g seen d p

decided : (b : Bool) → (b ≡ true) ⊎ (b ≡ true → ⊥)
decided true = inl refl
decided false = inr (λ h. cc)

high_port : (g : Peers) (seen : List Bool) (d p : ℕ) (o : Option End) → InRange g → d < 63 → peer g d p ≡ o → leads_out seen o ≡ true → p < 27
unfolding leads_out
high_port g seen d p None range low is out = absurd (let z : ⊥ = cc in z)
high_port g seen d p (Some e) range low is out = let h = port_within (slice_index_or g d []) p e is in let l = range.ports d low in omega arith

out_at : (g : Peers) (seen : List Bool) (d p : ℕ) → Out g seen d p ⊎ (Out g seen d p → ⊥)
unfolding Out
out_at g seen d p = decided (is_seen seen d && leads_out seen (peer g d p))

out_low : (g : Peers) (seen : List Bool) (d p : ℕ) → InRange g → d < 63 → Out g seen d p → p < 27
unfolding Out
out_low g seen d p range low h = high_port g seen d p (peer g d p) range low refl (second_of (is_seen seen d) (leads_out seen (peer g d p)) h)

out_of : (g : Peers) (seen : List Bool) (d : ℕ) → InRange g → length seen ≡ 63 → OutOf g seen d ⊎ (OutOf g seen d → ⊥)
unfolding OutOf Out
out_of g seen d range size = elim (cases_lt d 63) [
  | inl low ↦ elim (one_below (Out g seen d) (λ p. out_at g seen d p) 27) [
    | inl w ↦ inl w
    | inr none ↦ inr (λ w. none w.0 (out_low g seen d w.0 range low w.1) w.1)
  ]
  | inr high ↦ inr (λ w. let l = seen_low seen d (first_of (is_seen seen d) (leads_out seen (peer g d w.0)) w.1) in omega arith)
]

out_step : (g : Peers) (seen : List Bool) (d : ℕ) → OutOf g seen d → Step g seen
unfolding OutOf Out
out_step g seen d w = step_of g seen d w.0 (peer g d w.0) refl (first_of (is_seen seen d) (leads_out seen (peer g d w.0)) w.1) (second_of (is_seen seen d) (leads_out seen (peer g d w.0)) w.1)

none_out : (g : Peers) (seen : List Bool) (d p : ℕ) → (OutOf g seen d → ⊥) → is_seen seen d ≡ true → IfSome (peer g d p) (λ e. is_seen seen e.device ≡ true)
unfolding OutOf Out
none_out g seen d p none h = stays_in seen (peer g d p) (λ out. none (p, both (is_seen seen d) (leads_out seen (peer g d p)) h out))

step_or_closed : (g : Peers) (seen : List Bool) → InRange g → length seen ≡ 63 → Step g seen ⊎ IsClosed g seen
step_or_closed g seen range size = elim (one_below (OutOf g seen) (λ d. out_of g seen d range size) 63) [
  | inl w ↦ inl (out_step g seen w.0 w.1)
  | inr none ↦ inr (λ d p h. none_out g seen d p (none d (let l = seen_low seen d h in omega arith)) h)
]

-- all that can be reached from a device
pub record Reach (g : Peers) (a : ℕ) : Type 0 where
  pub seen : List Bool
  pub reached : AllReached g a seen
  pub closed : IsClosed g seen
  pub first : is_seen seen a ≡ true

further : (g : Peers) (a : ℕ) (seen : List Bool) (s : Step g seen) → AllReached g a seen → AllReached g a (slice_set seen s.end.device true)
further g a seen s all d h = elim (seen_from seen s.end.device d h) [
  | inl old ↦ all d old
  | inr same ↦ let P : ℕ → Type 0 = Walk g a in subst P (sym same)
      (along (all s.device s.from) (record { port = s.port; leads = let Q : Option End → Type 0 = λ o. LeadsTo o s.end.device in subst Q (sym s.is) refl }))
]

search_from : (g : Peers) (a fuel : ℕ) (seen : List Bool) → InRange g → AllReached g a seen → is_seen seen a ≡ true → length seen ≡ 63 → unseen seen ≤ fuel → Reach g a
search_from g a zero seen range all first size fuel = elim (step_or_closed g seen range size) [
  | inl s ↦ absurd (let l = in_range g range s.device s.port s.end s.is in let f = unseen_set seen s.end.device (omega arith) s.to in let z : ⊥ = omega arith in z)
  | inr closed ↦ record { seen = seen; reached = all; closed = closed; first = first }
]
search_from g a (suc n) seen range all first size fuel = elim (step_or_closed g seen range size) [
  | inl s ↦
      let l = in_range g range s.device s.port s.end s.is in
      let f = unseen_set seen s.end.device (omega arith) s.to in
      search_from g a n (slice_set seen s.end.device true) range (further g a seen s all) (seen_keeps seen s.end.device a first) (length-set seen s.end.device true ∙ size) (omega arith)
  | inr closed ↦ record { seen = seen; reached = all; closed = closed; first = first }
]

pub reach_of : (g : Peers) (a : ℕ) → InRange g → a < 63 → Reach g a
reach_of g a range low =
    let start : List Bool = slice_set (replicate 63 false) a true in
    let size : length start ≡ 63 = length-set (replicate 63 false) a true in
    search_from g a (unseen start) start range (reached_first g a start (λ d h. only_from 63 a d h)) (seen_same (replicate 63 false) a (omega (arith, length-replicate 63 false))) size (omega arith)

-- the devices of the bus
pub record Bus (g : Peers) : Type 0 where
  pub on : List Bool
  pub is_on : IsOn g on

pub bus_of : (g : Peers) → InRange g → Bus g
bus_of g range = let r = reach_of g 0 range (omega arith) in record { on = r.seen; is_on = record { walk = r.reached; has = λ d w. walked g r.seen 0 d r.closed r.first w } }

-- if no walk leads to a device, some set without it has no cable that leads out
pub apart_of : (g : Peers) (a b : ℕ) → InRange g → a < 63 → (Walk g a b → ⊥) → Separates g a b
apart_of g a b range low none =
    let r = reach_of g a range low in
    record { seen = r.seen; closed = r.closed; first = r.first; second = elim (truth (is_seen r.seen b)) [ inl h ↦ absurd (none (r.reached b h)) | inr out ↦ out ] }

topology_is : (q : Topology) (devices : List PhyFacts) (cables : Peers) → q.devices ≡ devices → q.cables ≡ cables → q ≡ record { devices = devices; cables = cables }
topology_is q devices cables e f =
    let P : List PhyFacts → Topology = λ ds. record { devices = ds; cables = q.cables } in
    let Q : Peers → Topology = λ g. record { devices = devices; cables = g } in
    ap P e ∙ ap Q f

pub sound_made : (q : Topology) → Made q → IsSound q
sound_made q (empty e) = let P : Topology → Type 0 = IsSound in subst P (sym e) sound_new
sound_made q (device {p = p} m f x) = let P : Topology → Type 0 = IsSound in subst P (sym x.is) (sound_add p.devices p.cables f (sound_made p m) x.room x.some x.most x.speed)
sound_made q (cable {p = p} m a b j) =
    let P : Topology → Type 0 = IsSound in
    let s = sound_made p m in
    let w = ends_within p.devices a b s.devices s.few j.ports in
    subst P (sym (topology_is q p.devices (with_cable p.cables a b) j.same j.added))
    (sound_join p.devices p.cables a b s j.ports j.free (apart_of p.cables a.device b.device s.range w.a_device j.apart))

-- what a cable between two ports makes of the topology
pub record Joins (fs : List PhyFacts) (g : Peers) (a b : End) : Type 0 where
  pub ends : Ends a b
  pub is : IsJoined (record { devices = fs; cables = g }) (record { devices = fs; cables = with_cable g a b }) a b
  pub sound : IsSound (record { devices = fs; cables = with_cable g a b })

joins : (fs : List PhyFacts) (g : Peers) (a b : End) → IsSound (record { devices = fs; cables = g })
    → IsJoined (record { devices = fs; cables = g }) (record { devices = fs; cables = with_cable g a b }) a b → Joins fs g a b
joins fs g a b s j =
    let w = ends_within fs a b s.devices s.few j.ports in
    record { ends = w; is = j; sound = sound_join fs g a b s j.ports j.free (apart_of g a.device b.device s.range w.a_device j.apart) }

-- if no fault holds
pub joins_of : (fs : List PhyFacts) (g : Peers) (a b : End) → IsSound (record { devices = fs; cables = g }) → ((f : TreeFault) → IsFault (record { devices = fs; cables = g }) a b f → ⊥)
    → Joins fs g a b
joins_of fs g a b s none = elim (truth (has_port (record { devices = fs; cables = g }) a && has_port (record { devices = fs; cables = g }) b)) [
  | inr lacks ↦ absurd (none NoPort lacks)
  | inl has ↦ elim (truth (are_used g a b)) [
    | inl used ↦ absurd (none PortUsed (has, used))
    | inr free ↦ joins fs g a b s (record { ports = has; free = free; apart = λ w. none Loop (has, free, w); same = refl; added = refl })
  ]
]
