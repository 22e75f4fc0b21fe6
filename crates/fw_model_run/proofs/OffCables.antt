-- A cable between two devices that are off changes no entry: the devices of the bus number themselves as before.
use Rattle.fw_model_run.proofs.Common.{◌≡◌, ◌≢◌, inl, inr, ℕ, zero, suc, ◌+◌, ◌==◌, ◌&&◌, not, List, [], ◌∷◌, ◌++◌, cond, Bool, Option, Some, None, refl, ap, sym, subst, ◌∙◌, DeviceKind, ResetEntry}
use Rattle.fw_model_run.proofs.Common.{PhyFacts, IsOnBus, number_at, facts_at, Topology, IsJoined, IsResetEntry}
use Rattle.std.proofs.Common.{slice_index_or, slice_set, count_by, ap₂, get_or-set_other}
use Rattle.std.proofs.lemmas.List.Sums.{sum_by-cons}
use Rattle.fw_phy.specs.declared.packet.PhyPacket.{PhyPacket}
use Rattle.fw_tree.specs.declared.facts.End.{End}
use Rattle.fw_tree.specs.Cables.{Peers, peer, LeadsTo, here, along}
use Rattle.fw_tree.specs.Numbers.{LeadsDown, at_root, down_to, AreNumbers, AreParents, IsParentPort}
use Rattle.fw_tree.specs.Parents.{IsTheRoot}
use Rattle.fw_tree.specs.Rounds.{is_open, open_count, stays, LeavesBy, WinsTie, IsRoot, HasParent}
use Rattle.fw_tree.specs.SelfIds.{ArePackets, no_node, node, node_packets}
use Rattle.fw_tree.specs.Topology.{put, with_cable}
use Rattle.fw_tree.proofs.CountLaws.{there}

-- ---- two cablings of one bus

-- the devices of the one's bus have the same cables in the other
pub record IsSameBus (g h : Peers) : Type 0 where
  pub ports : (d : ℕ) → IsOnBus g d → slice_index_or h d [] ≡ slice_index_or g d []

same_peer : (g h : Peers) (d p : ℕ) → IsSameBus g h → IsOnBus g d → peer h d p ≡ peer g d p
same_peer g h d p same on = ap (λ (ports : List (Option End)). slice_index_or ports p None) (same.ports d on)

walks : (g h : Peers) (d : ℕ) → IsSameBus g h → IsOnBus g d → IsOnBus h d
walks g h d same here = here
walks g h d same (along {b = x} w j) =
    let P : Option End → Type 0 = λ o. LeadsTo o d in
    along (walks g h x same w) (record { port = j.port; leads = subst P (sym (same_peer g h x j.port same w)) j.leads })

walks_back : (g h : Peers) (d : ℕ) → IsSameBus g h → IsOnBus h d → IsOnBus g d
walks_back g h d same here = here
walks_back g h d same (along {b = x} w j) =
    let before = walks_back g h x same w in
    let P : Option End → Type 0 = λ o. LeadsTo o d in
    along before (record { port = j.port; leads = subst P (same_peer g h x j.port same before) j.leads })

turned : (g h : Peers) → IsSameBus g h → IsSameBus h g
turned g h same = record { ports = λ d on. sym (same.ports d (walks_back g h d same on)) }

next_on : (g : Peers) (d p : ℕ) (e : End) → IsOnBus g d → peer g d p ≡ Some e → IsOnBus g e.device
next_on g d p e on is = let P : Option End → Type 0 = λ o. LeadsTo o e.device in along on (record { port = p; leads = subst P (sym is) refl })

-- ---- the rounds of tree identification

-- two sets have the same devices of the bus
abbrev Agree : Peers → (ℕ → Bool) → (ℕ → Bool) → Type 0
Agree g s t = (d : ℕ) → IsOnBus g d → s d ≡ t d

open_agrees : (s t : ℕ → Bool) (o : Option End) → ((e : End) → o ≡ Some e → s e.device ≡ t e.device) → is_open s o ≡ is_open t o
open_agrees s t None f = refl
open_agrees s t (Some e) f = f e refl

counts_agree : (s t : ℕ → Bool) (ports : List (Option End)) → ((p : ℕ) (e : End) → slice_index_or ports p None ≡ Some e → s e.device ≡ t e.device)
    → count_by (is_open s) ports ≡ count_by (is_open t) ports
counts_agree s t [] f = refl
counts_agree s t (o ∷ ports) f =
    sum_by-cons (λ x. cond (is_open s x) 1 0) o ports
    ∙ (ap₂ (λ m n. m + n) (ap (λ b. cond b 1 0) (open_agrees s t o (λ e is. f 0 e is))) (counts_agree s t ports (λ p e is. f (suc p) e is))
    ∙ sym (sum_by-cons (λ x. cond (is_open t x) 1 0) o ports))

open_same : (g h : Peers) (s t : ℕ → Bool) (d : ℕ) → IsSameBus g h → Agree g s t → IsOnBus g d → open_count h s d ≡ open_count g t d
open_same g h s t d same agree on =
    ap (λ (ports : List (Option End)). count_by (is_open s) ports) (same.ports d on)
    ∙ counts_agree s t (slice_index_or g d []) (λ p e is. agree e.device (next_on g d p e on is))

stays_same : (g h : Peers) (r : ℕ) → IsSameBus g h → Agree g (stays h r) (stays g r)
stays_same g h zero same d on = refl
stays_same g h (suc r) same d on = ap₂ (λ b n. b && not (n == 1)) (stays_same g h r same d on) (open_same g h (stays h r) (stays g r) d same (stays_same g h r same) on)

leaves_over : (g h : Peers) (s t : ℕ → Bool) (d p : ℕ) → IsSameBus g h → Agree g s t → IsOnBus g d → LeavesBy g t d p → LeavesBy h s d p
leaves_over g h s t d p same agree on l = record {
  still = agree d on ∙ l.still;
  one = open_same g h s t d same agree on ∙ l.one;
  parent = ap (λ o. is_open s o) (same_peer g h d p same on) ∙ (open_agrees s t (peer g d p) (λ e is. agree e.device (next_on g d p e on is)) ∙ l.parent);
}

wins_over : (g h : Peers) (s t : ℕ → Bool) (d : ℕ) → IsSameBus g h → Agree g s t → IsOnBus g d → WinsTie g t d → WinsTie h s d
wins_over g h s t d same agree on w =
    let e = w.0 in
    let x = w.2 in
    let on_e = next_on g d x.port (record { device = e; port = x.other }) on x.first.1 in (
      e,
      w.1,
      record {
        port = x.port;
        other = x.other;
        first = (leaves_over g h s t d x.port same agree on x.first.0, same_peer g h d x.port same on ∙ x.first.1);
        second = (leaves_over g h s t e x.other same agree on_e x.second.0, same_peer g h e x.other same on_e ∙ x.second.1);
      },
    )

wins_at : (g h : Peers) (r d : ℕ) → IsSameBus g h → IsOnBus g d → WinsTie g (stays g r) d → WinsTie h (stays h r) d
wins_at g h r d same on w = wins_over g h (stays h r) (stays g r) d same (stays_same g h r same) on w

parent_over : (g h : Peers) (d p r : ℕ) → IsSameBus g h → IsOnBus g d → HasParent g d p r → HasParent h d p r
parent_over g h d p r same on x = record {
  leaves = leaves_over g h (stays h r) (stays g r) d p same (stays_same g h r same) on x.leaves;
  below = λ w. x.below (wins_at h g r d (turned g h same) (walks g h d same on) w);
}

root_over : (g h : Peers) (d : ℕ) → IsSameBus g h → IsOnBus g d → IsRoot g d → IsRoot h d
root_over g h d same on (inl always) = inl (λ r. stays_same g h r same d on ∙ always r)
root_over g h d same on (inr tie) = inr (tie.0, wins_at g h tie.0 d same on tie.1)

-- ---- the numbers

the_root : (g h : Peers) (root : ℕ) → IsSameBus g h → IsTheRoot g root → IsTheRoot h root
the_root g h root same x = record {
  is_on = walks g h root same x.is_on;
  is_root = root_over g h root same x.is_on x.is_root;
  alone = λ d on is. let back = walks_back g h d same on in x.alone d back (root_over h g d (turned g h same) on is);
}

down_on : (g : Peers) (root : ℕ) (k : List ℕ) (d : ℕ) → IsOnBus g root → LeadsDown g root k d → IsOnBus g d
down_on g root k d on at_root = on
down_on g root k d on (down_to {k = j} {d = b} before p q r is parent split) = next_on g b p (record { device = d; port = q }) (down_on g root j b on before) is

leads_over : (g h : Peers) (root : ℕ) (k : List ℕ) (d : ℕ) → IsSameBus g h → IsOnBus g root → LeadsDown g root k d → LeadsDown h root k d
leads_over g h root k d same on at_root = at_root
leads_over g h root k d same on (down_to {k = j} {d = b} before p q r is parent split) =
    let on_b = down_on g root j b on before in
    let on_d = next_on g b p (record { device = d; port = q }) on_b is in
    down_to {k = j} (leads_over g h root j b same on before) p q r (same_peer g h b p same on_b ∙ is) (parent_over g h d q r same on_d parent) split

numbers_over : (g h : Peers) (root : ℕ) (number : List (Option ℕ)) → IsSameBus g h → IsOnBus g root → AreNumbers g root number → AreNumbers h root number
numbers_over g h root number same on x = record {
  paths = x.paths;
  lead = λ d on_d. leads_over g h root (x.paths d) d same on (x.lead d (walks_back g h d same on_d));
  places = λ d on_d. x.places d (walks_back g h d same on_d);
  only = λ d has. walks g h d same (x.only d has);
}

port_over : (g h : Peers) (d : ℕ) (o : Option ℕ) → IsSameBus g h → IsOnBus g d → IsParentPort g d o → IsParentPort h d o
port_over g h d None same on x = root_over g h d same on x
port_over g h d (Some p) same on x = (x.0, parent_over g h d p x.0 same on x.1)

parents_over : (g h : Peers) (ports : List (Option ℕ)) → IsSameBus g h → AreParents g ports → AreParents h ports
parents_over g h ports same x = record {
  on = λ d on. let back = walks_back g h d same on in port_over g h d (number_at ports d) same back (x.on d back);
  only = λ d p is. walks g h d same (x.only d p is);
}

packets_over : (fs : List PhyFacts) (g h : Peers) (number parents : List (Option ℕ)) (i n : ℕ) (qs : List PhyPacket)
    → ((d k : ℕ) → number_at number d ≡ Some k → slice_index_or h d [] ≡ slice_index_or g d []) → ArePackets fs g number parents i n qs → ArePackets fs h number parents i n qs
packets_over fs g h number parents i none qs same no_node = no_node
packets_over fs g h number parents i above qs same (node {n} {ps} before d at is) =
    node (packets_over fs g h number parents i n ps same before) d at
    (is ∙ ap (λ (ports : List (Option End)). ps ++ node_packets (facts_at fs d) ports (number_at parents d) n (d == i)) (sym (same d n at)))

-- ---- the entry

entry_over : (fs : List PhyFacts) (g h : Peers) (kinds : List DeviceKind) (epoch i : ℕ) (e : ResetEntry) → IsSameBus g h
    → IsResetEntry (record { devices = fs; cables = g }) kinds epoch i e → IsResetEntry (record { devices = fs; cables = h }) kinds epoch i e
entry_over fs g h kinds epoch i e same is = record {
  numbering = is.numbering;
  numbered = record {
    some = is.numbered.some;
    root = the_root g h is.numbering.root same is.numbered.root;
    numbers = numbers_over g h is.numbering.root is.numbering.number same is.numbered.root.is_on is.numbered.numbers;
    parents = parents_over g h is.numbering.parent_port same is.numbered.parents;
    count = is.numbered.count;
    nodes = is.numbered.nodes;
  };
  manager = is.manager;
  manages = is.manages;
  epoch_is = is.epoch_is;
  root = is.root;
  manager_is = is.manager_is;
  began = is.began;
  size = is.size;
  rows = is.rows;
  ids = packets_over fs g h is.numbering.number is.numbering.parent_port i is.numbering.count e.ids
      (λ d n at. same.ports d (is.numbered.numbers.only d (there (number_at is.numbering.number d) n at))) is.ids;
}

same_bus : (g : Peers) (a b : End) → (IsOnBus g a.device → ⊥) → (IsOnBus g b.device → ⊥) → IsSameBus g (with_cable g a b)
same_bus g a b off_a off_b = record { ports = λ d on. ports d (λ at. off_a (subst (IsOnBus g) at on)) (λ at. off_b (subst (IsOnBus g) at on)) }
  where
    ports : (d : ℕ) → d ≢ a.device → d ≢ b.device → slice_index_or (with_cable g a b) d [] ≡ slice_index_or g d []
    ports d not_a not_b =
        get_or-set_other (put g a (Some b)) b.device d (slice_set (slice_index_or (put g a (Some b)) b.device []) b.port (Some a)) [] not_b
        ∙ get_or-set_other g a.device d (slice_set (slice_index_or g a.device []) a.port (Some b)) [] not_a

-- a cable between two devices that are off
pub entry_cabled : (p q : Topology) (a b : End) (kinds : List DeviceKind) (epoch i : ℕ) (e : ResetEntry) → IsJoined p q a b
    → (IsOnBus p.cables a.device → ⊥) → (IsOnBus p.cables b.device → ⊥) → IsResetEntry p kinds epoch i e → IsResetEntry q kinds epoch i e
entry_cabled p q a b kinds epoch i e j off_a off_b is =
    let over = entry_over p.devices p.cables (with_cable p.cables a b) kinds epoch i e (same_bus p.cables a b off_a off_b) is in
    let P : List PhyFacts → Type 0 = λ fs. IsResetEntry (record { devices = fs; cables = q.cables }) kinds epoch i e in
    let Q : Peers → Type 0 = λ g. IsResetEntry (record { devices = p.devices; cables = g }) kinds epoch i e in
    subst P (sym j.same) (subst Q (sym j.added) over)
