-- The way up from a device leads to the root of its bus.
use Rattle.fw_tree.proofs.Common.{◌≡◌, ℕ, ◌<◌, ◌≤◌, ◌-◌, List, Option, Some, None, arith, refl, End, Parent, Peers, peer, LeadsTo, InRange, IsOnBus, is_seen, AreCables, HasNoLoop, rank, IsParent}
use Rattle.fw_tree.proofs.Common.{Settled, parent_at}
use Rattle.fw_tree.specs.Numbers.{IsChild}
use Rattle.fw_tree.specs.Parents.{IsTheRoot}
use Rattle.fw_tree.proofs.ReachLaws.{bus_of}
use Rattle.fw_tree.proofs.RootLaws.{ended, none_root, one_root}
use Rattle.fw_tree.proofs.RoundLaws.{in_range}
use Rattle.fw_tree.proofs.TreeLaws.{child_lower}

rank_most : (g : Peers) (d : ℕ) (o : Option Parent) → IsParent g d o → rank o ≤ 63
rank_most g d None w = omega arith
rank_most g d (Some p) w = let low = w.0 in omega arith

-- a parent leaves later
pub parent_later : (g : Peers) (par : List (Option Parent)) (d : ℕ) (p : Parent) (e : End) → InRange g → AreCables g → ((k : ℕ) → k < 63 → IsParent g k (parent_at par k)) → d < 63
    → parent_at par d ≡ Some p → peer g d p.port ≡ Some e → 63 - rank (parent_at par e.device) < 63 - rank (parent_at par d)
parent_later g par d p e range cables parents low noted is =
    let above = in_range g range d p.port e is in
    let child : IsChild g par e.device e.port d = record { end = record { device = d; port = p.port }; parent = p; is = cables.back d p.port e is; device = refl; noted = noted; port = refl } in
    let less = child_lower g par e.device e.port d cables parents above low child in
    let most = rank_most g e.device (parent_at par e.device) (parents e.device above) in
    omega arith

pub leads_up : (o : Option End) (e : End) → o ≡ Some e → LeadsTo o e.device
leads_up o e is = rw is refl

-- who has no parent is the root
pub top_root : (g : Peers) (par : List (Option Parent)) (d r : ℕ) → InRange g → AreCables g → HasNoLoop g → Settled g r → ((k : ℕ) → k < 63 → IsParent g k (parent_at par k)) → d < 63 → IsOnBus g d
    → parent_at par d ≡ None → IsTheRoot g d
top_root g par d r range cables loops settled parents low on none =
    let b = bus_of g range in
    let n = ended g b.on r range cables loops b.is_on settled in
    let root = none_root g d (parent_at par d) none (parents d low) in
    record { is_on = on; is_root = root; alone = λ e w h. one_root g (is_seen b.on) r e d n (b.is_on.has e w) (b.is_on.has d on) h root }
