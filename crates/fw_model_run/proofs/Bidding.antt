-- A half step of a candidate: what it writes changes nothing of the account, and may be written.
use Rattle.fw_model_run.proofs.Common.{◌≡◌, ℕ, ◌≤◌, ◌<◌, ◌^◌, ◌==◌, ◌++◌, cond, Bool, true, false, Option, Some}
use Rattle.fw_model_run.proofs.Common.{None, refl, ap, ◌∙◌, arith, IsTrue, to_be_bytes, w32, swap_bytes, Swap, Async, ResetEntry}
use Rattle.fw_model_run.proofs.Common.{LockReply, CandidateState, stage_in, Heard, packet_of, response_head, old_bytes, quadlet_at}
use Rattle.fw_model_run.proofs.Common.{bid_at, bid_step, epoch_at, IsGood, IsLatest, HasNumbers, reply_from}
use Rattle.fw_model_run.proofs.Common.{State, number_in, manager_in, is_living}
use Rattle.fw_async.specs.Async.{HeadFits}
use Rattle.fw_csr.specs.Manager.{after_at}
use Rattle.fw_manager.specs.Bids.{bid_request}
use Rattle.fw_manager.specs.declared.bid.Bid.TheVariants.{Elected, Defeated}
use Rattle.fw_manager.specs.declared.candidate.BidProgress.{BidProgress}
use Rattle.fw_manager.specs.declared.candidate.BidProgress.TheVariants.{Fresh, Asked, Answered}
use Rattle.fw_model_run.specs.Bidding.{bid_head, bid_said, own_node}
use Rattle.fw_model_run.proofs.Bounds.{node_few, number_few, node_fits, ReplyFits}
use Rattle.fw_model_run.proofs.Events.{living_small}
use Rattle.fw_model_run.proofs.Fitting.{EntryFits, request_fits, response_fits}
use Rattle.fw_model_run.proofs.Led.{LeavesAccount, unlabelled_swap, unread}
use Rattle.fw_model_run.proofs.Responses.{IsNode}

-- ---- the account

at_leaves : (s : State) (d manager : ℕ) (c : CandidateState) (stage : BidProgress) → LeavesAccount s.account (bid_at s d manager c stage).says
at_leaves s d manager c Fresh =
    let h = bid_head manager (own_node s d) in
    let swap : Swap = record { argument = 0x3F; new = own_node s d } in
    (refl, ((tt, tt), unread s.account (packet_of h (bid_request (own_node s d))) (λ q. unlabelled_swap s.account h 0xFFFF_F000_021C 2 (swap_bytes swap) q (λ e. absurd (omega (arith, e))))))
at_leaves s d manager c Asked =
    let h = response_head manager (bid_head manager (own_node s d)) in
    let r = reply_from s manager (bid_request (own_node s d)) in
    (refl, ((tt, tt), unread s.account (LockReply h r.rcode 2 (old_bytes r)) (λ q. tt)))
at_leaves s d manager c (Heard word) = ends (word == 0x3F)
  where
    ends : (b : Bool) → LeavesAccount s.account (bid_said s d (cond b Elected (Defeated word)))
    ends true = (refl, ((tt, tt), λ u. tt))
    ends false = (refl, ((tt, tt), λ u. tt))
at_leaves s d manager c Answered = (refl, tt)

pub bid_leaves : (s : State) (d manager : ℕ) (c : CandidateState) → LeavesAccount s.account (bid_step s d manager c).says
bid_leaves s d manager c = at_leaves s d manager c (stage_in (epoch_at s) c)

-- ---- the manager

-- the manager is a node
pub manager_node : (s : State) (manager : ℕ) → IsGood s → manager_in s.account.latest ≡ Some manager → IsNode s manager
manager_node s manager g = go s.account.latest refl g.latest
  where
    go : (o : Option ResetEntry) → s.account.latest ≡ o → IsLatest o s.declared s.account → manager_in o ≡ Some manager → IsNode s manager
    go None is h e = absurd (grind (arith, e))
    go (Some e) is h x = let w = h.1.manager manager x in record { device = w.0; number = ap (λ o. number_in o w.0) is ∙ w.1 }

-- ---- fields

bid_head_fits : (to from : ℕ) → to ≤ 63 → from ≤ 63 → HeadFits (bid_head to from)
bid_head_fits to from few some = (omega (arith, few), omega arith, omega arith, omega arith, omega (arith, some))

-- the swap of a bid
abbrev bid_swap : ℕ → Swap
bid_swap node = record { argument = 0x3F; new = node }

-- the request of a bid may be written
pub asked_fits : (s : State) (d manager : ℕ) → IsGood s → manager_in s.account.latest ≡ Some manager
    → EntryFits (Some (Async (packet_of (bid_head manager (own_node s d)) (bid_request (own_node s d)))))
asked_fits s d manager g manages =
    let w = manager_node s manager g manages in
    request_fits (bid_head manager (own_node s d)) 0xFFFF_F000_021C (Some (bid_swap (own_node s d)))
    (bid_head_fits manager (own_node s d) (number_few s w.device manager g w.number) (node_few s d g)) (omega arith)

pub bid_fits : (s : State) (d manager : ℕ) (c : CandidateState) → IsGood s → HasNumbers s → IsTrue (is_living s d) → manager_in s.account.latest ≡ Some manager
    → EntryFits (bid_step s d manager c).says
bid_fits s d manager c g b lives manages = go (stage_in (epoch_at s) c)
  where
    w : IsNode s manager
    w = manager_node s manager g manages

    n : ℕ
    n = own_node s d

    head : HeadFits (bid_head manager n)
    head = bid_head_fits manager n (number_few s w.device manager g w.number) (node_few s d g)

    reply : ReplyFits (reply_from s manager (bid_request n))
    reply = node_fits s w.device manager 0xFFFF_F000_021C (Some (bid_swap n)) g b.bus_manager_id w.number

    small : d < 2 ^ 8
    small = let few = living_small s d g lives in omega (arith, few)

    ends : (word : ℕ) (b : Bool) → EntryFits (bid_said s d (cond b Elected (Defeated word)))
    ends word true = record { device = small; tape = omega arith; shape = refl }
    ends word false = record { device = small; tape = omega arith; shape = refl }

    go : (stage : BidProgress) → EntryFits (bid_at s d manager c stage).says
    go Fresh = asked_fits s d manager g manages
    go Asked =
        let r = reply_from s manager (bid_request n) in
        response_fits manager (bid_head manager n) 0xFFFF_F000_021C (Some (bid_swap n)) r (LockReply (response_head manager (bid_head manager n)) r.rcode 2 (old_bytes r)) refl
        (number_few s w.device manager g w.number) head reply
    go (Heard word) = ends word (word == 0x3F)
    go Answered = tt

-- BUS_MANAGER_ID stays a quadlet
pub bid_below : (s : State) (d manager : ℕ) (c : CandidateState) → s.bus_manager_id < 2 ^ 32 → (bid_step s d manager c).bus_manager_id < 2 ^ 32
bid_below s d manager c low = go (stage_in (epoch_at s) c)
  where
    either : (b : Bool) (k l : ℕ) → k < 2 ^ 32 → l < 2 ^ 32 → cond b k l < 2 ^ 32
    either true k l f h = f
    either false k l f h = h

    stored : after_at 0xFFFF_F000_021C (bid_request (own_node s d)) s.bus_manager_id < 2 ^ 32
    stored =
        let new : quadlet_at (to_be_bytes w32 0x3F ++ to_be_bytes w32 (own_node s d)) 4 < 2 ^ 32 = omega arith in
        either (s.bus_manager_id == quadlet_at (to_be_bytes w32 0x3F ++ to_be_bytes w32 (own_node s d)) 0) _ s.bus_manager_id new low

    go : (stage : BidProgress) → (bid_at s d manager c stage).bus_manager_id < 2 ^ 32
    go Fresh = low
    go Asked = stored
    go (Heard word) = low
    go Answered = low
