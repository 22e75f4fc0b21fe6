-- Candidates and BUS_MANAGER_ID through the actions of a run: who is elected is the winner.
use Rattle.fw_model_run.proofs.Common.{◌≡◌, ◌≢◌, ℕ, ◌+◌, ◌<◌, ◌^◌, ◌==◌, cond, List, Bool, true, false, Some, None, is_some, refl, ap, sym, subst, ◌∙◌, arith, IsTrue, nat_tests, same_Some, Packet}
use Rattle.fw_model_run.proofs.Common.{LockReply, Reply, Entry, Async, Event, Timed, Account, first_address, CandidateState, stage_in, Heard, response_head, old_bytes, quadlet_at, Transaction, bid_at}
use Rattle.fw_model_run.proofs.Common.{bid_step, bidden, epoch_at, bid_answer, second_over, withheld, at_most, IsGood, Answer, HasNumbers, reply_from, is_manager, target_node, transaction_head}
use Rattle.fw_model_run.proofs.Common.{access_request, bus_manager_id_after, State, manager_in, linked_number, Action, Transition, after_death, half}
use Rattle.std.proofs.lemmas.Nat.{from_be_bytes-to_be_bytes_4}
use Rattle.fw_csr.specs.Manager.{after_at}
use Rattle.fw_log_entry.specs.declared.codes.event.TheConstants.{ELECTED, DEFEATED}
use Rattle.fw_manager.specs.Bids.{bid_request, after_hear}
use Rattle.fw_manager.specs.declared.bid.Bid.TheVariants.{Elected, Defeated}
use Rattle.fw_manager.specs.declared.candidate.BidProgress.{BidProgress}
use Rattle.fw_manager.specs.declared.candidate.BidProgress.TheVariants.{Fresh, Asked, Answered}
use Rattle.fw_node.specs.Packets.{old_value}
use Rattle.fw_order.specs.declared.order.Access.{Access}
use Rattle.fw_model_run.specs.Bidding.{bid_head, bid_said, bid_asks, bid_hears, own_node, word_of_reply, word_shown}
use Rattle.fw_model_run.specs.Elections.{with_candidate}
use Rattle.fw_model_run.specs.Elected.{Answers, with_answer, answers_after, id_of, IsBid, HasHeard, Holds, IsElection}
use Rattle.fw_model_run.specs.Entries.{elected, defeated, died, started, dubbing}
use Rattle.fw_model_run.specs.Actions.{IsSpared}
use Rattle.fw_model_run.proofs.Plain.{no_event, request_plain, script_plain, half_plain, BidsOn, plainly}
use Rattle.fw_model_run.proofs.Resets.{declaring, numbered}
use Rattle.fw_model_run.proofs.Settling.{half_turn}
use Rattle.fw_model_run.proofs.Times.{second_ends}
use Rattle.fw_model_run.proofs.Transactions.{response_is}
use Rattle.fw_model_run.proofs.Withholds.{withholding_keeps}
use Rattle.fw_model_run.proofs.Alterations.{Allows, Alteration, Answered as Replied, Asked as Transacted, AtUnits, Beside, Bid, Candidate, Died, Halved, Over, Started, Tied, Waits, Withheld, altered}
use Rattle.fw_model_run.proofs.Alterations.{told_by}
use Rattle.fw_model_run.proofs.Effects.{Effect, altering, effect, resetting}
use Rattle.fw_order.specs.declared.order.Access.TheVariants as Accesses
use Rattle.fw_model_run.proofs.Candidacies.{same_heard, same_election, unchanged, reset_bids, dies, becomes_one}
use Rattle.fw_model_run.proofs.BidSteps.{Acts, asks_on, stored, own_below, bid_reply, hears_on}

-- ---- what it writes

abbrev Leads : Answers → State → ℕ → ℕ → CandidateState → BidProgress → Type 0
Leads a s d manager c stage = BidsOn a s (at_most s.clock.cycle (bid_at s d manager c stage).says) (bidden s d (bid_at s d manager c stage))

device_in_event : Entry → ℕ
device_in_event (Event e) = e.device
device_in_event _ = 0

same_device : (d k : ℕ) → elected d ≡ elected k → d ≡ k
unfolding device_in_event
same_device d k e = ap device_in_event e

same_defeated : (d k : ℕ) → defeated d ≡ defeated k → d ≡ k
unfolding device_in_event
same_defeated d k e = ap device_in_event e

-- how its bid has ended
ended : (a : Answers) (s : State) (d word : ℕ) → IsElection a s → HasHeard a s d word → (b : Bool) → (word == 0x3F) ≡ b → (e : Entry) → bid_said s d (cond b Elected (Defeated word)) ≡ Some e
    → IsBid a s e × (answers_after a e ≡ a)
ended a s d word h w true found e is = subst (λ z. IsBid a s z × (answers_after a z ≡ a)) (same_Some (elected d) e is) (
  record {
    elected = λ k same. subst (λ z. IsTrue (is_some (linked_number a.reset z)) × (a.winner ≡ Some (id_of a.reset z))) (same_device d k same)
        (subst (λ o. IsTrue (is_some (linked_number o d)) × (a.winner ≡ Some (id_of o d))) (sym h.latest) (w.linked, w.won (grind (arith, nat_tests, found))));
    defeated = λ k same. absurd (no_event (elected d) (defeated k) DEFEATED refl same refl);
    answers = tt;
  },
  refl,
)
ended a s d word h w false found e is = subst (λ z. IsBid a s z × (answers_after a z ≡ a)) (same_Some (defeated d) e is) (
  record {
    elected = λ k same. absurd (no_event (defeated d) (elected k) ELECTED refl same refl);
    defeated = λ k same. subst (λ z. (word : ℕ) × (a.heard (id_of a.reset z) ≡ Some word) × (word ≢ 0x3F)) (same_defeated d k same)
        (subst (λ o. (word : ℕ) × (a.heard (id_of o d) ≡ Some word) × (word ≢ 0x3F)) (sym h.latest) (word, w.heard, λ taken. grind (arith, nat_tests, found, taken)));
    answers = tt;
  },
  refl,
)

contends : (a : Answers) (s : State) (d manager : ℕ) (c : CandidateState) (stage : BidProgress) → stage_in (epoch_at s) c ≡ stage → manager_in s.account.latest ≡ Some manager → Acts a s d c
    → Leads a s d manager c stage
contends a s d manager c Fresh e manages x = plainly a s _ _ s.clock.cycle (bid_at s d manager c Fresh).says refl (request_plain (bid_head manager (own_node s d)) (bid_request (own_node s d)))
    (asks_on a s d manager c Fresh (λ word y. cc y) x)
contends a s d manager c Answered e manages x = plainly a s _ _ s.clock.cycle (bid_at s d manager c Answered).says refl tt (asks_on a s d manager c Answered (λ word y. cc y) x)
contends a s d manager c (Heard word) e manages x = go (word == 0x3F) refl
  where
    on : IsElection a (bidden s d (bid_asks s d manager (Heard word)))
    on = asks_on a s d manager c (Heard word) (λ w y. cc y) x

    w : HasHeard a s d word
    w = x.election.heard d word c x.is e

    one : (o : Entry) → IsBid a s o × (answers_after a o ≡ a) → BidsOn a s (at_most s.clock.cycle (Some o)) (bidden s d (bid_asks s d manager (Heard word)))
    one o f = record { election = subst (λ z. IsElection z (bidden s d (bid_asks s d manager (Heard word)))) (sym f.1) on; entries = (f.0, tt) }

    go : (b : Bool) → (word == 0x3F) ≡ b → BidsOn a s (at_most s.clock.cycle (bid_said s d (cond (word == 0x3F) Elected (Defeated word)))) (bidden s d (bid_asks s d manager (Heard word)))
    go true f = subst (λ b. BidsOn a s (at_most s.clock.cycle (bid_said s d (cond b Elected (Defeated word)))) (bidden s d (bid_asks s d manager (Heard word)))) (sym f)
        (one (elected d) (ended a s d word x.election w true f (elected d) refl))
    go false f = subst (λ b. BidsOn a s (at_most s.clock.cycle (bid_said s d (cond b Elected (Defeated word)))) (bidden s d (bid_asks s d manager (Heard word)))) (sym f)
        (one (defeated d) (ended a s d word x.election w false f (defeated d) refl))
contends a s d manager c Asked e manages x = record { election = election; entries = (bid, tt) }
  where
    n : ℕ
    n = own_node s d

    v : ℕ
    v = s.bus_manager_id

    r : Reply
    r = reply_from s manager (bid_request n)

    reply : r ≡ record { rcode = 0; value = v }
    reply = bid_reply s d manager x.good manages

    packet : Packet
    packet = LockReply (response_head manager (bid_head manager n)) r.rcode 2 (old_bytes r)

    shown : quadlet_at (old_bytes r) 0 ≡ v
    shown = ap (λ (z : Reply). quadlet_at (old_bytes z) 0) reply ∙ from_be_bytes-to_be_bytes_4 v x.numbers.bus_manager_id

    small : n < 2 ^ 32
    small = let low = own_below s d x.good x.lives in omega (arith, low)

    -- so it hears that word
    hears_word : word_shown (Some packet) ≡ v
    hears_word = ap (λ (z : Reply). word_of_reply (old_value z.rcode (old_bytes z))) reply ∙ from_be_bytes-to_be_bytes_4 v x.numbers.bus_manager_id

    told : bid_answer packet ≡ Some (id_of s.account.latest d, v)
    told = ap (λ k. Some (id_of s.account.latest d, k)) shown

    state_is : record s { half_steps = s.half_steps + 1; bus_manager_id = cond (v == 0x3F) n v; election = with_candidate s.election d (Some (after_hear v c)) } ≡ bidden s d (bid_hears s d manager c)
    state_is = λ i. record s { half_steps = s.half_steps + 1; bus_manager_id = (sym (stored v n small)) i; election = with_candidate s.election d (Some (after_hear ((sym hears_word) i) c)) }

    election : IsElection (answers_after a (Async packet)) (bidden s d (bid_hears s d manager c))
    election = subst (λ z. IsElection (with_answer a z) (bidden s d (bid_hears s d manager c))) (sym told)
        (subst (IsElection (with_answer a (Some (id_of s.account.latest d, v)))) state_is (hears_on a s d manager c e manages x))

    bid : IsBid a s (Async packet)
    bid = record {
      elected = λ k is. absurd (no_event (Async packet) (elected k) ELECTED refl is refl);
      defeated = λ k is. absurd (no_event (Async packet) (defeated k) DEFEATED refl is refl);
      answers = λ i word is. sym (ap (λ (z : ℕ × ℕ). z.1) (same_Some (id_of s.account.latest d, v) (i, word) (sym told ∙ is)));
    }

-- ---- transactions of the script

-- if somebody has won the script does not store in BUS_MANAGER_ID
spared_id : (s : State) (x : Transaction) → IsTrue s.election.begun → IsSpared s.election x.access → bus_manager_id_after s x ≡ s.bus_manager_id
spared_id s x on spared = go (is_manager s.account.latest (target_node s x))
  where
    same : (b : Bool) (n : ℕ) → cond b n n ≡ n
    same true n = refl
    same false n = refl

    elsewhere : (offset k n : ℕ) → (offset == 0x21C) ≡ false → cond (first_address + offset == 0xFFFF_F000_021C) k n ≡ n
    elsewhere offset k n off = let no : (first_address + offset == 0xFFFF_F000_021C) ≡ false = grind (arith, nat_tests, off) in ap (λ b. cond b k n) no

    access : (y : Access) → IsSpared s.election y → after_at 0xFFFF_F000_021C (access_request y) s.bus_manager_id ≡ s.bus_manager_id
    access (Accesses.Read offset) f = same (first_address + offset == 0xFFFF_F000_021C) s.bus_manager_id
    access (Accesses.Swap offset swap) f = elsewhere offset _ s.bus_manager_id (f on)

    go : (b : Bool) → cond b (after_at 0xFFFF_F000_021C (access_request x.access) s.bus_manager_id) s.bus_manager_id ≡ s.bus_manager_id
    go true = access x.access spared
    go false = refl

answers_on : (a : Answers) (s : State) (out : List Timed) (t : State) → IsElection a s → Transition s Answer out t → BidsOn a s out t
answers_on a s out t h f = plainly a s t out s.clock.cycle (Some (Async f.found.response)) f.out_is plain (subst (IsElection a) (sym f.state_is) (go s.election.begun refl))
  where
    x : Transaction
    x = f.found.transaction

    plain : bid_answer f.found.response ≡ None
    plain = subst (λ p. bid_answer p ≡ None) (response_is s x f.found.response f.may)
        (script_plain (target_node s x) (transaction_head s x) x.access (reply_from s (target_node s x) (access_request x.access)) refl)

    u : State
    u = record s { transaction = None; bus_manager_id = bus_manager_id_after s x }

    -- all but BUS_MANAGER_ID is as it was
    with_id : ((i : ℕ) → a.winner ≡ Some i → Holds i (bus_manager_id_after s x)) → IsElection a u
    with_id holds = record {
      latest = h.latest;
      none = h.none;
      nobody = h.nobody;
      holds = holds;
      past = h.past;
      heard = λ d word c is stage. same_heard a s u d word refl (h.heard d word c is stage);
      spared = λ y waits. absurd (cc waits);
    }

    go : (b : Bool) → s.election.begun ≡ b → IsElection a u
    go true on = with_id (λ i w. subst (Holds i) (sym (spared_id s x on (h.spared x f.waits))) (h.holds i w))
    go false off = with_id (λ i w. absurd (let clash : None ≡ Some i = sym (h.nobody off) ∙ w in cc clash))

-- ---- each action

asked_on : (a : Answers) (s : State) (x : Transaction) → s.transaction ≡ None → IsSpared s.election x.access → IsElection a s → IsElection a (record s { transaction = Some x })
asked_on a s x none spared h = same_election a s (record s { transaction = Some x }) refl refl refl
    (λ y waits. subst (λ (z : Transaction). IsSpared s.election z.access) (same_Some x y waits) spared) h

pub step_bids : (a : Answers) (s : State) (x : Action) (out : List Timed) (t : State) → IsElection a s → IsGood s → HasNumbers s → Transition s x out t → BidsOn a s out t
step_bids a s x out t h g b f = go (effect s x out t f)
  where
    by : (y : Alteration) → Waits s y → out ≡ at_most (altered s y).clock.cycle (told_by s y) → t ≡ altered s y → Allows s x y → BidsOn a s out t
    by (Halved d lost resets half_steps) none out_is is ok = unchanged a s _ t out _ (half s d).says h refl refl (half_turn s d g ok.2).1.latest none is out_is (half_plain s d g ok.2)
    by Over none out_is is ok = unchanged a s _ t out _ (Some second_over) h refl refl (ap (λ (l : Account). l.latest) (second_ends s.account ok.1)) none is out_is refl
    by (Died d) none out_is is ok = plainly a s t out _ (Some (died d)) out_is refl (subst (IsElection a) (sym is) (dies a s (after_death s d) d refl refl refl none h))
    by (Started d) none out_is is ok = unchanged a s _ t out _ (Some (started d)) h refl refl refl none is out_is refl
    by Withheld none out_is is ok = unchanged a s _ t out _ (Some withheld) h refl refl (withholding_keeps (λ (l : Account). l.latest) s.account refl) none is out_is refl
    by (Transacted y) none out_is is ok = plainly a s t out _ (told_by s (Transacted y)) out_is (request_plain (transaction_head s y) (access_request y.access))
        (subst (IsElection a) (sym is) (asked_on a s y none ok.1 h))
    by (Replied y response) waits out_is is ok = answers_on a s out t h (record { found = record { transaction = y; response = response }; waits = waits; may = ok.1; out_is = out_is; state_is = is })
    by (Candidate d) none out_is is ok = plainly a s t out 0 None out_is tt (subst (IsElection a) (sym is) (becomes_one a s d none h))
    by (Bid d manager c) none out_is is ok =
        subst (λ z. BidsOn a s z t) (sym out_is) (subst (λ z. BidsOn a s (at_most s.clock.cycle (bid_step s d manager c).says) z) (sym is)
        (contends a s d manager c (stage_in (epoch_at s) c) refl ok.3 (record { election = h; good = g; numbers = b; free = none; lives = ok.1; is = ok.2 })))
    by (Tied d) none out_is is ok = unchanged a s _ t out _ (Some (dubbing d)) h refl refl refl none is out_is refl
    by (Beside says half_steps written frame) none out_is is ok = unchanged a s _ t out _ says h refl refl refl none is out_is ok.1
    by (AtUnits says decks frame) none out_is is ok = unchanged a s _ t out _ says h refl refl refl none is out_is ok.1
    by _ none out_is is ok = unchanged a s _ t out 0 None h refl refl refl none is out_is tt

    go : Effect s x out t → BidsOn a s out t
    go (resetting resets half_steps n initiator free begins may r) = reset_bids a s (declaring (numbered s resets half_steps) n) initiator out t refl refl refl free h r
    go (altering y waits out_is is ok) = by y waits out_is is ok
