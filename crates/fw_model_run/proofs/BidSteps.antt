-- The half steps of a candidate: it asks, and it hears the answer to its bid.
use Rattle.fw_model_run.proofs.Common.{◌≡◌, ◌≢◌, ℕ, ◌+◌, ◌<◌, ◌≤◌, ◌^◌, ◌==◌, ◌++◌, cond, Bool, true, false, Option, Some, None, is_some, unwrap_or, refl, ap, sym, subst, ◌∙◌, arith, IsTrue}
use Rattle.fw_model_run.proofs.Common.{to_be_bytes, w32, nat_tests, same_Some, update, device_of_id, ResetEntry, CandidateState, stage_in, Heard, quadlet_at, bidden, epoch_at, IsGood, HasNumbers}
use Rattle.fw_model_run.proofs.Common.{reply_from, space_of_node, State, number_in, manager_in, device_in, is_linked, is_living}
use Rattle.std.proofs.lemmas.Nat.{from_be_bytes-to_be_bytes_4}
use Rattle.std.proofs.lemmas.Option.{slice_get_within}
use Rattle.fw_csr.specs.Manager.{after_at}
use Rattle.fw_words.specs.declared.swap.Swap.{Swap as Swapping}
use Rattle.fw_manager.specs.Bids.{stage_after, bid_request, after_hear}
use Rattle.fw_manager.specs.declared.candidate.BidProgress.{BidProgress}
use Rattle.fw_manager.specs.declared.candidate.BidProgress.TheVariants.{Fresh, Asked}
use Rattle.fw_model_run.specs.Bidding.{bid_asks, own_node}
use Rattle.fw_model_run.specs.Elections.{with_candidate}
use Rattle.fw_model_run.specs.Elected.{Answers, first_won, with_answer, id_of, HasHeard, Holds, IsElection}
use Rattle.fw_model_run.proofs.Answers.{managed, answered}
use Rattle.fw_model_run.proofs.Bounds.{few_rows}
use Rattle.fw_model_run.proofs.Directories.{linked_number_is}
use Rattle.fw_model_run.proofs.Leads.{linked_of}
use Rattle.fw_model_run.proofs.Responses.{own_device}
use Rattle.fw_model_run.proofs.Turns.{living_linked, update_new, update_others}
use Rattle.fw_model_run.proofs.Words.{number_of_on}
use Rattle.fw_model_run.proofs.Candidacies.{nothing_waits, same_heard, each_candidate, no_candidate}

-- ---- a half step of a candidate

-- who acts: the candidate of device d, in an election that has begun
pub record Acts (a : Answers) (s : State) (d : ℕ) (c : CandidateState) : Type 0 where
  pub election : IsElection a s
  pub good : IsGood s
  pub numbers : HasNumbers s
  pub free : s.transaction ≡ None
  pub lives : IsTrue (is_living s d)
  pub is : s.election.candidates d ≡ Some c

begun : (a : Answers) (s : State) (d : ℕ) (c : CandidateState) → Acts a s d c → IsTrue s.election.begun
begun a s d c x = go s.election.begun refl
  where
    go : (b : Bool) → s.election.begun ≡ b → b ≡ true
    go true e = refl
    go false e = absurd (no_candidate c (sym (x.election.none e d) ∙ x.is))

not_both : (b : Bool) → b ≡ true → b ≡ false → ⊥
not_both b x y = let clash : true ≡ false = sym x ∙ y in cc clash

same_number : (n : ℕ) → (n == n) ≡ true
same_number n = grind (arith, nat_tests)

-- it asks, or says how its bid has ended: then it has heard nothing that it is still to tell
pub asks_on : (a : Answers) (s : State) (d manager : ℕ) (c : CandidateState) (stage : BidProgress) → ((word : ℕ) → stage_after stage ≡ Heard word → ⊥) → Acts a s d c
    → IsElection a (bidden s d (bid_asks s d manager stage))
asks_on a s d manager c stage told x = record {
  latest = h.latest;
  none = λ off k. absurd (not_both s.election.begun (begun a s d c x) off);
  nobody = h.nobody;
  holds = h.holds;
  past = each_candidate (λ k c. c.epoch ≤ epoch_at s) s.election.candidates d (Some new)
      (λ c is. let e : epoch_at s ≡ c.epoch = ap (λ (y : CandidateState). y.epoch) (same_Some new c is) in omega (arith, e)) (λ k c ne is. h.past k c is);
  heard = λ k word c is stage. heard k c is word stage;
  spared = λ y waits. absurd (nothing_waits s.transaction y x.free waits);
}
  where
    h : IsElection a s
    h = x.election

    new : CandidateState
    new = record { epoch = epoch_at s; stage = stage_after stage }

    v : State
    v = bidden s d (bid_asks s d manager stage)

    heard : (k : ℕ) (c : CandidateState) → update s.election.candidates d (Some new) k ≡ Some c → (word : ℕ) → stage_in (epoch_at s) c ≡ Heard word → HasHeard a v k word
    heard = each_candidate (λ k c. (word : ℕ) → stage_in (epoch_at s) c ≡ Heard word → HasHeard a v k word) s.election.candidates d (Some new)
        (λ c is word at. absurd (told word (sym (ap (λ b. cond b (stage_after stage) Fresh) (same_number (epoch_at s)))
        ∙ subst (λ (y : CandidateState). stage_in (epoch_at s) y ≡ Heard word) (sym (same_Some new c is)) at)))
        (λ k c ne is word at. same_heard a s v k word refl (h.heard k word c is at))

-- the word that a bid stores
swap_second : (n : ℕ) → n < 2 ^ 32 → quadlet_at (to_be_bytes w32 0x3F ++ to_be_bytes w32 n) 4 ≡ n
swap_second n lt = from_be_bytes-to_be_bytes_4 n lt

pub stored : (v n : ℕ) → n < 2 ^ 32 → after_at 0xFFFF_F000_021C (bid_request n) v ≡ cond (v == 0x3F) n v
stored v n lt = ap (λ k. cond (v == 0x3F) k v) (swap_second n lt)

-- the number of a device's node
pub own_below : (s : State) (d : ℕ) → IsGood s → IsTrue (is_living s d) → own_node s d < 63
own_below s d g lives =
    let x = linked_of s d g (living_linked s d lives) in
    let at : number_in s.account.latest d ≡ Some x.number = ap (λ o. number_in o d) x.is ∙ linked_number_is x.entry d x.number x.linked in
    let few = few_rows s x.entry g x.shows.1 in
    let within = slice_get_within x.entry.nodes x.number _ (x.shows.1.numbers d x.number (linked_number_is x.entry d x.number x.linked)) in
    let same : own_node s d ≡ x.number = same_Some _ x.number (sym (number_of_on s.account.latest d (ap is_some at)) ∙ at) in
    omega (arith, few, within, same)

-- the manager answers with BUS_MANAGER_ID
pub bid_reply : (s : State) (d manager : ℕ) → IsGood s → manager_in s.account.latest ≡ Some manager → reply_from s manager (bid_request (own_node s d)) ≡ record { rcode = 0; value = s.bus_manager_id }
bid_reply s d manager g manages = go s.account.latest refl manages
  where
    swap : Swapping
    swap = record { argument = 0x3F; new = own_node s d }

    go : (o : Option ResetEntry) → s.account.latest ≡ o → manager_in o ≡ Some manager → reply_from s manager (bid_request (own_node s d)) ≡ record { rcode = 0; value = s.bus_manager_id }
    go None is e = absurd (no_manager e)
      where
        no_manager : None ≡ Some manager → ⊥
        no_manager e = cc e
    go (Some e) is m =
        let there = managed s e manager (unwrap_or (device_in s.account.latest manager) 0) is m in
        answered (space_of_node s manager) 0xFFFF_F000_021C (Some swap) s.bus_manager_id (rw there refl)

-- devices with a link have node IDs of their own
ids_apart : (s : State) (k d : ℕ) → IsGood s → IsTrue (is_linked s k) → IsTrue (is_linked s d) → k ≢ d → id_of s.account.latest k ≢ id_of s.account.latest d
ids_apart s k d g on there ne same =
    let a = own_device s k (linked_of s k g on) in
    let b = own_device s d (linked_of s d g there) in
    ne (same_Some k d (sym a ∙ (ap (device_of_id s.account.latest) same ∙ b)))

first_won_some : (w : ℕ) (id word : ℕ) (o : Option ℕ) → o ≡ Some w → first_won o id word ≡ Some w
first_won_some w id word o e = ap (λ z. first_won z id word) e

first_won_other : (o : Option ℕ) (id word : ℕ) → (word == 0x3F) ≡ false → first_won o id word ≡ o
first_won_other (Some w) id word e = refl
first_won_other None id word e = ap (λ b. cond b (Some id) None) e

-- it hears the answer to its bid
pub hears_on : (a : Answers) (s : State) (d manager : ℕ) (c : CandidateState) → stage_in (epoch_at s) c ≡ Asked → manager_in s.account.latest ≡ Some manager → Acts a s d c
    → IsElection (with_answer a (Some (id_of s.account.latest d, s.bus_manager_id)))
    (record s {
      half_steps = s.half_steps + 1;
      bus_manager_id = cond (s.bus_manager_id == 0x3F) (own_node s d) s.bus_manager_id;
      election = with_candidate s.election d (Some (after_hear s.bus_manager_id c));
    })
hears_on a s d manager c asked manages x = record {
  latest = h.latest;
  none = λ off k. absurd (not_both s.election.begun (begun a s d c x) off);
  nobody = λ off. absurd (not_both s.election.begun (begun a s d c x) off);
  holds = λ i w. holds (v == 0x3F) refl i w;
  past = each_candidate (λ k c. c.epoch ≤ epoch_at s) s.election.candidates d (Some new)
      (λ y is. let e : c.epoch ≡ y.epoch = ap (λ (z : CandidateState). z.epoch) (same_Some new y is) in let before = h.past d c x.is in omega (arith, e, before)) (λ k y ne is. h.past k y is);
  heard = λ k word y is stage. heard k y is word stage;
  spared = λ y waits. absurd (nothing_waits s.transaction y x.free waits);
}
  where
    h : IsElection a s
    h = x.election

    v : ℕ
    v = s.bus_manager_id

    id : ℕ
    id = id_of s.account.latest d

    new : CandidateState
    new = after_hear v c

    b : Answers
    b = with_answer a (Some (id, v))

    t : State
    t = record s { half_steps = s.half_steps + 1; bus_manager_id = cond (v == 0x3F) (own_node s d) v; election = with_candidate s.election d (Some new) }

    linked : IsTrue (is_linked s d)
    linked = living_linked s d x.lives

    -- nobody has won if BUS_MANAGER_ID is the word for no bus manager
    nobody : v ≡ 0x3F → a.winner ≡ None
    nobody free = go a.winner refl
      where
        go : (o : Option ℕ) → a.winner ≡ o → o ≡ None
        go None e = refl
        go (Some w) e = let low = (h.holds w e).low in absurd (omega (arith, low, free))

    wins : v ≡ 0x3F → b.winner ≡ Some id
    wins free = ap (λ o. first_won o id v) (nobody free) ∙ ap (λ k. cond (k == 0x3F) (Some id) None) free

    holds : (free : Bool) → (v == 0x3F) ≡ free → (i : ℕ) → b.winner ≡ Some i → Holds i t.bus_manager_id
    holds true e i w =
        let is : v ≡ 0x3F = grind (arith, nat_tests, e) in
        let same : id ≡ i = same_Some id i (sym (wins is) ∙ w) in
        subst (Holds i) (sym (ap (λ k. cond k (own_node s d) v) e)) (record { is = sym same; low = own_below s d x.good x.lives })
    holds false e i w = subst (Holds i) (sym (ap (λ k. cond k (own_node s d) v) e)) (h.holds i (sym (first_won_other a.winner id v e) ∙ w))

    own_epoch : (c.epoch == epoch_at s) ≡ true
    own_epoch = go (c.epoch == epoch_at s) asked
      where
        go : (k : Bool) → cond k c.stage Fresh ≡ Asked → k ≡ true
        go true e = refl
        go false e = absurd (let clash : Fresh ≡ Asked = e in cc clash)

    new_heard : (y : CandidateState) → Some new ≡ Some y → (word : ℕ) → stage_in (epoch_at s) y ≡ Heard word → HasHeard b t d word
    new_heard y is word stage =
        let at : stage_in (epoch_at s) new ≡ Heard word = subst (λ (z : CandidateState). stage_in (epoch_at s) z ≡ Heard word) (sym (same_Some new y is)) stage in
        let told : Heard v ≡ Heard word = sym (ap (λ k. cond k (Heard v) Fresh) own_epoch) ∙ at in
        let same : v ≡ word = cc told in
        record { linked = linked; heard = update_new a.heard id (Some v) ∙ ap (λ k. Some k) same; won = λ z. wins (same ∙ z) }

    old_heard : (k : ℕ) (y : CandidateState) → k ≢ d → s.election.candidates k ≡ Some y → (word : ℕ) → stage_in (epoch_at s) y ≡ Heard word → HasHeard b t k word
    old_heard k y ne is word stage =
        let w = h.heard k word y is stage in
        record {
          linked = w.linked;
          heard = update_others a.heard id (Some v) (id_of s.account.latest k) (ids_apart s k d x.good w.linked linked ne) ∙ w.heard;
          won = λ z. first_won_some (id_of s.account.latest k) id v a.winner (w.won z);
        }

    heard : (k : ℕ) (y : CandidateState) → update s.election.candidates d (Some new) k ≡ Some y → (word : ℕ) → stage_in (epoch_at s) y ≡ Heard word → HasHeard b t k word
    heard = each_candidate (λ k y. (word : ℕ) → stage_in (epoch_at s) y ≡ Heard word → HasHeard b t k word) s.election.candidates d (Some new) new_heard old_heard
