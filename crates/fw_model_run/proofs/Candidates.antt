-- Candidates are living computers on a bus with a manager, whatever happens.
use Rattle.fw_model_run.proofs.Common.{◌≡◌, ◌≢◌, ◌⊎◌, inl, inr, ℕ, ◌<◌, ◌≤◌, ◌&&◌, ◌++◌, not, List, [], ◌∷◌, Bool, true, false, Option, Some, None, is_some, refl, ap, sym, subst, ◌∙◌, arith, IsTrue}
use Rattle.fw_model_run.proofs.Common.{cases_eq, same_Some, DeviceKind, is_contender, update, ResetEntry, Timed, kind_at}
use Rattle.fw_model_run.proofs.Common.{node_number, row_of, Account, CandidateState, stage_in, Heard, epoch_at, bid_at}
use Rattle.fw_model_run.proofs.Common.{bid_step, bidden, MOST_HALF_STEPS, at_most, IsGood, IsLatest, State, Declared}
use Rattle.fw_model_run.proofs.Common.{epoch_of, first_state, with_device, number_in, manager_in, linked_number, with_link}
use Rattle.fw_model_run.proofs.Common.{is_on, is_linked, is_living, Action, Contend, Transition, Resets, after_death, after_start}
use Rattle.fw_terms.proofs.KindLaws.{capable_contends}
use Rattle.fw_terms.specs.Devices.{is_capable}
use Rattle.fw_model_run.proofs.Networks.{kind_before}
use Rattle.fw_manager.specs.declared.candidate.BidProgress.{BidProgress}
use Rattle.fw_manager.specs.declared.candidate.BidProgress.TheVariants.{Fresh, Asked, Answered}
use Rattle.fw_model_run.specs.Bidding.{BidStep, is_candidate}
use Rattle.fw_model_run.specs.Candidates.{AreCandidates, HasCandidates}
use Rattle.fw_model_run.proofs.Candidacies.{each_candidate, no_candidate}
use Rattle.fw_model_run.proofs.Grows.{Number, number_there, manager_there}
use Rattle.fw_model_run.proofs.Resets.{declaring, MayReset, reset_shows, still_living, numbered}
use Rattle.fw_model_run.proofs.Settling.{half_turn}
use Rattle.fw_model_run.proofs.Times.{second_ends}
use Rattle.fw_model_run.proofs.Turns.{living_linked, update_new, update_others}
use Rattle.fw_model_run.proofs.Withholds.{withholding_keeps}
use Rattle.fw_model_run.proofs.Alterations.{Allows, Alteration, Bid, Candidate, Died, Halved, NewDevice, Over, Started, Withheld, altered}
use Rattle.fw_model_run.proofs.Effects.{Effect, altering, effect, resetting}

pub first_candidates : HasCandidates first_state
first_candidates = record { lives = λ d is. absurd (cc is); capable = λ d is. absurd (cc is); past = λ d c is. absurd (cc is); manages = λ d on. absurd (cc on) }

-- if the latest bus reset is the same
pub on_bus : (s : State) (latest : Option ResetEntry) → latest ≡ s.account.latest → HasCandidates s → AreCandidates s.election.candidates latest s.declared.kinds s.dead
on_bus s latest same h = subst (λ o. AreCandidates s.election.candidates o s.declared.kinds s.dead) (sym same) h

-- ---- bus resets

resets_candidates : (s : State) (n : Declared) (initiator : ℕ) (out : List Timed) (t : State) → MayReset s n → HasCandidates s → Resets (declaring s n) initiator out t → HasCandidates t
resets_candidates s n initiator out t m h r = subst HasCandidates (sym r.state_is) (record {
  lives = λ d is. still_living s n initiator out t m r d (h.lives d is);
  capable = λ d is. go s.account.latest refl d is (living_linked s d (h.lives d is));
  past = λ d c is. let before = h.past d c is in let next = r.is_entry.epoch_is in omega (arith, before, next);
  manages = λ d on contends. manages d (number_there (node_number r.entry.nodes d) on) contends;
})
  where
    go : (o : Option ResetEntry) → s.account.latest ≡ o → (d : ℕ) → IsTrue (is_candidate s d) → IsTrue (is_some (linked_number o d)) → IsTrue (is_capable (kind_at n.kinds d))
    go None e d is on = absurd (grind (arith, on))
    go (Some x) e d is on = subst (λ (k : List DeviceKind). IsTrue (is_capable (kind_at k d))) (sym (m.kinds x e)) (h.capable d is)

    manages : (d : ℕ) → Number (node_number r.entry.nodes d) → IsTrue (is_contender (kind_at n.kinds d)) → IsTrue (is_some r.entry.manager)
    manages d k contends =
        let shows = reset_shows s n initiator out t m r in
        manager_there n.topology n.kinds _ initiator r.entry r.is_entry m.declared.kinds d k.number
        (shows.declared k.number (row_of d (kind_at n.kinds d)) (shows.numbers d k.number k.is)) k.is contends

-- ---- a device more, which is off

-- a device that is a node has been declared, and keeps its kind
kept_kind : (s : State) (kind : DeviceKind) (d : ℕ) → IsGood s → IsTrue (is_on s d) → kind_at (s.declared.kinds ++ kind ∷ []) d ≡ kind_at s.declared.kinds d
kept_kind s kind d g on = go s.account.latest g.latest on
  where
    go : (o : Option ResetEntry) → IsLatest o s.declared s.account → IsTrue (is_some (number_in o d)) → kind_at (s.declared.kinds ++ kind ∷ []) d ≡ kind_at s.declared.kinds d
    go None h there = absurd (grind (arith, there))
    go (Some e) h there =
        let k = number_there (node_number e.nodes d) there in
        let low = h.1.declared k.number (row_of d (kind_at s.declared.kinds d)) (h.1.numbers d k.number k.is) in
        kind_before s.declared.kinds kind d (subst (λ n. d < n) (sym g.declared.kinds.size) low)

linked_on : (s : State) (d : ℕ) → IsTrue (is_linked s d) → IsTrue (is_on s d)
linked_on s d = go s.account.latest
  where
    of_node : (e : ResetEntry) (o : Option ℕ) → node_number e.nodes d ≡ o → IsTrue (is_some (linked_number (Some e) d)) → IsTrue (is_some o)
    of_node e None at on = absurd (let off : linked_number (Some e) d ≡ None = ap (λ o. with_link e.nodes o) at in grind (arith, off, on))
    of_node e (Some n) at on = refl

    go : (o : Option ResetEntry) → IsTrue (is_some (linked_number o d)) → IsTrue (is_some (number_in o d))
    go None on = absurd (grind (arith, on))
    go (Some e) on = of_node e (node_number e.nodes d) refl on

pub more_candidates : (s : State) (name : List ℕ) (kind : DeviceKind) (ports speed : ℕ) → IsGood s → HasCandidates s
    → HasCandidates (record s { declared = with_device s.declared name kind ports speed })
more_candidates s name kind ports speed g h = record {
  lives = h.lives;
  capable = λ d is. subst (λ k. IsTrue (is_capable k)) (sym (kept_kind s kind d g (linked_on s d (living_linked s d (h.lives d is))))) (h.capable d is);
  past = h.past;
  manages = λ d on contends. h.manages d on (subst (λ k. IsTrue (is_contender k)) (kept_kind s kind d g on) contends);
}

-- ---- who lives

-- what holds of each candidate but one that is gone
others_live : (s : State) (d : ℕ) → HasCandidates s → (k : ℕ) → IsTrue (is_candidate (after_death s d) k) → IsTrue (is_living (after_death s d) k) × IsTrue (is_candidate s k)
others_live s d h k is = go (cases_eq k d)
  where
    go : (k ≡ d) ⊎ (k ≢ d) → IsTrue (is_living (after_death s d) k) × IsTrue (is_candidate s k)
    go (inl same) =
        let off : update s.election.candidates d None k ≡ None = ap (update s.election.candidates d None) same ∙ update_new s.election.candidates d None in
        absurd (let no : IsTrue (is_some {T = CandidateState} None) = subst (λ o. IsTrue (is_some o)) off is in cc no)
    go (inr ne) =
        let there = subst (λ o. IsTrue (is_some o)) (update_others s.election.candidates d None k ne) is in
        (subst (λ b. IsTrue (is_linked s k && not b)) (sym (update_others s.dead d true k ne)) (h.lives k there), there)

start_lives : (s : State) (d k : ℕ) → IsTrue (is_living s k) → IsTrue (is_living (after_start s d) k)
start_lives s d k lives = go (cases_eq k d)
  where
    on : (a b : Bool) → a ≡ true → b ≡ false → (a && not b) ≡ true
    on a b x y = grind (arith, x, y)

    go : (k ≡ d) ⊎ (k ≢ d) → IsTrue (is_living (after_start s d) k)
    go (inl same) = on (is_linked s k) (update s.dead d false k) (living_linked s k lives) (ap (update s.dead d false) same ∙ update_new s.dead d false)
    go (inr ne) = subst (λ b. IsTrue (is_linked s k && not b)) (sym (update_others s.dead d false k ne)) lives

-- a candidate more, or one that goes on
one_candidate : (s : State) (d : ℕ) (c : CandidateState) → c.epoch ≤ epoch_of s.account.latest → IsTrue (is_living s d) → IsTrue (is_capable (kind_at s.declared.kinds d)) → HasCandidates s
    → AreCandidates (update s.election.candidates d (Some c)) s.account.latest s.declared.kinds s.dead
one_candidate s d c past lives capable h = record {
  lives = λ k is. (each k is (cases_eq k d)).0;
  capable = λ k is. (each k is (cases_eq k d)).1;
  past = each_candidate (λ k c. c.epoch ≤ epoch_of s.account.latest) s.election.candidates d (Some c)
      (λ y is. subst (λ (z : CandidateState). z.epoch ≤ epoch_of s.account.latest) (same_Some c y is) past) (λ k y ne is. h.past k y is);
  manages = h.manages;
}
  where
    each : (k : ℕ) → IsTrue (is_some (update s.election.candidates d (Some c) k)) → (k ≡ d) ⊎ (k ≢ d) → IsTrue (is_living s k) × IsTrue (is_capable (kind_at s.declared.kinds k))
    each k is (inl same) = subst (λ z. IsTrue (is_living s z) × IsTrue (is_capable (kind_at s.declared.kinds z))) (sym same) (lives, capable)
    each k is (inr ne) = let old = subst (λ o. IsTrue (is_some o)) (update_others s.election.candidates d (Some c) k ne) is in (h.lives k old, h.capable k old)

-- the bid of a candidate is of no epoch to come
bid_epoch : (s : State) (d manager : ℕ) (c : CandidateState) → c.epoch ≤ epoch_of s.account.latest → (bid_step s d manager c).candidate.epoch ≤ epoch_of s.account.latest
bid_epoch s d manager c before = go (stage_in (epoch_at s) c)
  where
    go : (stage : BidProgress) → (bid_at s d manager c stage).candidate.epoch ≤ epoch_of s.account.latest
    go Fresh = omega arith
    go Asked = before
    go (Heard word) = omega arith
    go Answered = omega arith

-- ---- each action

pub step_candidates : (s : State) (a : Action) (out : List Timed) (t : State) → IsGood s → HasCandidates s → Transition s a out t → HasCandidates t
step_candidates s a out t g h x = go (effect s a out t x)
  where
    by : (y : Alteration) → Allows s a y → HasCandidates (altered s y)
    by (NewDevice name kind ports speed) ok = more_candidates s name kind ports speed g h
    by (Halved d lost resets half_steps) ok = on_bus s _ (half_turn s d g ok.2).1.latest h
    by Over ok = on_bus s _ (ap (λ (l : Account). l.latest) (second_ends s.account ok.1)) h
    by (Died d) ok = record {
      lives = λ k is. (others_live s d h k is).0;
      capable = λ k is. h.capable k (others_live s d h k is).1;
      past = each_candidate (λ k c. c.epoch ≤ epoch_of s.account.latest) s.election.candidates d None (λ c is. absurd (no_candidate c is)) (λ k c ne is. h.past k c is);
      manages = h.manages;
    }
    by (Started d) ok = record { lives = λ k is. start_lives s d k (h.lives k is); capable = h.capable; past = h.past; manages = h.manages }
    by Withheld ok = on_bus s _ (withholding_keeps (λ (l : Account). l.latest) s.account refl) h
    by (Candidate d) ok = one_candidate s d _ (omega arith) ok.1 ok.2 h
    by (Bid d manager c) ok =
        let one : IsTrue (is_candidate s d) = ap is_some ok.2 in
        one_candidate s d _ (bid_epoch s d manager c (h.past d c ok.2)) ok.1 (h.capable d one) h
    by _ ok = h

    go : Effect s a out t → HasCandidates t
    go (resetting resets half_steps n initiator free begins may r) =
        resets_candidates (numbered s resets half_steps) n initiator out t (may g) h r
    go (altering y waits out_is is ok) = subst HasCandidates (sym is) (by y ok)

-- ---- a candidate's half step can be taken

-- there is a manager
pub candidate_manager : (s : State) (d : ℕ) → HasCandidates s → IsTrue (is_candidate s d) → Number (manager_in s.account.latest)
candidate_manager s d h is =
    number_there (manager_in s.account.latest) (h.manages d (linked_on s d (living_linked s d (h.lives d is))) (capable_contends (kind_at s.declared.kinds d) (h.capable d is)))

-- so its half step is an action
pub candidate_bids : (s : State) (d : ℕ) → HasCandidates s → IsTrue (is_candidate s d) → s.half_steps < MOST_HALF_STEPS → s.transaction ≡ None
    → (out : List Timed) × (t : State) × Transition s (Contend d) out t
candidate_bids s d h is few free = go (s.election.candidates d) refl
  where
    manager : Number (manager_in s.account.latest)
    manager = candidate_manager s d h is

    bid : CandidateState → BidStep
    bid c = bid_step s d manager.number c

    bids : (c : CandidateState) → s.election.candidates d ≡ Some c → Transition s (Contend d) (at_most s.clock.cycle (bid c).says) (bidden s d (bid c))
    bids c at = record {
      found = record { candidate = c; manager = manager.number };
      waits = free;
      may = record { lives = h.lives d is; few = few; candidate = at; manages = manager.is };
      out_is = refl;
      state_is = refl;
    }

    go : (o : Option CandidateState) → s.election.candidates d ≡ o → (out : List Timed) × (t : State) × Transition s (Contend d) out t
    go None at = absurd (let no : IsTrue (is_some {T = CandidateState} None) = subst (λ o. IsTrue (is_some o)) at is in cc no)
    go (Some c) at = (at_most s.clock.cycle (bid c).says, bidden s d (bid c), bids c at)
