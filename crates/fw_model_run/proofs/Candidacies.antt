-- Candidates and BUS_MANAGER_ID stay as they were, or one device becomes a candidate or is one no more.
use Rattle.fw_model_run.proofs.Common.{◌≡◌, ◌≢◌, ◌⊎◌, inl, inr, ℕ, ◌+◌, ◌≤◌, ◌==◌, cond, List, Bool, true, false, Option, Some, None, is_some, refl, ap, sym, subst, ◌∙◌, arith, IsTrue, IsFalse}
use Rattle.fw_model_run.proofs.Common.{cases_eq, nat_tests, same_Some, update, Entry, Reset, ResetEntry, Timed, CandidateState, stage_in, Heard, Transaction, epoch_at, at_most, State, first_state}
use Rattle.fw_model_run.proofs.Common.{epoch_of, linked_number, Resets, after_reset_entry}
use Rattle.fw_log_entry.specs.declared.codes.event.TheConstants.{ELECTED, DEFEATED}
use Rattle.fw_manager.specs.Bids.{first_state as new_candidate}
use Rattle.fw_manager.specs.declared.candidate.BidProgress.TheVariants.{Fresh}
use Rattle.fw_model_run.specs.Elections.{Election, with_candidate, with_new_candidate}
use Rattle.fw_model_run.specs.Elected.{Answers, no_answers, id_of, IsBid, HasHeard, Holds, IsElection}
use Rattle.fw_model_run.specs.Actions.{IsSpared}
use Rattle.fw_model_run.proofs.Plain.{ArePlain, no_event, BidsOn, plainly}
use Rattle.fw_model_run.proofs.Turns.{update_new, update_others}

-- ---- before the first device

pub first_election : IsElection (no_answers None) first_state
first_election = record {
  latest = refl;
  none = λ off d. refl;
  nobody = λ off. refl;
  holds = λ id w. absurd (cc w);
  past = λ d c is. absurd (cc is);
  heard = λ d word c is stage. absurd (cc is);
  spared = λ x waits. absurd (cc waits);
}

-- ---- this part is as it was

pub nothing_waits : (o : Option Transaction) (x : Transaction) → o ≡ None → o ≡ Some x → ⊥
nothing_waits o x none waits = let clash : None ≡ Some x = sym none ∙ waits in cc clash

-- what was heard is that of a state with the same bus
pub same_heard : (a : Answers) (s t : State) (d word : ℕ) → t.account.latest ≡ s.account.latest → HasHeard a s d word → HasHeard a t d word
same_heard a s t d word latest w = record {
  linked = subst (λ o. IsTrue (is_some (linked_number o d))) (sym latest) w.linked;
  heard = subst (λ o. a.heard (id_of o d) ≡ Some word) (sym latest) w.heard;
  won = λ z. subst (λ o. a.winner ≡ Some (id_of o d)) (sym latest) (w.won z);
}

-- the candidates, BUS_MANAGER_ID and the bus are as they were
pub same_election : (a : Answers) (s t : State) → t.election ≡ s.election → t.bus_manager_id ≡ s.bus_manager_id → t.account.latest ≡ s.account.latest
    → ((x : Transaction) → t.transaction ≡ Some x → IsSpared s.election x.access) → IsElection a s → IsElection a t
same_election a s t e id latest spared h = record {
  latest = h.latest ∙ sym latest;
  none = λ off d. ap (λ (x : Election). x.candidates d) e ∙ h.none (subst (λ (x : Election). IsFalse x.begun) e off) d;
  nobody = λ off. h.nobody (subst (λ (x : Election). IsFalse x.begun) e off);
  holds = λ i w. subst (Holds i) (sym id) (h.holds i w);
  past = λ d c is. subst (λ o. c.epoch ≤ epoch_of o) (sym latest) (h.past d c (sym (ap (λ (x : Election). x.candidates d) e) ∙ is));
  heard = λ d word c is stage. same_heard a s t d word latest (h.heard d word c (sym (ap (λ (x : Election). x.candidates d) e) ∙ is) (subst (λ o. stage_in (epoch_of o) c ≡ Heard word) latest stage));
  spared = λ x waits. subst (λ y. IsSpared y x.access) (sym e) (spared x waits);
}

-- so it is after an action that does not touch it, and that writes no entry of an election
pub unchanged : (a : Answers) (s u t : State) (out : List Timed) (cycle : ℕ) (o : Option Entry) → IsElection a s → u.election ≡ s.election → u.bus_manager_id ≡ s.bus_manager_id
    → u.account.latest ≡ s.account.latest
    → u.transaction ≡ None → t ≡ u → out ≡ at_most cycle o → ArePlain o → BidsOn a s out t
unchanged a s u t out cycle o h e id latest none is out_is plain =
    plainly a s t out cycle o out_is plain (subst (IsElection a) (sym is) (same_election a s u e id latest (λ x waits. absurd (nothing_waits u.transaction x none waits)) h))

-- ---- a bus reset

late : (c : CandidateState) (old epoch word : ℕ) → c.epoch ≤ old → epoch ≡ old + 1 → stage_in epoch c ≡ Heard word → ⊥
late c old epoch word before next stage =
    let off : (c.epoch == epoch) ≡ false = grind (arith, nat_tests, before, next) in
    let clash : Fresh ≡ Heard word = sym (ap (λ b. cond b c.stage Fresh) off) ∙ stage in
    cc clash

-- the candidates, BUS_MANAGER_ID and the bus are those of a state whose device begins it
pub reset_bids : (a : Answers) (s u : State) (initiator : ℕ) (out : List Timed) (t : State) → u.election ≡ s.election → u.bus_manager_id ≡ s.bus_manager_id → u.account.latest ≡ s.account.latest
    → u.transaction ≡ None → IsElection a s → Resets u initiator out t → BidsOn a s out t
reset_bids a s u initiator out t elections id latest none before r =
    subst (λ z. BidsOn a s z t) (sym r.out_is) (subst (λ z. BidsOn a s (at_most u.clock.cycle (Some (Reset e))) z) (sym r.state_is) (record { election = election; entries = (bid, tt) }))
  where
    e : ResetEntry
    e = r.entry

    h : IsElection a u
    h = same_election a s u elections id latest (λ x waits. absurd (nothing_waits u.transaction x none waits)) before

    next : e.epoch ≡ epoch_of u.account.latest + 1
    next = r.is_entry.epoch_is

    election : IsElection (no_answers (Some e)) (after_reset_entry u e)
    election = record {
      latest = refl;
      none = h.none;
      nobody = λ off. refl;
      holds = λ id w. absurd (cc w);
      past = λ d c is. let past = h.past d c is in omega (arith, past, next);
      heard = λ d word c is stage. absurd (late c (epoch_of u.account.latest) e.epoch word (h.past d c is) next stage);
      spared = λ x waits. absurd (nothing_waits u.transaction x none waits);
    }

    bid : IsBid a s (Reset e)
    bid = record { elected = λ d is. absurd (no_event (Reset e) _ ELECTED refl is refl); defeated = λ d is. absurd (no_event (Reset e) _ DEFEATED refl is refl); answers = tt }

-- ---- one candidate changes

-- what holds of all others and of the new one holds of each
pub each_candidate : (P : ℕ → CandidateState → Type 0) (f : ℕ → Option CandidateState) (d : ℕ) (o : Option CandidateState) → ((c : CandidateState) → o ≡ Some c → P d c)
    → ((k : ℕ) (c : CandidateState) → k ≢ d → f k ≡ Some c → P k c) → (k : ℕ) (c : CandidateState) → update f d o k ≡ Some c → P k c
each_candidate P f d o new old k c is = go (cases_eq k d)
  where
    go : (k ≡ d) ⊎ (k ≢ d) → P k c
    go (inl same) = subst (λ z. P z c) (sym same) (new c (sym (ap (update f d o) same ∙ update_new f d o) ∙ is))
    go (inr ne) = old k c ne (sym (update_others f d o k ne) ∙ is)

pub no_candidate : (c : CandidateState) → None ≡ Some c → ⊥
no_candidate c e = cc e

-- a controller dies, and is no candidate any more
pub dies : (a : Answers) (s u : State) (d : ℕ) → u.election ≡ with_candidate s.election d None → u.bus_manager_id ≡ s.bus_manager_id → u.account.latest ≡ s.account.latest → u.transaction ≡ None
    → IsElection a s → IsElection a u
dies a s u d e id latest none h = same_election a (record s { election = with_candidate s.election d None; transaction = None }) u e id latest
    (λ x waits. absurd (nothing_waits u.transaction x none waits)) (record {
      latest = h.latest;
      none = λ off k. gone (h.none off) k (cases_eq k d);
      nobody = h.nobody;
      holds = h.holds;
      past = each_candidate (λ k c. c.epoch ≤ epoch_of s.account.latest) s.election.candidates d None (λ c is. absurd (no_candidate c is)) (λ k c ne is. h.past k c is);
      heard = λ k word c is stage. heard k c is word stage;
      spared = λ x waits. absurd (cc waits);
    })
  where
    v : State
    v = record s { election = with_candidate s.election d None; transaction = None }

    gone : ((k : ℕ) → s.election.candidates k ≡ None) → (k : ℕ) → (k ≡ d) ⊎ (k ≢ d) → update s.election.candidates d None k ≡ None
    gone f k (inl same) = ap (update s.election.candidates d None) same ∙ update_new s.election.candidates d None
    gone f k (inr ne) = update_others s.election.candidates d None k ne ∙ f k

    heard : (k : ℕ) (c : CandidateState) → update s.election.candidates d None k ≡ Some c → (word : ℕ) → stage_in (epoch_at s) c ≡ Heard word → HasHeard a v k word
    heard = each_candidate (λ k c. (word : ℕ) → stage_in (epoch_at s) c ≡ Heard word → HasHeard a v k word) s.election.candidates d None (λ c is. absurd (no_candidate c is))
        (λ k c ne is word stage. same_heard a s v k word refl (h.heard k word c is stage))

fresh_stage : (b : Bool) (word : ℕ) → cond b Fresh Fresh ≡ Heard word → ⊥
fresh_stage true word e = cc e
fresh_stage false word e = cc e

-- a computer becomes a candidate
pub becomes_one : (a : Answers) (s : State) (d : ℕ) → s.transaction ≡ None → IsElection a s → IsElection a (record s { election = with_new_candidate s.election d })
becomes_one a s d none h = record {
  latest = h.latest;
  none = λ off k. absurd (cc off);
  nobody = λ off. absurd (cc off);
  holds = h.holds;
  past = each_candidate (λ k c. c.epoch ≤ epoch_of s.account.latest) s.election.candidates d (Some new_candidate)
      (λ c is. let zero : 0 ≡ c.epoch = ap (λ (x : CandidateState). x.epoch) (same_Some new_candidate c is) in omega (arith, zero)) (λ k c ne is. h.past k c is);
  heard = λ k word c is stage. heard k c is word stage;
  spared = λ x waits. absurd (nothing_waits s.transaction x none waits);
}
  where
    v : State
    v = record s { election = with_new_candidate s.election d }

    heard : (k : ℕ) (c : CandidateState) → update s.election.candidates d (Some new_candidate) k ≡ Some c → (word : ℕ) → stage_in (epoch_at s) c ≡ Heard word → HasHeard a v k word
    heard = each_candidate (λ k c. (word : ℕ) → stage_in (epoch_at s) c ≡ Heard word → HasHeard a v k word) s.election.candidates d (Some new_candidate)
        (λ c is word stage. absurd (fresh_stage (0 == epoch_at s) word (subst (λ (x : CandidateState). stage_in (epoch_at s) x ≡ Heard word) (sym (same_Some new_candidate c is)) stage)))
        (λ k c ne is word stage. same_heard a s v k word refl (h.heard k word c is stage))
