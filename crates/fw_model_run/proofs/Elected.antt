-- One device at most is elected between two bus resets, and it is the winner.
use Rattle.fw_model_run.proofs.Common.{◌≡◌, ℕ, ◌++◌, List, [], ◌∷◌, Option, Some, None, is_some, refl, ap}
use Rattle.fw_model_run.proofs.Common.{sym, subst, ◌∙◌, append_assoc, IsTrue, same_Some, device_of_id, Entry, Reset, Async, Iso, Event}
use Rattle.fw_model_run.proofs.Common.{Outcome, Shown, End, Timed, entries_of, Action, Transitions, bid_answer, at_cycle, at_most, IsGood, HasNumbers, State, first_state, linked_number}
use Rattle.fw_model_run.specs.Elected.{Answers, no_answers, first_won, with_answer, answers_after, answers_from, answers_of}
use Rattle.fw_model_run.specs.Elected.{id_of, IsNoReset, HasNoReset, IsBid, IsElection, WrittenIn, ElectsOne}
use Rattle.fw_model_run.specs.Entries.{elected}
use Rattle.fw_model_run.proofs.Along.{step_led}
use Rattle.fw_model_run.proofs.Candidacies.{first_election}
use Rattle.fw_model_run.proofs.Contending.{step_bids}
use Rattle.fw_model_run.proofs.Kept.{first_numbers, step_numbers}
use Rattle.fw_model_run.proofs.Leads.{linked_of}
use Rattle.fw_model_run.proofs.Led.{Led}
use Rattle.fw_model_run.proofs.Plain.{AllBid, BidsOn}
use Rattle.fw_model_run.proofs.Responses.{own_device}
use Rattle.fw_model_run.proofs.Steps.{step_good, steps_good}
use Rattle.fw_model_run.proofs.Times.{first_good}

-- ---- answers of fronts

answers_append : (a : Answers) (xs ys : List Timed) → answers_from a (entries_of (xs ++ ys)) ≡ answers_from (answers_from a (entries_of xs)) (entries_of ys)
answers_append a [] ys = refl
answers_append a (x ∷ xs) ys = answers_append (answers_after a x.what) xs ys

-- ---- through actions

pub steps_election : (a : Answers) (s t : State) (xs : List Action) (out : List Timed) → IsElection a s → IsGood s → HasNumbers s → Transitions s xs out t
    → IsElection (answers_from a (entries_of out)) t
steps_election a s t [] out h g b f = subst (λ z. IsElection (answers_from a (entries_of z)) t) (sym f.0) (subst (IsElection a) (sym f.1) h)
steps_election a s t (x ∷ xs) out h g b f =
    let on = (step_bids a s x f.0 f.2 h g b f.3).election in
    let rest = steps_election (answers_from a (entries_of f.0)) f.2 t xs f.1 on (step_good s x f.0 f.2 g f.3) (step_numbers s x f.0 f.2 g b f.3) f.5 in
    subst (λ z. IsElection (answers_from a (entries_of z)) t) (sym f.4) (subst (λ z. IsElection z t) (sym (answers_append a f.0 f.1)) rest)

-- an entry that these actions write, and the state in which it was written
record Found (a : Answers) (s : State) (actions : List Action) (prefix : List Timed) (t : Timed) : Type 0 where
  done : List Action
  later : List Action
  state : State
  actions_are : actions ≡ done ++ later
  steps : Transitions s done prefix state
  bid : IsBid (answers_from a (entries_of prefix)) state t.what

found : (a : Answers) (s t : State) (xs : List Action) (out prefix rest : List Timed) (u : Timed) → IsElection a s → IsGood s → HasNumbers s → Transitions s xs out t → out ≡ prefix ++ u ∷ rest
    → Found a s xs prefix u
found a s t [] out prefix rest u h g b f e = absurd (none prefix (sym f.0 ∙ e))
  where
    none : (prefix : List Timed) → [] ≡ prefix ++ u ∷ rest → ⊥
    none [] e = cc e
    none (x ∷ prefix) e = cc e
found a s t (x ∷ xs) out prefix rest u h g b f e =
    go (λ c is some same. found c f.2 t xs f.1 some rest u (subst (λ z. IsElection z f.2) is on.election) (step_good s x f.0 f.2 g f.3)
    (step_numbers s x f.0 f.2 g b f.3) f.5 same) led.entry led.is prefix (sym f.4 ∙ e)
  where
    led : Led s f.0 f.2
    led = step_led s f.2 x f.0 g f.3

    on : BidsOn a s f.0 f.2
    on = step_bids a s x f.0 f.2 h g b f.3

    go : ((c : Answers) → answers_from a (entries_of f.0) ≡ c → (some : List Timed) → f.1 ≡ some ++ u ∷ rest → Found c f.2 xs some u) → (o : Option Entry) → f.0 ≡ at_most f.2.clock.cycle o
        → (prefix : List Timed) → f.0 ++ f.1 ≡ prefix ++ u ∷ rest → Found a s (x ∷ xs) prefix u
    go later None is prefix e =
        let w = later a (ap (λ z. answers_from a (entries_of z)) is) prefix (sym (ap (λ z. z ++ f.1) is) ∙ e) in
        record {
          done = x ∷ w.done;
          later = w.later;
          state = w.state;
          actions_are = ap (λ z. x ∷ z) w.actions_are;
          steps = (f.0, prefix, f.2, f.3, sym (ap (λ z. z ++ prefix) is), w.steps);
          bid = w.bid;
        }
    go later (Some y) is [] e =
        let same : at_cycle f.2.clock.cycle y ∷ f.1 ≡ u ∷ rest = sym (ap (λ z. z ++ f.1) is) ∙ e in
        let first : at_cycle f.2.clock.cycle y ≡ u = cc in
        let all : AllBid a s (at_cycle f.2.clock.cycle y ∷ []) = subst (AllBid a s) is on.entries in
        record { done = []; later = x ∷ xs; state = s; actions_are = refl; steps = (refl, refl); bid = subst (λ (z : Timed). IsBid a s z.what) first all.0 }
    go later (Some y) is (v ∷ prefix) e =
        let same : at_cycle f.2.clock.cycle y ∷ f.1 ≡ v ∷ (prefix ++ u ∷ rest) = sym (ap (λ z. z ++ f.1) is) ∙ e in
        let first : at_cycle f.2.clock.cycle y ≡ v = cc in
        let tail : f.1 ≡ prefix ++ u ∷ rest = cc in
        let w = later (answers_after a v.what) (ap (λ z. answers_from a (entries_of z)) is ∙ ap (λ (z : Timed). answers_after a z.what) first) prefix tail in
        record {
          done = x ∷ w.done;
          later = w.later;
          state = w.state;
          actions_are = ap (λ z. x ∷ z) w.actions_are;
          steps = (f.0, prefix, f.2, f.3, sym (ap (λ z. z ++ prefix) is ∙ ap (λ z. z ∷ prefix) first), w.steps);
          bid = w.bid;
        }

pub written : (actions : List Action) (log prefix rest : List Timed) (s : State) (t : Timed) → Transitions first_state actions log s → log ≡ prefix ++ t ∷ rest → WrittenIn actions prefix t
written actions log prefix rest s t f e =
    let w = found (no_answers None) first_state s actions log prefix rest t first_election first_good first_numbers f e in
    record { done = w.done; later = w.later; state = w.state; actions_are = w.actions_are; steps = w.steps; bid = w.bid }

-- ---- between two bus resets

-- the reset and the winner stay, if one has won
record Won (a b : Answers) (id : ℕ) : Type 0 where
  reset : b.reset ≡ a.reset
  winner : b.winner ≡ Some id

stays_won : (a : Answers) (id : ℕ) (o : Option (ℕ × ℕ)) → a.winner ≡ Some id → Won a (with_answer a o) id
stays_won a id None w = record { reset = refl; winner = w }
stays_won a id (Some x) w = record { reset = refl; winner = ap (λ z. first_won z x.0 x.1) w }

one_won : (a : Answers) (id : ℕ) (e : Entry) → IsNoReset e → a.winner ≡ Some id → Won a (answers_after a e) id
one_won a id (Reset r) on w = absurd on
one_won a id (Async p) on w = stays_won a id (bid_answer p) w
one_won a id (Iso p) on w = record { reset = refl; winner = w }
one_won a id (Event e) on w = record { reset = refl; winner = w }
one_won a id (Outcome o) on w = record { reset = refl; winner = w }
one_won a id (Shown s) on w = record { reset = refl; winner = w }
one_won a id End on w = record { reset = refl; winner = w }

all_won : (a : Answers) (id : ℕ) (log : List Timed) → HasNoReset log → a.winner ≡ Some id → Won a (answers_from a (entries_of log)) id
all_won a id [] on w = record { reset = refl; winner = w }
all_won a id (t ∷ log) on w =
    let x = one_won a id t.what on.0 w in
    let y = all_won (answers_after a t.what) id log on.1 x.winner in
    record { reset = y.reset ∙ x.reset; winner = y.winner }

event_on : (d : ℕ) → IsNoReset (elected d)
event_on d = tt

-- two devices with a link and one node ID are one
same_id : (s : State) (a : Answers) (d e : ℕ) → IsGood s → a.reset ≡ s.account.latest → IsTrue (is_some (linked_number a.reset d)) → IsTrue (is_some (linked_number a.reset e))
    → id_of a.reset d ≡ id_of a.reset e → d ≡ e
same_id s a d e g is on there same =
    let x = own_device s d (linked_of s d g (subst (λ o. IsTrue (is_some (linked_number o d))) is on)) in
    let y = own_device s e (linked_of s e g (subst (λ o. IsTrue (is_some (linked_number o e))) is there)) in
    let ids : id_of s.account.latest d ≡ id_of s.account.latest e = subst (λ o. id_of o d ≡ id_of o e) is same in
    same_Some d e (sym x ∙ (ap (device_of_id s.account.latest) ids ∙ y))

pub elects_one : (actions : List Action) (log : List Timed) (s : State) → Transitions first_state actions log s → ElectsOne actions log
elects_one actions log s f = record {
  one = one;
  entries = λ prefix rest t e. written actions log prefix rest s t f e;
  holds = λ done later prefix m id split g w. (steps_election (no_answers None) first_state m done prefix first_election first_good first_numbers g).holds id w;
}
  where
    one : (prefix middle rest : List Timed) (t u : Timed) (d e : ℕ) → log ≡ prefix ++ t ∷ (middle ++ u ∷ rest) → t.what ≡ elected d → u.what ≡ elected e → HasNoReset middle → d ≡ e
    one prefix middle rest t u d e split first second on =
        let x = written actions log prefix (middle ++ u ∷ rest) s t f split in
        let y = written actions log (prefix ++ t ∷ middle) rest s u f (split ∙ sym (append_assoc prefix (t ∷ middle) (u ∷ rest))) in
        let won = x.bid.elected d first in
        let also = y.bid.elected e second in
        let after : Won (answers_of prefix) (answers_of (prefix ++ t ∷ middle)) (id_of (answers_of prefix).reset d) =
        subst (λ z. Won (answers_of prefix) z (id_of (answers_of prefix).reset d)) (sym (answers_append (no_answers None) prefix (t ∷ middle)))
        (all_won (answers_of prefix) (id_of (answers_of prefix).reset d) (t ∷ middle) (subst IsNoReset (sym first) (event_on d), on) won.1) in
        let m = y.state in
        let good : IsGood m = steps_good first_state m y.done (prefix ++ t ∷ middle) first_good y.steps in
        let latest = (steps_election (no_answers None) first_state m y.done (prefix ++ t ∷ middle) first_election first_good first_numbers y.steps).latest in
        let here : IsTrue (is_some (linked_number (answers_of (prefix ++ t ∷ middle)).reset d)) = subst (λ o. IsTrue (is_some (linked_number o d))) (sym after.reset) won.0 in
        let ids : id_of (answers_of (prefix ++ t ∷ middle)).reset d ≡ id_of (answers_of (prefix ++ t ∷ middle)).reset e = ap (λ o. id_of o d) after.reset ∙ same_Some _ _ (sym after.winner ∙ also.1) in
        same_id m (answers_of (prefix ++ t ∷ middle)) d e good latest here also.0 ids
