-- The account goes along the entries of actions, each answer is its word, and each prefix of what they write is reached.
use Rattle.fw_model_run.proofs.Common.{◌≡◌, ◌⊎◌, inl, inr, cond, List, [], ◌∷◌, ◌++◌, Option, Some, None, refl}
use Rattle.fw_model_run.proofs.Common.{ap, sym, subst, ◌∙◌, arith, IsTrue, ⊤, Packet, Entry, Async, Timed, Account, next_account}
use Rattle.fw_model_run.proofs.Common.{entries_of, Transaction, at_most, at_cycle, second_over, withheld, half, State}
use Rattle.fw_model_run.proofs.Common.{answer_packet, target_node, transaction_head, access_request, Action, Answer, Transition}
use Rattle.fw_model_run.proofs.Common.{Transitions, bid_step, IsGood, IsAnswered}
use Rattle.fw_model_account.specs.Events.{after_second as account_second}
use Rattle.fw_model_account.specs.Fold.{account_from}
use Rattle.fw_model_run.specs.Entries.{died, started, dubbing}
use Rattle.fw_model_run.specs.Headline.{IsReadIn}
use Rattle.fw_model_run.proofs.Bidding.{bid_leaves}
use Rattle.fw_model_run.proofs.Alterations.{Allows, Alteration, Answered, Asked, AtUnits, Beside, Bid, Died, Halved, Over, Started, Tied, Withheld, altered, told_by}
use Rattle.fw_model_run.proofs.Effects.{Effect, altering, effect, resetting}
use Rattle.fw_model_run.proofs.Leads.{NextIs, entered_next, half_next}
use Rattle.fw_model_run.proofs.Led.{Led, IsAsked, led_says, half_says, reset_led}
use Rattle.fw_model_run.proofs.Steps.{step_good}
use Rattle.fw_model_run.proofs.Transactions.{ask_led, answer_leaves, read_pair}
use Rattle.fw_model_run.proofs.Withholds.{none_before, withheld_next}

-- ---- each action

second_next : (l : Account) → IsTrue l.reclaiming → next_account l second_over ≡ Some (account_second l)
second_next l runs = ap (λ b. cond b (Some (account_second l)) None) runs

effect_led : (s t : State) (a : Action) (out : List Timed) → IsGood s → Effect s a out t → Led s out t
effect_led s t a out g (resetting counts half_steps n initiator free begins may r) = reset_led s n counts half_steps initiator out t r
effect_led s t a out g (altering y waits said is ok) = subst (λ (z : State). Led s out z) (sym is) (by y said ok)
  where
    by : (y : Alteration) → out ≡ at_most (altered s y).clock.cycle (told_by s y) → Allows s a y → Led s out (altered s y)
    by (Halved d lost resets half_steps) said ok = led_says s (half s d).says out _ said (half_next s d g ok.2) (half_says s d g ok.2) (omega arith)
    by Over said ok = led_says s (Some second_over) out _ said (entered_next s.account _ second_over (second_next s.account ok.1)) ((tt, tt), λ u. tt) (omega arith)
    by (Died d) said ok = led_says s (Some (died d)) out _ said refl ((tt, tt), λ u. tt) (omega arith)
    by (Started d) said ok = led_says s (Some (started d)) out _ said refl ((tt, tt), λ u. tt) (omega arith)
    by Withheld said ok = led_says s (Some withheld) out _ said (entered_next s.account _ withheld (withheld_next s.account (none_before s g ok.1))) ((tt, tt), λ u. tt) (omega arith)
    by (Asked x) said ok = ask_led s x out _ ok.2 said refl
    by (Answered x p) said ok = let leaves = answer_leaves s x p ok.1 in led_says s (Some (Async p)) out _ said leaves.0 leaves.1 (omega arith)
    by (Bid d manager c) said ok = let leaves = bid_leaves s d manager c in led_says s (bid_step s d manager c).says out _ said leaves.0 leaves.1 (omega arith)
    by (Tied d) said ok = led_says s (Some (dubbing d)) out _ said refl ((tt, tt), λ u. tt) (omega arith)
    by (Beside says half_steps written frame) said ok = let leaves = ok.3 g in led_says s says out _ said leaves.0 leaves.1 (omega arith)
    by (AtUnits says decks frame) said ok = let leaves = ok.4 g in led_says s says out _ said leaves.0 leaves.1 (omega arith)
    by _ said ok = led_says s None out _ said refl tt (omega arith)

pub step_led : (s t : State) (a : Action) (out : List Timed) → IsGood s → Transition s a out t → Led s out t
step_led s t a out g x = effect_led s t a out g (effect s a out t x)

-- ---- what follows an entry

abbrev pub FollowedBy : Account → Entry → List Timed → Type 0
FollowedBy l e [] = ⊤
FollowedBy l e (u ∷ us) = IsReadIn l e u.what

clash : (o : Option Transaction) (x : Transaction) → o ≡ Some x → o ≡ None → ⊥
clash o x some none = let wrong : Some x ≡ None = sym some ∙ none in cc wrong

-- no other action comes while a transaction waits
only_answer : (t : State) (x : Transaction) (a : Action) (out : List Timed) (v : State) → t.transaction ≡ Some x → Transition t a out v → Transition t Answer out v
only_answer t x Answer out v waits f = f
only_answer t x _ out v waits f = absurd (clash t.transaction x waits f.waits)

-- the packet that answers a transaction
abbrev IsResponseTo : State → Transaction → Packet → Type 0
IsResponseTo s x p = answer_packet s (target_node s x) (transaction_head s x) (access_request x.access) ≡ Some p

-- the answer to what was asked
asked_pair : (s mid v : State) (e : Entry) (first later : List Timed) → IsGood s → (x : IsAsked s e mid) → Transition mid Answer first v → FollowedBy s.account e (first ++ later)
asked_pair s mid v e first later g x f =
    subst (λ z. FollowedBy s.account e (z ++ later)) (sym f.out_is)
    (subst (λ z. IsReadIn s.account z (Async f.found.response)) (sym x.request) (read_pair s x.transaction f.found.response g x.target response))
  where
    same : f.found.transaction ≡ x.transaction
    same = let y : Some f.found.transaction ≡ Some x.transaction = sym f.waits ∙ x.waits in cc

    response : IsResponseTo s x.transaction f.found.response
    response = let at : IsResponseTo mid x.transaction f.found.response = subst (λ y. IsResponseTo mid y f.found.response) same f.may in
        subst (λ (z : State). IsResponseTo z x.transaction f.found.response) x.same at

-- what follows an entry that was written
led_followed : (s mid t : State) (out rest : List Timed) (xs : List Action) → IsGood s → Transitions mid xs rest t → (e : Entry) → (w : Led s out mid) → w.entry ≡ Some e → FollowedBy s.account e rest
led_followed s mid t out rest xs g f e w is = go rest xs f
  where
    go : (rest : List Timed) (xs : List Action) → Transitions mid xs rest t → FollowedBy s.account e rest
    go [] xs f = tt
    go (u ∷ us) [] f = let wrong : u ∷ us ≡ [] = f.0 in absurd (cc wrong)
    go (u ∷ us) (a ∷ xs) f = of (w.asks e u.what is)
      where
        of : IsReadIn s.account e u.what ⊎ IsAsked s e mid → IsReadIn s.account e u.what
        of (inl h) = h
        of (inr x) = subst (λ z. FollowedBy s.account e z) (sym f.4) (asked_pair s mid f.2 e f.0 f.1 g x (only_answer mid x.transaction a f.0 f.2 x.waits f.3))

-- ---- the account goes along the entries, and each answer is its word

abbrev pub Along : Account → List Timed → Account → Type 0
Along l [] m = m ≡ l
Along l (e ∷ es) m = IsAnswered l e.what × FollowedBy l e.what es × ((k : Account) × (next_account l e.what ≡ Some k) × Along k es m)

led_along : (s mid t : State) (first rest : List Timed) (xs : List Action) → IsGood s → Led s first mid → Transitions mid xs rest t → Along mid.account rest t.account
    → Along s.account (first ++ rest) t.account
led_along s mid t first rest xs g w f later = rw w.is (go w.entry refl w.next)
  where
    go : (o : Option Entry) → w.entry ≡ o → NextIs s.account o mid.account → Along s.account (at_most mid.clock.cycle o ++ rest) t.account
    go None is next = subst (λ l. Along l rest t.account) next later
    go (Some e) is next = (w.answers e is, led_followed s mid t first rest xs g f e w is, (mid.account, next, later))

pub steps_along : (s t : State) (xs : List Action) (out : List Timed) → IsGood s → Transitions s xs out t → Along s.account out t.account
steps_along s t [] out g f = rw f.0 (ap (λ (x : State). x.account) f.1)
steps_along s t (x ∷ xs) out g f = rw f.4 (led_along s f.2 t f.0 f.1 xs g (step_led s f.2 x f.0 g f.3) f.5 (steps_along f.2 t xs f.1 (step_good s x f.0 f.2 g f.3) f.5))

pub along_account : (l m : Account) (out : List Timed) → Along l out m → account_from (Some l) (entries_of out) ≡ Some m
along_account l m [] f = ap (λ (a : Account). Some a) (sym f)
along_account l m (e ∷ es) f = ap (λ o. account_from o (entries_of es)) f.2.1 ∙ along_account f.2.0 m es f.2.2

-- the account before an entry
pub along_prefix : (l m : Account) (prefix rest : List Timed) (t : Timed) → Along l (prefix ++ t ∷ rest) m → (k : Account) × (account_from (Some l) (entries_of prefix) ≡ Some k) × IsAnswered k t.what
along_prefix l m [] rest t f = (l, refl, f.0)
along_prefix l m (e ∷ prefix) rest t f = let x = along_prefix f.2.0 m prefix rest t f.2.2 in (x.0, ap (λ o. account_from o (entries_of prefix)) f.2.1 ∙ x.1, x.2)

pub along_pair : (l m : Account) (prefix rest : List Timed) (t u : Timed) → Along l (prefix ++ t ∷ u ∷ rest) m → (k : Account) × (account_from (Some l) (entries_of prefix) ≡ Some k)
    × IsReadIn k t.what u.what
along_pair l m [] rest t u f = (l, refl, f.1)
along_pair l m (e ∷ prefix) rest t u f = let x = along_pair f.2.0 m prefix rest t u f.2.2 in (x.0, ap (λ o. account_from o (entries_of prefix)) f.2.1 ∙ x.1, x.2)

-- ---- fronts

abbrev pub Fronts : State → List Action → List Timed → Type 0
Fronts s actions prefix = (done : List Action) × (later : List Action) × (t : State) × (actions ≡ done ++ later) × Transitions s done prefix t

pub steps_prefix : (s t : State) (xs : List Action) (out prefix rest : List Timed) → IsGood s → Transitions s xs out t → out ≡ prefix ++ rest → Fronts s xs prefix
steps_prefix s t xs out [] rest g f e = ([], xs, s, refl, (refl, refl))
steps_prefix s t [] out (x ∷ prefix) rest g f e = let wrong : [] ≡ x ∷ (prefix ++ rest) = sym f.0 ∙ e in absurd (cc wrong)
steps_prefix s t (a ∷ xs) out (x ∷ prefix) rest g f e = go (λ some same. steps_prefix f.2 t xs f.1 some rest (step_good s a f.0 f.2 g f.3) f.5 same) (step_led s f.2 a f.0 g f.3).entry
    (step_led s f.2 a f.0 g f.3).is
  where
    go : ((some : List Timed) → f.1 ≡ some ++ rest → Fronts f.2 xs some) → (o : Option Entry) → f.0 ≡ at_most f.2.clock.cycle o → Fronts s (a ∷ xs) (x ∷ prefix)
    go on None is =
        let same : f.1 ≡ (x ∷ prefix) ++ rest = sym (ap (λ z. z ++ f.1) is) ∙ sym f.4 ∙ e in
        let later = on (x ∷ prefix) same in
        (a ∷ later.0, later.1, later.2, ap (λ z. a ∷ z) later.3, (f.0, x ∷ prefix, f.2, f.3, sym (ap (λ z. z ++ (x ∷ prefix)) is), later.4))
    go on (Some y) is =
        let same : at_cycle f.2.clock.cycle y ∷ f.1 ≡ x ∷ (prefix ++ rest) = sym (ap (λ z. z ++ f.1) is) ∙ sym f.4 ∙ e in
        let first : at_cycle f.2.clock.cycle y ≡ x = cc in
        let tail : f.1 ≡ prefix ++ rest = cc in
        let later = on prefix tail in
        (a ∷ later.0, later.1, later.2, ap (λ z. a ∷ z) later.3, (f.0, prefix, f.2, f.3, sym (ap (λ z. z ++ prefix) is ∙ ap (λ z. z ∷ prefix) first), later.4))
