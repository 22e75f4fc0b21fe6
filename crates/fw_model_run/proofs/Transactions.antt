-- Transactions of the script, and shown words: what they write.
use Rattle.fw_model_run.proofs.Common.{◌≡◌, inr, ℕ, ◌+◌, List, Option, Some, None, refl, ap, sym, subst}
use Rattle.fw_model_run.proofs.Common.{◌∙◌, is_some, option_map, IsTrue, arith, Head, Packet, ReadQuadletReply, LockReply, Reply, Entry}
use Rattle.fw_model_run.proofs.Common.{Async, Timed, Account, next_account, Register, word_of, register_at, node_of}
use Rattle.fw_model_run.proofs.Common.{first_address, packet_of, response_head, old_bytes, Transaction, at_most, shown_entry}
use Rattle.fw_model_run.proofs.Common.{State, number_in, is_linked, reply_from, read_at, answer_packet, access_request, target_node, transaction_head, IsAnswered, IsGood}
use Rattle.fw_order.specs.declared.order.Access.{Access}
use Rattle.fw_order.specs.declared.order.Access.TheVariants.{Read, Swap}
use Rattle.fw_model_run.specs.Spaces.{space_of_device, script_head}
use Rattle.fw_model_run.specs.Headline.{HasWords, IsReadBy, IsReadIn}
use Rattle.fw_model_run.proofs.Answers.{answered}
use Rattle.fw_model_run.proofs.Directories.{linked_number_is}
use Rattle.fw_model_run.proofs.Leads.{linked_of}
use Rattle.fw_model_run.proofs.Led.{LeavesAccount, Led, unread}
use Rattle.fw_model_run.proofs.Shown.{space_shows}
use Rattle.fw_model_run.proofs.Watched.{shown_watched}
use Rattle.fw_model_run.proofs.Words.{number_of_on, answers_word}

-- ---- a device with a link has its number

pub linked_number_of : (s : State) (d : ℕ) → IsGood s → IsTrue (is_linked s d) → number_in s.account.latest d ≡ Some (node_of s.account.latest d)
linked_number_of s d g on =
    let x = linked_of s d g on in
    let number : number_in s.account.latest d ≡ Some x.number = ap (λ o. number_in o d) x.is ∙ linked_number_is x.entry d x.number x.linked in
    number_of_on s.account.latest d (ap is_some number)

-- ---- packets of the script are no packets of the account

asked_next : (l : Account) (to from : ℕ) (a : Access) → next_account l (Async (packet_of (script_head to from) (access_request a))) ≡ Some l
asked_next l to from (Read offset) = refl
asked_next l to from (Swap offset swap) = refl

asked_shows : (l : Account) (to from : ℕ) (a : Access) → IsAnswered l (Async (packet_of (script_head to from) (access_request a)))
asked_shows l to from (Read offset) = (tt, tt)
asked_shows l to from (Swap offset swap) = (tt, tt)

pub ask_led : (s : State) (x : Transaction) (out : List Timed) (t : State) → IsTrue (is_linked s x.to)
    → out ≡ at_most s.clock.cycle (Some (Async (packet_of (transaction_head s x) (access_request x.access)))) → t ≡ record s { transaction = Some x } → Led s out t
ask_led s x out t on is to = record {
  entry = Some asks;
  is = is ∙ ap (λ c. at_most c (Some asks)) (sym cycle);
  next = asked_next s.account (target_node s x) (node_of s.account.latest x.from) x.access ∙ ap (λ (z : State). Some z.account) (sym to);
  answers = λ e y. let same : asks ≡ e = cc in subst (λ z. IsAnswered s.account z) same (asked_shows s.account (target_node s x) (node_of s.account.latest x.from) x.access);
  asks = λ e u y. let same : asks ≡ e = cc in inr (record { transaction = x; waits = ap (λ (z : State). z.transaction) to; request = sym same; target = on; same = to });
  later = omega (arith, cycle);
}
  where
    asks : Entry
    asks = Async (packet_of (transaction_head s x) (access_request x.access))

    cycle : t.clock.cycle ≡ s.clock.cycle
    cycle = ap (λ (z : State). z.clock.cycle) to

-- ---- the response

abbrev pub access_response : ℕ → Head → Access → Reply → Packet
access_response n h (Read offset) r = ReadQuadletReply (response_head n h) r.rcode r.value
access_response n h (Swap offset swap) r = LockReply (response_head n h) r.rcode 2 (old_bytes r)

pub responds_with : (s : State) (n : ℕ) (h : Head) (a : Access) → answer_packet s n h (access_request a) ≡ Some (access_response n h a (reply_from s n (access_request a)))
responds_with s n h (Read offset) = refl
responds_with s n h (Swap offset swap) = refl

response_leaves : (l : Account) (n to from : ℕ) (a : Access) (r : Reply) → LeavesAccount l (Some (Async (access_response n (script_head to from) a r)))
response_leaves l n to from (Read offset) r = (refl, ((tt, tt), unread l (access_response n (script_head to from) (Read offset) r) (λ q. tt)))
response_leaves l n to from (Swap offset swap) r = (refl, ((tt, tt), unread l (access_response n (script_head to from) (Swap offset swap) r) (λ q. tt)))

-- the packet that answers a transaction
pub response_is : (s : State) (x : Transaction) (p : Packet) → answer_packet s (target_node s x) (transaction_head s x) (access_request x.access) ≡ Some p
    → access_response (target_node s x) (transaction_head s x) x.access (reply_from s (target_node s x) (access_request x.access)) ≡ p
response_is s x p is = let e : Some (access_response (target_node s x) (transaction_head s x) x.access (reply_from s (target_node s x) (access_request x.access))) ≡ Some p =
    sym (responds_with s (target_node s x) (transaction_head s x) x.access) ∙ is in cc

pub answer_leaves : (s : State) (x : Transaction) (p : Packet) → answer_packet s (target_node s x) (transaction_head s x) (access_request x.access) ≡ Some p → LeavesAccount s.account (Some (Async p))
answer_leaves s x p is =
    let n = target_node s x in
    subst (λ z. LeavesAccount s.account (Some (Async z))) (response_is s x p is) (response_leaves s.account n n (node_of s.account.latest x.from) x.access (reply_from s n (access_request x.access)))

-- ---- a read that is answered

pub read_pair : (s : State) (x : Transaction) (p : Packet) → IsGood s → IsTrue (is_linked s x.to) → answer_packet s (target_node s x) (transaction_head s x) (access_request x.access) ≡ Some p
    → IsReadIn s.account (Async (packet_of (transaction_head s x) (access_request x.access))) (Async p)
read_pair s x p g on is = subst (λ q. IsReadIn s.account (Async (packet_of (transaction_head s x) (access_request x.access))) (Async q)) (response_is s x p is) (go x.access)
  where
    n : ℕ
    n = target_node s x

    go : (a : Access) → IsReadBy s.account (packet_of (transaction_head s x) (access_request a)) (access_response n (transaction_head s x) a (reply_from s n (access_request a)))
    go (Read offset) = λ label complete register at. ap (λ (r : Reply). r.value) (answers_word s x.to n (first_address + offset) None register g (linked_number_of s x.to g on) at)
    go (Swap offset swap) = λ label complete register at.
        let shown = answers_word s x.to n (first_address + offset) (Some swap) register g (linked_number_of s x.to g on) at in
        ap old_bytes shown

-- ---- a shown word

pub shown_leaves : (s : State) (d offset : ℕ) → IsGood s → IsTrue (is_linked s d) → (read_at s d offset).rcode ≡ 0 → LeavesAccount s.account (Some (shown_entry d offset (read_at s d offset).value))
shown_leaves s d offset g on complete = (refl, ((shows, shown_watched s d offset g (linked_number_of s d g on) complete), λ u. tt))
  where
    shows : HasWords s.account (shown_entry d offset (read_at s d offset).value)
    shows = λ w at. go (register_at s.account.latest (node_of s.account.latest d) offset) w refl at
      where
        go : (o : Option Register) (w : ℕ) → register_at s.account.latest (node_of s.account.latest d) offset ≡ o → option_map (word_of s.account) o ≡ Some w → (read_at s d offset).value ≡ w
        go None w at e = absurd (grind (arith, e))
        go (Some r) w at e =
            let same : word_of s.account r ≡ w = cc in
            ap (λ (x : Reply). x.value) (answered (space_of_device s d) (first_address + offset) None (word_of s.account r)
            (space_shows s d (node_of s.account.latest d) offset r g (linked_number_of s d g on) at)) ∙ same
