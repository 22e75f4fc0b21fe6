-- A complete answer of a node shows the word of the account, if the account has the register.
use Rattle.fw_model_run.proofs.Common.{◌≡◌, ℕ, ◌+◌, ◌-◌, ◌^◌, ◌<◌, ◌≤◌, ◌&&◌, nat_le, nat_lt, length, cond, Bool}
use Rattle.fw_model_run.proofs.Common.{true, false, Option, Some, None, is_some, unwrap_or, option_map, refl, ap, sym, subst, ◌∙◌}
use Rattle.fw_model_run.proofs.Common.{arith, IsTrue, nat_tests, ReadSwap, Swap, ResetEntry, NodeRow, node_of_device, Register, word_of, register_at, register_of, node_of, first_address, request_at}
use Rattle.fw_model_run.proofs.Common.{answer_of, State, number_in, device_in, space_at, space_of_node, reply_from, IsGood, IsLatest}
use Rattle.fw_log_entry.specs.Network.{first_id}
use Rattle.fw_model_account.proofs.Bounds.{register_there, word_below}
use Rattle.fw_model_account.proofs.Places.{register_at_address}
use Rattle.fw_node.specs.Space as Spaces
use Rattle.fw_model_run.proofs.Answers.{answered}
use Rattle.fw_model_run.proofs.Shown.{space_shows}

-- ---- the number of a device on the bus

pub number_of_on : (latest : Option ResetEntry) (d : ℕ) → IsTrue (is_some (number_in latest d)) → number_in latest d ≡ Some (node_of latest d)
number_of_on None d on = absurd (grind (arith, on))
number_of_on (Some e) d on = go (nat_lt (node_of_device e.nodes d) (length e.nodes)) on
  where
    go : (b : Bool) → IsTrue (is_some {T = ℕ} (cond b (Some (node_of_device e.nodes d)) None)) → cond b (Some (node_of_device e.nodes d)) None ≡ Some (node_of_device e.nodes d)
    go true num = refl
    go false num = absurd (grind (arith, num))

-- the device of its node is itself
pub device_of_number : (s : State) (d n : ℕ) → IsGood s → number_in s.account.latest d ≡ Some n → device_in s.account.latest n ≡ Some d
device_of_number s d n g at = go s.account.latest g.latest at
  where
    go : (o : Option ResetEntry) → IsLatest o s.declared s.account → number_in o d ≡ Some n → device_in o n ≡ Some d
    go None h x = absurd (grind (arith, x))
    go (Some e) h x = ap (option_map (λ (r : NodeRow). r.device)) (h.1.numbers d n x)

pub node_space_of : (s : State) (d n : ℕ) → IsGood s → number_in s.account.latest d ≡ Some n → space_of_node s n ≡ space_at s d n
node_space_of s d n g at = ap (λ o. space_at s (unwrap_or o 0) n) (device_of_number s d n g at)

-- ---- a register of the account

-- if a node ID and an address name a register
record Named (s : State) (n address : ℕ) (register : Register) : Type 0 where
  offset : ℕ
  place : first_address + offset ≡ address
  at : register_at s.account.latest n offset ≡ Some register

named : (s : State) (n address : ℕ) (register : Register) → register_of s.account.latest (first_id + n) address ≡ Some register → Named s n address register
named s n address register e = go (nat_le first_address address) refl
  where
    go : (b : Bool) → nat_le first_address address ≡ b → Named s n address register
    go true t =
        let low : first_address ≤ address = grind (arith, nat_tests) in
        let place : first_address + (address - first_address) ≡ address = omega (arith, low) in
        record {
          offset = address - first_address;
          place = place;
          at = sym (register_at_address s.account.latest n (address - first_address))
              ∙ (ap (register_of s.account.latest (first_id + n)) place ∙ e);
        }
    go false t =
        let none : register_of s.account.latest (first_id + n) address ≡ None =
        off (nat_le first_id (first_id + n)) (nat_le first_address address) (register_at s.account.latest (first_id + n - first_id) (address - first_address)) t in
        absurd (grind (arith, none, e))
      where
        off : (a b : Bool) (o : Option Register) → b ≡ false → cond (a && b) o None ≡ None
        off a b o f = grind (arith, f)

-- its word is what a read or a compare_swap of a quadlet shows
pub answers_word : (s : State) (d n address : ℕ) (w : Option Swap) (register : Register) → IsGood s → number_in s.account.latest d ≡ Some n
    → register_of s.account.latest (first_id + n) address ≡ Some register → reply_from s n (request_at address w) ≡ record { rcode = 0; value = word_of s.account register }
answers_word s d n address w register g at e =
    let x = named s n address register e in
    ap (λ z. (answer_of z (request_at address w)).reply) (node_space_of s d n g at)
    ∙ answered (space_at s d n) address w (word_of s.account register)
    (subst (λ k. Spaces.register_at (space_at s d n) k ≡ Some (ReadSwap (word_of s.account register))) x.place (space_shows s d n x.offset register g at x.at))

-- it is a quadlet
pub register_below : (s : State) (n address : ℕ) (register : Register) → IsGood s → register_of s.account.latest (first_id + n) address ≡ Some register → word_of s.account register < 2 ^ 32
register_below s n address register g e = let x = named s n address register e in word_below s.account register g.reclaims.step.sound (register_there s.account.latest n x.offset register x.at)
