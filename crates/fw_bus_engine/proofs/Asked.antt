-- What devices keep after an access that spares the registers of the account: BUS_MANAGER_ID as the run says, and all else.
use Rattle.fw_bus_engine.proofs.Common.{◌≡◌, ◌≢◌, ℕ, ◌+◌, ◌*◌, ◌<◌, Bool, true, false, cond, ◌==◌, Option, Some, None, refl, ap, sym, ◌∙◌, arith, IsFalse}
use Rattle.fw_bus_engine.proofs.Common.{nat_tests, false≢true, Request, after_at, ResetEntry, kind_at, State, number_in, is_manager}
use Rattle.std.proofs.Common.{true≢false}
use Rattle.fw_terms.proofs.KindLaws.{plugs_few}
use Rattle.fw_csr.specs.Manager.{ManagerWords, words_after}
use Rattle.fw_model_account.specs.Words.{first_address}
use Rattle.fw_devices.specs.Entries.{is_number}
use Rattle.fw_order.specs.declared.order.Access.{Access}
use Rattle.fw_order.specs.declared.order.Access.TheVariants.{Read, Swap}
use Rattle.fw_model_run.specs.Spaces.{manager_words, access_request}
use Rattle.fw_model_run.specs.Named.{is_guarded_at}
use Rattle.fw_bus_state.specs.Orders.{is_guarded}
use Rattle.fw_bus_state.proofs.Hearing.{hear_same}
use Rattle.fw_bus_state.proofs.Lingers.{unchanged_same}
use Rattle.fw_bus_engine.proofs.AnsweredNodes.{FollowsRequest}

-- ---- registers that a request of the script leaves

either_same : (b : Bool) (word : ℕ) → cond b word word ≡ word
either_same true word = refl
either_same false word = refl

elsewhere : (b : Bool) (changed word : ℕ) → (b ≡ true → ⊥) → cond b changed word ≡ word
elsewhere true changed word off = absurd (off refl)
elsewhere false changed word off = refl

-- a read changes nothing, and an unguarded swap no guarded register
pub kept : (a : Access) (offset at word : ℕ) → IsFalse (is_guarded a) → is_guarded_at offset ≡ true → at ≡ first_address + offset → after_at at (access_request a) word ≡ word
kept (Read here) offset at word free guarded is = either_same (first_address + here == at) word
kept (Swap here swap) offset at word free guarded is =
    elsewhere (first_address + here == at) _ word (λ same. let e : here ≡ offset = grind (arith, nat_tests) in true≢false (sym guarded ∙ ap is_guarded_at (sym e) ∙ free))

pub output_guarded : (k : ℕ) → k < 31 → is_guarded_at (0x904 + 4 * k) ≡ true
output_guarded k lt = grind (arith, nat_tests)

pub input_guarded : (k : ℕ) → k < 31 → is_guarded_at (0x984 + 4 * k) ≡ true
input_guarded k lt = grind (arith, nat_tests)

manager_one : (o : Option ResetEntry) (m n : ℕ) → is_manager o m ≡ true → is_manager o n ≡ true → m ≡ n
manager_one None m n a b = grind arith
manager_one (Some e) m n a b = go e.manager a b
  where
    go : (o : Option ℕ) → is_number o m ≡ true → is_number o n ≡ true → m ≡ n
    go None a b = grind arith
    go (Some k) a b = grind (arith, nat_tests)

-- the words of the manager, with this BUS_MANAGER_ID
abbrev words_with : State → ℕ → ManagerWords
words_with s id = record (manager_words s) { bus_manager_id = id }

-- BUS_MANAGER_ID once node n has carried a request out: it follows the request if that node is the manager
abbrev pub manager_id_after : State → ℕ → Request → ℕ
manager_id_after s n r = cond (is_manager s.account.latest n) (after_at 0xFFFF_F000_021C r s.bus_manager_id) s.bus_manager_id

-- what devices keep follows an unguarded access by BUS_MANAGER_ID alone
pub unguarded_follows : (s : State) (d n : ℕ) (a : Access) → number_in s.account.latest d ≡ Some n → IsFalse (is_guarded a)
    → FollowsRequest s (record s { bus_manager_id = manager_id_after s n (access_request a) }) d n (access_request a)
unguarded_follows s d n a place free = record {
  place = place;
  declared = refl;
  decks = refl;
  latest = refl;
  withheld = refl;
  outputs = λ k lt. let few = (plugs_few (kind_at s.declared.kinds d)).0 in
      sym (kept a (0x904 + 4 * k) (0xFFFF_F000_0904 + 4 * k) _ free (output_guarded k (omega arith)) (omega arith));
  inputs = λ k lt. let few = (plugs_few (kind_at s.declared.kinds d)).1 in
      sym (kept a (0x984 + 4 * k) (0xFFFF_F000_0984 + 4 * k) _ free (input_guarded k (omega arith)) (omega arith));
  manager = λ own. own_words (is_manager s.account.latest n) own;
  other_outputs = λ c k ne. refl;
  other_inputs = λ c k ne. refl;
  other_manager = λ k ne own. same_words k ne own (is_manager s.account.latest n) refl;
  linger = unchanged_same s.account;
  hear = hear_same s t refl (λ p. refl);
}
  where
    r : Request
    r = access_request a

    t : State
    t = record s { bus_manager_id = manager_id_after s n r }

    own_words : (b : Bool) → b ≡ true → words_with s (cond b (after_at 0xFFFF_F000_021C r s.bus_manager_id) s.bus_manager_id) ≡ words_after (manager_words s) r
    own_words false own = absurd (false≢true own)
    own_words true own =
        let bandwidth = sym (kept a 0x220 0xFFFF_F000_0220 (manager_words s).bandwidth_available free refl refl) in
        let high = sym (kept a 0x224 0xFFFF_F000_0224 (manager_words s).channels_available_hi free refl refl) in
        let low = sym (kept a 0x228 0xFFFF_F000_0228 (manager_words s).channels_available_lo free refl refl) in
        λ i. record {
          bus_manager_id = after_at 0xFFFF_F000_021C r s.bus_manager_id;
          bandwidth_available = bandwidth i;
          channels_available_hi = high i;
          channels_available_lo = low i;
          withheld = s.account.withheld;
        }

    -- there is one manager
    same_words : (k : ℕ) → k ≢ n → is_manager s.account.latest k ≡ true → (b : Bool) → is_manager s.account.latest n ≡ b
        → words_with s (cond b (after_at 0xFFFF_F000_021C r s.bus_manager_id) s.bus_manager_id) ≡ manager_words s
    same_words k ne own true e = absurd (ne (manager_one s.account.latest k n own e))
    same_words k ne own false e = refl
