-- No swap changes more than one channel.
use Rattle.fw_watch_laws.proofs.Common.{◌≡◌, ◌≢◌, refl, ap, sym, ◌∙◌, subst, inl, inr, ℕ, zero, suc, ◌+◌, ◌-◌, ◌<◌, ◌≤◌, ◌==◌, nat_lt, Bool, true, false, List, Option, None, arith, ⊤, nat_tests, Swap}
use Rattle.fw_watch_laws.proofs.Common.{update, PlugAt, flag, Timed, Account, Allocation, Move, AllocateChannel, AllocateUnits, ConnectFirst, ConnectOverlaid, ConnectInput, DisconnectInput}
use Rattle.fw_watch_laws.proofs.Common.{
  DisconnectOutput,
  ReleaseUnits,
  ReleaseChannel,
  ChannelsAvailable,
  word_of,
  register_of_move,
  WatchedRegister,
  Bandwidth,
  ChannelsHigh,
  ChannelsLow,
  Output,
  Input,
}
use Rattle.fw_watch_laws.proofs.Common.{bit_of, Said, Answer, State, Made, made, IsOrderly, HasNone}
use Rattle.std.proofs.lemmas.Bool.{cases_eq}
use Rattle.fw_model_account.specs.Account.{is_open}
use Rattle.fw_model_account.specs.Moves.{after}
use Rattle.fw_model_account.proofs.Words.{free_bit}
use Rattle.fw_watch.specs.Swaps.{next_count, changes_to, several_remarks}
use Rattle.fw_watch_laws.specs.Orderly.{is_several}
use Rattle.fw_watch_laws.proofs.Many.{managed_is}
use Rattle.fw_watch_laws.proofs.Remarked.{Kind, OfReset, OfWord, OfSwap, OfMany, OfUnits, OfNew, OfMore, OfChannel, IsFree}
use Rattle.fw_watch_laws.proofs.Tests.{is_of_several, is_several_by}
use Rattle.fw_watch_laws.proofs.Passing.{IsNone}
use Rattle.fw_watch_laws.proofs.Quiet.{NoneOdd, many_free, units_free, new_free, more_free}
use Rattle.fw_watch_laws.proofs.Silent.{IsOfSwaps}
use Rattle.fw_watch_laws.proofs.Swaps.{IsAccountSwap}
use Rattle.fw_watch_laws.proofs.AtManager.{silent}

-- ---- bits

-- two words differ in no bit but one
abbrev pub DifferAt : ℕ → ℕ → ℕ → Type 0
DifferAt k old new = (i : ℕ) → i < 32 → i ≢ k → bit_of old i ≡ bit_of new i

count_same : (count : ℕ) (b c : Bool) → b ≡ c → next_count count b c ≡ count
count_same count true true e = refl
count_same count false false e = refl
count_same count true false e = cc
count_same count false true e = cc

count_one : (count : ℕ) (b c : Bool) → next_count count b c ≤ count + 1
count_one count true true = omega arith
count_one count false false = omega arith
count_one count true false = omega arith
count_one count false true = omega arith

-- how many of the first n differ
record IsFew (n k old new : ℕ) : Type 0 where
  pub few : changes_to n old new ≤ 1
  pub none : n ≤ k → changes_to n old new ≡ 0

few_to : (n k old new : ℕ) → n ≤ 32 → DifferAt k old new → IsFew n k old new
unfolding changes_to
few_to zero k old new h d = record { few = omega arith; none = λ l. refl }
few_to (suc n) k old new h d =
    let f = few_to n k old new (omega (arith, h)) d in
    elim (cases_eq n k) [
      | inl same ↦ (
          let one = count_one (changes_to n old new) (bit_of old n) (bit_of new n) in
          let none : changes_to n old new ≡ 0 = f.none (omega (arith, same)) in
          record { few = omega (arith, one, none); none = λ l. absurd (omega (arith, same, l)) })
      | inr other ↦ (
          let e : next_count (changes_to n old new) (bit_of old n) (bit_of new n) ≡ changes_to n old new =
          count_same (changes_to n old new) (bit_of old n) (bit_of new n) (d n (omega (arith, h)) other) in
          record { few = omega (arith, e, f.few); none = λ l. e ∙ f.none (omega (arith, l)) })
    ]

one_none : (q : Said → Bool) (m : Made) (k : ℕ) → DifferAt k m.old m.new → IsNone q (several_remarks m)
one_none q m k d =
    let f = few_to 32 k m.old m.new (omega arith) d in
    let no : nat_lt 1 (changes_to 32 m.old m.new) ≡ false = grind (arith, nat_tests, f.few) in
    rw no refl

-- ---- channels

-- the bits of a half of CHANNELS_AVAILABLE
pub channel_bit : (l : Account) (base i : ℕ) → i < 32 → bit_of (word_of l (ChannelsAvailable base)) i ≡ (flag (is_open l.withheld l.allocations (base + i)) == 1)
unfolding bit_of
channel_bit l base i h = ap (λ (x : ℕ). x == 1) (free_bit (λ (j : ℕ). is_open l.withheld l.allocations (base + j)) i h)

-- if one channel alone changes
open_but : (l m : Account) (ch base i : ℕ) (x : Option Allocation) → m.withheld ≡ l.withheld → m.allocations ≡ update l.allocations ch x → i ≢ ch - base
    → is_open l.withheld l.allocations (base + i) ≡ is_open m.withheld m.allocations (base + i)
open_but l m ch base i x w e n =
    let no : (base + i == ch) ≡ false = grind (arith, nat_tests, n) in
    let same : update l.allocations ch x (base + i) ≡ l.allocations (base + i) = rw no refl in
    let a : m.allocations (base + i) ≡ l.allocations (base + i) = ap (λ (f : ℕ → Option Allocation). f (base + i)) e ∙ same in
    cc

pub differ_but : (l m : Account) (ch base : ℕ) (x : Option Allocation) → m.withheld ≡ l.withheld → m.allocations ≡ update l.allocations ch x
    → DifferAt (ch - base) (word_of l (ChannelsAvailable base)) (word_of m (ChannelsAvailable base))
differ_but l m ch base x w e i h n =
    channel_bit l base i h ∙ ap (λ (b : Bool). flag b == 1) (open_but l m ch base i x w e n) ∙ sym (channel_bit m base i h)

-- a move at CHANNELS_AVAILABLE changes one channel
move_differs : (mv : Move) (c : ℕ) (p : PlugAt) (l : Account) (base : ℕ) → register_of_move p mv ≡ ChannelsAvailable base
    → (k : ℕ) × DifferAt k (word_of l (ChannelsAvailable base)) (word_of (after c p mv l) (ChannelsAvailable base))
move_differs (AllocateChannel ch) c p l base e = (ch - base, differ_but l (after c p (AllocateChannel ch) l) ch base _ refl refl)
move_differs (AllocateUnits ch u) c p l base e = cc
move_differs (ConnectFirst kind ch overhead) c p l base e = cc
move_differs (ConnectOverlaid kind) c p l base e = cc
move_differs (ConnectInput kind ch) c p l base e = cc
move_differs (DisconnectInput kind) c p l base e = cc
move_differs (DisconnectOutput kind) c p l base e = cc
move_differs (ReleaseUnits ch u) c p l base e = cc
move_differs (ReleaseChannel ch) c p l base e = (ch - base, differ_but l (after c p (ReleaseChannel ch) l) ch base None refl refl)

pub swap_differs : (l m : Account) (a : Answer) (swap : Swap) (base : ℕ) (i : IsAccountSwap l m a swap) → i.register ≡ ChannelsAvailable base → (k : ℕ) × DifferAt k swap.argument swap.new
swap_differs l m a swap base i e =
    let x = i.move in
    let d = move_differs x.move i.controller x.plug l base (x.is.place ∙ e) in
    let old : word_of l (ChannelsAvailable base) ≡ swap.argument = ap (word_of l) (sym e) ∙ x.is.before in
    let new : word_of (after i.controller x.plug x.move l) (ChannelsAvailable base) ≡ swap.new = ap (word_of (after i.controller x.plug x.move l)) (sym e) ∙ x.is.later in
    let P : ℕ → Type 0 = λ w. DifferAt d.0 w (word_of (after i.controller x.plug x.move l) (ChannelsAvailable base)) in
    let Q : ℕ → Type 0 = λ w. DifferAt d.0 swap.argument w in
    (d.0, subst Q new (subst P old d.1))

-- ---- the law

free : (k : Kind) → is_of_several k ≡ false → IsFree (λ (s : Said). is_several s.remark) k
free k n x e = is_several_by x.remark ∙ ap is_of_several e ∙ n

of_swaps : IsOfSwaps (λ (s : Said). is_several s.remark)
of_swaps = record { reset = free OfReset refl; word = free OfWord refl; swap = free OfSwap refl; channel = free OfChannel refl }

one_channel : (l m : Account) (a : Answer) (swap : Swap) (cycle base : ℕ) (i : IsAccountSwap l m a swap) → i.register ≡ ChannelsAvailable base
    → IsNone (λ (s : Said). is_several s.remark) (several_remarks (made cycle a swap))
one_channel l m a swap cycle base i e =
    let d = swap_differs l m a swap base i e in
    one_none _ (made cycle a swap) d.0 d.1

none_odd : (r : WatchedRegister) (l m : Account) (a : Answer) (swap : Swap) (cycle : ℕ) (u : State) → IsAccountSwap l m a swap → a.at.register ≡ r
    → NoneOdd (λ (s : Said). is_several s.remark) r u (made cycle a swap)
none_odd Bandwidth l m a swap cycle u i e = (many_free _ (made cycle a swap) (free OfMany refl), units_free _ u (made cycle a swap) (free OfUnits refl))
none_odd ChannelsHigh l m a swap cycle u i e =
    (new_free _ u (made cycle a swap) 0 (free OfNew refl), one_channel l m a swap cycle 0 i (managed_is l m a swap ChannelsHigh i e refl))
none_odd ChannelsLow l m a swap cycle u i e =
    (new_free _ u (made cycle a swap) 32 (free OfNew refl), one_channel l m a swap cycle 32 i (managed_is l m a swap ChannelsLow i e refl))
none_odd (Output k) l m a swap cycle u i e = more_free _ (made cycle a swap) (free OfMore refl)
none_odd (Input k) l m a swap cycle u i e = more_free _ (made cycle a swap) (free OfMore refl)

pub none_several : (entries : List Timed) → IsOrderly entries → HasNone is_several entries
none_several entries o =
    silent (λ (s : Said). is_several s.remark) entries (λ prefix l. ⊤) o of_swaps (λ prefix rest t l m y p. tt) tt
    (λ prefix rest t l m a swap u y p i e. none_odd a.at.register l m a swap t.cycle u i refl)
