-- What entries change in the rows of channels.
use Rattle.fw_watch_laws.proofs.Common.{◌≡◌, refl, ap, ◌∙◌, ℕ, ◌-◌, ◌==◌, ◌&&◌, ◌||◌, not, nat_le, nat_lt, Bool, true, false, length, if◌then◌else◌, Option, Some, None, eq-eqb, Swap, Known, At}
use Rattle.fw_watch_laws.proofs.Common.{WatchedRegister, Bandwidth, ChannelsHigh, ChannelsLow, Output, Input, nothing_known, all_known, bit_of, Answer, State, Made, judged, judged_counts, known_of}
use Rattle.fw_watch_laws.proofs.Common.{with_known, with_known_plug, holder_of, with_holder, swapped_by, swapped, made, after_made, after_found, after_shown_by, IsPlace, is_same_by, word_left}
use Rattle.fw_watch_laws.proofs.Common.{known_left}
use Rattle.fw_watch_remarks.specs.Knowing.{differ, is_forgotten, channel_of}
use Rattle.fw_watch_known.specs.Channels.{same_channel, plug_at}
use Rattle.fw_watch_laws.specs.TwoSenders.{half_changes, plug_changes, changes, found_moves}
use Rattle.fw_watch_laws.proofs.Places.{known_put}
use Rattle.fw_watch_laws.proofs.Turns.{Turns, stay, turn_as, turn_both, or_false, freshened_turns, dues_turn, plug_turns}

-- the rows of channels after, and before
abbrev pub Step : ℕ → Bool → State → State → Type 0
Step k b s t = Turns k b s.channels t.channels

put_by : (r : WatchedRegister) (n k : ℕ) (s : State) (now : Known)
    → Step k (changes r (known_of s (record { node = n; register = r })) now k) s (with_known s (record { node = n; register = r }) now)
unfolding with_known with_known_plug known_of
put_by Bandwidth n k s now = stay k s.channels
put_by ChannelsHigh n k s now = freshened_turns 32 k 0 s.managed.high now s.channels
put_by ChannelsLow n k s now = freshened_turns 32 k 32 s.managed.low now s.channels
put_by (Output x) n k s now = plug_turns (channel_of (plug_at s.plugs (record { node = n; register = Output x }))) (channel_of now) k s.channels
put_by (Input x) n k s now = plug_turns (channel_of (plug_at s.plugs (record { node = n; register = Input x }))) (channel_of now) k s.channels

put_moves : (k : ℕ) (s : State) (at : At) (now : Known) → Step k (changes at.register (known_of s at) now k) s (with_known s at now)
put_moves k s at now = put_by at.register at.node k s now

pub judged_moves : (k : ℕ) (s : State) (at : At) (found : ℕ) → Step k (changes at.register (known_of s at) (all_known found) k) s (judged s at found)
unfolding judged known_of
judged_moves k s at found = put_moves k (record s { counts = judged_counts (known_of s at) found s.counts }) at (all_known found)

-- ---- the same word again changes nothing

same_bit : (a b : Bool) → false ≡ (a && (not a || differ b b))
same_bit true true = refl
same_bit true false = refl
same_bit false b = refl

none_forgotten : (x : Known) (at : ℕ) → false ≡ is_forgotten x x at
unfolding is_forgotten
none_forgotten x at = same_bit (bit_of x.mask at) (bit_of x.word at)

and_none : (a : Bool) → false ≡ (a && false)
and_none true = refl
and_none false = refl

half_none : (first k : ℕ) (x : Known) → false ≡ half_changes first x x k
half_none first k x =
    and_none (nat_le first k && nat_lt (k - first) 32) ∙ ap (λ (b : Bool). nat_le first k && nat_lt (k - first) 32 && b) (none_forgotten x (k - first))

same_option : (o : Option ℕ) → same_channel o o ≡ true
same_option None = refl
same_option (Some j) = eq-eqb j j refl

plug_none : (o : Option ℕ) (k : ℕ) → false ≡ plug_changes o o k
plug_none o k = rw (same_option o) refl

pub same_changes : (r : WatchedRegister) (x : Known) (k : ℕ) → false ≡ changes r x x k
same_changes Bandwidth x k = refl
same_changes ChannelsHigh x k = half_none 0 k x
same_changes ChannelsLow x k = half_none 32 k x
same_changes (Output n) x k = plug_none (channel_of x) k
same_changes (Input n) x k = plug_none (channel_of x) k

-- ---- swaps

holder_moves : (o : Option ℕ) (m : Made) (first k : ℕ) (s : State) → Step k false s (with_holder o m first s)
unfolding with_holder
holder_moves None m first k s = stay k s.channels
holder_moves (Some holder) m first k s = dues_turn 32 k first m.old m.new (record { holder = holder; since = m.cycle }) s.plugs s.channels

by_moves : (r : WatchedRegister) (m : Made) (k : ℕ) (s : State) → Step k false s (swapped_by r m s)
by_moves Bandwidth m k s = stay k s.channels
by_moves ChannelsHigh m k s = holder_moves (holder_of m.by) m 0 k s
by_moves ChannelsLow m k s = holder_moves (holder_of m.by) m 32 k s
by_moves (Output x) m k s = stay k s.channels
by_moves (Input x) m k s = stay k s.channels

swapped_moves : (k : ℕ) (s : State) (m : Made) → Step k (changes m.at.register (known_of s m.at) (all_known m.new) k) s (swapped s m)
unfolding swapped
swapped_moves k s m =
    let b : Bool = changes m.at.register (known_of s m.at) (all_known m.new) k in
    let t : State = with_known s m.at (all_known m.new) in
    turn_as k _ _ s.channels _ (or_false b)
    (turn_both k b false s.channels t.channels (swapped s m).channels (put_moves k s m.at (all_known m.new)) (by_moves m.at.register m k t))

-- what is known after a word that was judged is that word
same_place : (r : WatchedRegister) (n : ℕ) → is_same_by r r (n == n) ≡ true
same_place Bandwidth n = refl
same_place ChannelsHigh n = refl
same_place ChannelsLow n = refl
same_place (Output x) n = rw (eq-eqb n n refl, eq-eqb x x refl) refl
same_place (Input x) n = rw (eq-eqb n n refl, eq-eqb x x refl) refl

judged_known : (s : State) (at : At) (found : ℕ) → IsPlace at → length s.plugs ≡ 3906 → known_of (judged s at found) at ≡ all_known found
unfolding judged known_of
judged_known s at found p l =
    known_put (record s { counts = judged_counts (known_of s at) found s.counts }) at at (all_known found) p.number p l
    ∙ ap (λ (b : Bool). if b then all_known found else known_of s at) (same_place at.register at.node)

made_moves : (o : Option Swap) (k cycle : ℕ) (a : Answer) (found : ℕ) (s : State) → IsPlace a.at → length s.plugs ≡ 3906
    → Step k (changes a.at.register (all_known found) (all_known (word_left found o)) k) (judged s a.at found) (after_made cycle a o (judged s a.at found))
unfolding after_made
made_moves None k cycle a found s p l = turn_as k _ _ _ _ (same_changes a.at.register (all_known found) k) (stay k (judged s a.at found).channels)
made_moves (Some swap) k cycle a found s p l =
    turn_as k _ _ _ _ (ap (λ (x : Known). changes a.at.register x (all_known swap.new) k) (judged_known s a.at found p l))
    (swapped_moves k (judged s a.at found) (made cycle a swap))

pub shown_moves : (o : Option ℕ) (k cycle : ℕ) (a : Answer) (s : State) → IsPlace a.at → length s.plugs ≡ 3906
    → Step k (found_moves a.at.register (known_of s a.at) o (known_left o a.swap) k) s (after_shown_by o cycle a s)
unfolding after_found
shown_moves None k cycle a s p l = put_moves k s a.at nothing_known
shown_moves (Some found) k cycle a s p l =
    turn_both k _ _ s.channels (judged s a.at found).channels _ (judged_moves k s a.at found) (made_moves a.swap k cycle a found s p l)
