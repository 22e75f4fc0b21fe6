-- What answers, shown words and packets leave as it was.
use Rattle.fw_watch_laws.proofs.Common.{
  ◌≡◌,
  refl,
  ap,
  ◌∙◌,
  ℕ,
  zero,
  suc,
  Bool,
  true,
  false,
  List,
  length,
  if◌then◌else◌,
  Option,
  Some,
  None,
  Known,
  At,
  WatchedRegister,
  Bandwidth,
  ChannelsHigh,
  ChannelsLow,
}
use Rattle.fw_watch_laws.proofs.Common.{Output, Input, is_managed, nothing_known, all_known, Swap, Answer, Channel, Second, State, Made, after_heard, judged, judged_counts, known_of, with_known}
use Rattle.fw_watch_laws.proofs.Common.{with_known_plug, ticked_second, manager_by, holder_of, with_holder, swapped_by, swapped, Heed, Ignore, Refuse, Follow, made, after_made, after_found}
use Rattle.fw_watch_laws.proofs.Common.{with_manager, after_shown_by, after_followed, heed, after_heeded, after_answer, after_answered, ticked, after_word}
use Rattle.std.proofs.lemmas.List.{length-set}
use Rattle.fw_watch_remarks.specs.Registers.{plug_index}
use Rattle.fw_watch_known.specs.declared.channels.Late.{Late}
use Rattle.fw_watch_known.specs.declared.hear.Packet.{Packet}
use Rattle.fw_watch_known.specs.declared.state.Manager.{Manager}
use Rattle.fw_watch_known.specs.Channels.{late_to}
use Rattle.fw_watch_known.specs.States.{manager_of}
use Rattle.fw_watch.specs.Holding.{after_late, after_held}

-- the nodes and the outstanding requests are the same, the table of plugs is as long, and the manager of a bus reset stays
pub record Frame (s t : State) : Type 0 where
  pub count : t.count ≡ s.count
  pub nodes : t.nodes ≡ s.nodes
  pub standing : t.standing ≡ s.standing
  pub plugs : length t.plugs ≡ length s.plugs
  pub manager : (o : Option ℕ) → s.manager ≡ manager_of o → t.manager ≡ manager_of o
  pub epoch : t.epoch ≡ s.epoch

pub same : (s : State) → Frame s s
same s = record { count = refl; nodes = refl; standing = refl; plugs = refl; manager = λ o e. e; epoch = refl }

pub both : (s t u : State) → Frame s t → Frame t u → Frame s u
both s t u f g = record {
  count = g.count ∙ f.count;
  nodes = g.nodes ∙ f.nodes;
  standing = g.standing ∙ f.standing;
  plugs = g.plugs ∙ f.plugs;
  manager = λ o e. g.manager o (f.manager o e);
  epoch = g.epoch ∙ f.epoch;
}

put_plug : (s : State) (at : At) (k : Known) → Frame s (with_known_plug s at k)
unfolding with_known_plug
put_plug s at k = record { count = refl; nodes = refl; standing = refl; plugs = length-set s.plugs (plug_index at.node at.register) k; manager = λ o e. e; epoch = refl }

put_by : (r : WatchedRegister) (s : State) (n : ℕ) (k : Known) → Frame s (with_known s (record { node = n; register = r }) k)
unfolding with_known
put_by Bandwidth s n k = record { count = refl; nodes = refl; standing = refl; plugs = refl; manager = λ o e. e; epoch = refl }
put_by ChannelsHigh s n k = record { count = refl; nodes = refl; standing = refl; plugs = refl; manager = λ o e. e; epoch = refl }
put_by ChannelsLow s n k = record { count = refl; nodes = refl; standing = refl; plugs = refl; manager = λ o e. e; epoch = refl }
put_by (Output x) s n k = put_plug s (record { node = n; register = Output x }) k
put_by (Input x) s n k = put_plug s (record { node = n; register = Input x }) k

pub put_frame : (s : State) (at : At) (k : Known) → Frame s (with_known s at k)
put_frame s at k = put_by at.register s at.node k

pub judged_frame : (s : State) (at : At) (found : ℕ) → Frame s (judged s at found)
unfolding judged
judged_frame s at found =
    let f = put_frame (record s { counts = judged_counts (known_of s at) found s.counts }) at (all_known found) in
    record { count = f.count; nodes = f.nodes; standing = f.standing; plugs = f.plugs; manager = f.manager; epoch = f.epoch }

holder_frame : (o : Option ℕ) (m : Made) (first : ℕ) (s : State) → Frame s (with_holder o m first s)
unfolding with_holder
holder_frame None m first s = same s
holder_frame (Some holder) m first s = record { count = refl; nodes = refl; standing = refl; plugs = refl; manager = λ o e. e; epoch = refl }

by_frame : (r : WatchedRegister) (m : Made) (s : State) → Frame s (swapped_by r m s)
by_frame Bandwidth m s = record { count = refl; nodes = refl; standing = refl; plugs = refl; manager = λ o e. e; epoch = refl }
by_frame ChannelsHigh m s = holder_frame (holder_of m.by) m 0 s
by_frame ChannelsLow m s = holder_frame (holder_of m.by) m 32 s
by_frame (Output x) m s = record { count = refl; nodes = refl; standing = refl; plugs = refl; manager = λ o e. e; epoch = refl }
by_frame (Input x) m s = record { count = refl; nodes = refl; standing = refl; plugs = refl; manager = λ o e. e; epoch = refl }

swapped_frame : (s : State) (m : Made) → Frame s (swapped s m)
unfolding swapped
swapped_frame s m = both s (with_known s m.at (all_known m.new)) (swapped s m) (put_frame s m.at (all_known m.new)) (by_frame m.at.register m (with_known s m.at (all_known m.new)))

made_frame : (cycle : ℕ) (a : Answer) (o : Option Swap) (s : State) → Frame s (after_made cycle a o s)
unfolding after_made
made_frame cycle a None s = same s
made_frame cycle a (Some swap) s = swapped_frame s (made cycle a swap)

found_frame : (cycle : ℕ) (a : Answer) (found : ℕ) (s : State) → Frame s (after_found cycle a found s)
unfolding after_found
found_frame cycle a found s = both s (judged s a.at found) (after_found cycle a found s) (judged_frame s a.at found) (made_frame cycle a a.swap (judged s a.at found))

shown_frame : (o : Option ℕ) (cycle : ℕ) (a : Answer) (s : State) → Frame s (after_shown_by o cycle a s)
shown_frame None cycle a s = put_frame s a.at nothing_known
shown_frame (Some found) cycle a s = found_frame cycle a found s

-- only which node is the manager changes
manager_if : (b : Bool) (m : Manager) (s : State) → (x : Manager) × ((if b then record s { manager = m } else s) ≡ record s { manager = x })
manager_if true m s = (m, refl)
manager_if false m s = (s.manager, refl)

pub manager_only : (at : At) (s : State) → (x : Manager) × (with_manager at s ≡ record s { manager = x })
unfolding with_manager
manager_only at s = manager_if (is_managed at.register) (manager_by at.node s.manager) s

-- one that is known, or known not to be, stays
manager_stays : (n : ℕ) (o : Option ℕ) → manager_by n (manager_of o) ≡ manager_of o
manager_stays n None = refl
manager_stays n (Some m) = refl

stays_if : (b : Bool) (n : ℕ) (o : Option ℕ) (s : State) → s.manager ≡ manager_of o → (if b then record s { manager = manager_by n s.manager } else s).manager ≡ manager_of o
stays_if true n o s e = ap (manager_by n) e ∙ manager_stays n o
stays_if false n o s e = e

manager_kept : (at : At) (s : State) (o : Option ℕ) → s.manager ≡ manager_of o → (with_manager at s).manager ≡ manager_of o
unfolding with_manager
manager_kept at s o e = stays_if (is_managed at.register) at.node o s e

pub manager_frame : (at : At) (s : State) → Frame s (with_manager at s)
manager_frame at s =
    let e = (manager_only at s).1 in
    record {
      count = ap (λ (t : State). t.count) e;
      nodes = ap (λ (t : State). t.nodes) e;
      standing = ap (λ (t : State). t.standing) e;
      plugs = ap (λ (t : State). length t.plugs) e;
      manager = manager_kept at s;
      epoch = ap (λ (t : State). t.epoch) e;
    }

heeded_frame : (h : Heed) (cycle : ℕ) (a : Answer) (s : State) → Frame s (after_heeded h cycle a s)
unfolding after_followed
heeded_frame Ignore cycle a s = same s
heeded_frame Refuse cycle a s = same s
heeded_frame Follow cycle a s = both s (with_manager a.at s) (after_followed cycle a s) (manager_frame a.at s) (shown_frame a.found cycle a (with_manager a.at s))

pub answered_frame : (o : Option Answer) (cycle : ℕ) (s : State) → Frame s (after_answered o cycle s)
unfolding after_answer
answered_frame None cycle s = same s
answered_frame (Some a) cycle s = heeded_frame (heed s a.at) cycle a s

pub heard_frame : (s : State) (p : Packet) → Frame s (after_heard s p)
unfolding after_heard
heard_frame s p = record { count = refl; nodes = refl; standing = refl; plugs = refl; manager = λ o e. e; epoch = refl }

pub word_frame : (o : Option At) (word : ℕ) (s : State) → Frame s (after_word o word s)
word_frame None word s = same s
word_frame (Some at) word s = judged_frame s at word

-- ---- time

late_only : (o : Option Late) (s : State) → (c : List Channel) × (after_late o s ≡ record s { channels = c })
late_only None s = (s.channels, refl)
late_only (Some late) s = ((after_late (Some late) s).channels, refl)

pub held_only : (n cycle : ℕ) (s : State) → (c : List Channel) × (after_held n cycle s ≡ record s { channels = c })
unfolding after_held
held_only zero cycle s = (s.channels, refl)
held_only (suc n) cycle s =
    let l = late_only (late_to 64 s.channels cycle) s in
    let h = held_only n cycle (record s { channels = l.0 }) in
    (h.0, ap (after_held n cycle) l.1 ∙ h.1)

-- the same but for what is kept of channels and of the second
abbrev pub aside : State → List Channel → Second → State
aside s c d = record s { channels = c; second = d }

pub ticked_only : (cycle : ℕ) (s : State) → (c : List Channel) × (d : Second) × (ticked cycle s ≡ aside s c d)
unfolding ticked
ticked_only cycle s =
    let h = held_only 64 cycle s in
    (h.0, ticked_second cycle (after_held 64 cycle s).second, ap (λ (t : State). record t { second = ticked_second cycle (after_held 64 cycle s).second }) h.1)

-- what is known of a register does not depend on the manager
pub manager_known : (at other : At) (s : State) → known_of (with_manager at s) other ≡ known_of s other
unfolding known_of
manager_known at other s = ap (λ (t : State). known_of t other) (manager_only at s).1

holder_known : (o : Option ℕ) (m : Made) (first : ℕ) (s : State) (at : At) → known_of (with_holder o m first s) at ≡ known_of s at
unfolding with_holder known_of
holder_known None m first s at = refl
holder_known (Some holder) m first s at = refl

-- nor on what a swap changes besides its register
pub by_known : (r : WatchedRegister) (m : Made) (s : State) (at : At) → known_of (swapped_by r m s) at ≡ known_of s at
unfolding known_of
by_known Bandwidth m s at = refl
by_known ChannelsHigh m s at = holder_known (holder_of m.by) m 0 s at
by_known ChannelsLow m s at = holder_known (holder_of m.by) m 32 s at
by_known (Output x) m s at = refl
by_known (Input x) m s at = refl
