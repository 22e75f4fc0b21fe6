-- A cycle of those that talk, taken one after another, in order of channel.
use Rattle.fw_bus_engine.proofs.Common.{◌≡◌, inl, inr, ℕ, suc, ◌+◌, ◌-◌, ◌*◌, ◌<◌, ◌≤◌, ◌^◌, List, length, map, slice_set, Option, Some, None, IfSome, get_or-set_other, get_or-set_same}
use Rattle.fw_bus_engine.proofs.Common.{length-set, refl, ap, sym, subst, ◌∙◌, arith, cases_eq, none-some, NodeState, node_at, DeskRelations, Machine, Recording, IsReady, HadSent, unheard}
use Rattle.std.proofs.Common.{slice_index_or, add-one}
use Rattle.std.proofs.lemmas.Bool.{cases_lt}
use Rattle.fw_cip.specs.Streams.{packet_after}
use Rattle.fw_tape.specs.declared.cassette.Cassette.{Cassette}
use Rattle.fw_tape.specs.Blocks.{Gives, block_now}
use Rattle.fw_tape.specs.Motion.{MayPass, is_fifty}
use Rattle.fw_node.specs.Streams.{talks}
use Rattle.fw_devices.specs.Decks.{passed, tape_of}
use Rattle.fw_devices.specs.Streams.{AreTalkers}
use Rattle.fw_bus_state.specs.Streaming.{count_at}
use Rattle.fw_bus_state.proofs.DeckNodes.{mapped_at, tapes_may_pass}
use Rattle.fw_bus_engine.specs.declared.cycle_streams.TalkingPlug.{TalkingPlug}
use Rattle.fw_bus_engine.specs.Cycling.{HearsTo, PutsIntoRoom}
use Rattle.fw_bus_engine.specs.Playing.{AreTalkingPlugs, IsAt, IsTalkingPlug, TakesTurn, ahead, counts_ahead, nodes_ahead}
use Rattle.fw_bus_engine.proofs.Ahead.{may_back, tape_passed}
use Rattle.fw_bus_engine.proofs.PacketTurns.{ready_talker, packet_done}
use Rattle.fw_bus_engine.proofs.OneAction.{no_faults}
use Rattle.fw_bus_engine.proofs.Packets.{packets_none, packets_skip, packets_then, packets_whole, talkers_pass, unheard_same}
use Rattle.fw_bus_engine.proofs.Players.{past_end, turned}

-- ---- one after another

-- the players of the channels below i have taken theirs
pub record Playing (D : DeskRelations) (m : Machine) (n k i : ℕ) (first heard : Option Recording) (talking_plugs : List (Option TalkingPlug)) (before after : List ℕ) : Type 0 where
  pub talkers : List (Option ℕ)
  pub are : AreTalkers (length (nodes_ahead n m.devices.nodes)) (nodes_ahead n m.devices.nodes) talkers
  pub puts : PutsIntoRoom (HadSent (counts_ahead n m.devices.nodes m.streams)) D (HearsTo i first heard) (ahead (suc n) m) before after
  pub same : unheard heard ≡ unheard first
  pub size : length after ≤ length before + 508 * i
  pub count : length talking_plugs ≡ k
  pub few : k ≤ 64
  pub taken : (c : ℕ) → c < i → IsAt (nodes_ahead (suc n) m.devices.nodes) (counts_ahead (suc n) m.devices.nodes m.streams) c (slice_index_or talkers c None) (slice_index_or talking_plugs c None)
  pub left : (c : ℕ) → i ≤ c → IsAt (nodes_ahead n m.devices.nodes) (counts_ahead n m.devices.nodes m.streams) c (slice_index_or talkers c None) (slice_index_or talking_plugs c None)

pub playing_first : {D : DeskRelations} (m : Machine) (n : ℕ) (heard : Option Recording) (talking_plugs : List (Option TalkingPlug)) (room : List ℕ)
    → AreTalkingPlugs (ahead n m).devices.nodes (ahead n m).streams talking_plugs → IfSome heard (λ (r : Recording). r.block ≡ None)
    → Playing D m n (length talking_plugs) 0 heard heard talking_plugs room room
playing_first m n heard talking_plugs room x none = record {
  talkers = x.talkers;
  are = x.are;
  puts = packets_none heard _ _ _ _ none;
  same = refl;
  size = omega arith;
  count = refl;
  few = x.few;
  taken = λ c low. absurd (omega (arith, low));
  left = λ c le. x.at c;
}

-- of the nodes after the cycle
after_talk : (m : Machine) (n : ℕ) {talkers : List (Option ℕ)} → AreTalkers (length (nodes_ahead n m.devices.nodes)) (nodes_ahead n m.devices.nodes) talkers
    → AreTalkers (length (nodes_ahead (suc n) m.devices.nodes)) (nodes_ahead (suc n) m.devices.nodes) talkers
after_talk m n are = talkers_pass (ahead n m) (ahead (suc n) m) 1 refl are

-- the plug of a device that talks, and its tape
pub ready_turn : (m : Machine) (n channel d : ℕ) {talkers : List (Option ℕ)} → IsReady (ahead (suc n) m) → m.cycle ≤ 2 ^ 52
    → AreTalkers (length (nodes_ahead n m.devices.nodes)) (nodes_ahead n m.devices.nodes) talkers
    → slice_index_or talkers channel None ≡ Some d → (channel < 64) × MayPass 1 (tape_of (node_at (nodes_ahead n m.devices.nodes) d))
ready_turn m n channel d ready few are at =
    let nodes = nodes_ahead n m.devices.nodes in
    let was = are.talk channel d at in
    let now = (after_talk m n are).talk channel d at in
    let here : node_at (map (passed 1) nodes) d ≡ passed 1 (node_at nodes d) = mapped_at (passed 1) nodes d was.0 in
    let may = tapes_may_pass 0 ready (omega (arith, few)) d now.0 in (
      (ready_talker d channel ready now.0 now.1).1,
      may_back 1 (tape_of (node_at nodes d)) (subst (MayPass 0) (ap tape_of here ∙ tape_passed 1 (node_at nodes d)) may),
    )

pub playing_on : {D : DeskRelations} {m : Machine} {n k i : ℕ} {first heard hears : Option Recording} {talking_plugs : List (Option TalkingPlug)} {before room after : List ℕ}
    (old new : Option TalkingPlug)
    → length (nodes_ahead n m.devices.nodes) ≤ length (counts_ahead n m.devices.nodes m.streams) → i < k → Playing D m n k i first heard talking_plugs before room
    → slice_index_or talking_plugs i None ≡ old
    → TakesTurn D.blocks i old new m.devices.epoch m.cycle room after heard hears → length after ≤ length room + 508 → Playing D m n k (i + 1) first hears (slice_set talking_plugs i new) before after
playing_on {D} {m} {n} {k} {i} {first} {heard} {hears} {talking_plugs} {before} {room} {after} old new lists low x at turn more =
    go (slice_index_or x.talkers i None) refl old at (subst (λ o. IsAt nodes counts i (slice_index_or x.talkers i None) o) at (x.left i (omega arith))) turn
  where
    nodes : List NodeState
    nodes = nodes_ahead n m.devices.nodes

    counts : List ℕ
    counts = counts_ahead n m.devices.nodes m.streams

    Nodes : List NodeState
    Nodes = nodes_ahead (suc n) m.devices.nodes

    Counts : List ℕ
    Counts = counts_ahead (suc n) m.devices.nodes m.streams

    built : PutsIntoRoom (HadSent counts) D (HearsTo (i + 1) first hears) (ahead (suc n) m) before after → unheard hears ≡ unheard first
        → IsAt Nodes Counts i (slice_index_or x.talkers i None) new → Playing D m n k (i + 1) first hears (slice_set talking_plugs i new) before after
    built puts same here = record {
      talkers = x.talkers;
      are = x.are;
      puts = puts;
      same = same;
      size = let size = x.size in omega (arith, size, more);
      count = length-set talking_plugs i new ∙ x.count;
      few = x.few;
      taken = λ c lt. elim (cases_eq c i) [
        | inl e ↦ let P : ℕ → Type 0 = λ j. IsAt Nodes Counts j (slice_index_or x.talkers j None) (slice_index_or (slice_set talking_plugs i new) j None) in
            subst P (sym e) (subst (IsAt Nodes Counts i (slice_index_or x.talkers i None)) (sym (get_or-set_same talking_plugs i new None (let count = x.count in omega (arith, low, count)))) here)
        | inr differ ↦ subst (IsAt Nodes Counts c (slice_index_or x.talkers c None)) (sym (get_or-set_other talking_plugs i c new None differ)) (x.taken c (omega (arith, lt, differ)))
      ];
      left = λ c le. subst (IsAt nodes counts c (slice_index_or x.talkers c None)) (sym (get_or-set_other talking_plugs i c new None (λ e. omega (arith, le, e)))) (x.left c (omega (arith, le)));
    }

    go : (o : Option ℕ) → slice_index_or x.talkers i None ≡ o → (was : Option TalkingPlug) → slice_index_or talking_plugs i None ≡ was → IsAt nodes counts i (slice_index_or x.talkers i None) was
        → TakesTurn D.blocks i was new m.devices.epoch m.cycle room after heard hears → Playing D m n k (i + 1) first hears (slice_set talking_plugs i new) before after
    go None is was there here turn =
        let gone : was ≡ None = subst (λ t. IsAt nodes counts i t was) is here in
        let idle = subst (λ w. TakesTurn D.blocks i w new m.devices.epoch m.cycle room after heard hears) gone turn in
        built
        (subst (λ l. PutsIntoRoom (HadSent counts) D (HearsTo (i + 1) first hears) (ahead (suc n) m) before l) (sym idle.1)
        (subst (λ h. PutsIntoRoom (HadSent counts) D (HearsTo (i + 1) first h) (ahead (suc n) m) before room) (sym idle.2)
        (packets_skip first heard i x.talkers (after_talk m n x.are) is x.puts)))
        (ap unheard idle.2 ∙ x.same) (subst (λ t. IsAt Nodes Counts i t new) (sym is) idle.0)
    go (Some d) is was there here turn =
        let p = subst (λ t. IsAt nodes counts i t was) is here in
        let t = subst (λ w. TakesTurn D.blocks i w new m.devices.epoch m.cycle room after heard hears) p.1 turn in
        let s = t.2 in
        let talk = x.are.talk i d is in
        let now = (after_talk m n x.are).talk i d is in
        let q : IsTalkingPlug Nodes Counts d i t.0 = turned i d talk.0 lists talk.1 p.2 s in
        built
        (packets_then counts first heard hears i d x.talkers (after_talk m n x.are) is x.puts
        (packet_done heard hears s.block (record {
          declared = now.0;
          talks = now.1;
          number = q.number ∙ ap (λ j. Some j) s.own;
          gives = subst (λ (o : Option Cassette). Gives D.blocks (block_now o) s.block) q.tape s.gives;
          packet_is = s.packet_is (count_at counts d) p.2.sent ∙ ap (λ (o : Option Cassette). packet_after i (count_at counts d) p.0.own (is_fifty o) s.block) q.tape;
          fits = s.fits;
        }) s.heard_is s.bytes (no_faults 0 (tt {0}))))
        (ap unheard s.heard_is ∙ (unheard_same i s.block heard ∙ x.same)) (subst (λ o. IsAt Nodes Counts i o new) (sym is) (t.0, t.1, q))

-- ---- all have taken theirs

silent_at : (nodes : List NodeState) (counts : List ℕ) (channel : ℕ) (o : Option ℕ) → IsAt nodes counts channel o None → o ≡ None
silent_at nodes counts channel None is = refl
silent_at nodes counts channel (Some d) is = absurd (none-some is.0 is.1)

pub all_silent : {D : DeskRelations} {m : Machine} {n k i : ℕ} {first heard : Option Recording} {talking_plugs : List (Option TalkingPlug)} {before after : List ℕ} → k ≤ i
    → (x : Playing D m n k i first heard talking_plugs before after) → (channel : ℕ) → i ≤ channel → slice_index_or x.talkers channel None ≡ None
all_silent {m = m} {n} {talking_plugs = talking_plugs} all x channel le =
    let count = x.count in
    silent_at (nodes_ahead n m.devices.nodes) (counts_ahead n m.devices.nodes m.streams) channel (slice_index_or x.talkers channel None)
    (subst (IsAt (nodes_ahead n m.devices.nodes) (counts_ahead n m.devices.nodes m.streams) channel (slice_index_or x.talkers channel None))
    (past_end talking_plugs channel (omega (arith, all, le, count))) (x.left channel le))

pub all_put : {D : DeskRelations} {m : Machine} {n k i : ℕ} {first heard : Option Recording} {talking_plugs : List (Option TalkingPlug)} {before after : List ℕ} → k ≤ i → i ≤ k
    → (x : Playing D m n k i first heard talking_plugs before after) → PutsIntoRoom (HadSent (counts_ahead n m.devices.nodes m.streams)) D (HearsTo 64 first heard) (ahead (n + 1) m) before after
all_put {D} {m} {n} {i = i} {first} {heard} {before = before} {after} all le x =
    subst (λ j. PutsIntoRoom (HadSent (counts_ahead n m.devices.nodes m.streams)) D (HearsTo 64 first heard) (ahead j m) before after) (sym (add-one n))
    (packets_whole first heard i x.talkers (let few = x.few in omega (arith, few, le)) (after_talk m n x.are) (all_silent all x) x.puts)

pub all_played : {D : DeskRelations} {m : Machine} {n k i : ℕ} {first heard : Option Recording} {talking_plugs : List (Option TalkingPlug)} {before after : List ℕ} → k ≤ i
    → Playing D m n k i first heard talking_plugs before after → AreTalkingPlugs (ahead (n + 1) m).devices.nodes (ahead (n + 1) m).streams talking_plugs
all_played {m = m} {n} {i = i} {talking_plugs = talking_plugs} all x =
    subst (λ j. AreTalkingPlugs (nodes_ahead j m.devices.nodes) (counts_ahead j m.devices.nodes m.streams) talking_plugs) (sym (add-one n)) (record {
      talkers = x.talkers;
      are = after_talk m n x.are;
      few = let few = x.few in let count = x.count in omega (arith, few, count);
      at = λ c. elim (cases_lt c i) [
        | inl low ↦ x.taken c low
        | inr le ↦ let none = all_silent all x c le in
            let count = x.count in
            subst (λ t. IsAt (nodes_ahead (suc n) m.devices.nodes) (counts_ahead (suc n) m.devices.nodes m.streams) c t (slice_index_or talking_plugs c None)) (sym none)
            (past_end talking_plugs c (omega (arith, all, le, count)))
      ];
    })
