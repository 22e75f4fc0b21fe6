-- The output plugs that talk, as they are kept apart from the machine's devices, and a cycle of one of them.
use Rattle.fw_bus_engine.proofs.Common.{◌≡◌, inl, inr, ℕ, zero, suc, ◌+◌, ◌-◌, ◌%◌, ◌<◌, ◌≤◌, List, [], ◌∷◌, ◌++◌, length, map, Bool, true, false, cond, Option, Some, None, is_some}
use Rattle.fw_bus_engine.proofs.Common.{option_map, refl, ap, sym, subst, ◌∙◌, arith, none-some, NodeState, node_at, Recording}
use Rattle.std.proofs.Common.{slice_index_or}
use Rattle.std.specs.Option.{option_and_then}
use Rattle.std.specs.List.{refill}
use Rattle.std.proofs.lemmas.Grind.{common_steps}
use Rattle.std.proofs.lemmas.Bool.{cases_lt}
use Rattle.std.proofs.lemmas.List.{get_or_append_left, get_or_push}
use Rattle.fw_cip.specs.Streams.{count_of}
use Rattle.fw_tape.specs.declared.cassette.BlockPlace.{BlockPlace}
use Rattle.fw_tape.specs.declared.cassette.Cassette.{Cassette}
use Rattle.fw_tape.specs.Blocks.{Gives, block_now, blocks_among, next_block}
use Rattle.fw_tape.specs.Desks.{BlockRelation}
use Rattle.fw_tape.proofs.BlockLaws.{counted_one, given_now}
use Rattle.fw_tape.specs.Motion.{MayPass, passed_on}
use Rattle.fw_avc.specs.State.{UnitState}
use Rattle.fw_node.specs.Streams.{talking_on, talks}
use Rattle.fw_devices.specs.Decks.{passed, tape_of}
use Rattle.fw_devices.specs.Streams.{AreTalkers}
use Rattle.fw_bus_state.specs.Streaming.{count_at, counted_on}
use Rattle.fw_bus_state.proofs.Counts.{counted_at}
use Rattle.fw_bus_state.proofs.DeckNodes.{mapped_at}
use Rattle.fw_bus_state.proofs.Listening.{unit_none, unit_of}
use Rattle.fw_bus_engine.specs.declared.cycle_streams.TalkingPlug.{TalkingPlug}
use Rattle.fw_bus_engine.specs.Playing.{AreTalkingPlugs, IsAt, IsTalkingPlug, MayTakeTurn, Sends}
use Rattle.fw_bus_engine.proofs.Ahead.{tape_passed}

-- ---- the tape of a node

pub tape_found : (n : NodeState) (t : Option Cassette) → Some t ≡ option_map (λ (u : UnitState). u.tape) n.unit → t ≡ tape_of n
tape_found n t e = let x = unit_of n.unit t e in sym (ap (option_and_then (λ (u : UnitState). u.tape)) x.1 ∙ x.2)

pub tape_lost : (n : NodeState) → None ≡ option_map (λ (u : UnitState). u.tape) n.unit → None ≡ tape_of n
tape_lost n e = sym (ap (option_and_then (λ (u : UnitState). u.tape)) (unit_none n.unit e))

-- ---- what a tape gives in a cycle

given_one : (R : BlockRelation) (o : Option BlockPlace) (block : Option (List ℕ)) → Gives R o block → count_of block ≡ cond (is_some o) 1 0
given_one R None None f = refl
given_one R None (Some bytes) f = absurd f
given_one R (Some place) None f = absurd f
given_one R (Some place) (Some bytes) f = refl

-- as many blocks as are counted
given_count : (R : BlockRelation) (o : Option Cassette) (block : Option (List ℕ)) → Gives R (block_now (option_map (passed_on 1) o)) block → count_of block ≡ blocks_among o 1
given_count R o block f = given_one R (next_block o) block (subst (λ place. Gives R place block) (given_now o) f) ∙ sym (counted_one o)

-- ---- a turn

talks_on : (b : Bool) (x y : ℕ) → cond b (Some x) None ≡ Some y → b ≡ true
talks_on true x y e = refl
talks_on false x y e = absurd (none-some y e)

sent_more : (dbc count some more now : ℕ) → dbc ≡ (count + some) % 256 → some ≡ more → now ≡ (count + more) % 256 → dbc ≡ now % 256
sent_more dbc count some more now is same then_is = omega (arith, is, same, then_is)

-- the player after it is that of the nodes and counts after the cycle
pub turned : {R : BlockRelation} {nodes : List NodeState} {counts : List ℕ} (channel d : ℕ) {p q : TalkingPlug} {epoch cycle : ℕ} {before after : List ℕ} {heard hears : Option Recording}
    → d < length nodes → length nodes ≤ length counts → talking_on (node_at nodes d) ≡ Some channel → IsTalkingPlug nodes counts d channel p
    → Sends R channel p q epoch cycle before after heard hears → IsTalkingPlug (map (passed 1) nodes) (counted_on 1 nodes counts) d channel q
turned {R} {nodes} {counts} channel d {p} {q} low few on x s = record {
  number = ap (λ (n : NodeState). n.number) at ∙ (x.number ∙ ap (λ k. Some k) (sym s.own));
  low = let small = x.low in let same = s.own in omega (arith, small, same);
  talks = s.talker ∙ x.talks;
  sent = sent_more q.talker.dbc (count_at counts d) (count_of s.block) (blocks_among (tape_of n) 1) (count_at (counted_on 1 nodes counts) d)
      (s.sent (count_at counts d) x.sent) given (counted_at 1 nodes counts d low few ∙ ap (λ b. cond b ((count_at counts d + blocks_among (tape_of n) 1) % 256) 0) talking);
  tape = s.tape ∙ (ap (option_map (passed_on 1)) x.tape ∙ (sym (tape_passed 1 n) ∙ ap tape_of (sym at)));
}
  where
    n : NodeState
    n = node_at nodes d

    at : node_at (map (passed 1) nodes) d ≡ passed 1 n
    at = mapped_at (passed 1) nodes d low

    talking : talks n ≡ true
    talking = talks_on (talks n) _ channel on

    given : count_of s.block ≡ blocks_among (tape_of n) 1
    given = given_count R (tape_of n) s.block (subst (λ (o : Option Cassette). Gives R (block_now o) s.block) (s.tape ∙ ap (option_map (passed_on 1)) x.tape) s.gives)

-- it may be taken
pub may_turn : (nodes : List NodeState) (counts : List ℕ) (channel : ℕ) (o : Option ℕ) (q : Option TalkingPlug) → IsAt nodes counts channel o q
    → ((d : ℕ) → o ≡ Some d → MayPass 1 (tape_of (node_at nodes d))) → MayTakeTurn channel q
may_turn nodes counts channel None q is may = subst (MayTakeTurn channel) (sym is) tt
may_turn nodes counts channel (Some d) q is may =
    let x = is.2 in
    subst (MayTakeTurn channel) (sym is.1) (subst (MayPass 1) (sym x.tape) (may d refl), x.talks, x.low)

-- ---- they are gathered by channel

pub past_end : (xs : List (Option TalkingPlug)) (i : ℕ) → length xs ≤ i → slice_index_or xs i None ≡ None
past_end [] i le = refl
past_end (x ∷ xs) zero le = absurd (omega (arith, le))
past_end (x ∷ xs) (suc i) le = past_end xs i (omega (arith, le))

pub at_more : (nodes : List NodeState) (counts : List ℕ) (talkers : List (Option ℕ)) (talking_plugs more : List (Option TalkingPlug)) (i : ℕ) (p : Option TalkingPlug) → more ≡ talking_plugs ++ p ∷ []
    → length talking_plugs ≡ i → ((c : ℕ) → c < i → IsAt nodes counts c (slice_index_or talkers c None) (slice_index_or talking_plugs c None))
    → IsAt nodes counts i (slice_index_or talkers i None) p → (c : ℕ) → c < i + 1 → IsAt nodes counts c (slice_index_or talkers c None) (slice_index_or more c None)
at_more nodes counts talkers talking_plugs more i p is size at here c low =
    subst (λ l. IsAt nodes counts c (slice_index_or talkers c None) (slice_index_or l c None)) (sym is) (elim (cases_lt c i) [
      | inl lt ↦ subst (IsAt nodes counts c (slice_index_or talkers c None)) (sym (get_or_append_left talking_plugs (p ∷ []) None c (omega (arith, lt, size)))) (at c lt)
      | inr le ↦
          let e : i ≡ c = omega (arith, low, le) in
          subst (λ j. IsAt nodes counts j (slice_index_or talkers j None) (slice_index_or (talking_plugs ++ p ∷ []) j None)) e
          (subst (IsAt nodes counts i (slice_index_or talkers i None)) (sym (get_or_push talking_plugs p None i size)) here)
    ])

pub all_there : {nodes : List NodeState} {counts : List ℕ} (talkers : List (Option ℕ)) (talking_plugs : List (Option TalkingPlug)) (i : ℕ) → i ≤ 64 → AreTalkers (length nodes) nodes talkers
    → ((channel : ℕ) → i ≤ channel → slice_index_or talkers channel None ≡ None) → length talking_plugs ≡ i
    → ((c : ℕ) → c < i → IsAt nodes counts c (slice_index_or talkers c None) (slice_index_or talking_plugs c None)) → AreTalkingPlugs nodes counts talking_plugs
all_there {nodes} {counts} talkers talking_plugs i few are silent size at = record {
  talkers = talkers;
  are = are;
  few = omega (arith, few, size);
  at = λ c. elim (cases_lt c i) [
    | inl low ↦ at c low
    | inr le ↦ subst (λ t. IsAt nodes counts c t (slice_index_or talking_plugs c None)) (sym (silent c le)) (past_end talking_plugs c (omega (arith, le, size)))
  ];
}

-- ---- they were lent, and have come back

whole : (items now : List (Option TalkingPlug)) → length now ≡ length items → refill (length items) items now ≡ now
whole items now same = grind (arith, common_steps)

pub lent_back : {nodes : List NodeState} {counts : List ℕ} {items old now : List (Option TalkingPlug)} → old ≡ items → length now ≡ length old → AreTalkingPlugs nodes counts now
    → AreTalkingPlugs nodes counts (refill (length items) items now)
lent_back {nodes} {counts} {items} {old} {now} is same are = subst (AreTalkingPlugs nodes counts) (sym (whole items now (same ∙ ap (λ (l : List (Option TalkingPlug)). length l) is))) are
