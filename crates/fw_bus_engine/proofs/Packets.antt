-- The packets of a cycle: the plugs that talk in it send theirs, in order of channel.
use Rattle.fw_bus_engine.proofs.Common.{◌≡◌, ℕ, zero, suc, ◌+◌, ◌-◌, ◌<◌, ◌≤◌, List, [], ◌∷◌, ◌++◌, length}
use Rattle.fw_bus_engine.proofs.Common.{map, Option, Some, None, option_map, refl, ap, sym, subst, ◌∙◌, arith, append_assoc, append-nil}
use Rattle.fw_bus_engine.proofs.Common.{IfSome, Bool, true, false, ◌==◌, cond, Ok, Result, at_plug, PlugAt, Timed, Account, Action, DeskRelations, IsGood, State, NodeState, Network, node_at, Machine}
use Rattle.fw_bus_engine.proofs.Common.{HadSent, unheard, PerformedWhere, between, Recording, StandsFor, nat_tests, at_cycle, Performs}
use Rattle.std.proofs.Common.{slice_index_or}
use Rattle.std.proofs.Common.{add-one}
use Rattle.std.proofs.lemmas.List.{length-map}
use Rattle.fw_model_run.specs.Actions.{SendPacket}
use Rattle.fw_model_run.specs.Carrying.{SendsPackets}
use Rattle.fw_model_run.specs.Streams.{those, talker_on, talkers_to, GivenBlock, bytes_of, stream_packet}
use Rattle.fw_model_run.proofs.Counting.{packets_are}
use Rattle.fw_node.specs.Streams.{talking_on}
use Rattle.fw_devices.specs.Decks.{passed}
use Rattle.fw_devices.specs.Streams.{AreTalkers}
use Rattle.fw_bus_engine.specs.Cycling.{SendsHeard, HearsTo, heard_among}
use Rattle.fw_bus_state.specs.Recording.{hearing_of}
use Rattle.fw_bus_engine.specs.Resetting.{passed_in}
use Rattle.fw_bus_state.proofs.DeckNodes.{mapped_at}
use Rattle.fw_bus_engine.proofs.DeskCalls.{LeadsTo, where_then}
use Rattle.fw_bus_engine.proofs.Desks.{where_nothing, where_when}
use Rattle.fw_bus_engine.proofs.Doings.{Follows}
use Rattle.fw_bus_state.proofs.Talking.{talker_is, talks_here}
use Rattle.fw_model_run.specs.Recording.{block_among, block_of}
use Rattle.std.specs.Option.{option_or}
use Rattle.fw_log_entry.specs.declared.entry.Entry.TheVariants.{Iso}

-- ---- those that talk

-- as cycles go by they stay the same
pub talkers_pass : (m now : Machine) {talkers : List (Option ℕ)} (cycles : ℕ) → now.devices ≡ passed_in cycles m.devices
    → AreTalkers (length m.devices.nodes) m.devices.nodes talkers → AreTalkers (length now.devices.nodes) now.devices.nodes talkers
talkers_pass m now {talkers} cycles is are = subst (λ (n : Network). AreTalkers (length n.nodes) n.nodes talkers) (sym is) (record {
  size = are.size;
  talk = λ channel d e. let x = are.talk channel d e in (let low = x.0 in omega (arith, low, size), same d x.0 ∙ x.1);
  all = λ d channel lt on. let low : d < length nodes = omega (arith, lt, size) in are.all d channel low (sym (same d low) ∙ on);
})
  where
    nodes : List NodeState
    nodes = m.devices.nodes

    size : length (map (passed cycles) nodes) ≡ length nodes
    size = length-map nodes (passed cycles)

    same : (d : ℕ) → d < length nodes → talking_on (node_at (map (passed cycles) nodes) d) ≡ talking_on (node_at nodes d)
    same d low = ap talking_on (mapped_at (passed cycles) nodes d low)

-- ---- packets one after another

packets_append : (ps qs : List PlugAt) (s u t : State) (xs ys : List Action) (a b : List Timed) → SendsPackets ps s xs a u → SendsPackets qs u ys b t
    → SendsPackets (ps ++ qs) s (xs ++ ys) (a ++ b) t
packets_append [] qs s u t xs ys a b f g =
    subst (λ z. SendsPackets qs s (z ++ ys) (a ++ b) t) (sym f.0)
    (subst (λ z. SendsPackets qs s ys (z ++ b) t) (sym f.1) (subst (λ z. SendsPackets qs z ys b t) f.2 g))
packets_append (p ∷ ps) qs s u t xs ys a b f g = (
  f.0,
  f.1,
  f.2 ++ ys,
  f.3,
  f.4 ++ b,
  f.5,
  packets_append ps qs f.1 u t f.2 ys f.4 b f.6 g,
  ap (λ z. z ++ ys) f.7,
  ap (λ z. z ++ b) f.8 ∙ append_assoc f.3 f.4 b,
)

-- of one channel more
talkers_more : (n : ℕ) (l : Account) → talkers_to (n + 1) l ≡ talkers_to n l ++ those (talker_on l n)
unfolding talkers_to
talkers_more n l = rw add-one refl

-- ---- what is heard

-- if nothing was written nothing is
nothing_heard : (o : Option Recording) → IfSome o (λ (r : Recording). r.block ≡ None) → o ≡ heard_among [] o
nothing_heard None none = refl
nothing_heard (Some r) none = ap (λ (b : Option (List ℕ)). Some (record r { block = b })) none

-- but for the block a recording stays the same
pub unheard_same : (channel : ℕ) (block : Option (List ℕ)) (o : Option Recording) → unheard (hearing_of channel block o) ≡ unheard o
unheard_same channel None o = refl
unheard_same channel (Some bytes) None = refl
unheard_same channel (Some bytes) (Some r) = refl

-- ---- the packets of a cycle

pub packets_none : {T E : Type 0} {A : State → Type 0} {D : DeskRelations} (old : Option Recording) (m : Machine) (held : Option (List ℕ)) (k : ℕ) (u : T)
    → IfSome old (λ (r : Recording). r.block ≡ None)
    → PerformedWhere {T = T} {E = E} A D (HearsTo 0 old old) m m (between held held k k) (Ok u)
unfolding talkers_to
packets_none old m held k u none = where_nothing m held k u (λ s g st. ((refl, refl, refl), nothing_heard old none, λ channel le. refl))

-- on this channel nobody talks, or the plug of this device does
talker_at : (m : Machine) (talkers : List (Option ℕ)) (i : ℕ) (o : Option ℕ) → AreTalkers (length m.devices.nodes) m.devices.nodes talkers
    → slice_index_or talkers i None ≡ o
    → (s : State) → IsGood s → StandsFor m s → talker_on s.account i ≡ option_map (λ d. at_plug d 0) o
talker_at m talkers i o are is s g st =
    talker_is m.devices.nodes s talkers i g st.devices.nodes st.devices.lingering are ∙ ap (λ o. option_map (λ d. at_plug d 0) o) is

pub packets_skip : {T E : Type 0} {A : State → Type 0} {D : DeskRelations} (old new : Option Recording) (i : ℕ) (talkers : List (Option ℕ))
    {m now : Machine} {a b : Option (List ℕ)} {k l : ℕ} {u : T}
    → AreTalkers (length m.devices.nodes) m.devices.nodes talkers → slice_index_or talkers i None ≡ None
    → PerformedWhere {T = T} {E = E} A D (HearsTo i old new) m now (between a b k l) (Ok u) → PerformedWhere {T = T} {E = E} A D (HearsTo (i + 1) old new) m now (between a b k l) (Ok u)
packets_skip old new i talkers {m} are none d = where_when (λ s t xs out g st p f.
    let prefix = talkers_to i s.account in
    let same : talkers_to (i + 1) s.account ≡ prefix =
    talkers_more i s.account ∙ (ap (λ o. prefix ++ those o) (talker_at m talkers i None are none s g st) ∙ append-nil prefix) in
    (subst (λ ps. SendsPackets ps s xs out t) (sym same) p.0, p.1, λ channel le. p.2 channel (omega (arith, le)))) d

-- nor on any channel after
packets_rest : {T E : Type 0} {A : State → Type 0} {D : DeskRelations} (old new : Option Recording) (i k : ℕ) (talkers : List (Option ℕ))
    {m now : Machine} {a b : Option (List ℕ)} {c l : ℕ} {u : T}
    → AreTalkers (length m.devices.nodes) m.devices.nodes talkers → ((channel : ℕ) → i ≤ channel → slice_index_or talkers channel None ≡ None)
    → PerformedWhere {T = T} {E = E} A D (HearsTo i old new) m now (between a b c l) (Ok u) → PerformedWhere {T = T} {E = E} A D (HearsTo (i + k) old new) m now (between a b c l) (Ok u)
packets_rest {T = T} {E} {A} {D} old new i zero talkers {m} {now} {a} {b} {c} {l} {u} are silent d =
    let e : i ≡ i + 0 = omega arith in subst (λ j. PerformedWhere {T = T} {E = E} A D (HearsTo j old new) m now (between a b c l) (Ok u)) e d
packets_rest {T = T} {E} {A} {D} old new i (suc k) talkers {m} {now} {a} {b} {c} {l} {u} are silent d =
    let e : i + k + 1 ≡ i + suc k = omega arith in
    subst (λ j. PerformedWhere {T = T} {E = E} A D (HearsTo j old new) m now (between a b c l) (Ok u)) e
    (packets_skip old new (i + k) talkers are (silent (i + k) (omega arith)) (packets_rest old new i k talkers are silent d))

pub packets_whole : {T E : Type 0} {A : State → Type 0} {D : DeskRelations} (old new : Option Recording) (i : ℕ) (talkers : List (Option ℕ))
    {m now : Machine} {a b : Option (List ℕ)} {c l : ℕ} {u : T}
    → i ≤ 64 → AreTalkers (length m.devices.nodes) m.devices.nodes talkers → ((channel : ℕ) → i ≤ channel → slice_index_or talkers channel None ≡ None)
    → PerformedWhere {T = T} {E = E} A D (HearsTo i old new) m now (between a b c l) (Ok u) → PerformedWhere {T = T} {E = E} A D (HearsTo 64 old new) m now (between a b c l) (Ok u)
packets_whole {T = T} {E} {A} {D} old new i talkers {m} {now} {a} {b} {c} {l} {u} few are silent d =
    let e : i + (64 - i) ≡ 64 = omega (arith, few) in
    subst (λ j. PerformedWhere {T = T} {E = E} A D (HearsTo j old new) m now (between a b c l) (Ok u)) e (packets_rest old new i (64 - i) talkers are silent d)

-- a packet is that of a list of one plug
one_packet : (s t : State) (d : ℕ) (block : Option GivenBlock) (xs : List Action) (out : List Timed) → Performs (SendPacket (at_plug d 0) block ∷ []) s xs out t
    → SendsPackets (at_plug d 0 ∷ []) s xs out t
one_packet s t d block xs out p = (block, t, [], out, [], p.1, (refl, refl, refl), p.0, sym (append-nil out))

-- the entry of a packet
packet_entry : State → ℕ → Option GivenBlock → Timed
packet_entry s d block = at_cycle s.clock.cycle (Iso (stream_packet s (at_plug d 0) (bytes_of block)))

one_entry : (s t : State) (d : ℕ) (block : Option GivenBlock) (xs : List Action) (out : List Timed) → Performs (SendPacket (at_plug d 0) block ∷ []) s xs out t → out ≡ packet_entry s d block ∷ []
unfolding packet_entry
one_entry s t d block xs out p = let f = p.1 in f.4 ∙ (ap (λ z. z ++ f.1) f.3.out_is ∙ ap (λ z. packet_entry s d block ∷ z) f.5.0)

-- ---- blocks among entries

-- an entry more
among_more : (channel : ℕ) (xs : List Timed) (e : Timed) → block_among channel (xs ++ e ∷ []) ≡ option_or (block_among channel xs) (block_of channel e.what)
among_more channel [] e = last (block_of channel e.what)
  where
    last : (o : Option (List ℕ)) → option_or o None ≡ o
    last None = refl
    last (Some b) = refl
among_more channel (x ∷ xs) e = ap (option_or (block_of channel x.what)) (among_more channel xs e) ∙ sym (inside (block_of channel x.what) (block_among channel xs) (block_of channel e.what))
  where
    inside : (a b c : Option (List ℕ)) → option_or (option_or a b) c ≡ option_or a (option_or b c)
    inside None b c = refl
    inside (Some z) b c = refl

-- the packet of a plug on channel i, after those of the channels before it
among_packet : (s : State) (d i channel : ℕ) (block : Option GivenBlock) (out : List Timed) → (s.account.settings (at_plug d 0)).channel ≡ i
    → block_among channel (out ++ packet_entry s d block ∷ []) ≡ option_or (block_among channel out) (cond (i == channel) (bytes_of block) None)
unfolding packet_entry
among_packet s d i channel block out at =
    among_more channel out (packet_entry s d block) ∙ ap (λ k. option_or (block_among channel out) (cond (k == channel) (bytes_of block) None)) at

-- none is on a channel after
among_after : (s : State) (d i channel : ℕ) (block : Option GivenBlock) (out : List Timed) → (s.account.settings (at_plug d 0)).channel ≡ i → i + 1 ≤ channel
    → block_among channel out ≡ None → block_among channel (out ++ packet_entry s d block ∷ []) ≡ None
among_after s d i channel block out at le none =
    let off : (i == channel) ≡ false = grind (arith, nat_tests, le) in
    among_packet s d i channel block out at ∙ (ap (λ o. option_or o (cond (i == channel) (bytes_of block) None)) none ∙ ap (λ b. option_or {T = List ℕ} None (cond b (bytes_of block) None)) off)

-- what is heard then
block_then : (o : Option (List ℕ)) (b : Bool) (bytes : List ℕ) → (b ≡ true → o ≡ None) → cond b (Some bytes) o ≡ option_or o (cond b (Some bytes) None)
block_then o true bytes free = sym (ap (λ z. option_or z (Some bytes)) (free refl))
block_then None false bytes free = refl
block_then (Some z) false bytes free = refl

block_stays : (o : Option (List ℕ)) (b : Bool) → o ≡ option_or o (cond {A = Option (List ℕ)} b None None)
block_stays None true = refl
block_stays None false = refl
block_stays (Some z) b = refl

same_channel : (a b : ℕ) → (a == b) ≡ (b == a)
same_channel a b = grind (arith, nat_tests)

heard_more : (s : State) (d i : ℕ) (block : Option GivenBlock) (out : List Timed) (o : Option Recording) → (s.account.settings (at_plug d 0)).channel ≡ i → block_among i out ≡ None
    → hearing_of i (bytes_of block) (heard_among out o) ≡ heard_among (out ++ packet_entry s d block ∷ []) o
heard_more s d i None out None at none = refl
heard_more s d i (Some b) out None at none = refl
heard_more s d i None out (Some r) at none =
    ap (λ (z : Option (List ℕ)). Some (record r { block = z })) (block_stays (block_among r.channel out) (i == r.channel) ∙ sym (among_packet s d i r.channel None out at))
heard_more s d i (Some b) out (Some r) at none =
    let free : (r.channel == i) ≡ true → block_among r.channel out ≡ None = λ on. (let is : i ≡ r.channel = grind (arith, nat_tests, on) in subst (λ c. block_among c out ≡ None) is none) in
    ap (λ (z : Option (List ℕ)). Some (record r { block = z }))
    (block_then (block_among r.channel out) (r.channel == i) b.bytes free
    ∙ (ap (λ t. option_or (block_among r.channel out) (cond t (Some b.bytes) None)) (same_channel r.channel i) ∙ sym (among_packet s d i r.channel (Some b) out at)))

packet_follows : {m : Machine} (old mid_heard new : Option Recording) (i d : ℕ) (talkers : List (Option ℕ)) → AreTalkers (length m.devices.nodes) m.devices.nodes talkers
    → slice_index_or talkers i None ≡ Some d
    → Follows m (HearsTo i old mid_heard) (SendsHeard d i mid_heard new) (HearsTo (i + 1) old new)
packet_follows {m} old mid_heard new i d talkers are at s mid t xs ys a b g st p f q h =
    let same : talkers_to (i + 1) s.account ≡ talkers_to i s.account ++ at_plug d 0 ∷ [] =
    talkers_more i s.account ∙ ap (λ o. talkers_to i s.account ++ those o) (talker_at m talkers i (Some d) are at s g st) in
    let stays : mid ≡ s = (packets_are (talkers_to i s.account) s xs a mid p.0).1 in
    let talk = are.talk i d at in
    let here = talks_here m.devices.nodes s d i g st.devices.nodes st.devices.lingering talk.0 talk.1 in
    let channel : (mid.account.settings (at_plug d 0)).channel ≡ i = ap (λ (z : State). (z.account.settings (at_plug d 0)).channel) stays ∙ here.1 in
    let entry : b ≡ packet_entry mid d q.0 ∷ [] = one_entry mid t d q.0 ys b q.1 in
    let all : a ++ b ≡ a ++ packet_entry mid d q.0 ∷ [] = ap (λ z. a ++ z) entry in (
      subst (λ ps. SendsPackets ps s (xs ++ ys) (a ++ b) t) (sym same)
          (packets_append (talkers_to i s.account) (at_plug d 0 ∷ []) s mid t xs ys a b p.0 (one_packet mid t d q.0 ys b q.1)),
      q.2 ∙ (ap (hearing_of i (bytes_of q.0)) p.1 ∙ (heard_more mid d i q.0 a old channel (p.2 i (omega arith)) ∙ ap (λ z. heard_among z old) (sym all))),
      λ c le. ap (block_among c) all ∙ among_after mid d i c q.0 a channel le (p.2 c (omega (arith, le))),
    )

-- packets change nothing
packets_lead : (m : Machine) (counts : List ℕ) (old new : Option Recording) (i : ℕ) → LeadsTo m (HadSent counts) (HearsTo i old new) (HadSent counts)
packets_lead m counts old new i s t xs out g st had p f = subst (HadSent counts) (sym (packets_are (talkers_to i s.account) s xs out t p.0).1) had

-- one packet more
pub packets_then : {T E U F : Type 0} {D : DeskRelations} (counts : List ℕ) (old mid_heard new : Option Recording) (i d : ℕ) (talkers : List (Option ℕ))
    {m mid now : Machine} {a b c : Option (List ℕ)} {k l n : ℕ} {u : T} {r : Result U F}
    → AreTalkers (length m.devices.nodes) m.devices.nodes talkers → slice_index_or talkers i None ≡ Some d
    → PerformedWhere {T = T} {E = E} (HadSent counts) D (HearsTo i old mid_heard) m mid (between a b k l) (Ok u)
    → PerformedWhere (HadSent counts) D (SendsHeard d i mid_heard new) mid now (between b c l n) r
    → PerformedWhere (HadSent counts) D (HearsTo (i + 1) old new) m now (between a c k n) r
packets_then counts old mid_heard new i d talkers {m} {r = r} are at f g = where_then r (packet_follows old mid_heard new i d talkers are at) (packets_lead m counts old mid_heard i) f g
