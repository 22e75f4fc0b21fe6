-- The packet of an output plug in a cycle: of the machine and of the run.
use Rattle.fw_bus_engine.proofs.Common.{◌≡◌, ℕ, ◌%◌, ◌<◌, ◌≤◌, List, length, Bool, Option, Some, None, IfSome, refl, ap, sym, subst, ◌∙◌, arith, IsTrue, Result, same_Some, at_plug, PlugAt, node_of}
use Rattle.fw_bus_engine.proofs.Common.{is_node, node_at, Transition, DeskRelations, at_most, IsGood, State, Machine, PerformedWhere, HadSent, between, Recording, CountsFaults, IsReady, StandsFor}
use Rattle.fw_bus_engine.proofs.Common.{is_node_same, node_number_is, few_nodes}
use Rattle.fw_cip.specs.declared.packet.IsoPacket.{IsoPacket}
use Rattle.fw_cip.specs.Iso.{IsBlock}
use Rattle.fw_cip.specs.Iso as Iso
use Rattle.fw_cip.specs.Streams.{packet_after, packet_with}
use Rattle.fw_log_entry.specs.declared.entry.Entry.TheVariants.{Iso as IsoEntry}
use Rattle.fw_model_account.specs.Account.{talks}
use Rattle.fw_tape.specs.declared.cassette.BlockPlace.{BlockPlace}
use Rattle.fw_tape.specs.declared.cassette.Cassette.{Cassette}
use Rattle.fw_tape.specs.Blocks.{Gives, block_now}
use Rattle.fw_tape.specs.Desks.{BlockRelation}
use Rattle.fw_tape.specs.Motion.{is_fifty}
use Rattle.fw_node.specs.Streams.{talking_on}
use Rattle.fw_devices.specs.Decks.{tape_of}
use Rattle.fw_model_run.specs.Actions.{SendPacket}
use Rattle.fw_model_run.specs.Given.{IsGiven}
use Rattle.fw_model_run.specs.Giving.{GivesEntry as Written}
use Rattle.fw_model_run.specs.Streams.{GivenBlock, GivesBlock, bytes_of, tape_at, sent_before, stream_packet}
use Rattle.fw_bus_engine.specs.Cycling.{SendsHeard}
use Rattle.fw_bus_state.specs.Recording.{hearing_of}
use Rattle.fw_bus_state.specs.Streaming.{count_at}
use Rattle.fw_bus_engine.proofs.Desks.{where_sent}
use Rattle.fw_bus_state.proofs.Streaming.{tape_same}
use Rattle.fw_bus_state.proofs.Talking.{talker_on_bus, talks_here}

-- ---- the packet of an output plug

-- a plug that talks is that of a node, on a channel below 64
pub ready_talker : {m : Machine} (d channel : ℕ) → IsReady m → d < length m.devices.nodes → talking_on (node_at m.devices.nodes d) ≡ Some channel
    → IsTrue (is_node m.devices.nodes d) × (channel < 64) × (d < 63)
ready_talker {m} d channel r low is =
    let s = r.state in
    let g = r.good in
    let h = r.stands.devices.nodes in
    let on = talks_here m.devices.nodes s d channel g h r.stands.devices.lingering low is in
    let sound = g.reclaims.step.sound in
    let fits = (sound.settings_fit (at_plug d 0) (sound.there (at_plug d 0) on.0)).channel in
    let same = on.1 in
    let few = few_nodes m.devices.nodes s g h in
    (is_node_same m.devices.nodes s h g d ∙ talker_on_bus s d g on.0, omega (arith, fits, same), omega (arith, low, few))

-- it fits its fields
pub packet_fits : {m : Machine} {packet : IsoPacket} {at own : ℕ} (d channel : ℕ) → IsReady m → d < length m.devices.nodes
    → talking_on (node_at m.devices.nodes d) ≡ Some channel → at ≡ channel → own ≤ 62 → (at < 64 → own < 64 → Iso.Fits packet) → Iso.Fits packet
packet_fits d channel r low is same few fits =
    let on = (ready_talker d channel r low is).1 in
    fits (omega (arith, on, same)) (omega (arith, few))

-- a packet is the same for the same fields
pub packet_same : {packet : IsoPacket} (blocks own : ℕ) {at channel : ℕ} {fifty is : Bool} {some block : Option (List ℕ)}
    → packet ≡ packet_after at blocks own fifty some
    → at ≡ channel → fifty ≡ is → some ≡ block → packet ≡ packet_after channel blocks own is block
packet_same blocks own made at fifty some = made ∙ (λ i. packet_after (at i) blocks own (fifty i) (some i))

-- what the machine did: the talker that had sent the blocks before the cycle made it, with what the tape gave
pub record Packing (D : DeskRelations) (m : Machine) (d channel own : ℕ) (before : List ℕ) (block : Option (List ℕ)) (packet : IsoPacket) : Type 0 where
  pub declared : d < length m.devices.nodes
  pub talks : talking_on (node_at m.devices.nodes d) ≡ Some channel
  pub number : (node_at m.devices.nodes d).number ≡ Some own
  pub gives : Gives D.blocks (block_now (tape_of (node_at m.devices.nodes d))) block
  pub packet_is : packet ≡ packet_after channel (count_at before d) own (is_fifty (tape_of (node_at m.devices.nodes d))) block
  pub fits : Iso.Fits packet

-- a block that is given for the place that is due, and none if none is due
pub gives_some : (R : BlockRelation) {o : Option BlockPlace} (place : BlockPlace) (bytes : List ℕ) → Some place ≡ o
    → R place.tape place.frame place.block bytes → Gives R o (Some bytes)
gives_some R place bytes due f = subst (λ (o : Option BlockPlace). Gives R o (Some bytes)) due f

pub gives_none : (R : BlockRelation) {o : Option BlockPlace} → None ≡ o → Gives R o None
gives_none R due = subst (λ (o : Option BlockPlace). Gives R o None) due tt

-- the block that was given, with its place
given_block : Option BlockPlace → Option (List ℕ) → Option GivenBlock
given_block (Some place) (Some bytes) = Some (record { place = place; bytes = bytes })
given_block _ _ = None

-- it is what the tape gives
gives_given : (D : DeskRelations) (s : State) (p : PlugAt) (o : Option BlockPlace) (block : Option (List ℕ)) → block_now (tape_at s p) ≡ o
    → Gives D.blocks o block → IfSome block IsBlock
    → GivesBlock s p (given_block o block) × IsGiven D (SendPacket p (given_block o block)) × (bytes_of (given_block o block) ≡ block)
unfolding given_block
gives_given D s p None None due f whole = (record { due = sym due; bytes = tt }, tt, refl)
gives_given D s p None (Some bytes) due f whole = absurd f
gives_given D s p (Some place) None due f whole = absurd f
gives_given D s p (Some place) (Some bytes) due f whole = (record { due = sym due; bytes = whole }, f, refl)

mod_twice : (k : ℕ) → k % 256 % 256 ≡ k % 256
mod_twice k = omega arith

-- it is the packet of the run
packet_sends : (D : DeskRelations) (m : Machine) (d channel own : ℕ) (before : List ℕ) (block : Option (List ℕ)) (packet : IsoPacket)
    → Packing D m d channel own before block packet
    → (s : State) → IsGood s → StandsFor m s → HadSent before s
    → (b : Option GivenBlock) × IsGiven D (SendPacket (at_plug d 0) b) × Transition s (SendPacket (at_plug d 0) b) (at_most m.cycle (Some (IsoEntry packet))) s
    × (bytes_of b ≡ block)
packet_sends D m d channel own before block packet x s g st had = (
  b,
  given.1,
  record { found = tt; waits = st.answered; may = record { talks = here.0; gives = given.0 }; out_is = λ i. at_most (st.clock.cycle i) (Some (IsoEntry (same i))); state_is = refl },
  given.2,
)
  where
    p : PlugAt
    p = at_plug d 0

    here : IsTrue (talks s.account p) × ((s.account.settings p).channel ≡ channel)
    here = talks_here m.devices.nodes s d channel g st.devices.nodes st.devices.lingering x.declared x.talks

    tape : tape_of (node_at m.devices.nodes d) ≡ tape_at s p
    tape = tape_same (node_at m.devices.nodes d) s d (s.decks d) g (st.devices.decks.each d x.declared) here.0

    number : own ≡ node_of s.account.latest d
    number = same_Some own (node_of s.account.latest d) (sym x.number ∙ (node_number_is m.devices.nodes s d st.devices.nodes g (talker_on_bus s d g here.0)).0)

    whole : IfSome block IsBlock
    whole = subst (λ (o : Option (List ℕ)). IfSome o IsBlock) (ap (λ (q : IsoPacket). q.block) x.packet_is) x.fits.block

    b : Option GivenBlock
    b = given_block (block_now (tape_at s p)) block

    given : GivesBlock s p b × IsGiven D (SendPacket p b) × (bytes_of b ≡ block)
    given = gives_given D s p (block_now (tape_at s p)) block refl (subst (λ (o : Option Cassette). Gives D.blocks (block_now o) block) tape x.gives) whole

    count : count_at before d % 256 ≡ sent_before s p % 256
    count = ap (λ k. k % 256) (had.each d here.0) ∙ mod_twice (sent_before s p)

    same : packet ≡ stream_packet s p (bytes_of b)
    same =
        let bytes = sym given.2 in
        let at = sym here.1 in
        x.packet_is ∙ (λ i. packet_with (at i) (count i) (number i) (is_fifty (tape i)) (bytes i))

-- it was written, or cut off
pub packet_done : {T E : Type 0} {D : DeskRelations} {m : Machine} {d channel own : ℕ} {before : List ℕ} (old new : Option Recording) (block : Option (List ℕ)) {packet : IsoPacket}
    {a b : Option (List ℕ)} {k l : ℕ} {r : Result T E}
    → Packing D m d channel own before block packet → new ≡ hearing_of channel block old → Written a b r m.cycle m.devices.epoch (Some (IsoEntry packet)) → CountsFaults k l r
    → PerformedWhere (HadSent before) D (SendsHeard d channel old new) m m (between a b k l) r
packet_done {D = D} {m} {d} {channel} {own} {before} old new block {packet} {a} {b} {k} {l} {r} x heard gives faults =
    where_sent m d channel m.cycle old new a b k l (IsoEntry packet) r (λ s g st had.
    let y = packet_sends D m d channel own before block packet x s g st had in (y.0, y.1, y.2, heard ∙ ap (λ (o : Option (List ℕ)). hearing_of channel o old) (sym y.3))) gives faults
