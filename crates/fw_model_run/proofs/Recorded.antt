-- What a deck records in a cycle is a block of the one plug that talks on the channel that it hears.
use Rattle.fw_model_run.proofs.Common.{◌≡◌, ℕ, ◌+◌, ◌==◌, ◌&&◌, ◌++◌, ◌⊎◌, inl, inr, cond, List, [], ◌∷◌, Bool, true, false, Option, Some, None, refl, ap, sym, subst, ◌∙◌, append_assoc, arith, IsTrue}
use Rattle.fw_model_run.proofs.Common.{nat_tests, same_Some, PlugAt, at_plug, Async, Iso, Timed, talks, Action}
use Rattle.fw_model_run.proofs.Common.{Pass, EndSecond, StartCycle, SendPacket, KeepBlock, Transition, Transitions, next_cycle, SendsPackets}
use Rattle.fw_model_run.proofs.Common.{DeskRelations, IsGiven, AreGiven, at_cycle, IsGood, heard_in, State, GivenBlock, GivesBlock, bytes_of, cycle_start, tape_at, stream_packet, talkers}
use Rattle.std.specs.Option.{option_or}
use Rattle.fw_model_account.specs.Sound.{IsConflictFree}
use Rattle.fw_model_account.proofs.Shared.{is_conflict_free}
use Rattle.fw_tape.specs.Blocks.{block_now}
use Rattle.fw_model_run.specs.Carrying.{WritesCycle, KeepsCycle}
use Rattle.fw_model_run.specs.Recorded.{IsHeardFrom, IsRecorded}
use Rattle.fw_model_run.specs.Recording.{block_among, records, heard_by}
use Rattle.fw_model_run.proofs.Counting.{packets_are}
use Rattle.fw_model_run.proofs.Given.{given_append}
use Rattle.fw_model_run.proofs.Steps.{steps_good}

-- ---- the packets of a cycle

-- one of the plugs that send has sent this block on the channel
record Sent (D : DeskRelations) (s : State) (channel : ℕ) (bytes : List ℕ) : Type 0 where
  plug : PlugAt
  block : GivenBlock
  talks_ : IsTrue (talks s.account plug)
  channel_is : (s.account.settings plug).channel ≡ channel
  due : Some block.place ≡ block_now (tape_at s plug)
  bytes_are : block.bytes ≡ bytes
  given : D.blocks block.place.tape block.place.frame block.place.block bytes

-- either the packet has it, or a later one
or_later : (b : Bool) (o later : Option (List ℕ)) (bytes : List ℕ) → option_or (cond b o None) later ≡ Some bytes → ((b ≡ true) × (o ≡ Some bytes)) ⊎ (later ≡ Some bytes)
or_later true (Some x) later bytes e = inl (refl, e)
or_later true None later bytes e = inr e
or_later false o later bytes e = inr e

one_sent : (D : DeskRelations) (s : State) (p : PlugAt) (block : Option GivenBlock) (channel : ℕ) (bytes : List ℕ) → IsTrue (talks s.account p) → GivesBlock s p block → IsGiven D (SendPacket p block)
    → (s.account.settings p).channel ≡ channel → bytes_of block ≡ Some bytes → Sent D s channel bytes
one_sent D s p None channel bytes on gives given at is = absurd (let wrong : None ≡ Some bytes = is in cc wrong)
one_sent D s p (Some b) channel bytes on gives given at is =
    let same : b.bytes ≡ bytes = same_Some b.bytes bytes is in
    record { plug = p; block = b; talks_ = on; channel_is = at; due = gives.due; bytes_are = same; given = subst (D.blocks b.place.tape b.place.frame b.place.block) same given }

sent_by : (D : DeskRelations) (plugs : List PlugAt) (s : State) (xs : List Action) (out : List Timed) (t : State) (channel : ℕ) (bytes : List ℕ) → SendsPackets plugs s xs out t → AreGiven D xs
    → block_among channel out ≡ Some bytes → Sent D s channel bytes
sent_by D [] s xs out t channel bytes f given e = absurd (let wrong : None ≡ Some bytes = sym (ap (block_among channel) f.1) ∙ e in cc wrong)
sent_by D (p ∷ plugs) s xs out t channel bytes f given e = go (sent_by D plugs f.1 f.2 f.4 t channel bytes f.6 gives.1)
    (or_later ((s.account.settings p).channel == channel) (bytes_of f.0) (block_among channel f.4) bytes (sym (ap (block_among channel) (f.8 ∙ ap (λ z. z ++ f.4) one)) ∙ e))
  where
    x : Transition s (SendPacket p f.0) f.5.0 f.5.2
    x = f.5.3

    packet : Timed
    packet = at_cycle s.clock.cycle (Iso (stream_packet s p (bytes_of f.0)))

    one : f.3 ≡ packet ∷ []
    one = f.5.4 ∙ (ap (λ z. z ++ f.5.1) x.out_is ∙ ap (λ z. packet ∷ z) f.5.5.0)

    same : f.1 ≡ s
    same = f.5.5.1 ∙ x.state_is

    gives : IsGiven D (SendPacket p f.0) × AreGiven D f.2
    gives = subst (AreGiven D) f.7 given

    go : (block_among channel f.4 ≡ Some bytes → Sent D f.1 channel bytes) → (((s.account.settings p).channel == channel) ≡ true) × (bytes_of f.0 ≡ Some bytes) ⊎ (block_among channel f.4 ≡ Some bytes)
        → Sent D s channel bytes
    go later (inl h) = let t = h.0 in one_sent D s p f.0 channel bytes x.may.talks x.may.gives gives.0 (grind (arith, nat_tests, t)) h.1
    go later (inr h) = subst (λ z. Sent D z channel bytes) same (later h)

-- ---- what comes before them

-- an entry that is no packet of a stream
comes_quiet : (s : State) (out : List Timed) (t : State) (channel : ℕ) (rest : List Timed) → Transition s (next_cycle s) out t → block_among channel (out ++ rest) ≡ block_among channel rest
comes_quiet s out t channel rest = go (s.account.reclaiming && (s.clock.cycle + 1 == s.clock.over_at))
  where
    go : (b : Bool) → Transition s (cond b EndSecond (Pass 1)) out t → block_among channel (out ++ rest) ≡ block_among channel rest
    go true x = ap (λ z. block_among channel (z ++ rest)) x.out_is
    go false x = ap (λ z. block_among channel (z ++ rest)) x.out_is

pub begins_quiet : (s : State) (first : List Timed) (mid : State) (channel : ℕ) (rest : List Timed) → Transitions s (next_cycle s ∷ StartCycle ∷ []) first mid
    → block_among channel (first ++ rest) ≡ block_among channel rest
begins_quiet s first mid channel rest f =
    let start = f.5.3.out_is in
    let tail : f.1 ≡ f.5.0 ++ f.5.1 = f.5.4 in
    ap (λ z. block_among channel (z ++ rest)) f.4
    ∙ (ap (block_among channel) (append_assoc f.0 f.1 rest)
    ∙ (comes_quiet s f.0 f.2 channel (f.1 ++ rest) f.3
    ∙ (ap (λ z. block_among channel (z ++ rest)) (tail ∙ (ap (λ z. z ++ f.5.1) start ∙ ap (λ z. at_cycle f.2.clock.cycle (Async (cycle_start f.5.3.found.root f.2.clock.cycle)) ∷ z) f.5.5.0)))))

-- ---- a cycle

heard_from : (D : DeskRelations) (s : State) (actions : List Action) (out : List Timed) (t : State) (channel : ℕ) (bytes : List ℕ) → IsGood s → WritesCycle s actions out t → AreGiven D actions
    → block_among channel out ≡ Some bytes → IsHeardFrom D t channel bytes
heard_from D s actions out t channel bytes g f given e = subst (λ z. IsHeardFrom D z channel bytes) (sym stays) (record {
  plug = x.plug;
  block = x.block;
  sends = x.talks_;
  channel_is = x.channel_is;
  only = λ q on at. free.one_talker q x.plug on x.talks_ (at ∙ sym x.channel_is);
  due = x.due;
  bytes_are = x.bytes_are;
  given = x.given;
})
  where
    gives : AreGiven D f.packets
    gives = (subst (AreGiven D) f.actions_are given).1.1

    among : block_among channel f.last ≡ Some bytes
    among = sym (ap (block_among channel) f.out_is ∙ begins_quiet s f.first f.mid channel f.last f.comes) ∙ e

    x : Sent D f.mid channel bytes
    x = sent_by D (talkers f.mid.account) f.mid f.packets f.last t channel bytes f.sends gives among

    stays : t ≡ f.mid
    stays = (packets_are (talkers f.mid.account) f.mid f.packets f.last t f.sends).1

    good : IsGood f.mid
    good = steps_good s f.mid (next_cycle s ∷ StartCycle ∷ []) f.first g f.comes

    free : IsConflictFree f.mid.account
    free = is_conflict_free f.mid.account good.reclaims.step.sound

-- a block that goes onto the reel in a cycle
pub recorded : (D : DeskRelations) (s : State) (actions : List Action) (out : List Timed) (t : State) (bytes : List ℕ) → IsGood s → (f : KeepsCycle s actions out t) → AreGiven D actions
    → heard_in f.sent out ≡ Some bytes → IsRecorded D f.sent bytes
recorded D s actions out t bytes g f given e = go f.sent.dub.tied refl e
  where
    gives : AreGiven D f.written
    gives = (given_append D f.written (KeepBlock (heard_in f.sent out) ∷ []) (subst (AreGiven D) f.actions_are given)).0

    of_device : (d : ℕ) → f.sent.dub.tied ≡ Some d → (b : Bool) → records f.sent d ≡ b → cond b (block_among (f.sent.account.input_channel (at_plug d 0)) out) None ≡ Some bytes
        → IsRecorded D f.sent bytes
    of_device d is true on h = record { device = d; tied = is; on = on; heard = heard_from D s f.written out f.sent (f.sent.account.input_channel (at_plug d 0)) bytes g f.writes gives h }
    of_device d is false off h = absurd (let wrong : None ≡ Some bytes = h in cc wrong)

    go : (o : Option ℕ) → f.sent.dub.tied ≡ o → heard_by f.sent o out ≡ Some bytes → IsRecorded D f.sent bytes
    go None is h = absurd (let wrong : None ≡ Some bytes = h in cc wrong)
    go (Some d) is h = of_device d is (records f.sent d) refl h
