-- The units of nodes are the decks of the run, whatever happens to both.
use Rattle.fw_model_run.proofs.Common.{◌≡◌, ℕ, ◌+◌, ◌<◌, ◌≤◌, ◌^◌, ◌==◌, cond, Bool, true, false, Option, Some}
use Rattle.fw_model_run.proofs.Common.{None, is_some, option_map, length, slice_get, refl, ap, sym, subst, ◌∙◌, arith, IsTrue, w32}
use Rattle.fw_model_run.proofs.Common.{DeviceKind, output_plugs_of, input_plugs_of, Request, Frame, spelling, node_of, packet_of, node_number, ResetEntry, NodeRow, same_Some, DeckState, next_frame}
use Rattle.fw_model_run.proofs.Common.{after_frame, frame_packet, response_write, next_told, IsGood, IsLatest, State, number_in, device_in, is_linked, has_deck}
use Rattle.std.proofs.Common.{◌%◌}
use Rattle.std.specs.Int.{from_be_bytes}
use Rattle.fw_terms.specs.Devices.{has_unit}
use Rattle.fw_terms.proofs.KindLaws.{unit_plugs}
use Rattle.fw_csr.specs.declared.request.Request.TheVariants as Asks
use Rattle.fw_async.specs.declared.packet.Packet.TheVariants.{WriteQuadlet, WriteBlock}
use Rattle.fw_tape.specs.declared.cassette.Cassette.{Cassette}
use Rattle.fw_tape.specs.Motion.{MayPass}
use Rattle.fw_avc.specs.State.{first_state as new_unit}
use Rattle.fw_avc.specs.Notices.{notice_of, after_notice}
use Rattle.fw_avc.specs.Laws.{Tells}
use Rattle.fw_avc.proofs.TellLaws.{tells}
use Rattle.fw_node.specs.Fcp as Fcp
use Rattle.fw_node.specs.State as Nodes
use Rattle.fw_node.specs.State.{NodeState}
use Rattle.fw_devices.specs.Decks as Devices
use Rattle.fw_model_run.specs.Decks.{first_deck, after_reset, with_tape, passed, IsAtRest}
use Rattle.fw_model_run.specs.Frames.{write_request}
use Rattle.fw_model_run.specs.Good.{HasMovedWithin}
use Rattle.fw_model_run.specs.Spaces.{script_head}
use Rattle.fw_model_run.specs.Units.{HasDeck, IsAddressed}
use Rattle.fw_model_run.proofs.Decks.{next_linked, rests_quiet}
use Rattle.fw_model_run.proofs.Framing.{told_sendable}
use Rattle.fw_model_run.proofs.Words.{number_of_on}

-- ---- what happens to a node and its deck

pub first_kept : (kind : DeviceKind) (d rate : ℕ) (withheld : Bool) → HasDeck (Nodes.first_state kind d rate withheld) (has_unit kind) first_deck
first_kept kind d rate withheld = record { unit = unit (has_unit kind) refl; waiting = neither (has_unit kind) None }
  where
    unit : (b : Bool) → has_unit kind ≡ b → cond b (Some (new_unit (output_plugs_of kind) (input_plugs_of kind))) None ≡ cond b (Some first_deck.unit) None
    unit true is = let plugs = unit_plugs kind is in λ i. Some (new_unit (plugs.0 i) (plugs.1 i))
    unit false is = refl

    neither : (b : Bool) (o : Option (ℕ × Frame)) → o ≡ cond b o o
    neither true o = refl
    neither false o = refl

pub reset_kept : (number : ℕ) (manager b : Bool) (n : NodeState) (k : DeckState) → HasDeck n b k → HasDeck (Nodes.after_reset number manager n) b (after_reset k)
reset_kept number manager true n k h = record { unit = λ i. (Nodes.after_reset number manager (record n { unit = h.unit i })).unit; waiting = refl }
reset_kept number manager false n k h = record { unit = λ i. (Nodes.after_reset number manager (record n { unit = h.unit i })).unit; waiting = refl }

-- one that is off
pub rest_kept : (b : Bool) (n : NodeState) (k : DeckState) → IsAtRest k → HasDeck n b k → HasDeck n b (after_reset k)
rest_kept b n k r h = subst (HasDeck n b) (sym same) h
  where
    same : after_reset k ≡ k
    same = λ i. record { unit = record k.unit { kept = sym r.kept i }; waiting = sym r.waiting i }

pub second_kept : (b : Bool) (n : NodeState) (k : DeckState) → HasDeck n b k → HasDeck (Nodes.after_second n) b k
second_kept b n k h = record { unit = h.unit; waiting = h.waiting }

pub request_kept : (r : Request) (b : Bool) (n : NodeState) (k : DeckState) → HasDeck n b k → HasDeck (Nodes.after_request (Some r) n) b k
request_kept r b n k h = record { unit = h.unit; waiting = h.waiting }

pub tape_kept : (tape : Option Cassette) (b : Bool) (n : NodeState) (k : DeckState) → HasDeck n b k → HasDeck (Devices.with_tape tape n) b (with_tape tape k)
tape_kept tape true n k h = record { unit = λ i. (Devices.with_tape tape (record n { unit = h.unit i })).unit; waiting = h.waiting }
tape_kept tape false n k h = record { unit = λ i. (Devices.with_tape tape (record n { unit = h.unit i })).unit; waiting = h.waiting }

pub passed_kept : (cycles : ℕ) (b : Bool) (n : NodeState) (k : DeckState) → HasDeck n b k → HasDeck (Devices.passed cycles n) b (passed cycles k)
passed_kept cycles true n k h = record { unit = λ i. (Devices.passed cycles (record n { unit = h.unit i })).unit; waiting = h.waiting }
passed_kept cycles false n k h = record { unit = λ i. (Devices.passed cycles (record n { unit = h.unit i })).unit; waiting = h.waiting }

pub tape_is : (b : Bool) (n : NodeState) (k : DeckState) → HasDeck n b k → Devices.tape_of n ≡ cond b k.unit.tape None
tape_is true n k h = λ i. Devices.tape_of (record n { unit = h.unit i })
tape_is false n k h = λ i. Devices.tape_of (record n { unit = h.unit i })

-- ---- what is sent

-- the node, by what it keeps of the deck
same_node : (b : Bool) (n : NodeState) (k : DeckState) → HasDeck n b k → n ≡ record n { unit = cond b (Some k.unit) None; waiting = cond b k.waiting None }
same_node b n k h = λ i. record n { unit = h.unit i; waiting = h.waiting i }

pub frame_kept : (b : Bool) (n : NodeState) (k : DeckState) → HasDeck n b k → Fcp.next_frame n ≡ cond b (next_frame k) None
frame_kept b n k h = ap Fcp.next_frame (same_node b n k h) ∙ go b
  where
    go : (b : Bool) → Fcp.next_frame (record n { unit = cond b (Some k.unit) None; waiting = cond b k.waiting None }) ≡ cond b (next_frame k) None
    go true = refl
    go false = refl

pub sent_kept : (b : Bool) (n : NodeState) (k : DeckState) → HasDeck n b k → HasDeck (Fcp.after_frame n) b (after_frame k)
sent_kept b n k h = subst (λ (m : NodeState). HasDeck (Fcp.after_frame m) b (after_frame k)) (sym (same_node b n k h)) (go b)
  where
    of : (w : Option (ℕ × Frame)) → HasDeck (Fcp.after_frame (record n { unit = Some k.unit; waiting = w })) true (after_frame (record k { waiting = w }))
    of (Some told) = record { unit = refl; waiting = refl }
    of None = record { unit = refl; waiting = refl }

    go : (b : Bool) → HasDeck (Fcp.after_frame (record n { unit = cond b (Some k.unit) None; waiting = cond b k.waiting None })) b (after_frame k)
    go true = of k.waiting
    go false = record { unit = refl; waiting = refl }

-- a deck that has nothing to send stays as it is
quiet_same : (k : DeckState) → next_frame k ≡ None → after_frame k ≡ k
quiet_same k e = go k.waiting e
  where
    notice : (o : Option (ℕ × Frame)) → notice_of k.unit ≡ o → o ≡ None → after_notice k.unit ≡ k.unit
    notice None is none = (subst (Tells k.unit) is (tells k.unit)).1
    notice (Some told) is none = let no : ⊥ = cc none in absurd no

    go : (w : Option (ℕ × Frame)) → next_frame (record k { waiting = w }) ≡ None → after_frame (record k { waiting = w }) ≡ record k { waiting = w }
    go (Some told) none = let no : ⊥ = cc none in absurd no
    go None none = ap (λ u. record { unit = u; waiting = None }) (notice (notice_of k.unit) refl none)

pub quiet_kept : (b : Bool) (n : NodeState) (k : DeckState) → cond b (next_frame k) None ≡ None → HasDeck n b k → HasDeck (Fcp.after_frame n) b k
quiet_kept true n k e h = subst (HasDeck (Fcp.after_frame n) true) (quiet_same k e) (sent_kept true n k h)
quiet_kept false n k e h = let x = sent_kept false n k h in record { unit = x.unit; waiting = x.waiting }

-- ---- in a good state

told_linked : (s : State) (d : ℕ) (told : ℕ × Frame) → IsGood s → next_told s d ≡ Some told → IsTrue (has_deck s d) × IsTrue (is_linked s d) × (next_frame (s.decks d) ≡ Some told)
told_linked s d told g e = go (has_deck s d) refl (is_linked s d) refl e
  where
    go : (b : Bool) → has_deck s d ≡ b → (c : Bool) → is_linked s d ≡ c → cond b (next_frame (s.decks d)) None ≡ Some told → IsTrue (has_deck s d) × IsTrue (is_linked s d)
        × (next_frame (s.decks d) ≡ Some told)
    go false has c on f = let no : ⊥ = cc f in absurd no
    go true has true on f = (has, on, f)
    go true has false off f = let wrong : None ≡ Some told = sym (rests_quiet (s.decks d) ((g.decks d).off off)) ∙ f in let no : ⊥ = cc wrong in absurd no

-- the node that a device is leads back to it
number_back : (s : State) (d n : ℕ) → IsGood s → device_in s.account.latest n ≡ Some d → node_of s.account.latest d ≡ n
number_back s d n g at = go s.account.latest g.latest at
  where
    go : (o : Option ResetEntry) → IsLatest o s.declared s.account → device_in o n ≡ Some d → node_of o d ≡ n
    go None h e = let no : ⊥ = cc e in absurd no
    go (Some r) h e =
        let number = of (slice_get r.nodes n) refl e in
        same_Some (node_of (Some r) d) n (sym (number_of_on (Some r) d (ap is_some number)) ∙ number)
      where
        of : (o : Option NodeRow) → slice_get r.nodes n ≡ o → option_map (λ (x : NodeRow). x.device) o ≡ Some d → number_in (Some r) d ≡ Some n
        of None is f = let no : ⊥ = cc f in absurd no
        of (Some row) is f = let same : row.device ≡ d = cc f in subst (λ x. node_number r.nodes x ≡ Some n) same (h.1.rows n row is).1

pub addressed : (s : State) (d : ℕ) (told : ℕ × Frame) → IsGood s → next_told s d ≡ Some told → IsAddressed s d told
addressed s d told g e =
    let x = told_linked s d told g e in
    let node = next_linked s.account.latest s.clock.cycle d (s.decks d) told (g.decks d) x.2 in
    record { deck = x.0; on = x.1; to = node.0; addressee = node.1; linked = node.2; node = number_back s node.0 told.0 g node.1; sendable = told_sendable s d told g e }

may_move : (cycle n : ℕ) (o : Option Cassette) → HasMovedWithin cycle o → cycle + n ≤ 2 ^ 52 → MayPass n o
may_move cycle n None h low = tt
may_move cycle n (Some c) h low = λ moving. omega (arith, h, low)

pub may_pass : (s : State) (n d : ℕ) → IsGood s → s.clock.cycle + n ≤ 2 ^ 52 → MayPass n (s.decks d).unit.tape
may_pass s n d g low = may_move s.clock.cycle n (s.decks d).unit.tape (g.decks d).moved low

-- ---- the packets of frames

pub packet_same : (s : State) (d to : ℕ) (told : ℕ × Frame) → node_of s.account.latest d < 64 → node_of s.account.latest to ≡ told.0 → told.0 < 64
    → Fcp.frame_packet (node_of s.account.latest d) told ≡ frame_packet s (response_write d to told.1)
packet_same s d to told few node low =
    go (length (spelling told.1) == 4) ∙ ap (λ h. packet_of h (write_request 0xFFFF_F000_0D00 (spelling told.1))) head
  where
    from : ℕ
    from = node_of s.account.latest d

    head : Fcp.frame_head from told.0 ≡ script_head (node_of s.account.latest to) from
    head =
        let own : from % 64 ≡ from = omega (arith, few) in
        let other : told.0 % 64 ≡ node_of s.account.latest to = omega (arith, node, low) in
        λ i. record { destination = 0xFFC0 + other i; tl = 1; rt = 1; pri = 0; source = 0xFFC0 + own i }

    go : (b : Bool) → (cond b (WriteQuadlet (Fcp.frame_head from told.0) 0xFFFF_F000_0D00 (from_be_bytes w32 (spelling told.1)))
        (WriteBlock (Fcp.frame_head from told.0) 0xFFFF_F000_0D00 (spelling told.1)))
        ≡ packet_of (Fcp.frame_head from told.0) (cond b (Asks.Write 0xFFFF_F000_0D00 (from_be_bytes w32 (spelling told.1))) (Asks.WriteBlock 0xFFFF_F000_0D00 (spelling told.1)))
    go true = refl
    go false = refl
