-- A device with a link carries out what a node with one asks.
use Rattle.fw_model_run.proofs.Common.{◌≡◌, ℕ, ◌≤◌, ◌==◌, cond, List, [], ◌∷◌, ◌++◌, Bool, true, false, Option, Some, None, is_some, option_map, refl, sym, subst, arith, IsTrue, ResetEntry, Frame}
use Rattle.fw_model_run.proofs.Common.{DeckState, linked_number}
use Rattle.fw_tape.specs.declared.cassette.Cassette.{Cassette}
use Rattle.fw_tape.specs.declared.row.TapeRow.TheVariants.{Eject, Enter, TransportState, TimeCode}
use Rattle.fw_tape.specs.declared.transport.Transport.{Transport}
use Rattle.fw_tape.specs.declared.transport.Transport.TheVariants.{Stop}
use Rattle.fw_tape.specs.Commands.{row_after}
use Rattle.fw_tape.specs.Motion.{entered, first_frame}
use Rattle.fw_tape.specs.Transports.{same_state}
use Rattle.fw_avc.specs.declared.notify.Kept.{Kept}
use Rattle.fw_avc.specs.declared.notify.Watched.{Watched}
use Rattle.fw_avc.specs.declared.row.UnitRow.TheVariants.{UnitInfo, SubunitInfo, PlugInfo, SetPower, PowerState, VendorDependent}
use Rattle.fw_avc.specs.Replies.{Ruling, Repeat, CarryOut, OfUnit, OfTape, asked, state_after, ruling}
use Rattle.fw_avc.specs.State.{UnitState, with_kept}
use Rattle.fw_node.specs.Fcp.{IsSendable}
use Rattle.fw_model_run.specs.Decks.{after_command}
use Rattle.fw_model_run.specs.Good.{IsLinkedNode, AreLinkedNodes, HasMovedWithin, IsDeck}

-- ---- commands

one_more : (l : Option ResetEntry) (kept : List Kept) (k : Kept) → IsLinkedNode l k.node → AreLinkedNodes l kept → AreLinkedNodes l (kept ++ k ∷ [])
one_more l [] k on h = (on, tt)
one_more l (x ∷ xs) k on h = (h.0, one_more l xs k on h.1)

asked_kept : (l : Option ResetEntry) (u : UnitState) (from : ℕ) (f : Frame) (value : Watched) → IsLinkedNode l from → AreLinkedNodes l u.kept → AreLinkedNodes l (asked u from f value).kept
asked_kept l u from f value on h = go (f.code == 3)
  where
    go : (b : Bool) → AreLinkedNodes l (cond b (with_kept from value u) u).kept
    go true = one_more l u.kept (record { node = from; value = value }) on h
    go false = h

ruled_kept : (l : Option ResetEntry) (u : UnitState) (from : ℕ) (f : Frame) (r : Ruling) → IsLinkedNode l from → AreLinkedNodes l u.kept → AreLinkedNodes l (state_after u from f r).kept
ruled_kept l u from f (Repeat code) on h = h
ruled_kept l u from f (CarryOut (OfUnit UnitInfo)) on h = h
ruled_kept l u from f (CarryOut (OfUnit SubunitInfo)) on h = h
ruled_kept l u from f (CarryOut (OfUnit PlugInfo)) on h = h
ruled_kept l u from f (CarryOut (OfUnit (SetPower p))) on h = h
ruled_kept l u from f (CarryOut (OfUnit PowerState)) on h = asked_kept l u from f _ on h
ruled_kept l u from f (CarryOut (OfUnit VendorDependent)) on h = h
ruled_kept l u from f (CarryOut (OfTape TransportState)) on h = asked_kept l u from f _ on h
ruled_kept l u from f (CarryOut (OfTape TimeCode)) on h = h
ruled_kept l u from f (CarryOut (OfTape Eject)) on h = h
ruled_kept l u from f (CarryOut (OfTape (Enter t))) on h = h

entered_within : (cycle : ℕ) (t : Transport) (c : Cassette) → c.passed ≤ cycle → (entered t c).passed ≤ cycle
entered_within cycle t c h = go (same_state t c.transport)
  where
    go : (b : Bool) → (cond b c (record c { transport = t; start = first_frame t c; passed = 0 })).passed ≤ cycle
    go true = h
    go false = omega arith

all_entered : (cycle : ℕ) (t : Transport) (o : Option Cassette) → HasMovedWithin cycle o → HasMovedWithin cycle (option_map (entered t) o)
all_entered cycle t None h = tt
all_entered cycle t (Some c) h = entered_within cycle t c h

asked_tape : (u : UnitState) (from : ℕ) (f : Frame) (value : Watched) → (asked u from f value).tape ≡ u.tape
asked_tape u from f value = go (f.code == 3)
  where
    go : (b : Bool) → (cond b (with_kept from value u) u).tape ≡ u.tape
    go true = refl
    go false = refl

powered_within : (cycle : ℕ) (on : Bool) (o : Option Cassette) → HasMovedWithin cycle o → HasMovedWithin cycle (cond on o (option_map (entered Stop) o))
powered_within cycle true o h = h
powered_within cycle false o h = all_entered cycle Stop o h

ejected_within : (cycle : ℕ) (o : Option Cassette) → HasMovedWithin cycle o → HasMovedWithin cycle (row_after o (Some Eject))
ejected_within cycle None h = tt
ejected_within cycle (Some c) h = tt

enters_within : (cycle : ℕ) (t : Transport) (o : Option Cassette) → HasMovedWithin cycle o → HasMovedWithin cycle (row_after o (Some (Enter t)))
enters_within cycle t None h = tt
enters_within cycle t (Some c) h = entered_within cycle t c h

time_within : (cycle : ℕ) (o : Option Cassette) → HasMovedWithin cycle o → HasMovedWithin cycle (row_after o (Some TimeCode))
time_within cycle None h = tt
time_within cycle (Some c) h = h

ruled_within : (cycle : ℕ) (u : UnitState) (from : ℕ) (f : Frame) (r : Ruling) → HasMovedWithin cycle u.tape → HasMovedWithin cycle (state_after u from f r).tape
ruled_within cycle u from f (Repeat code) h = h
ruled_within cycle u from f (CarryOut (OfUnit UnitInfo)) h = h
ruled_within cycle u from f (CarryOut (OfUnit SubunitInfo)) h = h
ruled_within cycle u from f (CarryOut (OfUnit PlugInfo)) h = h
ruled_within cycle u from f (CarryOut (OfUnit (SetPower on))) h = powered_within cycle on u.tape h
ruled_within cycle u from f (CarryOut (OfUnit PowerState)) h = subst (HasMovedWithin cycle) (sym (asked_tape u from f _)) h
ruled_within cycle u from f (CarryOut (OfUnit VendorDependent)) h = h
ruled_within cycle u from f (CarryOut (OfTape TransportState)) h = subst (HasMovedWithin cycle) (sym (asked_tape u from f _)) h
ruled_within cycle u from f (CarryOut (OfTape TimeCode)) h = time_within cycle u.tape h
ruled_within cycle u from f (CarryOut (OfTape Eject)) h = ejected_within cycle u.tape h
ruled_within cycle u from f (CarryOut (OfTape (Enter t))) h = enters_within cycle t u.tape h

-- a device with a link carries out what a node with one asks
pub commanded_is : (l : Option ResetEntry) (cycle d from : ℕ) (f response : Frame) (k : DeckState) → IsTrue (is_some (linked_number l d)) → IsLinkedNode l from → IsSendable response
    → IsDeck l cycle d k → IsDeck l cycle d (after_command from f response k)
commanded_is l cycle d from f response k on node sendable h = record {
  kept = ruled_kept l k.unit from f (ruling k.unit f) node h.kept;
  waiting = (node, sendable);
  moved = ruled_within cycle k.unit from f (ruling k.unit f) h.moved;
  off = λ off. absurd (grind (arith, on, off));
}
