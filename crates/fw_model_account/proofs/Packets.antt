-- A request, a response and its move keep the account sound.
use Rattle.fw_model_account.proofs.Common.{PlugAt, Head, LockReply, ResetEntry, NodeRow, ◌≡◌, ℕ, ◌-◌, ◌<◌, ◌==◌, ◌&&◌, Bool, true, false, Option, Some, None, refl, ◌∙◌, arith, cond, nat_tests, update}
use Rattle.fw_model_account.proofs.Common.{Account, Locks, Pending, device_of_id, Move, after, Register, register_of, move_at, ended, IsSound}
use Rattle.fw_async.specs.declared.packet.Packet.{Packet}
use Rattle.fw_async.specs.declared.packet.Packet.TheVariants.{WriteQuadlet, WriteBlock, WriteReply, ReadQuadlet, ReadBlock, ReadQuadletReply, ReadBlockReply, CycleStart, Lock}
use Rattle.std.proofs.Common.{nat_le, is_none, option_map}
use Rattle.fw_words.specs.Quadlet.{quadlet_at}
use Rattle.fw_model_account.specs.Account.{Operation, Reads, Request, has_pending}
use Rattle.fw_log_entry.specs.Network.{HasRange, first_id, row_of_node, row_of_id}
use Rattle.fw_model_account.specs.Words.{output_addressed}
use Rattle.fw_model_account.specs.Packets.{addressed_after, asked, asked_by, Reply, Read, Locked, is_reply_to, is_swapped}
use Rattle.fw_model_account.specs.Packets.{moved, swapped, replied, replied_to, answered, after_request, after_reply, after_packet}
use Rattle.fw_model_account.proofs.Network.{not_both}
use Rattle.fw_model_account.proofs.Moves.{moves_keep}
use Rattle.fw_model_account.proofs.Tests.{none_pending}
use Rattle.fw_model_account.proofs.Decoded.{move_at_is}

-- ---- requests

-- outstanding requests, and which plug was last addressed if nothing is held, are not looked at
other_requests : (l : Account) (outstanding : ℕ → Option Request) (addressed : ℕ → Option PlugAt)
    → ((c ch : ℕ) (p : PlugAt) (u : ℕ) → l.allocations ch ≡ Some (record { holder = Pending c p; units = u }) → addressed c ≡ l.addressed c)
    → (l.latest ≡ None → ((d : ℕ) → addressed d ≡ None) × ((d : ℕ) → outstanding d ≡ None)) → IsSound l → IsSound (record l { addressed = addressed; outstanding = outstanding })
other_requests l outstanding addressed same first s = record {
  load = s.load;
  bounded = s.bounded;
  allocated = s.allocated;
  connected = s.connected;
  one_pending = s.one_pending;
  for_addressed = λ c ch p u e. same c ch p u e ∙ s.for_addressed c ch p u e;
  reclaimable_once = s.reclaimable_once;
  reclaimable_load = s.reclaimable_load;
  reclaimable_bounded = s.reclaimable_bounded;
  reclaimable_ends = s.reclaimable_ends;
  begins = λ e. let b = s.begins e in record {
    no_second = b.no_second;
    allocations = b.allocations;
    outputs = b.outputs;
    inputs = b.inputs;
    continues = b.continues;
    addressed = (first e).0;
    outstanding = (first e).1;
  };
  there = s.there;
  inputs_there = s.inputs_there;
  continuing = s.continuing;
  reclaimed = s.reclaimed;
  counts = s.counts;
  controllers = s.controllers;
  range = s.range;
  settings_fit = s.settings_fit;
  channels_fit = s.channels_fit;
  withheld_unallocated = s.withheld_unallocated;
  withheld_unclaimed = s.withheld_unclaimed;
}

pub asked_keeps : (c : ℕ) (request : Request) (l : Account) → (l.latest ≡ None → ⊥) → IsSound l → IsSound (asked c request l)
asked_keeps c request l started s = other_requests l _ _ (same (output_addressed l.latest request.target request.address)) (λ e. absurd (started e)) s
  where
    other : (b : Bool) → has_pending c l.allocations ≡ b → (q : PlugAt) (d ch : ℕ) (p : PlugAt) (u : ℕ) → l.allocations ch ≡ Some (record { holder = Pending d p; units = u })
        → cond b l.addressed (update l.addressed c (Some q)) d ≡ l.addressed d
    other true b q d ch p u e = refl
    other false b q d ch p u e = let own = none_pending l c s b ch in grind (arith, nat_tests, own, e)

    same : (o : Option PlugAt) (d ch : ℕ) (p : PlugAt) (u : ℕ) → l.allocations ch ≡ Some (record { holder = Pending d p; units = u }) → addressed_after c o l d ≡ l.addressed d
    same None d ch p u e = refl
    same (Some q) d ch p u e = other (has_pending c l.allocations) refl q d ch p u e

pub ended_keeps : (c : ℕ) (l : Account) → IsSound l → IsSound (ended c l)
ended_keeps c l s = other_requests l _ l.addressed (λ d ch p u e. refl) (λ e. ((s.begins e).addressed, λ d. let n = (s.begins e).outstanding d in grind (arith, nat_tests))) s

-- ---- nodes

-- a node's device has a number below 63, and there is a reset entry
row_device : (o : Option NodeRow) (c : ℕ) → option_map (λ (row : NodeRow). row.device) o ≡ Some c → (row : NodeRow) × (o ≡ Some row) × (row.device ≡ c)
row_device None c e = absurd (not_both None c refl e)
row_device (Some row) c e = (row, refl, cc)

row_of_id_is : (latest : Option ResetEntry) (id : ℕ) (row : NodeRow) → row_of_id latest id ≡ Some row → row_of_node latest (id - first_id) ≡ Some row
row_of_id_is latest id row e = go (nat_le first_id id) e
  where
    go : (b : Bool) → cond b (row_of_node latest (id - first_id)) None ≡ Some row → row_of_node latest (id - first_id) ≡ Some row
    go true f = f
    go false f = absurd (not_both None row refl f)

pub device_below : (latest : Option ResetEntry) (id c : ℕ) → HasRange latest → device_of_id latest id ≡ Some c → c < 63
device_below latest id c range e =
    let r = row_device (row_of_id latest id) c e in
    let d = (range (id - first_id) r.0 (row_of_id_is latest id r.0 r.1)).0 in
    rw (← r.2) d

pub device_started : (latest : Option ResetEntry) (id c : ℕ) → device_of_id latest id ≡ Some c → latest ≡ None → ⊥
device_started None id c e n = let r = row_device (row_of_id None id) c e in not_both None r.0 refl (row_of_id_is None id r.0 r.1)
device_started (Some r) id c e n = cc

-- ---- packets

request_keeps : (h : Head) (address : ℕ) (operation : Operation) (l m : Account) → IsSound l → after_request h address operation l ≡ Some m → IsSound m
request_keeps h address operation l m s e = go (h.tl == 0) e
  where
    request : Request
    request = record { target = h.destination; address = address; operation = operation }

    free : (c : ℕ) (b : Bool) → device_of_id l.latest h.source ≡ Some c → cond b (Some (asked c request l)) None ≡ Some m → IsSound m
    free c true d f = let same : asked c request l ≡ m = cc in rw (← same) (asked_keeps c request l (device_started l.latest h.source c d) s)
    free c false d f = absurd (not_both None m refl f)

    by : (o : Option ℕ) → device_of_id l.latest h.source ≡ o → asked_by o request l ≡ Some m → IsSound m
    by None d f = absurd (not_both None m refl f)
    by (Some c) d f = free c (is_none (l.outstanding c)) d f

    go : (b : Bool) → cond b (asked_by (device_of_id l.latest h.source) request l) (Some l) ≡ Some m → IsSound m
    go true f = by (device_of_id l.latest h.source) refl f
    go false f = let same : l ≡ m = cc in rw (← same) s

ended_is : (c : ℕ) (l m : Account) → IsSound l → Some (ended c l) ≡ Some m → IsSound m
ended_is c l m s e = let same : ended c l ≡ m = cc in rw (← same) (ended_keeps c l s)

swapped_keeps : (c : ℕ) (o : Option Register) (arg new : ℕ) (l m : Account) → c < 63 → IsSound l → swapped c o arg new l ≡ Some m → IsSound m
swapped_keeps c None arg new l m lt s e = ended_is c l m s e
swapped_keeps c (Some register) arg new l m lt s e = go (move_at l c register arg new) refl e
  where
    go : (o : Option (PlugAt × Move)) → move_at l c register arg new ≡ o → moved c o l ≡ Some m → IsSound m
    go None f g = absurd (not_both None m refl g)
    go (Some k) f g = ended_is c (after c k.0 k.1 l) m (moves_keep c k.0 k.1 l lt s (move_at_is l c register arg new k.0 k.1 s f).can) g

replied_keeps : (c : ℕ) (request : Request) (operation : Operation) (reply : Reply) (l m : Account) → c < 63 → IsSound l → replied c request operation reply l ≡ Some m → IsSound m
replied_keeps c request Reads reply l m lt s e = ended_is c l m s e
replied_keeps c request (Locks function bytes) Read l m lt s e = ended_is c l m s e
replied_keeps c request (Locks function bytes) (Locked f rcode old) l m lt s e = go (is_swapped function bytes rcode old) e
  where
    go : (b : Bool) → cond b (swapped c (register_of l.latest request.target request.address) (quadlet_at bytes 0) (quadlet_at bytes 4) l) (Some (ended c l)) ≡ Some m → IsSound m
    go true f = swapped_keeps c (register_of l.latest request.target request.address) (quadlet_at bytes 0) (quadlet_at bytes 4) l m lt s f
    go false f = ended_is c l m s f

reply_keeps : (h : Head) (reply : Reply) (l m : Account) → IsSound l → after_reply h reply l ≡ Some m → IsSound m
reply_keeps h reply l m s e = go (h.tl == 0) e
  where
    to : (c : ℕ) (o : Option Request) → c < 63 → replied_to c o h.source reply l ≡ Some m → IsSound m
    to c None lt f = absurd (not_both None m refl f)
    to c (Some request) lt f = one ((request.target == h.source) && is_reply_to request.operation reply) f
      where
        one : (b : Bool) → cond b (replied c request request.operation reply l) None ≡ Some m → IsSound m
        one true g = replied_keeps c request request.operation reply l m lt s g
        one false g = absurd (not_both None m refl g)

    by : (o : Option ℕ) → device_of_id l.latest h.destination ≡ o → answered o h.source reply l ≡ Some m → IsSound m
    by None d f = absurd (not_both None m refl f)
    by (Some c) d f = to c (l.outstanding c) (device_below l.latest h.destination c s.range d) f

    go : (b : Bool) → cond b (answered (device_of_id l.latest h.destination) h.source reply l) (Some l) ≡ Some m → IsSound m
    go true f = by (device_of_id l.latest h.destination) refl f
    go false f = let same : l ≡ m = cc in rw (← same) s

pub unchanged : (l m : Account) → IsSound l → Some l ≡ Some m → IsSound m
unchanged l m s e = let same : l ≡ m = cc in rw (← same) s

pub packet_keeps : (p : Packet) (l m : Account) → IsSound l → after_packet p l ≡ Some m → IsSound m
packet_keeps (WriteQuadlet h offset value) l m s e = unchanged l m s e
packet_keeps (WriteBlock h offset bytes) l m s e = unchanged l m s e
packet_keeps (WriteReply h rcode) l m s e = unchanged l m s e
packet_keeps (ReadQuadlet h offset) l m s e = request_keeps h offset Reads l m s e
packet_keeps (ReadBlock h offset len) l m s e = unchanged l m s e
packet_keeps (ReadQuadletReply h rcode value) l m s e = reply_keeps h Read l m s e
packet_keeps (ReadBlockReply h rcode bytes) l m s e = unchanged l m s e
packet_keeps (CycleStart h offset time) l m s e = unchanged l m s e
packet_keeps (Lock h offset function bytes) l m s e = request_keeps h offset (Locks function bytes) l m s e
packet_keeps (LockReply h rcode function bytes) l m s e = reply_keeps h (Locked function rcode bytes) l m s e
