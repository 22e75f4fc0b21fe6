-- The tests of what a move asks say what it asks.
use Rattle.fw_model_account.proofs.Common.{PlugAt, ConnectionKind, PointToPoint, Broadcast, ◌≡◌, ◌<◌, ℕ, nat_lt, Bool, true, false}
use Rattle.fw_model_account.proofs.Common.{not, ◌&&◌, ◌==◌, Option, Some, None, is_some, refl, sym, ◌∙◌, true≢false}
use Rattle.fw_model_account.proofs.Common.{arith, nat_tests, false≢true, Pending, Connected, Allocation, Connections, Account}
use Rattle.fw_model_account.proofs.Common.{is_open, is_there, is_pending, has_connection, units_of, Move, AllocateChannel}
use Rattle.fw_model_account.proofs.Common.{AllocateUnits, ConnectFirst, ConnectOverlaid, ConnectInput, DisconnectInput, DisconnectOutput, ReleaseUnits, ReleaseChannel, Can, HasRoom, HasConnection}
use Rattle.fw_model_account.proofs.Common.{drop_connection, is_output, IsSound}
use Rattle.std.proofs.Common.{◌||◌}
use Rattle.fw_terms.specs.Tables.{same_plug}
use Rattle.fw_terms.proofs.Tables.{same_plug-true, same_plug_self, find_to_is, IsFirst}
use Rattle.fw_model_account.specs.Account.{Holder, Orphaned, Owner, Of, Dead, Flow}
use Rattle.fw_model_account.specs.Account.{is_free, is_pending_of, plug_of, pending_channel, has_pending}
use Rattle.fw_model_account.specs.Moves.{HasNoPending}
use Rattle.fw_model_account.specs.Decode.{is_plug, is_flow_of, is_flow, is_held, is_owner, has_room, has_connection_of, can}

pub is_plug-true : (p : PlugAt) (o : Option PlugAt) → is_plug p o ≡ true → o ≡ Some p
is_plug-true p None e = absurd (false≢true e)
is_plug-true p (Some q) e = grind (arith, same_plug-true q p)

pub is_flow_of-true : (p : PlugAt) (o : Option Flow) → is_flow_of p o ≡ true → (u : ℕ) × (o ≡ Some (record { plug = p; units = u }))
is_flow_of-true p None e = absurd (false≢true e)
is_flow_of-true p (Some f) e = (f.units, grind (arith, same_plug-true f.plug p))

pub is_flow-true : (p : PlugAt) (u : ℕ) (o : Option Flow) → is_flow p u o ≡ true → o ≡ Some (record { plug = p; units = u })
is_flow-true p u None e = absurd (false≢true e)
is_flow-true p u (Some f) e = grind (arith, nat_tests, same_plug-true f.plug p)

pub is_held-true : (c : ℕ) (p : PlugAt) (u : ℕ) (o : Option Allocation) → is_held c p u o ≡ true → o ≡ Some (record { holder = Pending c p; units = u })
is_held-true c p u None e = absurd (false≢true e)
is_held-true c p u (Some x) e = grind (arith, nat_tests, go x.holder)
  where
    go : (h : Holder) → (is_pending_of c h && same_plug (plug_of h) p) ≡ true → h ≡ Pending c p
    go (Pending d q) t = grind (arith, nat_tests, same_plug-true q p)
    go (Connected q) t = absurd (false≢true t)
    go (Orphaned q) t = absurd (false≢true t)

is_owner-true : (c : ℕ) (o : Option Owner) → is_owner c o ≡ true → o ≡ Some (Of c)
is_owner-true c None e = absurd (false≢true e)
is_owner-true c (Some (Of d)) e = grind (arith, nat_tests)
is_owner-true c (Some Dead) e = absurd (false≢true e)

no_owner : (o : Option Owner) → not (is_there o) ≡ true → o ≡ None
no_owner None e = refl
no_owner (Some o) e = absurd (false≢true e)

pub has_room-true : (kind : ConnectionKind) (s : Connections) → has_room kind s ≡ true → HasRoom kind s
has_room-true PointToPoint s e = grind (arith, nat_tests)
has_room-true Broadcast s e = no_owner s.broadcast e

pub has_connection_of-true : (c : ℕ) (kind : ConnectionKind) (s : Connections) → has_connection_of c kind s ≡ true → HasConnection c kind s
has_connection_of-true c PointToPoint s e = grind (arith, nat_tests)
has_connection_of-true c Broadcast s e = is_owner-true c s.broadcast e

pub is_free-true : (o : Option Allocation) → is_free o ≡ true → o ≡ None
is_free-true None e = refl
is_free-true (Some x) e = absurd (false≢true e)

-- no Pending allocation is found, if there is none
pub none_pending : (l : Account) (c : ℕ) → IsSound l → has_pending c l.allocations ≡ false → HasNoPending c l.allocations
none_pending l c s e = λ ch. go ch (pending_channel c l.allocations) (find_to_is 64 (λ k. is_pending c (l.allocations k))) e (l.allocations ch) refl
  where
    go : (ch : ℕ) (o : Option ℕ) → IsFirst 64 (λ k. is_pending c (l.allocations k)) o → is_some o ≡ false → (x : Option Allocation) → l.allocations ch ≡ x → is_pending c (l.allocations ch) ≡ false
    go ch (Some k) f e x at = absurd (true≢false e)
    go ch None f e None at = rw at refl
    go ch None f e (Some x) at = f ch (s.bounded ch x at)

all_five : (a b c d e : Bool) → (a && b && c && d && e) ≡ true → (a ≡ true) × (b ≡ true) × (c ≡ true) × (d ≡ true) × (e ≡ true)
all_five a b c d e h = (grind arith, grind arith, grind arith, grind arith, grind arith)

below_is : (n k : ℕ) → nat_lt n k ≡ true → n < k
below_is n k e = grind (arith, nat_tests)

not_is : (b : Bool) → not b ≡ true → b ≡ false
not_is b e = grind arith

then_is : (a b : Bool) → (not a || b) ≡ true → a ≡ true → b ≡ true
then_is a b e t = grind arith

pub can_is : (c : ℕ) (p : PlugAt) (m : Move) (l : Account) → IsSound l → can c p m l ≡ true → Can c p m l
can_is c p (AllocateChannel ch) l s e =
    let all = all_five (is_plug p (l.addressed c)) (nat_lt ch 64) (is_open l.withheld l.allocations ch) (not (has_pending c l.allocations)) (not l.reclaiming || is_flow_of p (l.reclaimable ch)) e in
    record {
      addressed = is_plug-true p (l.addressed c) all.0;
      within = below_is ch 64 all.1;
      available = all.2;
      no_pending = none_pending l c s (not_is (has_pending c l.allocations) all.3);
      reclaims = λ t. is_flow_of-true p (l.reclaimable ch) (then_is l.reclaiming (is_flow_of p (l.reclaimable ch)) all.4 t);
    }
can_is c p (AllocateUnits ch u) l s e = record {
  addressed = is_plug-true p (l.addressed c) (grind arith);
  within = grind (arith, nat_tests);
  some = grind (arith, nat_tests);
  fits = grind (arith, nat_tests);
  channel = is_held-true c p 0 (l.allocations ch) (grind arith);
  reclaims = λ t. is_flow-true p u (l.reclaimable ch) (grind arith);
}
can_is c p (ConnectFirst kind ch overhead) l s e =
    let u : ℕ = units_of (record { channel = ch; rate = (l.settings p).rate; overhead = overhead }) in
    let all = all_five (is_output l.latest p) (not (has_connection (l.outputs p))) (nat_lt ch 64) (nat_lt overhead 16) (is_held c p u (l.allocations ch)) e in
    record {
      is_plug = all.0;
      empty = not_is (has_connection (l.outputs p)) all.1;
      within = below_is ch 64 all.2;
      small = below_is overhead 16 all.3;
      held = is_held-true c p u (l.allocations ch) all.4;
    }
can_is c p (ConnectOverlaid kind) l s e = record { connected = grind arith; room = has_room-true kind (l.outputs p) (grind arith) }
can_is c p (ConnectInput kind ch) l s e = record {
  is_plug = grind arith;
  within = grind (arith, nat_tests);
  room = has_room-true kind (l.inputs p) (grind arith);
  stays = λ t. grind (arith, nat_tests);
}
can_is c p (DisconnectInput kind) l s e = record { has = has_connection_of-true c kind (l.inputs p) e }
can_is c p (DisconnectOutput kind) l s e = record {
  has = has_connection_of-true c kind (l.outputs p) (grind arith);
  last = λ gone. (none_pending l c s (grind arith), is_plug-true p (l.addressed c) (grind arith));
}
can_is c p (ReleaseUnits ch u) l s e = record {
  addressed = is_plug-true p (l.addressed c) (grind arith);
  within = grind (arith, nat_tests);
  some = grind (arith, nat_tests);
  held = is_held-true c p u (l.allocations ch) (grind arith);
}
can_is c p (ReleaseChannel ch) l s e = record { within = grind (arith, nat_tests); held = is_held-true c p 0 (l.allocations ch) (grind arith) }

-- ---- and what holds passes its test

pub is_plug_self : (p : PlugAt) (o : Option PlugAt) → o ≡ Some p → is_plug p o ≡ true
is_plug_self p o e = rw e (same_plug_self p)

pub is_flow_of_self : (p : PlugAt) (u : ℕ) (o : Option Flow) → o ≡ Some (record { plug = p; units = u }) → is_flow_of p o ≡ true
is_flow_of_self p u o e = rw e (same_plug_self p)

pub is_flow_self : (p : PlugAt) (u : ℕ) (o : Option Flow) → o ≡ Some (record { plug = p; units = u }) → is_flow p u o ≡ true
is_flow_self p u o e = rw e (grind (arith, nat_tests, same_plug_self p))

pub is_held_self : (c : ℕ) (p : PlugAt) (u : ℕ) (o : Option Allocation) → o ≡ Some (record { holder = Pending c p; units = u }) → is_held c p u o ≡ true
is_held_self c p u o e = rw e (grind (arith, nat_tests, same_plug_self p))

pub has_room_from : (kind : ConnectionKind) (s : Connections) → HasRoom kind s → has_room kind s ≡ true
has_room_from PointToPoint s h = grind (arith, nat_tests)
has_room_from Broadcast s h = rw h refl

pub has_connection_of_from : (c : ℕ) (kind : ConnectionKind) (s : Connections) → HasConnection c kind s → has_connection_of c kind s ≡ true
has_connection_of_from c PointToPoint s h = grind (arith, nat_tests)
has_connection_of_from c Broadcast s h = rw h (grind (arith, nat_tests))

pub no_pending_found : (l : Account) (c : ℕ) → HasNoPending c l.allocations → has_pending c l.allocations ≡ false
no_pending_found l c none = go (pending_channel c l.allocations) (find_to_is 64 (λ k. is_pending c (l.allocations k)))
  where
    go : (o : Option ℕ) → IsFirst 64 (λ k. is_pending c (l.allocations k)) o → is_some o ≡ false
    go None f = refl
    go (Some k) f = absurd (true≢false (sym f.1 ∙ none k))

-- a test beside one that fails
pub either : (a b : Bool) → (a ≡ true → b ≡ true) → (not a || b) ≡ true
either true b h = h refl
either false b h = refl

pub or_else : (a b : Bool) → (a ≡ false → b ≡ true) → (a || b) ≡ true
or_else true b h = refl
or_else false b h = h refl

pub can_from : (c : ℕ) (p : PlugAt) (m : Move) (l : Account) → Can c p m l → can c p m l ≡ true
can_from c p (AllocateChannel ch) l h =
    let within = h.within in
    let available = h.available in
    let again = either l.reclaiming (is_flow_of p (l.reclaimable ch)) (λ t. let r = h.reclaims t in is_flow_of_self p r.0 (l.reclaimable ch) r.1) in
    grind (arith, nat_tests, is_plug_self p (l.addressed c) h.addressed, no_pending_found l c h.no_pending)
can_from c p (AllocateUnits ch u) l h =
    let within = h.within in
    let some = h.some in
    let fits = h.fits in
    let again = either l.reclaiming (is_flow p u (l.reclaimable ch)) (λ t. is_flow_self p u (l.reclaimable ch) (h.reclaims t)) in
    grind (arith, nat_tests, is_plug_self p (l.addressed c) h.addressed, is_held_self c p 0 (l.allocations ch) h.channel)
can_from c p (ConnectFirst kind ch overhead) l h =
    let is = h.is_plug in
    let empty = h.empty in
    let within = h.within in
    let small = h.small in
    grind (arith, nat_tests, is_held_self c p (units_of (record { channel = ch; rate = (l.settings p).rate; overhead = overhead })) (l.allocations ch) h.held)
can_from c p (ConnectOverlaid kind) l h = rw h.connected (has_room_from kind (l.outputs p) h.room)
can_from c p (ConnectInput kind ch) l h =
    let is = h.is_plug in
    let within = h.within in
    let stays = either (has_connection (l.inputs p)) (ch == l.input_channel p) (λ t. let e = h.stays t in grind (arith, nat_tests)) in
    grind (arith, nat_tests, has_room_from kind (l.inputs p) h.room)
can_from c p (DisconnectInput kind) l h = has_connection_of_from c kind (l.inputs p) h.has
can_from c p (DisconnectOutput kind) l h =
    let last = or_else (has_connection (drop_connection c kind (l.outputs p))) (not (has_pending c l.allocations) && is_plug p (l.addressed c))
    (λ t. let r = h.last t in grind (arith, no_pending_found l c r.0, is_plug_self p (l.addressed c) r.1)) in
    grind (arith, has_connection_of_from c kind (l.outputs p) h.has)
can_from c p (ReleaseUnits ch u) l h =
    let within = h.within in
    let some = h.some in
    grind (arith, nat_tests, is_plug_self p (l.addressed c) h.addressed, is_held_self c p u (l.allocations ch) h.held)
can_from c p (ReleaseChannel ch) l h =
    let within = h.within in
    grind (arith, nat_tests, is_held_self c p 0 (l.allocations ch) h.held)
