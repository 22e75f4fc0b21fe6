-- The moves at plug registers keep the account sound, and so does each move.
use Rattle.fw_model_account.proofs.Common.{PlugAt, ConnectionKind, ◌≡◌, ℕ, ◌<◌, ◌≤◌, Bool, true, false, Some, refl, sym, ◌∙◌, arith, nat_tests, Pending, Connected, Connections, Account, counter}
use Rattle.fw_model_account.proofs.Common.{has_connection, allocated, Move, AllocateChannel, AllocateUnits, ConnectFirst}
use Rattle.fw_model_account.proofs.Common.{ConnectOverlaid, ConnectInput, DisconnectInput, DisconnectOutput, ReleaseUnits}
use Rattle.fw_model_account.proofs.Common.{ReleaseChannel, Can, after, add_connection, drop_connection, IsSound, false≢true, is_input}
use Rattle.fw_terms.specs.Tables.{update_plug}
use Rattle.fw_plug.specs.Words.{Settings}
use Rattle.fw_model_account.specs.Moves.{CanConnectFirst, CanConnectOverlaid, CanConnectInput, CanDisconnectInput}
use Rattle.fw_model_account.specs.Moves.{CanDisconnectOutput, HasNoPending, made_pending, with_outputs}
use Rattle.fw_terms.proofs.Tables.{update_plug_at}
use Rattle.fw_model_account.proofs.Network.{not_both, no_inputs}
use Rattle.fw_model_account.proofs.Open.{not_withheld}
use Rattle.fw_model_account.proofs.Connections.{has_connection_added, room_after, had_connection, fewer_connections, NoneBeyond, none_beyond_added, none_beyond_dropped}
pub use Rattle.fw_model_account.proofs.Allocations.{total_changed}
use Rattle.fw_model_account.proofs.Allocations.{allocate_channel, allocate_units, release_channel, release_units}

-- other connections at a plug that had some, and has some
with_other_connections : (p : PlugAt) (new : Connections) (l : Account) → IsSound l → has_connection (l.outputs p) ≡ true → has_connection new ≡ true → counter new ≤ 63 → NoneBeyond new
    → IsSound (with_outputs p new l)
with_other_connections p new l s had has most beyond = record {
  load = s.load;
  bounded = s.bounded;
  allocated = λ q t. grind (arith, update_plug_at l.outputs p new q, s.allocated q);
  connected = λ d q v e. grind (arith, update_plug_at l.outputs p new q, s.connected d q v);
  one_pending = s.one_pending;
  for_addressed = s.for_addressed;
  reclaimable_load = s.reclaimable_load;
  reclaimable_bounded = s.reclaimable_bounded;
  reclaimable_once = s.reclaimable_once;
  reclaimable_ends = s.reclaimable_ends;
  there = λ q t. grind (arith, update_plug_at l.outputs p new q, s.there q);
  continuing = λ q t. grind (arith, update_plug_at l.outputs p new q, s.continuing q);
  reclaimed = s.reclaimed;
  counts = λ q. grind (arith, update_plug_at l.outputs p new q, s.counts q);
  controllers = λ q d le. grind (arith, update_plug_at l.outputs p new q, s.controllers q d le, beyond d le);
  range = s.range;
  settings_fit = s.settings_fit;
  channels_fit = s.channels_fit;
  withheld_unallocated = s.withheld_unallocated;
  withheld_unclaimed = s.withheld_unclaimed;
  begins = λ e. absurd (false≢true (sym ((s.begins e).outputs p) ∙ had));
  inputs_there = s.inputs_there;
}

pub connect_overlaid : (c : ℕ) (p : PlugAt) (kind : ConnectionKind) (l : Account) → c < 63 → IsSound l → CanConnectOverlaid c p kind l → IsSound (after c p (ConnectOverlaid kind) l)
connect_overlaid c p kind l lt s h = with_other_connections p (add_connection c kind (l.outputs p)) l s h.connected (has_connection_added c kind (l.outputs p) lt)
    (room_after c kind (l.outputs p) lt (s.counts p).0 h.room) (none_beyond_added c kind (l.outputs p) lt (λ d le. (s.controllers p d le).0))

pub connect_first : (c : ℕ) (p : PlugAt) (kind : ConnectionKind) (ch overhead : ℕ) (l : Account) → c < 63 → IsSound l → CanConnectFirst c p kind ch overhead l
    → IsSound (after c p (ConnectFirst kind ch overhead) l)
connect_first c p kind ch overhead l lt s h =
    let new : Connections = add_connection c kind (l.outputs p) in
    let now : Settings = record { channel = ch; rate = (l.settings p).rate; overhead = overhead } in
    let at = λ (q : PlugAt). update_plug_at l.outputs p new q in
    let keeps = λ (q : PlugAt). update_plug_at l.settings p now q in
    let still = λ (q : PlugAt). update_plug_at l.continues p false q in
    let has = has_connection_added c kind (l.outputs p) lt in
    record {
      load =
          let e = total_changed l.allocations ch (Some (record { holder = Connected p; units = allocated (l.allocations ch) })) h.within in
          omega (arith, s.load);
      bounded = λ d x e. grind (arith, nat_tests, s.bounded d x);
      allocated = λ q t. grind (arith, nat_tests, at q, keeps q, s.allocated q);
      connected = λ d q v e. grind (arith, nat_tests, at q, keeps q, s.connected d q v);
      one_pending = λ d a b x y. grind (arith, nat_tests, s.one_pending d a b);
      for_addressed = λ d a q v e. grind (arith, nat_tests, s.for_addressed d a q v);
      reclaimable_load = s.reclaimable_load;
      reclaimable_bounded = s.reclaimable_bounded;
      reclaimable_once = s.reclaimable_once;
      reclaimable_ends = s.reclaimable_ends;
      there = λ q t. grind (arith, at q, still q, s.there q);
      continuing = λ q t. grind (arith, at q, keeps q, still q, s.continuing q);
      reclaimed = λ t d x e. grind (arith, nat_tests, s.reclaimed t d x);
      counts = λ q. grind (arith, at q, s.counts q, s.counts p, room_after c kind (l.outputs p) lt (s.counts p).0);
      controllers = λ q d le. grind (arith, at q, s.controllers q d le, none_beyond_added c kind (l.outputs p) lt (λ k kl. (s.controllers p k kl).0) d le);
      range = s.range;
      settings_fit = λ q t. grind (arith, keeps q, s.settings_fit q t, s.settings_fit p h.is_plug);
      channels_fit = s.channels_fit;
      withheld_unallocated = λ d w. grind (arith, nat_tests, s.withheld_unallocated d w, not_withheld l ch _ s h.held);
      withheld_unclaimed = s.withheld_unclaimed;
      begins = λ e. absurd (not_both _ _ ((s.begins e).allocations ch) h.held);
      inputs_there = s.inputs_there;
    }

-- the last connection of a plug is left
disconnect_last : (c : ℕ) (p : PlugAt) (new : Connections) (l : Account) → IsSound l → has_connection (l.outputs p) ≡ true → has_connection new ≡ false → counter new ≤ 63 → NoneBeyond new
    → HasNoPending c l.allocations → l.addressed c ≡ Some p → IsSound (record l { allocations = made_pending c p (l.settings p).channel l; outputs = update_plug l.outputs p new })
disconnect_last c p new l s had gone most beyond none addressed =
    let at = λ (q : PlugAt). update_plug_at l.outputs p new q in
    let own = s.allocated p had in
    record {
      load =
          let e = total_changed l.allocations (l.settings p).channel (Some (record { holder = Pending c p; units = allocated (l.allocations (l.settings p).channel) })) (s.bounded _ _ own) in
          omega (arith, s.load);
      bounded = λ d x e. grind (arith, nat_tests, s.bounded d x);
      allocated = λ q t. grind (arith, nat_tests, at q, s.allocated q);
      connected = λ d q v e. grind (arith, nat_tests, at q, s.connected d q v);
      one_pending = λ d a b x y. grind (arith, nat_tests, s.one_pending d a b, none a, none b);
      for_addressed = λ d a q v e. grind (arith, nat_tests, s.for_addressed d a q v);
      reclaimable_load = s.reclaimable_load;
      reclaimable_bounded = s.reclaimable_bounded;
      reclaimable_once = s.reclaimable_once;
      reclaimable_ends = s.reclaimable_ends;
      there = λ q t. grind (arith, at q, s.there q);
      continuing = λ q t. grind (arith, at q, s.continuing q);
      reclaimed = λ t d x e. grind (arith, nat_tests, s.reclaimed t d x);
      counts = λ q. grind (arith, at q, s.counts q);
      controllers = λ q d le. grind (arith, at q, s.controllers q d le, beyond d le);
      range = s.range;
      settings_fit = s.settings_fit;
      channels_fit = s.channels_fit;
      withheld_unallocated = λ d w. grind (arith, nat_tests, s.withheld_unallocated d w, not_withheld l (l.settings p).channel _ s own);
      withheld_unclaimed = s.withheld_unclaimed;
      begins = λ e. absurd (false≢true (sym ((s.begins e).outputs p) ∙ had));
      inputs_there = s.inputs_there;
    }

pub disconnect_output : (c : ℕ) (p : PlugAt) (kind : ConnectionKind) (l : Account) → c < 63 → IsSound l → CanDisconnectOutput c p kind l → IsSound (after c p (DisconnectOutput kind) l)
disconnect_output c p kind l lt s h = go (has_connection (drop_connection c kind (l.outputs p))) refl
  where
    had : has_connection (l.outputs p) ≡ true
    had = had_connection c kind (l.outputs p) lt h.has

    most : counter (drop_connection c kind (l.outputs p)) ≤ 63
    most = omega (arith, fewer_connections c kind (l.outputs p) lt, (s.counts p).0)

    beyond : NoneBeyond (drop_connection c kind (l.outputs p))
    beyond = none_beyond_dropped c kind (l.outputs p) lt (λ d le. (s.controllers p d le).0)

    go : (b : Bool) → has_connection (drop_connection c kind (l.outputs p)) ≡ b → IsSound (after c p (DisconnectOutput kind) l)
    go true e = rw e (with_other_connections p (drop_connection c kind (l.outputs p)) l s had e most beyond)
    go false e = rw e (disconnect_last c p (drop_connection c kind (l.outputs p)) l s had e most beyond (h.last e).0 (h.last e).1)

-- ---- inputs

-- other connections and another channel at an input plug
with_input : (p : PlugAt) (new : Connections) (channels : PlugAt → ℕ) (l : Account) → IsSound l → is_input l.latest p ≡ true → counter new ≤ 63 → NoneBeyond new
    → ((q : PlugAt) → is_input l.latest q ≡ true → channels q < 64) → IsSound (record l { inputs = update_plug l.inputs p new; input_channel = channels })
with_input p new channels l s is most beyond fit =
    let at = λ (q : PlugAt). update_plug_at l.inputs p new q in
    record {
      load = s.load;
      bounded = s.bounded;
      allocated = s.allocated;
      connected = s.connected;
      one_pending = s.one_pending;
      for_addressed = s.for_addressed;
      reclaimable_once = s.reclaimable_once;
      reclaimable_load = s.reclaimable_load;
      reclaimable_bounded = s.reclaimable_bounded;
      reclaimable_ends = s.reclaimable_ends;
      begins = λ e. absurd (no_inputs l.latest p e is);
      there = s.there;
      inputs_there = λ q t. grind (arith, at q, s.inputs_there q);
      continuing = s.continuing;
      reclaimed = s.reclaimed;
      counts = λ q. grind (arith, at q, s.counts q);
      controllers = λ q d le. grind (arith, at q, s.controllers q d le, beyond d le);
      range = s.range;
      settings_fit = s.settings_fit;
      channels_fit = fit;
      withheld_unallocated = s.withheld_unallocated;
      withheld_unclaimed = s.withheld_unclaimed;
    }

connect_input : (c : ℕ) (p : PlugAt) (kind : ConnectionKind) (ch : ℕ) (l : Account) → c < 63 → IsSound l → CanConnectInput c p kind ch l → IsSound (after c p (ConnectInput kind ch) l)
connect_input c p kind ch l lt s h =
    with_input p (add_connection c kind (l.inputs p)) (update_plug l.input_channel p ch) l s h.is_plug (room_after c kind (l.inputs p) lt (s.counts p).1 h.room)
    (none_beyond_added c kind (l.inputs p) lt (λ d le. (s.controllers p d le).1)) (λ q t. grind (arith, update_plug_at l.input_channel p ch q, s.channels_fit q t, h.within))

disconnect_input : (c : ℕ) (p : PlugAt) (kind : ConnectionKind) (l : Account) → c < 63 → IsSound l → CanDisconnectInput c p kind l → IsSound (after c p (DisconnectInput kind) l)
disconnect_input c p kind l lt s h =
    with_input p (drop_connection c kind (l.inputs p)) l.input_channel l s (s.inputs_there p (had_connection c kind (l.inputs p) lt h.has))
    (omega (arith, fewer_connections c kind (l.inputs p) lt, (s.counts p).1)) (none_beyond_dropped c kind (l.inputs p) lt (λ d le. (s.controllers p d le).1)) s.channels_fit

-- each move keeps the account sound
pub moves_keep : (c : ℕ) (p : PlugAt) (m : Move) (l : Account) → c < 63 → IsSound l → Can c p m l → IsSound (after c p m l)
moves_keep c p (AllocateChannel ch) l lt s h = allocate_channel c p ch l s h
moves_keep c p (AllocateUnits ch u) l lt s h = allocate_units c p ch u l s h
moves_keep c p (ConnectFirst kind ch overhead) l lt s h = connect_first c p kind ch overhead l lt s h
moves_keep c p (ConnectOverlaid kind) l lt s h = connect_overlaid c p kind l lt s h
moves_keep c p (ConnectInput kind ch) l lt s h = connect_input c p kind ch l lt s h
moves_keep c p (DisconnectInput kind) l lt s h = disconnect_input c p kind l lt s h
moves_keep c p (DisconnectOutput kind) l lt s h = disconnect_output c p kind l lt s h
moves_keep c p (ReleaseUnits ch u) l lt s h = release_units c p ch u l s h
moves_keep c p (ReleaseChannel ch) l lt s h = release_channel c p ch l s h
