-- What a move changes of what its controller has, and that it leaves the others theirs.
use Rattle.fw_model_controllers.proofs.Common.{PlugAt, ◌≡◌, ◌≢◌, ℕ, ◌<◌, Bool, true, false, Option, Some, None, refl}
use Rattle.fw_model_controllers.proofs.Common.{ap, ◌∙◌, arith, cond, ◌⊎◌, inl, inr, nat_tests, cases_eq, update, update_plug, Settings}
use Rattle.fw_model_controllers.proofs.Common.{Pending, Allocation, Account, has_connection, allocated, Move}
use Rattle.fw_model_controllers.proofs.Common.{AllocateChannel, AllocateUnits, ConnectFirst, ConnectOverlaid, DisconnectInput, DisconnectOutput}
use Rattle.fw_model_controllers.proofs.Common.{ReleaseUnits, ReleaseChannel, Can, after, drop_connection, IsSound, had_connection, Holding, HasReserved, Holds, Keeps, Leaves}
use Rattle.fw_terms.proofs.Tables.{update_plug_at}
use Rattle.fw_plug.specs.Words.{units_of}
use Rattle.fw_model_account.specs.Account.{Connected, is_pending}
use Rattle.fw_model_account.specs.Moves.{ConnectInput}
use Rattle.fw_model_account.specs.Moves.{with_allocation, made_pending}
use Rattle.fw_model_account.proofs.Open.{open_is}
use Rattle.fw_model_controllers.specs.Holding.{Reservation, holding_after, plug_reservation}
use Rattle.fw_model_controllers.proofs.Counts.{table_added, table_dropped, table_added_other, table_dropped_other, room_of_empty}

-- ---- its own

-- the one Pending allocation is gone
reserved_gone : (l : Account) (c : ℕ) (p : PlugAt) (ch u : ℕ) (x : Option Allocation) → IsSound l → is_pending c x ≡ false → l.allocations ch ≡ Some (record { holder = Pending c p; units = u })
    → HasReserved c None (update l.allocations ch x)
reserved_gone l c p ch u x s gone held k = go (is_pending c (l.allocations k)) refl (cases_eq k ch)
  where
    go : (b : Bool) → is_pending c (l.allocations k) ≡ b → (k ≡ ch) ⊎ (k ≢ ch) → is_pending c (update l.allocations ch x k) ≡ false
    go b e (inl same) = grind (arith, nat_tests)
    go true e (inr ne) = absurd (ne (s.one_pending c k ch e (rw held (grind (arith, nat_tests)))))
    go false e (inr ne) = grind (arith, nat_tests)

-- an allocation of one channel becomes this reservation
reserved_at : (l : Account) (c : ℕ) (r : Reservation) → r.channel < 64 → HasReserved c (Some r) (update l.allocations r.channel (Some (record { holder = Pending c r.plug; units = r.units })))
reserved_at l c r lt = (lt, grind (arith, nat_tests))

allocation_moved : (l : Account) (c ch : ℕ) (x : Option Allocation) (h : Holding) (o : Option Reservation) → Holds l c h → HasReserved c o (update l.allocations ch x)
    → Holds (with_allocation ch x l) c (record h { reserved = o })
allocation_moved l c ch x h o has reserved = record { reserved = reserved; outputs = has.outputs; inputs = has.inputs }

pub own_move : (c : ℕ) (p : PlugAt) (m : Move) (l : Account) (h : Holding) → c < 63 → IsSound l → Can c p m l → Holds l c h → Holds (after c p m l) c (holding_after c p m l h)
own_move c p (AllocateChannel ch) l h lt s can has = allocation_moved l c ch _ h (Some (record { plug = p; channel = ch; units = 0 })) has
    (reserved_at l c (record { plug = p; channel = ch; units = 0 }) can.within)
own_move c p (AllocateUnits ch u) l h lt s can has = allocation_moved l c ch _ h (Some (record { plug = p; channel = ch; units = u })) has
    (reserved_at l c (record { plug = p; channel = ch; units = u }) can.within)
own_move c p (ReleaseUnits ch u) l h lt s can has = allocation_moved l c ch _ h (Some (record { plug = p; channel = ch; units = 0 })) has
    (reserved_at l c (record { plug = p; channel = ch; units = 0 }) can.within)
own_move c p (ReleaseChannel ch) l h lt s can has = allocation_moved l c ch None h None has (reserved_gone l c p ch 0 None s refl can.held)
own_move c p (ConnectFirst kind ch overhead) l h lt s can has = record {
  reserved = reserved_gone l c p ch _ _ s refl can.held;
  outputs = table_added c kind p l.outputs h.outputs (room_of_empty kind (l.outputs p) can.empty) has.outputs;
  inputs = has.inputs;
}
own_move c p (ConnectOverlaid kind) l h lt s can has = record {
  reserved = has.reserved;
  outputs = table_added c kind p l.outputs h.outputs can.room has.outputs;
  inputs = has.inputs;
}
own_move c p (ConnectInput kind ch) l h lt s can has = record {
  reserved = has.reserved;
  outputs = has.outputs;
  inputs = table_added c kind p l.inputs h.inputs can.room has.inputs;
}
own_move c p (DisconnectInput kind) l h lt s can has = record {
  reserved = has.reserved;
  outputs = has.outputs;
  inputs = table_dropped c kind p l.inputs h.inputs can.has has.inputs;
}
own_move c p (DisconnectOutput kind) l h lt s can has = record {
  reserved = go (has_connection (drop_connection c kind (l.outputs p)));
  outputs = table_dropped c kind p l.outputs h.outputs can.has has.outputs;
  inputs = has.inputs;
}
  where
    own : l.allocations (l.settings p).channel ≡ Some (record { holder = Connected p; units = units_of (l.settings p) })
    own = s.allocated p (had_connection c kind (l.outputs p) lt can.has)

    units : allocated (l.allocations (l.settings p).channel) ≡ units_of (l.settings p)
    units = rw own refl

    go : (b : Bool) → HasReserved c (cond b h.reserved (Some (plug_reservation p l))) (cond b l.allocations (made_pending c p (l.settings p).channel l))
    go true = has.reserved
    go false = (
      s.bounded _ _ own,
      (reserved_at l c (record { plug = p; channel = (l.settings p).channel; units = allocated (l.allocations (l.settings p).channel) }) (s.bounded _ _ own)).1
          ∙ ap (λ u. Some (record { holder = Pending c p; units = u })) units,
    )

-- ---- the others'

-- no Pending allocation of d's is at the channel that changes
reserved_stays : (l : Account) (d ch : ℕ) (x : Option Allocation) (o : Option Reservation) → is_pending d (l.allocations ch) ≡ false → is_pending d x ≡ false → HasReserved d o l.allocations
    → HasReserved d o (update l.allocations ch x)
reserved_stays l d ch x None old new has = λ k. go k (cases_eq k ch)
  where
    go : (k : ℕ) → (k ≡ ch) ⊎ (k ≢ ch) → is_pending d (update l.allocations ch x k) ≡ false
    go k (inl e) = grind (arith, nat_tests)
    go k (inr ne) = grind (arith, nat_tests, has k)
reserved_stays l d ch x (Some r) old new has = (has.0, go (cases_eq r.channel ch))
  where
    go : (r.channel ≡ ch) ⊎ (r.channel ≢ ch) → update l.allocations ch x r.channel ≡ Some (record { holder = Pending d r.plug; units = r.units })
    go (inl e) = grind (arith, nat_tests, has.1)
    go (inr ne) = grind (arith, nat_tests, has.1)

allocation_leaves : (l : Account) (d ch : ℕ) (x : Option Allocation) → is_pending d (l.allocations ch) ≡ false → is_pending d x ≡ false → Leaves d l (with_allocation ch x l)
allocation_leaves l d ch x old new = record {
  holding = λ h has. record { reserved = reserved_stays l d ch x h.reserved old new has.reserved; outputs = has.outputs; inputs = has.inputs };
  addressed = refl;
}

pub move_leaves : (c d : ℕ) (p : PlugAt) (m : Move) (l : Account) → c < 63 → d ≢ c → IsSound l → Can c p m l → Leaves d l (after c p m l)
move_leaves c d p (AllocateChannel ch) l lt ne s can = allocation_leaves l d ch _ (rw (open_is l.withheld l.allocations ch can.available).0 refl) (grind (arith, nat_tests))
move_leaves c d p (AllocateUnits ch u) l lt ne s can = allocation_leaves l d ch _ (rw can.channel (grind (arith, nat_tests))) (grind (arith, nat_tests))
move_leaves c d p (ReleaseUnits ch u) l lt ne s can = allocation_leaves l d ch _ (rw can.held (grind (arith, nat_tests))) (grind (arith, nat_tests))
move_leaves c d p (ReleaseChannel ch) l lt ne s can = allocation_leaves l d ch _ (rw can.held (grind (arith, nat_tests))) refl
move_leaves c d p (ConnectFirst kind ch overhead) l lt ne s can = record {
  holding = λ h has. record {
    reserved = reserved_stays l d ch _ h.reserved (rw can.held (grind (arith, nat_tests))) refl has.reserved;
    outputs = table_added_other c d kind p l.outputs h.outputs ne (room_of_empty kind (l.outputs p) can.empty) has.outputs;
    inputs = has.inputs;
  };
  addressed = refl;
}
move_leaves c d p (ConnectOverlaid kind) l lt ne s can = record {
  holding = λ h has. record { reserved = has.reserved; outputs = table_added_other c d kind p l.outputs h.outputs ne can.room has.outputs; inputs = has.inputs };
  addressed = refl;
}
move_leaves c d p (ConnectInput kind ch) l lt ne s can = record {
  holding = λ h has. record { reserved = has.reserved; outputs = has.outputs; inputs = table_added_other c d kind p l.inputs h.inputs ne can.room has.inputs };
  addressed = refl;
}
move_leaves c d p (DisconnectInput kind) l lt ne s can = record {
  holding = λ h has. record { reserved = has.reserved; outputs = has.outputs; inputs = table_dropped_other c d kind p l.inputs h.inputs ne can.has has.inputs };
  addressed = refl;
}
move_leaves c d p (DisconnectOutput kind) l lt ne s can = record {
  holding = λ h has. record {
    reserved = go (has_connection (drop_connection c kind (l.outputs p))) h.reserved has.reserved;
    outputs = table_dropped_other c d kind p l.outputs h.outputs ne can.has has.outputs;
    inputs = has.inputs;
  };
  addressed = refl;
}
  where
    own : l.allocations (l.settings p).channel ≡ Some (record { holder = Connected p; units = units_of (l.settings p) })
    own = s.allocated p (had_connection c kind (l.outputs p) lt can.has)

    go : (b : Bool) (o : Option Reservation) → HasReserved d o l.allocations → HasReserved d o (cond b l.allocations (made_pending c p (l.settings p).channel l))
    go true o x = x
    go false o x = reserved_stays l d (l.settings p).channel _ o (rw own refl) (grind (arith, nat_tests)) x

-- ---- plugs

-- nothing of plugs and of the second changes
allocation_keeps : (l : Account) (ch : ℕ) (x : Option Allocation) → Keeps l (with_allocation ch x l)
allocation_keeps l ch x = record { rates = λ q. refl; settings = λ q h. refl; channels = λ q h. refl; latest = refl; reclaims = λ r. (r, λ k. refl) }

pub move_keeps : (c : ℕ) (p : PlugAt) (m : Move) (l : Account) → Can c p m l → Keeps l (after c p m l)
move_keeps c p (AllocateChannel ch) l can = allocation_keeps l ch _
move_keeps c p (AllocateUnits ch u) l can = allocation_keeps l ch _
move_keeps c p (ReleaseUnits ch u) l can = allocation_keeps l ch _
move_keeps c p (ReleaseChannel ch) l can = allocation_keeps l ch _
move_keeps c p (ConnectFirst kind ch overhead) l can = record {
  rates = λ q. grind (arith, set q);
  settings = λ q h. grind (arith, set q, can.empty);
  channels = λ q h. refl;
  latest = refl;
  reclaims = λ r. (r, λ k. refl);
}
  where
    now : Settings
    now = record { channel = ch; rate = (l.settings p).rate; overhead = overhead }

    set : (q : PlugAt) → ((q ≡ p) × (update_plug l.settings p now q ≡ now)) ⊎ ((q ≢ p) × (update_plug l.settings p now q ≡ l.settings q))
    set q = update_plug_at l.settings p now q
move_keeps c p (ConnectOverlaid kind) l can = record { rates = λ q. refl; settings = λ q h. refl; channels = λ q h. refl; latest = refl; reclaims = λ r. (r, λ k. refl) }
move_keeps c p (ConnectInput kind ch) l can = record {
  rates = λ q. refl;
  settings = λ q h. refl;
  channels = λ q h. grind (arith, update_plug_at l.input_channel p ch q, can.stays);
  latest = refl;
  reclaims = λ r. (r, λ k. refl);
}
move_keeps c p (DisconnectInput kind) l can = record { rates = λ q. refl; settings = λ q h. refl; channels = λ q h. refl; latest = refl; reclaims = λ r. (r, λ k. refl) }
move_keeps c p (DisconnectOutput kind) l can = record { rates = λ q. refl; settings = λ q h. refl; channels = λ q h. refl; latest = refl; reclaims = λ r. (r, λ k. refl) }
