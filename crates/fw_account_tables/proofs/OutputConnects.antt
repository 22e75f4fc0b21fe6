-- Swaps of output plug registers that make a connection.
use Rattle.fw_account_tables.proofs.Common.{PlugAt, ConnectionKind, ◌≡◌, ◌<◌, ◌+◌, ℕ, Bool, true, false, Some, slice_set, cond, refl}
use Rattle.fw_account_tables.proofs.Common.{sym, ◌∙◌, ap, subst, arith, length-set, with_item, out_word, out_fields, is_connected, units, Account, Allocation, Connections, counter, has_connection}
use Rattle.fw_account_tables.proofs.Common.{is_free, is_there, Move, word_of, is_output, IsMove, allowed, IsSound, StandsFor, Follows, SeatsFor, allocation_of, charge_at}
use Rattle.fw_account_tables.proofs.Common.{place, word_at, shows_room, connection_value, moved_by, Seats, Tables, moves_keep, output_in_range}
use Rattle.fw_terms.specs.Tables.{update_plug}
use Rattle.fw_terms.proofs.Tables.{update_plug_same}
use Rattle.fw_plug.specs.Words.{Settings, FitsRegister, units_of}
use Rattle.fw_model_account.specs.Account.{Pending, Connected, allocated}
use Rattle.fw_model_account.specs.Moves.{HasRoom, ConnectFirst, ConnectOverlaid}
use Rattle.fw_model_account.specs.Moves.{after, add_connection, made_connected}
use Rattle.fw_model_account.specs.Words.{OutputPlug}
use Rattle.fw_model_account.specs.Decode.{is_held}
use Rattle.fw_account_tables.specs.Stands.{continues_at}
use Rattle.fw_account_tables.specs.Swaps.{connected_once, is_broadcast}
use Rattle.fw_account_tables.specs.declared.tables.Charge.TheVariants.{Connected as ConnectedCharge}
use Rattle.fw_model_account.proofs.Allocations.{total_changed}
use Rattle.fw_model_account.proofs.Tests.{has_room-true, has_room_from, is_held-true}
use Rattle.fw_model_account.proofs.Tests.{is_held_self}
use Rattle.fw_account_tables.proofs.Swapping.{swap_taken, swap_refused, charge_set, plug_set}
use Rattle.fw_account_tables.proofs.PlugSwaps.{plug_other, room_is, connected_is, units_of_word, bits_more, once_there, once_counted}
use Rattle.fw_account_tables.proofs.OutputSwaps.{output_word_shows, output_word_keeps, outputs_set, outputs_stand, words_size, seats_size}

-- ---- an overlaid connection

overlaid_word : (t : Tables) (l : Account) (c : ℕ) (p : PlugAt) (kind : ConnectionKind) → StandsFor t l → c < 63 → is_output l.latest p ≡ true
    → HasRoom kind (l.outputs p) → word_of (after c p (ConnectOverlaid kind) l) (OutputPlug p) ≡ word_at t.outputs.items p + connection_value kind
overlaid_word t l c p kind h lt is room =
    let more = bits_more c kind (l.outputs p) lt room in
    let was = h.outputs.words p is in
    ap (λ s. out_word (record { broadcast = is_there s.broadcast; counter = counter s; settings = l.settings p }))
    (update_plug_same l.outputs p (add_connection c kind (l.outputs p))) ∙ omega arith

pub overlaid_follows : (t : Tables) (l : Account) (c : ℕ) (p : PlugAt) (kind : ConnectionKind) (new : ℕ) (x : Seats) → StandsFor t l → c < 63
    → is_output l.latest p ≡ true → is_connected (word_at t.outputs.items p) ≡ true → shows_room kind (word_at t.outputs.items p) ≡ true
    → new ≡ word_at t.outputs.items p + connection_value kind → SeatsFor x (add_connection c kind (l.outputs p)) → (made : Tables)
    → made ≡ record t { outputs = with_item t.outputs (place p) new; output_seats = with_item t.output_seats (place p) x }
    → Follows true t made (moved_by c (allowed l c (OutputPlug p) (word_at t.outputs.items p) new (Some (p, ConnectOverlaid kind))) l)
overlaid_follows t l c p kind new x h lt is connected room more seat made at =
    let s : Connections = add_connection c kind (l.outputs p) in
    let shows = output_word_shows t l p h is in
    let has = has_room-true kind (l.outputs p) (sym (room_is kind (word_at t.outputs.items p) (l.outputs p) shows) ∙ room) in
    let later = overlaid_word t l c p kind h lt is has in
    let k : IsMove c p (ConnectOverlaid kind) (OutputPlug p) (word_at t.outputs.items p) new l = record {
      can = record { connected = sym (connected_is (word_at t.outputs.items p) (l.outputs p) shows) ∙ connected; room = has };
      place = refl;
      before = sym (h.outputs.words p is);
      later = later ∙ sym more;
    } in
    let word = sym k.later ∙ ap (λ z. out_word (record { broadcast = is_there z.broadcast; counter = counter z; settings = l.settings p }))
    (update_plug_same l.outputs p s) in
    swap_taken t made l c p (ConnectOverlaid kind) (OutputPlug p) (word_at t.outputs.items p) new k
    (subst (λ m. StandsFor m (after c p (ConnectOverlaid kind) l)) (sym at)
    (outputs_stand t l t.charges (with_item t.outputs (place p) new) (with_item t.output_seats (place p) x) t.continues l.allocations
    (update_plug l.outputs p s) l.settings l.continues h h.sizes.charges (words_size t l p new h) (seats_size t l p x h) h.sizes.continues
    h.resources (outputs_set t l p new x s l.settings h is word seat (λ q ne. refl))
    (record { runs = h.second.runs; reclaimable = h.second.reclaimable; continues = h.second.continues })
    (moves_keep c p (ConnectOverlaid kind) l lt h.sound k.can)))

pub overlaid_refused : (t : Tables) (l : Account) (c : ℕ) (p : PlugAt) (kind : ConnectionKind) (new : ℕ) → StandsFor t l → c < 63
    → is_output l.latest p ≡ true → (shows_room kind (word_at t.outputs.items p) ≡ true → new ≡ word_at t.outputs.items p + connection_value kind → ⊥)
    → Follows false t t (moved_by c (allowed l c (OutputPlug p) (word_at t.outputs.items p) new (Some (p, ConnectOverlaid kind))) l)
overlaid_refused t l c p kind new h lt is never =
    swap_refused t l c p (ConnectOverlaid kind) (OutputPlug p) (word_at t.outputs.items p) new h.sound
    (λ k. never (room_is kind (word_at t.outputs.items p) (l.outputs p) (output_word_shows t l p h is) ∙ has_room_from kind (l.outputs p) k.can.room)
    (sym k.later ∙ overlaid_word t l c p kind h lt is k.can.room))

-- ---- the first connection

-- what an output plug keeps after its first connection
abbrev first_settings : Account → PlugAt → ℕ → Settings
first_settings l p new = record { channel = (out_fields new).settings.channel; rate = (l.settings p).rate; overhead = (out_fields new).settings.overhead }

first_fits : (l : Account) (p : PlugAt) (new : ℕ) → IsSound l → is_output l.latest p ≡ true → FitsRegister (first_settings l p new)
first_fits l p new s is = record { channel = omega arith; rate = (s.settings_fit p is).rate; overhead = omega arith }

once_below : (kind : ConnectionKind) (k : Settings) → (connected_once kind k).counter < 64
once_below kind k = go (is_broadcast kind)
  where
    go : (b : Bool) → cond b 0 1 < 64
    go true = omega arith
    go false = omega arith

first_word_is : (l : Account) (c : ℕ) (p : PlugAt) (kind : ConnectionKind) (new : ℕ) → c < 63 → has_connection (l.outputs p) ≡ false
    → word_of (after c p (ConnectFirst kind (out_fields new).settings.channel (out_fields new).settings.overhead) l) (OutputPlug p) ≡ out_word
    (connected_once kind (first_settings l p new))
first_word_is l c p kind new lt empty =
    let s : Connections = add_connection c kind (l.outputs p) in
    let k : Settings = first_settings l p new in
    ap (λ z. out_word (record { broadcast = is_there z.broadcast; counter = counter z; settings = update_plug l.settings p k p }))
    (update_plug_same l.outputs p s)
    ∙ ap (λ z. out_word (record { broadcast = is_there s.broadcast; counter = counter s; settings = z })) (update_plug_same l.settings p k)
    ∙ ap (λ b. out_word (record { broadcast = b; counter = counter s; settings = k })) (once_there c kind (l.outputs p) empty)
    ∙ ap (λ n. out_word (record { broadcast = is_broadcast kind; counter = n; settings = k })) (once_counted c kind (l.outputs p) lt empty)

pub first_follows : (t : Tables) (l : Account) (c : ℕ) (p : PlugAt) (kind : ConnectionKind) (new : ℕ) (x : Seats) → StandsFor t l → c < 63
    → is_output l.latest p ≡ true → is_connected (word_at t.outputs.items p) ≡ false
    → new ≡ out_word (connected_once kind (record {
      channel = (out_fields new).settings.channel;
      rate =
          (out_fields (word_at t.outputs.items p)).settings.rate;
      overhead = (out_fields new).settings.overhead;
    }))
    → is_held c p (units new) (allocation_of (charge_at t.charges.items (out_fields new).settings.channel)) ≡ true
    → SeatsFor x (add_connection c kind (l.outputs p))
    → (made : Tables) → made ≡ record t {
      charges = with_item t.charges (out_fields new).settings.channel (ConnectedCharge p (units new));
      outputs =
          with_item t.outputs (place p) new;
      output_seats = with_item t.output_seats (place p) x;
      continues = with_item t.continues (place p) false;
    }
    → Follows true t made (moved_by c (allowed l c (OutputPlug p) (word_at t.outputs.items p) new
    (Some (p, ConnectFirst kind (out_fields new).settings.channel (out_fields new).settings.overhead))) l)
first_follows t l c p kind new x h lt is none same holds seat made at =
    let s : Connections = add_connection c kind (l.outputs p) in
    let w : ℕ = word_at t.outputs.items p in
    let ch : ℕ = (out_fields new).settings.channel in
    let now : Settings = first_settings l p new in
    let m : Move = ConnectFirst kind ch (out_fields new).settings.overhead in
    let fits = first_fits l p new h.sound is in
    let empty = sym (connected_is w (l.outputs p) (output_word_shows t l p h is)) ∙ none in
    let kept : new ≡ out_word (connected_once kind now) = same ∙ ap
    (λ r. out_word (connected_once kind (record { channel = ch; rate = r; overhead = (out_fields new).settings.overhead })))
    (ap (λ (k : Settings). k.rate) (output_word_keeps t l p h is)) in
    let cost : units new ≡ units_of now = ap units kept ∙ units_of_word (connected_once kind now) (once_below kind now) fits in
    let held = sym (h.resources.charges ch fits.channel) ∙ is_held-true c p (units new) (allocation_of (charge_at t.charges.items ch)) holds in
    let k : IsMove c p m (OutputPlug p) w new l = record {
      can = record {
        is_plug = is;
        empty = empty;
        within = fits.channel;
        small = fits.overhead;
        held = held ∙ ap
            (λ u. Some (record { holder = Pending c p; units = u })) cost;
      };
      place = refl;
      before = sym (h.outputs.words p is);
      later = first_word_is l c p kind new lt empty ∙ sym kept;
    } in
    let a : Allocation = record { holder = Connected p; units = allocated (l.allocations ch) } in
    let sum = total_changed l.allocations ch (Some a) fits.channel in
    let own : allocated (l.allocations ch) ≡ units new = ap allocated held in
    let left = h.resources.left in
    let word = sym k.later ∙ ap (λ z. out_word (record { broadcast = is_there z.broadcast; counter = counter z; settings = update_plug l.settings p now p }))
    (update_plug_same l.outputs p s) in
    swap_taken t made l c p m (OutputPlug p) w new k
    (subst (λ z. StandsFor z (after c p m l)) (sym at)
    (outputs_stand t l (with_item t.charges ch (ConnectedCharge p (units new))) (with_item t.outputs (place p) new)
    (with_item t.output_seats (place p) x) (with_item t.continues (place p) false)
    (made_connected p ch l) (update_plug l.outputs p s) (update_plug l.settings p now) (update_plug l.continues p false) h
    (length-set t.charges.items ch _ ∙ h.sizes.charges) (words_size t l p new h) (seats_size t l p x h)
    (length-set t.continues.items (place p) false ∙ h.sizes.continues)
    (charge_set l.withheld t.left t.high t.low t.left t.charges.items l.allocations ch (ConnectedCharge p (units new)) a h.sizes.charges (ap is_free held)
    (ap (λ u. Some (record { holder = Connected p; units = u })) (sym own)) (omega arith) h.resources)
    (outputs_set t l p new x s (update_plug l.settings p now) h is word seat (λ q ne. plug_other l.settings p now q ne))
    (record { runs = h.second.runs; reclaimable = h.second.reclaimable; continues = λ runs. ended_there runs }) (moves_keep c p m l lt h.sound k.can)))
  where
    ended_there : t.reclaiming ≡ true → (q : PlugAt) → is_output l.latest q ≡ true
        → continues_at (slice_set t.continues.items (place p) false) q ≡ update_plug l.continues p false q
    ended_there runs =
        plug_set (is_output l.latest) (λ q b. b ≡ update_plug l.continues p false q) t.continues.items p false false h.sizes.continues
        (λ q at. output_in_range l.latest q h.sound.range at) is (sym (update_plug_same l.continues p false))
        (λ q ne at. h.second.continues runs q at ∙ sym (plug_other l.continues p false q ne))

pub first_refused : (t : Tables) (l : Account) (c : ℕ) (p : PlugAt) (kind : ConnectionKind) (new : ℕ) → StandsFor t l → c < 63 → is_output l.latest p ≡ true
    → (new ≡ out_word (connected_once kind (record {
      channel = (out_fields new).settings.channel;
      rate =
          (out_fields (word_at t.outputs.items p)).settings.rate;
      overhead = (out_fields new).settings.overhead;
    }))
    → is_held c p (units new) (allocation_of (charge_at t.charges.items (out_fields new).settings.channel)) ≡ true → ⊥)
    → Follows false t t (moved_by c (allowed l c (OutputPlug p) (word_at t.outputs.items p) new
    (Some (p, ConnectFirst kind (out_fields new).settings.channel (out_fields new).settings.overhead))) l)
first_refused t l c p kind new h lt is never = swap_refused t l c p (ConnectFirst kind (out_fields new).settings.channel (out_fields new).settings.overhead)
    (OutputPlug p) (word_at t.outputs.items p) new h.sound (λ k. found k)
  where
    found : IsMove c p (ConnectFirst kind (out_fields new).settings.channel (out_fields new).settings.overhead) (OutputPlug p) (word_at t.outputs.items p)
        new l → ⊥
    found k =
        let ch : ℕ = (out_fields new).settings.channel in
        let now : Settings = first_settings l p new in
        let fits = first_fits l p new h.sound is in
        let kept : new ≡ out_word (connected_once kind now) = sym k.later ∙ first_word_is l c p kind new lt k.can.empty in
        let cost : units new ≡ units_of now = ap units kept ∙ units_of_word (connected_once kind now) (once_below kind now) fits in
        never (kept ∙ ap (λ r. out_word (connected_once kind (record { channel = ch; rate = r; overhead = (out_fields new).settings.overhead })))
        (sym (ap (λ (k : Settings). k.rate) (output_word_keeps t l p h is))))
        (is_held_self c p (units new) (allocation_of (charge_at t.charges.items ch))
        (h.resources.charges ch fits.channel ∙ k.can.held ∙ ap (λ u. Some (record { holder = Pending c p; units = u })) (sym cost)))
