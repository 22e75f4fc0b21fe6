-- Swaps of input plug registers.
use Rattle.fw_account_tables.proofs.Common.{PlugAt, ConnectionKind, ◌≡◌, ◌≢◌, ◌<◌, ◌+◌, ◌==◌, ◌||◌, not, nat_lt, ℕ, Bool}
use Rattle.fw_account_tables.proofs.Common.{true, false, Some, slice_index, slice_set, cond, refl, sym, ◌∙◌, ap, subst, arith}
use Rattle.fw_account_tables.proofs.Common.{length-set, nat_tests, with_item, field, in_word, is_connected, Account, Connections, counter, has_connection, is_there, word_of, is_input, IsMove, decoded}
use Rattle.fw_account_tables.proofs.Common.{allowed, move_at, IsSound, StandsFor, Follows, SeatsFor, place, word_at}
use Rattle.fw_account_tables.proofs.Common.{seats_at, no_seats, shows_room, connection_value, moved_by, Seats, Tables, moves_keep}
use Rattle.fw_terms.specs.Tables.{update_plug}
use Rattle.fw_terms.proofs.Tables.{update_plug_same}
use Rattle.fw_plug.specs.Words.{InFields, in_fields}
use Rattle.fw_model_account.specs.Moves.{ConnectInput, DisconnectInput, HasRoom, HasConnection, after, add_connection, drop_connection}
use Rattle.fw_model_account.specs.Words.{InputPlug, input_fields_at}
use Rattle.fw_model_account.specs.Decode.{has_connection_of, is_more, kind_of}
use Rattle.fw_account_tables.specs.Stands.{InputsFor}
use Rattle.fw_account_tables.specs.Swaps.{Shows, keeps_channel, with_channel}
use Rattle.fw_model_account.proofs.Decoded.{input_of_word}
use Rattle.fw_account_tables.proofs.Plugs.{input_in_range}
use Rattle.fw_model_account.proofs.Tests.{has_room-true, has_room_from, has_connection_of-true, has_connection_of_from, either}
use Rattle.fw_account_tables.proofs.Swapping.{swap_taken, swap_refused, swap_decoded, plug_set}
use Rattle.fw_account_tables.proofs.PlugSwaps.{plug_other, input_shows, room_is, connected_is, bits_more, bits_less}

pub is_there_input : (t : Tables) (l : Account) (p : PlugAt) → StandsFor t l → nat_lt p.plug (slice_index t.ins p.device) ≡ true → is_input l.latest p ≡ true
is_there_input t l p h lt = h.plugs.ins p ∙ lt

pub input_word_shows : (t : Tables) (l : Account) (p : PlugAt) → StandsFor t l → is_input l.latest p ≡ true → Shows (word_at t.inputs.items p) (l.inputs p)
input_word_shows t l p h is = input_shows (input_fields_at l p) (l.inputs p) (word_at t.inputs.items p) (h.inputs.words p is) refl refl (h.sound.counts p).1
    (h.sound.channels_fit p is)

-- the channel that the word shows
input_word_keeps : (t : Tables) (l : Account) (p : PlugAt) → StandsFor t l → is_input l.latest p ≡ true
    → field (word_at t.inputs.items p) 10 15 ≡ l.input_channel p
input_word_keeps t l p h is = ap (λ w. field w 10 15) (h.inputs.words p is) ∙ ap (λ (f : InFields). f.channel) (input_of_word l p h.sound is)

-- ---- the tables after a move

-- the word of a plug with these connections
abbrev word_with : (PlugAt → ℕ) → PlugAt → Connections → ℕ
word_with channels q z = in_word (record { broadcast = is_there z.broadcast; counter = counter z; channel = channels q })

inputs_set : (t : Tables) (l : Account) (p : PlugAt) (word : ℕ) (x : Seats) (s : Connections) (channels : PlugAt → ℕ) → StandsFor t l
    → is_input l.latest p ≡ true → word ≡ in_word (record { broadcast = is_there s.broadcast; counter = counter s; channel = channels p })
    → SeatsFor x s → ((q : PlugAt) → q ≢ p → channels q ≡ l.input_channel q)
    → InputsFor (slice_set t.inputs.items (place p) word) (slice_set t.input_seats.items (place p) x) l.latest (update_plug l.inputs p s) channels
inputs_set t l p word x s channels h is here seat keeps = record {
  words = plug_set (is_input l.latest) (λ q w. w ≡ word_with channels q (update_plug l.inputs p s q)) t.inputs.items p word 0 h.sizes.inputs range is
      (here ∙ ap (word_with channels p) (sym (update_plug_same l.inputs p s)))
      (λ q ne at. h.inputs.words q at ∙ ap (λ k. in_word
      (record { broadcast = is_there (l.inputs q).broadcast; counter = counter (l.inputs q); channel = k })) (sym (keeps q ne)) ∙ ap
      (word_with channels q) (sym (plug_other l.inputs p s q ne)));
  seats = plug_set (is_input l.latest) (λ q y. SeatsFor y (update_plug l.inputs p s q)) t.input_seats.items p x no_seats h.sizes.input_seats range is
      (subst (λ z. SeatsFor x z) (sym (update_plug_same l.inputs p s)) seat)
      (λ q ne at. subst (λ z. SeatsFor (seats_at t.input_seats.items q) z) (sym (plug_other l.inputs p s q ne)) (h.inputs.seats q at));
}
  where
    range : (q : PlugAt) → is_input l.latest q ≡ true → (q.device < 63) × (q.plug < 31)
    range q at = input_in_range l.latest q h.sound.range at

-- other connections and channels
inputs_stand : (t : Tables) (l : Account) (p : PlugAt) (word : ℕ) (x : Seats) (s : Connections) (channels : PlugAt → ℕ) → StandsFor t l
    → is_input l.latest p ≡ true → word ≡ in_word (record { broadcast = is_there s.broadcast; counter = counter s; channel = channels p })
    → SeatsFor x s → ((q : PlugAt) → q ≢ p → channels q ≡ l.input_channel q)
    → IsSound (record l { inputs = update_plug l.inputs p s; input_channel = channels })
    → StandsFor (record t { inputs = with_item t.inputs (place p) word; input_seats = with_item t.input_seats (place p) x })
    (record l { inputs = update_plug l.inputs p s; input_channel = channels })
inputs_stand t l p word x s channels h is here seat keeps sound = record {
  sizes = record {
    charges = h.sizes.charges;
    reclaimable = h.sizes.reclaimable;
    addressed = h.sizes.addressed;
    asked = h.sizes.asked;
    outputs = h.sizes.outputs;
    inputs = length-set t.inputs.items (place p) word ∙ h.sizes.inputs;
    output_seats = h.sizes.output_seats;
    input_seats = length-set t.input_seats.items (place p) x ∙ h.sizes.input_seats;
    continues = h.sizes.continues;
  };
  latest = h.latest;
  plugs = h.plugs;
  withheld = h.withheld;
  resources = h.resources;
  second = record { runs = h.second.runs; reclaimable = h.second.reclaimable; continues = h.second.continues };
  outputs = h.outputs;
  inputs = inputs_set t l p word x s channels h is here seat keeps;
  controllers = h.controllers;
  sound = sound;
}

-- ---- a connection is made

-- the word with another channel
rechanneled : (f : InFields) (w k : ℕ) → w ≡ in_word f → field w 10 15 ≡ f.channel → with_channel w k ≡ in_word (record f { channel = k })
rechanneled f w k e channel = omega arith

input_word : (t : Tables) (l : Account) (c : ℕ) (p : PlugAt) (kind : ConnectionKind) (ch : ℕ) → StandsFor t l → c < 63 → is_input l.latest p ≡ true
    → HasRoom kind (l.inputs p)
    → word_of (after c p (ConnectInput kind ch) l) (InputPlug p) ≡ with_channel (word_at t.inputs.items p) ch + connection_value kind
input_word t l c p kind ch h lt is room =
    let s : Connections = add_connection c kind (l.inputs p) in
    let more = bits_more c kind (l.inputs p) lt room in
    let was = rechanneled (input_fields_at l p) (word_at t.inputs.items p) ch (h.inputs.words p is) (input_word_keeps t l p h is) in
    let now : word_of (after c p (ConnectInput kind ch) l) (InputPlug p) ≡ in_word
    (record { broadcast = is_there s.broadcast; counter = counter s; channel = ch })
    = ap (λ z. in_word (record { broadcast = is_there z.broadcast; counter = counter z; channel = update_plug l.input_channel p ch p }))
    (update_plug_same l.inputs p s)
    ∙ ap (λ k. in_word (record { broadcast = is_there s.broadcast; counter = counter s; channel = k })) (update_plug_same l.input_channel p ch) in
    now ∙ onward (in_word (record { broadcast = is_there s.broadcast; counter = counter s; channel = ch }))
    (in_word (record { broadcast = is_there (l.inputs p).broadcast; counter = counter (l.inputs p); channel = ch }))
    (with_channel (word_at t.inputs.items p) ch) (connection_value kind) (omega arith) was
  where
    onward : (a b d v : ℕ) → a ≡ b + v → d ≡ b → a ≡ d + v
    onward a b d v e f = omega arith

pub input_follows : (t : Tables) (l : Account) (c : ℕ) (p : PlugAt) (kind : ConnectionKind) (new : ℕ) (x : Seats) → StandsFor t l → c < 63
    → is_input l.latest p ≡ true → shows_room kind (word_at t.inputs.items p) ≡ true → keeps_channel (word_at t.inputs.items p) (in_fields new).channel ≡ true
    → new ≡ with_channel (word_at t.inputs.items p) (in_fields new).channel + connection_value kind → SeatsFor x (add_connection c kind (l.inputs p))
    → (made : Tables) → made ≡ record t { inputs = with_item t.inputs (place p) new; input_seats = with_item t.input_seats (place p) x }
    → Follows true t made (moved_by c (allowed l c (InputPlug p) (word_at t.inputs.items p) new (Some (p, ConnectInput kind (in_fields new).channel))) l)
input_follows t l c p kind new x h lt is room keeps more seat made at =
    let s : Connections = add_connection c kind (l.inputs p) in
    let w : ℕ = word_at t.inputs.items p in
    let ch : ℕ = (in_fields new).channel in
    let shows = input_word_shows t l p h is in
    let has = has_room-true kind (l.inputs p) (sym (room_is kind w (l.inputs p) shows) ∙ room) in
    let k : IsMove c p (ConnectInput kind ch) (InputPlug p) w new l = record {
      can = record {
        is_plug = is;
        within = omega arith;
        room = has;
        stays = λ connected. stay (is_connected w) (has_connection (l.inputs p)) ch
            (field w 10 15) (connected_is w (l.inputs p) shows) connected keeps ∙ input_word_keeps t l p h is;
      };
      place = refl;
      before = sym (h.inputs.words p is);
      later = input_word t l c p kind ch h lt is has ∙ sym more;
    } in
    let word = sym k.later ∙ ap (λ z. in_word (record
    { broadcast = is_there z.broadcast; counter = counter z; channel = update_plug l.input_channel p ch p })) (update_plug_same l.inputs p s) in
    swap_taken t made l c p (ConnectInput kind ch) (InputPlug p) w new k
    (subst (λ m. StandsFor m (after c p (ConnectInput kind ch) l)) (sym at)
    (inputs_stand t l p new x s (update_plug l.input_channel p ch) h is word seat (λ q ne. plug_other l.input_channel p ch q ne)
    (moves_keep c p (ConnectInput kind ch) l lt h.sound k.can)))
  where
    stay : (a b : Bool) (n m : ℕ) → a ≡ b → b ≡ true → (not a || (n == m)) ≡ true → n ≡ m
    stay a b n m e f test = grind (arith, nat_tests)

pub input_refused : (t : Tables) (l : Account) (c : ℕ) (p : PlugAt) (kind : ConnectionKind) (new : ℕ) → StandsFor t l → c < 63 → is_input l.latest p ≡ true
    → (shows_room kind (word_at t.inputs.items p) ≡ true → keeps_channel (word_at t.inputs.items p) (in_fields new).channel ≡ true → new ≡ with_channel
    (word_at t.inputs.items p) (in_fields new).channel + connection_value kind → ⊥)
    → Follows false t t (moved_by c (allowed l c (InputPlug p) (word_at t.inputs.items p) new (Some (p, ConnectInput kind (in_fields new).channel))) l)
input_refused t l c p kind new h lt is never =
    let w : ℕ = word_at t.inputs.items p in
    let ch : ℕ = (in_fields new).channel in
    let shows = input_word_shows t l p h is in
    swap_refused t l c p (ConnectInput kind ch) (InputPlug p) w new h.sound
    (λ k. never (room_is kind w (l.inputs p) shows ∙ has_room_from kind (l.inputs p) k.can.room)
    (either (is_connected w) (ch == field w 10 15) (λ connected. same ch (field w 10 15)
    (k.can.stays (sym (connected_is w (l.inputs p) shows) ∙ connected) ∙ sym (input_word_keeps t l p h is))))
    (sym k.later ∙ input_word t l c p kind ch h lt is k.can.room))
  where
    same : (n m : ℕ) → n ≡ m → (n == m) ≡ true
    same n m e = grind (arith, nat_tests)

-- ---- a connection is broken

left_word : (t : Tables) (l : Account) (c : ℕ) (p : PlugAt) (kind : ConnectionKind) → StandsFor t l → c < 63 → is_input l.latest p ≡ true
    → HasConnection c kind (l.inputs p) → word_at t.inputs.items p ≡ word_of (after c p (DisconnectInput kind) l) (InputPlug p) + connection_value kind
left_word t l c p kind h lt is has =
    let less = bits_less c kind (l.inputs p) lt has in
    let was = h.inputs.words p is in
    let now : word_of (after c p (DisconnectInput kind) l) (InputPlug p) ≡ in_word
    (record {
      broadcast = is_there (drop_connection c kind (l.inputs p)).broadcast;
      counter = counter (drop_connection c kind (l.inputs p));
      channel =
          l.input_channel p;
    })
    = ap (λ s. in_word (record { broadcast = is_there s.broadcast; counter = counter s; channel = l.input_channel p }))
    (update_plug_same l.inputs p (drop_connection c kind (l.inputs p))) in
    omega arith

pub left_follows : (t : Tables) (l : Account) (c : ℕ) (p : PlugAt) (kind : ConnectionKind) (new : ℕ) (x : Seats) → StandsFor t l → c < 63
    → is_input l.latest p ≡ true → has_connection_of c kind (l.inputs p) ≡ true → word_at t.inputs.items p ≡ new + connection_value kind
    → SeatsFor x (drop_connection c kind (l.inputs p)) → (made : Tables)
    → made ≡ record t { inputs = with_item t.inputs (place p) new; input_seats = with_item t.input_seats (place p) x }
    → Follows true t made (moved_by c (allowed l c (InputPlug p) (word_at t.inputs.items p) new (Some (p, DisconnectInput kind))) l)
left_follows t l c p kind new x h lt is has less seat made at =
    let s : Connections = drop_connection c kind (l.inputs p) in
    let had = has_connection_of-true c kind (l.inputs p) has in
    let e = left_word t l c p kind h lt is had in
    let k : IsMove c p (DisconnectInput kind) (InputPlug p) (word_at t.inputs.items p) new l = record
    { can = record { has = had }; place = refl; before = sym (h.inputs.words p is); later = omega arith } in
    let word = sym k.later ∙ ap (λ z. in_word (record { broadcast = is_there z.broadcast; counter = counter z; channel = l.input_channel p }))
    (update_plug_same l.inputs p s) in
    swap_taken t made l c p (DisconnectInput kind) (InputPlug p) (word_at t.inputs.items p) new k
    (subst (λ m. StandsFor m (after c p (DisconnectInput kind) l)) (sym at)
    (inputs_stand t l p new x s l.input_channel h is word seat (λ q ne. refl) (moves_keep c p (DisconnectInput kind) l lt h.sound k.can)))

pub left_refused : (t : Tables) (l : Account) (c : ℕ) (p : PlugAt) (kind : ConnectionKind) (new : ℕ) → StandsFor t l → c < 63 → is_input l.latest p ≡ true
    → (has_connection_of c kind (l.inputs p) ≡ true → word_at t.inputs.items p ≡ new + connection_value kind → ⊥)
    → Follows false t t (moved_by c (allowed l c (InputPlug p) (word_at t.inputs.items p) new (Some (p, DisconnectInput kind))) l)
left_refused t l c p kind new h lt is never =
    swap_refused t l c p (DisconnectInput kind) (InputPlug p) (word_at t.inputs.items p) new h.sound
    (λ k. never (has_connection_of_from c kind (l.inputs p) k.can.has)
    (left_word t l c p kind h lt is k.can.has ∙ ap (λ w. w + connection_value kind) k.later))

-- the move of a swap, by its words
pub input_decided : (l : Account) (c : ℕ) (p : PlugAt) (arg new : ℕ) (kind : ConnectionKind) (more : Bool)
    → kind ≡ kind_of (in_fields arg).broadcast (in_fields new).broadcast
    → is_more (in_fields arg).broadcast (in_fields arg).counter (in_fields new).broadcast (in_fields new).counter ≡ more
    → decoded l c (InputPlug p) arg new ≡ Some (p, cond more (ConnectInput kind (in_fields new).channel) (DisconnectInput kind))
input_decided l c p arg new kind more kind_is more_is = rw (more_is, ← kind_is) refl

pub input_made : (t : Tables) (l : Account) (c : ℕ) (p : PlugAt) (arg new : ℕ) (kind : ConnectionKind) (taken : Bool) (made : Tables)
    → arg ≡ word_at t.inputs.items p → kind ≡ kind_of (in_fields arg).broadcast (in_fields new).broadcast
    → is_more (in_fields arg).broadcast (in_fields arg).counter (in_fields new).broadcast (in_fields new).counter ≡ true
    → Follows taken t made (moved_by c (allowed l c (InputPlug p) (word_at t.inputs.items p) new (Some (p, ConnectInput kind (in_fields new).channel))) l)
    → Follows taken t made (moved_by c (move_at l c (InputPlug p) arg new) l)
input_made t l c p arg new kind taken made same kind_is more follows =
    swap_decoded taken t made l c (InputPlug p) arg new (Some (p, ConnectInput kind (in_fields new).channel))
    (input_decided l c p arg new kind true kind_is more)
    (subst (λ w. Follows taken t made (moved_by c (allowed l c (InputPlug p) w new (Some (p, ConnectInput kind (in_fields new).channel))) l)) (sym same)
    follows)

pub input_left : (t : Tables) (l : Account) (c : ℕ) (p : PlugAt) (arg new : ℕ) (kind : ConnectionKind) (taken : Bool) (made : Tables)
    → arg ≡ word_at t.inputs.items p → kind ≡ kind_of (in_fields arg).broadcast (in_fields new).broadcast
    → is_more (in_fields arg).broadcast (in_fields arg).counter (in_fields new).broadcast (in_fields new).counter ≡ false
    → Follows taken t made (moved_by c (allowed l c (InputPlug p) (word_at t.inputs.items p) new (Some (p, DisconnectInput kind))) l)
    → Follows taken t made (moved_by c (move_at l c (InputPlug p) arg new) l)
input_left t l c p arg new kind taken made same kind_is more follows =
    swap_decoded taken t made l c (InputPlug p) arg new (Some (p, DisconnectInput kind)) (input_decided l c p arg new kind false kind_is more)
    (subst (λ w. Follows taken t made (moved_by c (allowed l c (InputPlug p) w new (Some (p, DisconnectInput kind))) l)) (sym same) follows)
