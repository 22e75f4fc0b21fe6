-- Swaps of output plug registers: what the word of a plug shows, the tables with another word, and which move a swap is.
use Rattle.fw_account_tables.proofs.Common.{PlugAt, ConnectionKind, ◌≡◌, ◌≢◌, ◌<◌, nat_lt, ℕ, Bool, true, Option, Some, length, slice_index, slice_set, Vec, Global, cond, refl}
use Rattle.fw_account_tables.proofs.Common.{sym, ◌∙◌, ap, subst, length-set, out_word, out_fields, is_connected, Account, Allocation, Connections, counter, has_connection}
use Rattle.fw_account_tables.proofs.Common.{is_there, Move, is_output, decoded, allowed, move_at, IsSound, StandsFor, Follows, ResourcesFor, SeatsFor}
use Rattle.fw_account_tables.proofs.Common.{place, word_at, seats_at, no_seats, moved_by, Charge, Seats, Tables, output_in_range}
use Rattle.fw_terms.specs.Tables.{update_plug}
use Rattle.fw_terms.proofs.Tables.{update_plug_same}
use Rattle.fw_plug.specs.Words.{OutFields, Settings}
use Rattle.fw_model_account.specs.Moves.{ConnectFirst, ConnectOverlaid, DisconnectOutput}
use Rattle.fw_model_account.specs.Words.{OutputPlug, fields_at}
use Rattle.fw_model_account.specs.Decode.{is_more, kind_of}
use Rattle.fw_account_tables.specs.Stands.{OutputsFor, SecondFor}
use Rattle.fw_account_tables.specs.Swaps.{Shows}
use Rattle.fw_model_account.proofs.Decoded.{output_of_word}
use Rattle.fw_account_tables.proofs.Swapping.{swap_decoded, plug_set}
use Rattle.fw_account_tables.proofs.PlugSwaps.{plug_other, output_shows, connected_is}

-- ---- the word of an output plug that is there

pub is_there_output : (t : Tables) (l : Account) (p : PlugAt) → StandsFor t l → nat_lt p.plug (slice_index t.outs p.device) ≡ true
    → is_output l.latest p ≡ true
is_there_output t l p h lt = h.plugs.outs p ∙ lt

pub output_word_shows : (t : Tables) (l : Account) (p : PlugAt) → StandsFor t l → is_output l.latest p ≡ true
    → Shows (word_at t.outputs.items p) (l.outputs p)
output_word_shows t l p h is = output_shows (fields_at l p) (l.outputs p) (word_at t.outputs.items p) (h.outputs.words p is) refl refl (h.sound.counts p).0
    (h.sound.settings_fit p is)

-- the settings that the word shows
pub output_word_keeps : (t : Tables) (l : Account) (p : PlugAt) → StandsFor t l → is_output l.latest p ≡ true
    → (out_fields (word_at t.outputs.items p)).settings ≡ l.settings p
output_word_keeps t l p h is = ap (λ w. (out_fields w).settings) (h.outputs.words p is) ∙ ap (λ (f : OutFields). f.settings) (output_of_word l p h.sound is)

-- ---- the tables after a move

-- the word of a plug with these connections
abbrev word_with : (PlugAt → Settings) → PlugAt → Connections → ℕ
word_with settings q z = out_word (record { broadcast = is_there z.broadcast; counter = counter z; settings = settings q })

pub outputs_set : (t : Tables) (l : Account) (p : PlugAt) (word : ℕ) (x : Seats) (s : Connections) (settings : PlugAt → Settings) → StandsFor t l
    → is_output l.latest p ≡ true → word ≡ out_word (record { broadcast = is_there s.broadcast; counter = counter s; settings = settings p })
    → SeatsFor x s → ((q : PlugAt) → q ≢ p → settings q ≡ l.settings q)
    → OutputsFor (slice_set t.outputs.items (place p) word) (slice_set t.output_seats.items (place p) x) l.latest (update_plug l.outputs p s) settings
outputs_set t l p word x s settings h is here seat keeps = record {
  words = plug_set (is_output l.latest) (λ q w. w ≡ word_with settings q (update_plug l.outputs p s q)) t.outputs.items p word 0 h.sizes.outputs range is
      (here ∙ ap (word_with settings p) (sym (update_plug_same l.outputs p s)))
      (λ q ne at. h.outputs.words q at ∙ ap (λ k. out_word
      (record { broadcast = is_there (l.outputs q).broadcast; counter = counter (l.outputs q); settings = k })) (sym (keeps q ne)) ∙ ap
      (word_with settings q) (sym (plug_other l.outputs p s q ne)));
  seats = plug_set (is_output l.latest) (λ q y. SeatsFor y (update_plug l.outputs p s q)) t.output_seats.items p x no_seats h.sizes.output_seats range is
      (subst (λ z. SeatsFor x z) (sym (update_plug_same l.outputs p s)) seat)
      (λ q ne at. subst (λ z. SeatsFor (seats_at t.output_seats.items q) z) (sym (plug_other l.outputs p s q ne)) (h.outputs.seats q at));
}
  where
    range : (q : PlugAt) → is_output l.latest q ≡ true → (q.device < 63) × (q.plug < 31)
    range q at = output_in_range l.latest q h.sound.range at

-- other allocations, connections and settings
pub outputs_stand : (t : Tables) (l : Account) (charges : Vec Charge Global) (words : Vec ℕ Global) (seats : Vec Seats Global) (continues : Vec Bool Global)
    (a : ℕ → Option Allocation) (o : PlugAt → Connections) (k : PlugAt → Settings) (g : PlugAt → Bool) → StandsFor t l
    → length charges.items ≡ 64 → length words.items ≡ 1953 → length seats.items ≡ 1953 → length continues.items ≡ 1953
    → ResourcesFor l.withheld t.left t.high t.low charges.items a → OutputsFor words.items seats.items l.latest o k
    → SecondFor t.reclaiming t.reclaimable.items continues.items (record l { allocations = a; outputs = o; settings = k; continues = g })
    → IsSound (record l { allocations = a; outputs = o; settings = k; continues = g })
    → StandsFor (record t { charges = charges; outputs = words; output_seats = seats; continues = continues })
    (record l { allocations = a; outputs = o; settings = k; continues = g })
outputs_stand t l charges words seats continues a o k g h charge_size word_size seat_size continue_size resources outputs second sound = record {
  sizes = record {
    charges = charge_size;
    reclaimable = h.sizes.reclaimable;
    addressed = h.sizes.addressed;
    asked = h.sizes.asked;
    outputs = word_size;
    inputs = h.sizes.inputs;
    output_seats = seat_size;
    input_seats = h.sizes.input_seats;
    continues = continue_size;
  };
  latest = h.latest;
  plugs = h.plugs;
  withheld = h.withheld;
  resources = resources;
  second = second;
  outputs = outputs;
  inputs = h.inputs;
  controllers = h.controllers;
  sound = sound;
}

-- the sizes after the writes
pub words_size : (t : Tables) (l : Account) (p : PlugAt) (word : ℕ) → StandsFor t l → length (slice_set t.outputs.items (place p) word) ≡ 1953
words_size t l p word h = length-set t.outputs.items (place p) word ∙ h.sizes.outputs

pub seats_size : (t : Tables) (l : Account) (p : PlugAt) (x : Seats) → StandsFor t l → length (slice_set t.output_seats.items (place p) x) ≡ 1953
seats_size t l p x h = length-set t.output_seats.items (place p) x ∙ h.sizes.output_seats

-- ---- what the words decide

-- the move of a swap that finds the plug's word
pub output_decided : (t : Tables) (l : Account) (c : ℕ) (p : PlugAt) (arg new : ℕ) (kind : ConnectionKind) (more connected : Bool) → StandsFor t l
    → is_output l.latest p ≡ true → arg ≡ word_at t.outputs.items p
    → kind ≡ kind_of (out_fields arg).broadcast (out_fields new).broadcast
    → is_more (out_fields arg).broadcast (out_fields arg).counter (out_fields new).broadcast (out_fields new).counter ≡ more
    → is_connected arg ≡ connected
    → decoded l c (OutputPlug p) arg new ≡ Some (
      p,
      cond more
          (cond connected (ConnectOverlaid kind) (ConnectFirst kind (out_fields new).settings.channel (out_fields new).settings.overhead))
          (DisconnectOutput kind),
    )
output_decided t l c p arg new kind more connected h is e kind_is more_is connected_at =
    let has : has_connection (l.outputs p) ≡ connected = sym (connected_is (word_at t.outputs.items p) (l.outputs p) (output_word_shows t l p h is)) ∙ ap
    is_connected (sym e) ∙ connected_at in
    rw (more_is, has, ← kind_is) refl

-- it is the move that the parts of the swap make or refuse
pub output_follows : (t : Tables) (l : Account) (c : ℕ) (p : PlugAt) (arg new : ℕ) (kind : ConnectionKind) (more connected : Bool) (m : Move) (taken : Bool)
    (made : Tables) → StandsFor t l → is_output l.latest p ≡ true → arg ≡ word_at t.outputs.items p
    → kind ≡ kind_of (out_fields arg).broadcast (out_fields new).broadcast
    → is_more (out_fields arg).broadcast (out_fields arg).counter (out_fields new).broadcast (out_fields new).counter ≡ more
    → is_connected arg ≡ connected
    → cond more (cond connected (ConnectOverlaid kind) (ConnectFirst kind (out_fields new).settings.channel (out_fields new).settings.overhead))
    (DisconnectOutput kind) ≡ m
    → Follows taken t made (moved_by c (allowed l c (OutputPlug p) (word_at t.outputs.items p) new (Some (p, m))) l)
    → Follows taken t made (moved_by c (move_at l c (OutputPlug p) arg new) l)
output_follows t l c p arg new kind more connected m taken made h is same kind_is more_is connected_at move follows =
    swap_decoded taken t made l c (OutputPlug p) arg new (Some (p, m))
    (output_decided t l c p arg new kind more connected h is same kind_is more_is connected_at ∙ ap (λ k. Some (p, k)) move)
    (subst (λ w. Follows taken t made (moved_by c (allowed l c (OutputPlug p) w new (Some (p, m))) l)) (sym same) follows)
