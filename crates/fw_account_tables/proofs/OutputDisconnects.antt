-- Swaps of output plug registers that break a connection.
use Rattle.fw_account_tables.proofs.Common.{PlugAt, ConnectionKind, ◌≡◌, ◌<◌, ◌≤◌, ◌+◌, ◌&&◌, not, ℕ, Bool, true, false, Some, refl}
use Rattle.fw_account_tables.proofs.Common.{sym, ◌∙◌, ap, subst, arith, length-set, true≢false, with_item, out_word}
use Rattle.fw_account_tables.proofs.Common.{out_fields, is_connected, units, Account, Allocation, Connections, counter, has_connection}
use Rattle.fw_account_tables.proofs.Common.{is_free, is_there, word_of, is_output, IsMove, allowed, IsSound, StandsFor, Follows, SeatsFor}
use Rattle.fw_account_tables.proofs.Common.{place, word_at, connection_value, moved_by, Seats, Tables, moves_keep}
use Rattle.fw_terms.specs.Tables.{update_plug}
use Rattle.fw_terms.proofs.Tables.{update_plug_same}
use Rattle.fw_plug.specs.Words.{Settings}
use Rattle.fw_model_account.specs.Account.{Pending, allocated, has_pending}
use Rattle.fw_model_account.specs.Moves.{HasConnection, DisconnectOutput, CanDisconnectOutput}
use Rattle.fw_model_account.specs.Moves.{HasNoPending, after, drop_connection, made_pending}
use Rattle.fw_model_account.specs.Words.{OutputPlug, fields_at}
use Rattle.fw_model_account.specs.Decode.{is_plug, has_connection_of}
use Rattle.fw_account_tables.specs.declared.tables.Charge.TheVariants.{Pending as PendingCharge}
use Rattle.fw_model_account.proofs.Allocations.{total_changed}
use Rattle.fw_model_account.proofs.Connections.{had_connection, fewer_connections}
use Rattle.fw_model_account.proofs.Tests.{has_connection_of-true, has_connection_of_from}
use Rattle.fw_model_account.proofs.Tests.{is_plug-true, is_plug_self, none_pending, no_pending_found}
use Rattle.fw_account_tables.proofs.Swapping.{swap_taken, swap_refused, charge_set}
use Rattle.fw_account_tables.proofs.PlugSwaps.{output_shows, connected_is, units_of_word, bits_less}
use Rattle.fw_account_tables.proofs.OutputSwaps.{output_word_keeps, outputs_set, outputs_stand, words_size, seats_size}

dropped_word : (t : Tables) (l : Account) (c : ℕ) (p : PlugAt) (kind : ConnectionKind) → StandsFor t l → c < 63 → is_output l.latest p ≡ true
    → HasConnection c kind (l.outputs p) → word_at t.outputs.items p ≡ word_of (after c p (DisconnectOutput kind) l) (OutputPlug p) + connection_value kind
dropped_word t l c p kind h lt is has =
    let less = bits_less c kind (l.outputs p) lt has in
    let was = h.outputs.words p is in
    let now : word_of (after c p (DisconnectOutput kind) l) (OutputPlug p) ≡ out_word
    (record {
      broadcast = is_there (drop_connection c kind (l.outputs p)).broadcast;
      counter = counter (drop_connection c kind (l.outputs p));
      settings =
          l.settings p;
    })
    = ap (λ s. out_word (record { broadcast = is_there s.broadcast; counter = counter s; settings = l.settings p }))
    (update_plug_same l.outputs p (drop_connection c kind (l.outputs p))) in
    omega arith

-- what is left shows in the word
dropped_shows : (t : Tables) (l : Account) (c : ℕ) (p : PlugAt) (kind : ConnectionKind) (new : ℕ) → StandsFor t l → c < 63 → is_output l.latest p ≡ true
    → HasConnection c kind (l.outputs p) → word_at t.outputs.items p ≡ new + connection_value kind
    → (word_of (after c p (DisconnectOutput kind) l) (OutputPlug p) ≡ new) × (is_connected new ≡ has_connection (drop_connection c kind (l.outputs p)))
dropped_shows t l c p kind new h lt is has less =
    let s : Connections = drop_connection c kind (l.outputs p) in
    let e = dropped_word t l c p kind h lt is has in
    let later : word_of (after c p (DisconnectOutput kind) l) (OutputPlug p) ≡ new = omega arith in
    let word = sym later ∙ ap (λ z. out_word (record { broadcast = is_there z.broadcast; counter = counter z; settings = l.settings p }))
    (update_plug_same l.outputs p s) in
    let most : counter s ≤ 63 = omega (arith, fewer_connections c kind (l.outputs p) lt, (h.sound.counts p).0) in (
      later,
      connected_is new s (output_shows (record { broadcast = is_there s.broadcast; counter = counter s; settings = l.settings p }) s new word refl refl
          most (h.sound.settings_fit p is)),
    )

disconnects : (t : Tables) (l : Account) (c : ℕ) (p : PlugAt) (kind : ConnectionKind) (new : ℕ) → StandsFor t l → is_output l.latest p ≡ true
    → CanDisconnectOutput c p kind l → word_of (after c p (DisconnectOutput kind) l) (OutputPlug p) ≡ new
    → IsMove c p (DisconnectOutput kind) (OutputPlug p) (word_at t.outputs.items p) new l
disconnects t l c p kind new h is can later = record { can = can; place = refl; before = sym (h.outputs.words p is); later = later }

pub dropped_follows : (t : Tables) (l : Account) (c : ℕ) (p : PlugAt) (kind : ConnectionKind) (new : ℕ) (x : Seats) → StandsFor t l → c < 63
    → is_output l.latest p ≡ true → has_connection_of c kind (l.outputs p) ≡ true → word_at t.outputs.items p ≡ new + connection_value kind
    → is_connected new ≡ true
    → SeatsFor x (drop_connection c kind (l.outputs p)) → (made : Tables)
    → made ≡ record t { outputs = with_item t.outputs (place p) new; output_seats = with_item t.output_seats (place p) x }
    → Follows true t made (moved_by c (allowed l c (OutputPlug p) (word_at t.outputs.items p) new (Some (p, DisconnectOutput kind))) l)
dropped_follows t l c p kind new x h lt is has less connected seat made at =
    let s : Connections = drop_connection c kind (l.outputs p) in
    let had = has_connection_of-true c kind (l.outputs p) has in
    let shows = dropped_shows t l c p kind new h lt is had less in
    let still : has_connection s ≡ true = sym shows.1 ∙ connected in
    let k = disconnects t l c p kind new h is (record { has = had; last = λ gone. absurd (true≢false (sym still ∙ gone)) }) shows.0 in
    let word = sym k.later ∙ ap (λ z. out_word (record { broadcast = is_there z.broadcast; counter = counter z; settings = l.settings p }))
    (update_plug_same l.outputs p s) in
    let after_it : after c p (DisconnectOutput kind) l ≡ record l { outputs = update_plug l.outputs p s } = rw still refl in
    swap_taken t made l c p (DisconnectOutput kind) (OutputPlug p) (word_at t.outputs.items p) new k
    (rw (at, after_it)
    (outputs_stand t l t.charges (with_item t.outputs (place p) new) (with_item t.output_seats (place p) x) t.continues l.allocations
    (update_plug l.outputs p s) l.settings l.continues h h.sizes.charges (words_size t l p new h) (seats_size t l p x h) h.sizes.continues
    h.resources (outputs_set t l p new x s l.settings h is word seat (λ q ne. refl))
    (record { runs = h.second.runs; reclaimable = h.second.reclaimable; continues = h.second.continues })
    (subst (λ m. IsSound m) after_it (moves_keep c p (DisconnectOutput kind) l lt h.sound k.can))))

-- the controller may hold the plug's channel
both : (a b : Bool) → (a && b) ≡ true → (a ≡ true) × (b ≡ true)
both a b e = (grind arith, grind arith)

may_hold_is : (l : Account) (c : ℕ) (p : PlugAt) → IsSound l → (not (has_pending c l.allocations) && is_plug p (l.addressed c)) ≡ true
    → HasNoPending c l.allocations × (l.addressed c ≡ Some p)
may_hold_is l c p s e = let f = both (not (has_pending c l.allocations)) (is_plug p (l.addressed c)) e in
    (none_pending l c s (grind (arith, f.0)), is_plug-true p (l.addressed c) f.1)

pub last_follows : (t : Tables) (l : Account) (c : ℕ) (p : PlugAt) (kind : ConnectionKind) (new : ℕ) (x : Seats) → StandsFor t l → c < 63
    → is_output l.latest p ≡ true → has_connection_of c kind (l.outputs p) ≡ true → word_at t.outputs.items p ≡ new + connection_value kind
    → is_connected new ≡ false
    → (not (has_pending c l.allocations) && is_plug p (l.addressed c)) ≡ true → SeatsFor x (drop_connection c kind (l.outputs p))
    → (made : Tables) → made ≡ record t {
      charges = with_item t.charges (out_fields (word_at t.outputs.items p)).settings.channel
          (PendingCharge c p (units (word_at t.outputs.items p)));
      outputs = with_item t.outputs (place p) new;
      output_seats = with_item t.output_seats
          (place p) x;
    }
    → Follows true t made (moved_by c (allowed l c (OutputPlug p) (word_at t.outputs.items p) new (Some (p, DisconnectOutput kind))) l)
last_follows t l c p kind new x h lt is has less none may seat made eq =
    let s : Connections = drop_connection c kind (l.outputs p) in
    let w : ℕ = word_at t.outputs.items p in
    let had = has_connection_of-true c kind (l.outputs p) has in
    let shows = dropped_shows t l c p kind new h lt is had less in
    let gone : has_connection s ≡ false = sym shows.1 ∙ none in
    let k = disconnects t l c p kind new h is (record { has = had; last = λ e. may_hold_is l c p h.sound may }) shows.0 in
    let word = sym k.later ∙ ap (λ z. out_word (record { broadcast = is_there z.broadcast; counter = counter z; settings = l.settings p }))
    (update_plug_same l.outputs p s) in
    let own = h.sound.allocated p (had_connection c kind (l.outputs p) lt had) in
    let ch : ℕ = (l.settings p).channel in
    let within = h.sound.bounded ch _ own in
    let at : (out_fields w).settings.channel ≡ ch = ap (λ (q : Settings). q.channel) (output_word_keeps t l p h is) in
    let cost : units w ≡ allocated (l.allocations ch) = ap units (h.outputs.words p is) ∙ units_of_word (fields_at l p)
    (let most = h.sound.counts p in omega arith) (h.sound.settings_fit p is) ∙ sym (ap allocated own) in
    let a : Allocation = record { holder = Pending c p; units = allocated (l.allocations ch) } in
    let sum = total_changed l.allocations ch (Some a) within in
    let left = h.resources.left in
    let after_it : after c p (DisconnectOutput kind) l ≡ record l { allocations = made_pending c p ch l; outputs = update_plug l.outputs p s } = rw gone refl
    in
    let made_is : made ≡ record t {
      charges = with_item t.charges ch (PendingCharge c p (units w));
      outputs = with_item t.outputs (place p) new;
      output_seats
          = with_item t.output_seats (place p) x;
    }
    = eq ∙ ap (λ n. record t {
      charges = with_item t.charges n (PendingCharge c p (units w));
      outputs = with_item t.outputs (place p) new;
      output_seats =
          with_item t.output_seats (place p) x;
    }) at in
    swap_taken t made l c p (DisconnectOutput kind) (OutputPlug p) w new k
    (rw (made_is, after_it)
    (outputs_stand t l (with_item t.charges ch (PendingCharge c p (units w))) (with_item t.outputs (place p) new) (with_item t.output_seats (place p) x)
    t.continues (made_pending c p ch l) (update_plug l.outputs p s) l.settings l.continues h
    (length-set t.charges.items ch _ ∙ h.sizes.charges) (words_size t l p new h) (seats_size t l p x h) h.sizes.continues
    (charge_set l.withheld t.left t.high t.low t.left t.charges.items l.allocations ch (PendingCharge c p (units w)) a h.sizes.charges (ap is_free own)
    (ap (λ u. Some (record { holder = Pending c p; units = u })) cost) (omega arith) h.resources)
    (outputs_set t l p new x s l.settings h is word seat (λ q ne. refl))
    (record { runs = h.second.runs; reclaimable = h.second.reclaimable; continues = h.second.continues })
    (subst (λ m. IsSound m) after_it (moves_keep c p (DisconnectOutput kind) l lt h.sound k.can))))

-- it is no connection of the controller, or another word
pub dropped_refused : (t : Tables) (l : Account) (c : ℕ) (p : PlugAt) (kind : ConnectionKind) (new : ℕ) → StandsFor t l → c < 63
    → is_output l.latest p ≡ true → (has_connection_of c kind (l.outputs p) ≡ true → word_at t.outputs.items p ≡ new + connection_value kind → ⊥)
    → Follows false t t (moved_by c (allowed l c (OutputPlug p) (word_at t.outputs.items p) new (Some (p, DisconnectOutput kind))) l)
dropped_refused t l c p kind new h lt is never =
    swap_refused t l c p (DisconnectOutput kind) (OutputPlug p) (word_at t.outputs.items p) new h.sound
    (λ k. never (has_connection_of_from c kind (l.outputs p) k.can.has)
    (dropped_word t l c p kind h lt is k.can.has ∙ ap (λ w. w + connection_value kind) k.later))

-- the last connection is broken by a controller that may not hold the plug's channel
pub last_refused : (t : Tables) (l : Account) (c : ℕ) (p : PlugAt) (kind : ConnectionKind) (new : ℕ) → StandsFor t l → c < 63 → is_output l.latest p ≡ true
    → has_connection_of c kind (l.outputs p) ≡ true → word_at t.outputs.items p ≡ new + connection_value kind → is_connected new ≡ false
    → (not (has_pending c l.allocations) && is_plug p (l.addressed c)) ≡ false
    → Follows false t t (moved_by c (allowed l c (OutputPlug p) (word_at t.outputs.items p) new (Some (p, DisconnectOutput kind))) l)
last_refused t l c p kind new h lt is has less none never =
    swap_refused t l c p (DisconnectOutput kind) (OutputPlug p) (word_at t.outputs.items p) new h.sound
    (λ k.
    let shows = dropped_shows t l c p kind new h lt is k.can.has less in
    let held = k.can.last (sym shows.1 ∙ none) in
    true≢false (sym (pair (has_pending c l.allocations) (is_plug p (l.addressed c)) (no_pending_found l c held.0) (is_plug_self p (l.addressed c) held.1)) ∙
    never))
  where
    pair : (a b : Bool) → a ≡ false → b ≡ true → (not a && b) ≡ true
    pair a b e f = grind arith
