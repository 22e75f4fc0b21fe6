-- Each move is decoded from its register and its words, and what is decoded and allowed is a move.
use Rattle.fw_model_account.proofs.Common.{PlugAt, ConnectionKind, ◌≡◌, ℕ, ◌+◌, ◌-◌, ◌<◌, ◌==◌, ◌&&◌, Bool, true, false, Option, Some, None, nat_lt, refl, sym, ap, ◌∙◌, true≢false, arith, cond, subst}
use Rattle.fw_model_account.proofs.Common.{nat_tests, false≢true, update, field, Pending, Allocation, Connections, Account, counter, has_connection, is_there, is_open, is_output, is_input, Move}
use Rattle.fw_model_account.proofs.Common.{AllocateChannel, AllocateUnits, ConnectFirst, ConnectOverlaid, ConnectInput, DisconnectInput, DisconnectOutput, ReleaseUnits, ReleaseChannel, Can, after}
use Rattle.fw_model_account.proofs.Common.{add_connection, drop_connection, Register, BandwidthAvailable, ChannelsAvailable, InputPlug, bits_word, word_of, move_at, IsSound}
use Rattle.fw_terms.proofs.Tables.{update_plug_same, same_plug-true, same_plug_self}
use Rattle.fw_plug.specs.Words.{OutFields, InFields, Settings, out_fields, in_fields, out_word, in_word}
use Rattle.fw_plug.proofs.Words.{fields_of_word, in_fields_of_word}
use Rattle.fw_model_account.specs.Words.{OutputPlug, channel_word, fields_at, input_fields_at}
use Rattle.fw_model_account.specs.Decode.{register_of_move, changed_bit, channel_move, output_move, input_move, decoded, same_register, IsMove, can, allowed}
use Rattle.fw_model_account.proofs.Connections.{had_connection}
use Rattle.fw_model_account.proofs.Network.{not_both}
use Rattle.fw_model_account.proofs.Tests.{can_is, can_from}
use Rattle.fw_model_account.proofs.Moves.{moves_keep}
use Rattle.fw_model_account.proofs.Open.{opens, taken, not_withheld}
use Rattle.fw_model_account.proofs.Words.{free_bit}
use Rattle.fw_model_account.proofs.Decode.{pending_is, units_allocated, units_released, changed_at, more, fewer, kind_added, kind_dropped, empty_has_room}

-- ---- the manager's registers

channel_allocated : (l : Account) (c : ℕ) (p : PlugAt) (ch base i : ℕ) → Can c p (AllocateChannel ch) l → i < 32 → base + i ≡ ch
    → channel_move c base (channel_word l base) (changed_bit (channel_word l base) (channel_word (after c p (AllocateChannel ch) l) base)) l ≡ Some (p, AllocateChannel ch)
channel_allocated l c p ch base i h lt at =
    let free : ℕ → Bool = λ k. is_open l.withheld l.allocations (base + k) in
    let now : ℕ → Bool = λ k. is_open l.withheld (update l.allocations ch (Some (record { holder = Pending c p; units = 0 }))) (base + k) in
    let was : free i ≡ true = rw at h.available in
    let is : now i ≡ false = grind (arith, nat_tests) in
    let bit = changed_at free now i lt (λ e. true≢false (sym was ∙ e ∙ is)) (λ j ne. grind (arith, nat_tests)) in
    let one : (field (bits_word free) i i == 1) ≡ true = rw (free_bit free i lt, was) refl in
    rw bit (rw one (rw h.addressed (ap (λ k. Some (p, AllocateChannel k)) at)))

channel_released : (l : Account) (c : ℕ) (p : PlugAt) (ch base i : ℕ) → IsSound l → Can c p (ReleaseChannel ch) l → i < 32 → base + i ≡ ch
    → channel_move c base (channel_word l base) (changed_bit (channel_word l base) (channel_word (after c p (ReleaseChannel ch) l) base)) l ≡ Some (p, ReleaseChannel ch)
channel_released l c p ch base i s h lt at =
    let given : ℕ → Option Allocation = update l.allocations ch None in
    let free : ℕ → Bool = λ k. is_open l.withheld l.allocations (base + k) in
    let now : ℕ → Bool = λ k. is_open l.withheld given (base + k) in
    let was : free i ≡ false = rw at (taken l.withheld l.allocations ch _ h.held) in
    let is : now i ≡ true = rw at (opens l.withheld given ch (grind (arith, nat_tests)) (not_withheld l ch _ s h.held)) in
    let bit = changed_at free now i lt (λ e. true≢false (sym is ∙ sym e ∙ was)) (λ j ne. grind (arith, nat_tests)) in
    let one : (field (bits_word free) i i == 1) ≡ false = rw (free_bit free i lt, was) refl in
    rw bit (rw one (rw (at, h.held) refl))

-- ---- plug registers

pub output_of_word : (l : Account) (p : PlugAt) → IsSound l → is_output l.latest p ≡ true → out_fields (out_word (fields_at l p)) ≡ fields_at l p
output_of_word l p s is = fields_of_word (fields_at l p) (let m = s.counts p in omega arith) (s.settings_fit p is)

pub input_of_word : (l : Account) (p : PlugAt) → IsSound l → is_input l.latest p ≡ true → in_fields (in_word (input_fields_at l p)) ≡ input_fields_at l p
input_of_word l p s is = in_fields_of_word (input_fields_at l p) (let m = s.counts p in omega arith) (s.channels_fit p is)

output_moves : (f g f' g' : OutFields) (b : Bool) (m : Move) → f ≡ f' → g ≡ g' → output_move f' g' b ≡ m → output_move f g b ≡ m
output_moves f g f' g' b m e d h = rw (e, d) h

input_moves : (f g f' g' : InFields) (m : Move) → f ≡ f' → g ≡ g' → input_move f' g' ≡ m → input_move f g ≡ m
input_moves f g f' g' m e d h = rw (e, d) h

-- an output plug's move, by the fields before and after
output_decoded : (l m : Account) (c : ℕ) (p : PlugAt) (g : OutFields) (k : Move) → IsSound l → IsSound m → is_output l.latest p ≡ true → is_output m.latest p ≡ true → fields_at m p ≡ g
    → output_move (fields_at l p) g (has_connection (l.outputs p)) ≡ k → decoded l c (OutputPlug p) (word_of l (OutputPlug p)) (word_of m (OutputPlug p)) ≡ Some (p, k)
output_decoded l m c p g k s t is at e h = ap (λ v. Some (p, v)) (output_moves _ _ (fields_at l p) g (has_connection (l.outputs p)) k (output_of_word l p s is) (output_of_word m p t at ∙ e) h)

input_decoded : (l m : Account) (c : ℕ) (p : PlugAt) (g : InFields) (k : Move) → IsSound l → IsSound m → is_input l.latest p ≡ true → is_input m.latest p ≡ true → input_fields_at m p ≡ g
    → input_move (input_fields_at l p) g ≡ k → decoded l c (InputPlug p) (word_of l (InputPlug p)) (word_of m (InputPlug p)) ≡ Some (p, k)
input_decoded l m c p g k s t is at e h = ap (λ v. Some (p, v)) (input_moves _ _ (input_fields_at l p) g k (input_of_word l p s is) (input_of_word m p t at ∙ e) h)

connected_first : (l : Account) (c : ℕ) (p : PlugAt) (kind : ConnectionKind) (ch overhead : ℕ) → c < 63 → IsSound l → Can c p (ConnectFirst kind ch overhead) l
    → decoded l c (OutputPlug p) (word_of l (OutputPlug p)) (word_of (after c p (ConnectFirst kind ch overhead) l) (OutputPlug p)) ≡ Some (p, ConnectFirst kind ch overhead)
connected_first l c p kind ch overhead lt s h =
    let new : Connections = add_connection c kind (l.outputs p) in
    let now : Settings = record { channel = ch; rate = (l.settings p).rate; overhead = overhead } in
    let g : OutFields = record { broadcast = is_there new.broadcast; counter = counter new; settings = now } in
    let room = empty_has_room kind (l.outputs p) h.empty in
    output_decoded l (after c p (ConnectFirst kind ch overhead) l) c p g (ConnectFirst kind ch overhead) s (moves_keep c p (ConnectFirst kind ch overhead) l lt s h) h.is_plug h.is_plug
    (rw (update_plug_same l.outputs p new, update_plug_same l.settings p now) refl)
    (rw (more c kind (l.outputs p) lt room, h.empty, kind_added c kind (l.outputs p) room) refl)

connected_overlaid : (l : Account) (c : ℕ) (p : PlugAt) (kind : ConnectionKind) → c < 63 → IsSound l → Can c p (ConnectOverlaid kind) l
    → decoded l c (OutputPlug p) (word_of l (OutputPlug p)) (word_of (after c p (ConnectOverlaid kind) l) (OutputPlug p)) ≡ Some (p, ConnectOverlaid kind)
connected_overlaid l c p kind lt s h =
    let new : Connections = add_connection c kind (l.outputs p) in
    let g : OutFields = record { broadcast = is_there new.broadcast; counter = counter new; settings = l.settings p } in
    let is = s.there p (rw h.connected refl) in
    output_decoded l (after c p (ConnectOverlaid kind) l) c p g (ConnectOverlaid kind) s (moves_keep c p (ConnectOverlaid kind) l lt s h) is is
    (rw (update_plug_same l.outputs p new) refl)
    (rw (more c kind (l.outputs p) lt h.room, h.connected, kind_added c kind (l.outputs p) h.room) refl)

disconnected_output : (l : Account) (c : ℕ) (p : PlugAt) (kind : ConnectionKind) → c < 63 → IsSound l → Can c p (DisconnectOutput kind) l
    → decoded l c (OutputPlug p) (word_of l (OutputPlug p)) (word_of (after c p (DisconnectOutput kind) l) (OutputPlug p)) ≡ Some (p, DisconnectOutput kind)
disconnected_output l c p kind lt s h =
    let new : Connections = drop_connection c kind (l.outputs p) in
    let g : OutFields = record { broadcast = is_there new.broadcast; counter = counter new; settings = l.settings p } in
    let had = had_connection c kind (l.outputs p) lt h.has in
    let is = s.there p (rw had refl) in
    output_decoded l (after c p (DisconnectOutput kind) l) c p g (DisconnectOutput kind) s (moves_keep c p (DisconnectOutput kind) l lt s h) is is
    (rw (update_plug_same l.outputs p new) refl)
    (rw (fewer c kind (l.outputs p) lt h.has, kind_dropped c kind (l.outputs p) h.has) refl)

connected_input : (l : Account) (c : ℕ) (p : PlugAt) (kind : ConnectionKind) (ch : ℕ) → c < 63 → IsSound l → Can c p (ConnectInput kind ch) l
    → decoded l c (InputPlug p) (word_of l (InputPlug p)) (word_of (after c p (ConnectInput kind ch) l) (InputPlug p)) ≡ Some (p, ConnectInput kind ch)
connected_input l c p kind ch lt s h =
    let new : Connections = add_connection c kind (l.inputs p) in
    let g : InFields = record { broadcast = is_there new.broadcast; counter = counter new; channel = ch } in
    input_decoded l (after c p (ConnectInput kind ch) l) c p g (ConnectInput kind ch) s (moves_keep c p (ConnectInput kind ch) l lt s h) h.is_plug h.is_plug
    (rw (update_plug_same l.inputs p new, update_plug_same l.input_channel p ch) refl)
    (rw (more c kind (l.inputs p) lt h.room, kind_added c kind (l.inputs p) h.room) refl)

disconnected_input : (l : Account) (c : ℕ) (p : PlugAt) (kind : ConnectionKind) → c < 63 → IsSound l → Can c p (DisconnectInput kind) l
    → decoded l c (InputPlug p) (word_of l (InputPlug p)) (word_of (after c p (DisconnectInput kind) l) (InputPlug p)) ≡ Some (p, DisconnectInput kind)
disconnected_input l c p kind lt s h =
    let new : Connections = drop_connection c kind (l.inputs p) in
    let g : InFields = record { broadcast = is_there new.broadcast; counter = counter new; channel = l.input_channel p } in
    let is = s.inputs_there p (had_connection c kind (l.inputs p) lt h.has) in
    input_decoded l (after c p (DisconnectInput kind) l) c p g (DisconnectInput kind) s (moves_keep c p (DisconnectInput kind) l lt s h) is is
    (rw (update_plug_same l.inputs p new) refl)
    (rw (fewer c kind (l.inputs p) lt h.has, kind_dropped c kind (l.inputs p) h.has) refl)

-- ---- each move

pub move_decoded : (c : ℕ) (p : PlugAt) (m : Move) (l : Account) → c < 63 → IsSound l → Can c p m l
    → decoded l c (register_of_move p m) (word_of l (register_of_move p m)) (word_of (after c p m l) (register_of_move p m)) ≡ Some (p, m)
move_decoded c p (AllocateChannel ch) l lt s h = go (nat_lt ch 32) refl
  where
    go : (b : Bool) → nat_lt ch 32 ≡ b → decoded l c (ChannelsAvailable (cond {A = ℕ} b 0 32)) (channel_word l (cond {A = ℕ} b 0 32))
        (channel_word (after c p (AllocateChannel ch) l) (cond {A = ℕ} b 0 32)) ≡ Some (p, AllocateChannel ch)
    go true e = channel_allocated l c p ch 0 ch h (grind (arith, nat_tests)) (omega arith)
    go false e = let within = h.within in channel_allocated l c p ch 32 (ch - 32) h (omega arith) (grind (arith, nat_tests))
move_decoded c p (AllocateUnits ch u) l lt s h = rw (pending_is l c p ch 0 s h.channel, h.addressed) (ap (λ m. Some (p, m)) (units_allocated l c p ch u s h))
move_decoded c p (ConnectFirst kind ch overhead) l lt s h = connected_first l c p kind ch overhead lt s h
move_decoded c p (ConnectOverlaid kind) l lt s h = connected_overlaid l c p kind lt s h
move_decoded c p (ConnectInput kind ch) l lt s h = connected_input l c p kind ch lt s h
move_decoded c p (DisconnectInput kind) l lt s h = disconnected_input l c p kind lt s h
move_decoded c p (DisconnectOutput kind) l lt s h = disconnected_output l c p kind lt s h
move_decoded c p (ReleaseUnits ch u) l lt s h = rw (pending_is l c p ch u s h.held, h.addressed) (ap (λ m. Some (p, m)) (units_released l c p ch u s h))
move_decoded c p (ReleaseChannel ch) l lt s h = go (nat_lt ch 32) refl
  where
    go : (b : Bool) → nat_lt ch 32 ≡ b → decoded l c (ChannelsAvailable (cond {A = ℕ} b 0 32)) (channel_word l (cond {A = ℕ} b 0 32))
        (channel_word (after c p (ReleaseChannel ch) l) (cond {A = ℕ} b 0 32)) ≡ Some (p, ReleaseChannel ch)
    go true e = channel_released l c p ch 0 ch s h (grind (arith, nat_tests)) (omega arith)
    go false e = let within = h.within in channel_released l c p ch 32 (ch - 32) s h (omega arith) (grind (arith, nat_tests))

pub same_register_self : (r : Register) → same_register r r ≡ true
same_register_self BandwidthAvailable = refl
same_register_self (ChannelsAvailable base) = grind (arith, nat_tests)
same_register_self (OutputPlug p) = same_plug_self p
same_register_self (InputPlug p) = same_plug_self p

same_register-true : (a b : Register) → same_register a b ≡ true → a ≡ b
same_register-true BandwidthAvailable BandwidthAvailable e = refl
same_register-true BandwidthAvailable (ChannelsAvailable b) e = absurd (false≢true e)
same_register-true BandwidthAvailable (OutputPlug q) e = absurd (false≢true e)
same_register-true BandwidthAvailable (InputPlug q) e = absurd (false≢true e)
same_register-true (ChannelsAvailable a) BandwidthAvailable e = absurd (false≢true e)
same_register-true (ChannelsAvailable a) (ChannelsAvailable b) e = grind (arith, nat_tests)
same_register-true (ChannelsAvailable a) (OutputPlug q) e = absurd (false≢true e)
same_register-true (ChannelsAvailable a) (InputPlug q) e = absurd (false≢true e)
same_register-true (OutputPlug p) BandwidthAvailable e = absurd (false≢true e)
same_register-true (OutputPlug p) (ChannelsAvailable b) e = absurd (false≢true e)
same_register-true (OutputPlug p) (OutputPlug q) e = ap (λ r. OutputPlug r) (same_plug-true p q e)
same_register-true (OutputPlug p) (InputPlug q) e = absurd (false≢true e)
same_register-true (InputPlug p) BandwidthAvailable e = absurd (false≢true e)
same_register-true (InputPlug p) (ChannelsAvailable b) e = absurd (false≢true e)
same_register-true (InputPlug p) (OutputPlug q) e = absurd (false≢true e)
same_register-true (InputPlug p) (InputPlug q) e = ap (λ r. InputPlug r) (same_plug-true p q e)

all_four : (a b c d : Bool) → (a && b && c && d) ≡ true → (a ≡ true) × (b ≡ true) × (c ≡ true) × (d ≡ true)
all_four a b c d e = (grind arith, grind arith, grind arith, grind arith)

same_number : (n k : ℕ) → (n == k) ≡ true → n ≡ k
same_number n k e = grind (arith, nat_tests)

-- what is decoded and allowed is a move
pub allowed_is : (l : Account) (c : ℕ) (register : Register) (arg new : ℕ) (o : Option (PlugAt × Move)) (p : PlugAt) (m : Move) → IsSound l → allowed l c register arg new o ≡ Some (p, m)
    → IsMove c p m register arg new l
allowed_is l c register arg new None p m s e = absurd (not_both None (p, m) refl e)
allowed_is l c register arg new (Some k) p m s e = go (can c k.0 k.1 l && same_register (register_of_move k.0 k.1) register && (word_of l register == arg)
    && (word_of (after c k.0 k.1 l) register == new)) refl e
  where
    made : (can c k.0 k.1 l && same_register (register_of_move k.0 k.1) register && (word_of l register == arg) && (word_of (after c k.0 k.1 l) register == new)) ≡ true
        → IsMove c k.0 k.1 register arg new l
    made t =
        let f = all_four (can c k.0 k.1 l) (same_register (register_of_move k.0 k.1) register) (word_of l register == arg) (word_of (after c k.0 k.1 l) register == new) t in
        record {
          can = can_is c k.0 k.1 l s f.0;
          place = same_register-true (register_of_move k.0 k.1) register f.1;
          before = same_number (word_of l register) arg f.2;
          later = same_number (word_of (after c k.0 k.1 l) register) new f.3;
        }

    go : (b : Bool) → (can c k.0 k.1 l && same_register (register_of_move k.0 k.1) register && (word_of l register == arg) && (word_of (after c k.0 k.1 l) register == new)) ≡ b
        → cond b (Some k) None ≡ Some (p, m) → IsMove c p m register arg new l
    go true t f = let same : k ≡ (p, m) = cc in subst (λ (v : PlugAt × Move). IsMove c v.0 v.1 register arg new l) same (made t)
    go false t f = absurd (not_both None (p, m) refl f)

pub move_at_is : (l : Account) (c : ℕ) (register : Register) (arg new : ℕ) (p : PlugAt) (m : Move) → IsSound l → move_at l c register arg new ≡ Some (p, m) → IsMove c p m register arg new l
move_at_is l c register arg new p m s e = allowed_is l c register arg new (decoded l c register arg new) p m s e

-- and each move is found
found : (c : ℕ) (p : PlugAt) (m : Move) (l : Account) → c < 63 → IsSound l → Can c p m l
    → move_at l c (register_of_move p m) (word_of l (register_of_move p m)) (word_of (after c p m l) (register_of_move p m)) ≡ Some (p, m)
found c p m l lt s h =
    let r : Register = register_of_move p m in
    let one = self (word_of l r) in
    let two = self (word_of (after c p m l) r) in
    rw (move_decoded c p m l lt s h) (rw (can_from c p m l h) (rw (same_register_self r) (rw (one, two) refl)))
  where
    self : (n : ℕ) → (n == n) ≡ true
    self n = grind (arith, nat_tests)

pub move_found : (c : ℕ) (p : PlugAt) (m : Move) (register : Register) (arg new : ℕ) (l : Account) → c < 63 → IsSound l → IsMove c p m register arg new l → move_at l c register arg new ≡ Some (p, m)
move_found c p m register arg new l lt s h = subst (λ w. move_at l c register arg w ≡ Some (p, m)) h.later
    (subst (λ w. move_at l c register w (word_of (after c p m l) register) ≡ Some (p, m)) h.before
    (subst (λ r. move_at l c r (word_of l r) (word_of (after c p m l) r) ≡ Some (p, m)) h.place (found c p m l lt s h.can)))
