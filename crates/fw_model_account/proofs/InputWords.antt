-- A move at an input plug changes the word of its register.
use Rattle.fw_model_account.proofs.Common.{PlugAt, ConnectionKind, PointToPoint, Broadcast, ◌≡◌, ◌≢◌, ℕ, ◌+◌, ◌-◌, ◌<◌, true, sym, ap, ◌∙◌, true≢false, arith, Connections, Account, counter, is_there}
use Rattle.fw_model_account.proofs.Common.{is_input, Move, AllocateChannel, AllocateUnits, ConnectFirst, ConnectOverlaid}
use Rattle.fw_model_account.proofs.Common.{ConnectInput, DisconnectInput, DisconnectOutput, ReleaseUnits, ReleaseChannel, Can}
use Rattle.fw_model_account.proofs.Common.{HasRoom, HasConnection, after, add_connection, drop_connection, InputPlug, word_of, IsSound}
use Rattle.fw_terms.proofs.Tables.{update_plug_same}
use Rattle.fw_plug.specs.Words.{InFields, in_fields}
use Rattle.fw_model_account.specs.Words.{input_fields_at}
use Rattle.fw_model_account.specs.Decode.{register_of_move}
use Rattle.fw_model_account.proofs.Connections.{counter_changed, had_connection}
use Rattle.fw_model_account.proofs.Decoded.{input_of_word}
use Rattle.fw_model_account.proofs.Moves.{moves_keep}

-- one connection more, or less, shows in the counter or in the broadcast bit
added_shows : (c : ℕ) (kind : ConnectionKind) (s : Connections) → c < 63 → HasRoom kind s
    → counter (add_connection c kind s) ≡ counter s → is_there (add_connection c kind s).broadcast ≡ is_there s.broadcast → ⊥
added_shows c PointToPoint s lt room e b = let m = counter_changed c (s.counts c + 1) s lt in omega (arith, m, e)
added_shows c Broadcast s lt room e b = true≢false (b ∙ ap (λ x. is_there x) room)

dropped_shows : (c : ℕ) (kind : ConnectionKind) (s : Connections) → c < 63 → HasConnection c kind s
    → counter (drop_connection c kind s) ≡ counter s → is_there (drop_connection c kind s).broadcast ≡ is_there s.broadcast → ⊥
dropped_shows c PointToPoint s lt has e b = let m = counter_changed c (s.counts c - 1) s lt in omega (arith, m, e, has)
dropped_shows c Broadcast s lt has e b = true≢false (sym (b ∙ ap (λ x. is_there x) has))

-- accounts with one word of a plug's register have one list of its fields
fields_same : (l m : Account) (p : PlugAt) → IsSound l → IsSound m → is_input l.latest p ≡ true → is_input m.latest p ≡ true
    → word_of m (InputPlug p) ≡ word_of l (InputPlug p) → input_fields_at m p ≡ input_fields_at l p
fields_same l m p s t is at e = sym (input_of_word m p t at) ∙ (ap (λ w. in_fields w) e ∙ input_of_word l p s is)

connected_shows : (c : ℕ) (p : PlugAt) (kind : ConnectionKind) (ch : ℕ) (l : Account) → c < 63 → IsSound l → Can c p (ConnectInput kind ch) l
    → word_of (after c p (ConnectInput kind ch) l) (InputPlug p) ≢ word_of l (InputPlug p)
connected_shows c p kind ch l lt s h e =
    let new : Connections = add_connection c kind (l.inputs p) in
    let same = fields_same l (after c p (ConnectInput kind ch) l) p s (moves_keep c p (ConnectInput kind ch) l lt s h) h.is_plug h.is_plug e in
    let is = update_plug_same l.inputs p new in
    added_shows c kind (l.inputs p) lt h.room
    (ap (λ z. counter z) (sym is) ∙ ap (λ (f : InFields). f.counter) same)
    (ap (λ (z : Connections). is_there z.broadcast) (sym is) ∙ ap (λ (f : InFields). f.broadcast) same)

disconnected_shows : (c : ℕ) (p : PlugAt) (kind : ConnectionKind) (l : Account) → c < 63 → IsSound l → Can c p (DisconnectInput kind) l
    → word_of (after c p (DisconnectInput kind) l) (InputPlug p) ≢ word_of l (InputPlug p)
disconnected_shows c p kind l lt s h e =
    let new : Connections = drop_connection c kind (l.inputs p) in
    let there = s.inputs_there p (had_connection c kind (l.inputs p) lt h.has) in
    let same = fields_same l (after c p (DisconnectInput kind) l) p s (moves_keep c p (DisconnectInput kind) l lt s h) there there e in
    let is = update_plug_same l.inputs p new in
    dropped_shows c kind (l.inputs p) lt h.has
    (ap (λ z. counter z) (sym is) ∙ ap (λ (f : InFields). f.counter) same)
    (ap (λ (z : Connections). is_there z.broadcast) (sym is) ∙ ap (λ (f : InFields). f.broadcast) same)

pub input_move_shows : (c : ℕ) (p : PlugAt) (m : Move) (l : Account) → c < 63 → IsSound l → Can c p m l → register_of_move p m ≡ InputPlug p
    → word_of (after c p m l) (InputPlug p) ≢ word_of l (InputPlug p)
input_move_shows c p (AllocateChannel ch) l lt s h r = cc r
input_move_shows c p (AllocateUnits ch u) l lt s h r = cc r
input_move_shows c p (ConnectFirst kind ch overhead) l lt s h r = cc r
input_move_shows c p (ConnectOverlaid kind) l lt s h r = cc r
input_move_shows c p (ConnectInput kind ch) l lt s h r = connected_shows c p kind ch l lt s h
input_move_shows c p (DisconnectInput kind) l lt s h r = disconnected_shows c p kind l lt s h
input_move_shows c p (DisconnectOutput kind) l lt s h r = cc r
input_move_shows c p (ReleaseUnits ch u) l lt s h r = cc r
input_move_shows c p (ReleaseChannel ch) l lt s h r = cc r
