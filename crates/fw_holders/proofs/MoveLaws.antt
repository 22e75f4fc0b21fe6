-- The deed of a move is that of its register and its two words.
use Rattle.fw_holders.proofs.Common.{◌≡◌, ◌+◌, ◌==◌, ℕ, Bool, true, false, nat_lt, Option, Some, None, cond, refl, sym, ap, ◌∙◌, arith, false≢true, PlugAt, field, Account, has_connection, is_output}
use Rattle.fw_holders.proofs.Common.{is_input}
use Rattle.std.proofs.Common.{◌-◌, ◌&&◌}
use Rattle.std.specs.Bool.{⊤}
use Rattle.std.proofs.lemmas.Bool.Decides.{nat_tests}
use Rattle.fw_terms.specs.declared.plug.ConnectionKind.{ConnectionKind}
use Rattle.fw_plug.specs.Words.{is_connected, out_fields, in_fields}
use Rattle.fw_model_account.specs.Account.{pending_channel}
use Rattle.fw_model_account.specs.Sound.{IsSound}
use Rattle.fw_model_account.specs.Decode.{can, changed_bit, is_more, kind_of, units_move, bandwidth_move, channel_move}
use Rattle.fw_model_account.specs.Decode.{at_addressed, held_for, decoded, same_register, register_of_move, allowed, move_at}
use Rattle.fw_model_account.specs.Moves.{Move, AllocateChannel, AllocateUnits, ConnectFirst, ConnectOverlaid, ConnectInput, DisconnectInput, DisconnectOutput, ReleaseUnits, ReleaseChannel, after}
use Rattle.fw_model_account.specs.Words.{Register, BandwidthAvailable, ChannelsAvailable, OutputPlug, InputPlug, word_of, fields_at, input_fields_at}
use Rattle.fw_account_tables.proofs.PlugSwaps.{output_shows, input_shows, connected_is}
use Rattle.fw_holders_text.specs.declared.deed.Deed.{Deed}
use Rattle.fw_holders_text.specs.declared.deed.Deed.TheVariants.{TakesChannel, TakesUnits, GivesUnits, GivesChannel}
use Rattle.fw_holders_text.specs.declared.names.Side.TheVariants.{Output, Input}
use Rattle.fw_holders.specs.Moves.{deed_of}
use Rattle.fw_holders.specs.Found.{units_deed, channel_deed, connection_deed, word_deed}

-- a plug whose register is one of the account is there
abbrev pub IsIn : Account → Register → Type 0
IsIn l BandwidthAvailable = ⊤
IsIn l (ChannelsAvailable base) = ⊤
IsIn l (OutputPlug p) = is_output l.latest p ≡ true
IsIn l (InputPlug p) = is_input l.latest p ≡ true

-- the deed of what is decoded
abbrev pub deed_in : Account → Option (PlugAt × Move) → Option Deed
deed_in l None = None
deed_in l (Some m) = Some (deed_of l m.0 m.1)

both_true : (a b : Bool) → (a && b) ≡ true → (a ≡ true) × (b ≡ true)
both_true true b e = (refl, e)
both_true false b e = absurd (false≢true e)

if_some : {X : Type 0} (b : Bool) (k m : X) → cond b (Some k) None ≡ Some m → (b ≡ true) × (Some k ≡ Some m)
if_some true k m e = (refl, e)
if_some false k m e = let z : ⊥ = cc in absurd z

same_word : (x y : ℕ) → (x == y) ≡ true → x ≡ y
same_word x y e = grind (arith, nat_tests)

-- what is allowed is what was decoded, and its argument the word of the register
allowed_is : (l : Account) (c : ℕ) (v : Register) (a n : ℕ) (o : Option (PlugAt × Move)) (m : PlugAt × Move) → allowed l c v a n o ≡ Some m → (o ≡ Some m) × (word_of l v ≡ a)
allowed_is l c v a n None m e = let z : ⊥ = cc in absurd z
allowed_is l c v a n (Some k) m e =
    let x : Bool = can c k.0 k.1 l && same_register (register_of_move k.0 k.1) v in
    let y : Bool = word_of l v == a in
    let z : Bool = word_of (after c k.0 k.1 l) v == n in
    let f : ((x && y && z) ≡ true) × (Some k ≡ Some m) = if_some (x && y && z) k m e in
    let g : ((x && y) ≡ true) × (z ≡ true) = both_true (x && y) z f.0 in
    let h : (x ≡ true) × (y ≡ true) = both_true x y g.0 in
    let word : word_of l v ≡ a = same_word (word_of l v) a h.1 in
    (f.1, word)

units_told : (l : Account) (p : PlugAt) (a n ch : ℕ) → units_deed a n ≡ deed_of l p (units_move a n ch)
units_told l p a n ch = by (nat_lt n a)
  where
    by : (b : Bool) → cond b (TakesUnits (a - n)) (GivesUnits (n - a)) ≡ deed_of l p (cond b (AllocateUnits ch (a - n)) (ReleaseUnits ch (n - a)))
    by true = refl
    by false = refl

bandwidth_told : (l : Account) (a n : ℕ) (held : Option ℕ) (plug : Option PlugAt) (m : PlugAt × Move) → bandwidth_move held a n plug ≡ Some m
    → Some (units_deed a n) ≡ deed_in l (bandwidth_move held a n plug)
bandwidth_told l a n None plug m e = let z : ⊥ = cc in absurd z
bandwidth_told l a n (Some ch) None m e = let z : ⊥ = cc in absurd z
bandwidth_told l a n (Some ch) (Some p) m e = ap Some (units_told l p a n ch)

at_told : (l : Account) (plug : Option PlugAt) (k : Move) (d : Deed) (m : PlugAt × Move) → ((p : PlugAt) → d ≡ deed_of l p k) → at_addressed plug k ≡ Some m → Some d ≡ deed_in l (at_addressed plug k)
at_told l None k d m same e = let z : ⊥ = cc in absurd z
at_told l (Some p) k d m same e = ap Some (same p)

channel_told : (l : Account) (c base a : ℕ) (bit : Option ℕ) (m : PlugAt × Move) → channel_move c base a bit l ≡ Some m → channel_deed base a bit ≡ deed_in l (channel_move c base a bit l)
channel_told l c base a None m e = let z : ⊥ = cc in absurd z
channel_told l c base a (Some i) m e = by (field a i i == 1) e
  where
    by : (b : Bool) → cond b (at_addressed (l.addressed c) (AllocateChannel (base + i))) (at_addressed (held_for (l.allocations (base + i))) (ReleaseChannel (base + i))) ≡ Some m
        → cond b (Some (TakesChannel (base + i))) (Some (GivesChannel (base + i))) ≡ deed_in l (cond b (at_addressed (l.addressed c) (AllocateChannel (base + i))) (at_addressed
        (held_for (l.allocations (base + i))) (ReleaseChannel (base + i))))
    by true f = at_told l (l.addressed c) (AllocateChannel (base + i)) _ m (λ p. refl) f
    by false f = at_told l (held_for (l.allocations (base + i))) (ReleaseChannel (base + i)) _ m (λ p. refl) f

output_told : (l : Account) (p : PlugAt) (kind : ConnectionKind) (more connected : Bool) (ch overhead : ℕ)
    → connection_deed Output p kind more connected ≡ deed_of l p (cond more (cond connected (ConnectOverlaid kind) (ConnectFirst kind ch overhead)) (DisconnectOutput kind))
output_told l p kind true true ch overhead = refl
output_told l p kind true false ch overhead = refl
output_told l p kind false connected ch overhead = refl

input_told : (l : Account) (p : PlugAt) (kind : ConnectionKind) (more : Bool) (ch : ℕ)
    → connection_deed Input p kind more (has_connection (l.inputs p)) ≡ deed_of l p (cond more (ConnectInput kind ch) (DisconnectInput kind))
input_told l p kind true ch = refl
input_told l p kind false ch = refl

-- what a swap does that is a move, by its words
pub word_deed_is : (l : Account) (c : ℕ) (v : Register) (a n : ℕ) (m : PlugAt × Move) → IsSound l → IsIn l v → move_at l c v a n ≡ Some m → word_deed v a n ≡ Some (deed_of l m.0 m.1)
word_deed_is l c v a n m s there e = let f = allowed_is l c v a n (decoded l c v a n) m e in by v there f.0 f.1 ∙ ap (deed_in l) f.0
  where
    by : (v : Register) → IsIn l v → decoded l c v a n ≡ Some m → word_of l v ≡ a → word_deed v a n ≡ deed_in l (decoded l c v a n)
    by BandwidthAvailable is d w = bandwidth_told l a n (pending_channel c l.allocations) (l.addressed c) m d
    by (ChannelsAvailable base) is d w = channel_told l c base a (changed_bit a n) m d
    by (OutputPlug p) is d w =
        let f = out_fields a in
        let g = out_fields n in
        let same : is_connected a ≡ has_connection (l.outputs p) =
        connected_is a (l.outputs p) (output_shows (fields_at l p) (l.outputs p) a (sym w) refl refl (s.counts p).0 (s.settings_fit p is)) in
        ap (λ b. Some (connection_deed Output p (kind_of f.broadcast g.broadcast) (is_more f.broadcast f.counter g.broadcast g.counter) b)) same
        ∙ ap Some (output_told l p (kind_of f.broadcast g.broadcast) (is_more f.broadcast f.counter g.broadcast g.counter) (has_connection (l.outputs p)) g.settings.channel g.settings.overhead)
    by (InputPlug p) is d w =
        let f = in_fields a in
        let g = in_fields n in
        let same : is_connected a ≡ has_connection (l.inputs p) =
        connected_is a (l.inputs p) (input_shows (input_fields_at l p) (l.inputs p) a (sym w) refl refl (s.counts p).1 (s.channels_fit p is)) in
        ap (λ b. Some (connection_deed Input p (kind_of f.broadcast g.broadcast) (is_more f.broadcast f.counter g.broadcast g.counter) b)) same
        ∙ ap Some (input_told l p (kind_of f.broadcast g.broadcast) (is_more f.broadcast f.counter g.broadcast g.counter) g.channel)
