-- No swap changes more of a plug than a connection.
use Rattle.fw_watch_laws.proofs.Common.{◌≡◌, refl, ap, sym, ◌∙◌, subst, inl, inr, ℕ, ◌<◌, ◌≤◌, ◌||◌, nat_lt, Bool, true, false, List, Option, Some, arith, ⊤, cases_Bool, nat_tests, Swap, PlugAt}
use Rattle.fw_watch_laws.proofs.Common.{Settings, ResetEntry, Timed, Account, Move, AllocateChannel, AllocateUnits, ConnectFirst, ConnectOverlaid, ConnectInput, DisconnectInput, DisconnectOutput}
use Rattle.fw_watch_laws.proofs.Common.{ReleaseUnits, ReleaseChannel, Place, OutputPlug, InputPlug, word_of, place_at, register_of_move, IsSound, WatchedRegister, Bandwidth, ChannelsHigh, ChannelsLow}
use Rattle.fw_watch_laws.proofs.Common.{Output, Input, Said, Answer, State, Made, made, IsNumber, IsOrderly, offset_of, HasNone}
use Rattle.fw_terms.proofs.Tables.{update_plug_same}
use Rattle.fw_plug.specs.Words.{FitsRegister, OutFields, InFields, out_word, in_word}
use Rattle.fw_model_account.specs.Account.{Connections, counter, is_there, has_connection}
use Rattle.fw_model_account.specs.Network.{is_output, is_input}
use Rattle.fw_model_account.specs.Moves.{Can, add_connection, drop_connection, after}
use Rattle.fw_model_account.specs.Words.{fields_at, input_fields_at}
use Rattle.fw_model_account.proofs.Connections.{had_connection}
use Rattle.fw_model_account.proofs.Decode.{empty_has_room}
use Rattle.fw_model_account.proofs.Moves.{moves_keep}
use Rattle.fw_watch.specs.Swaps.{is_move}
use Rattle.fw_watch_laws.specs.Orderly.{is_more}
use Rattle.fw_watch_laws.proofs.Remarked.{Kind, OfReset, OfWord, OfSwap, OfMany, OfUnits, OfNew, OfSeveral, OfChannel, IsFree}
use Rattle.fw_watch_laws.proofs.Tests.{is_of_more, is_more_by}
use Rattle.fw_watch_laws.proofs.Passing.{IsNone}
use Rattle.fw_watch_laws.proofs.PlugPlaces.{output_place, input_place}
use Rattle.fw_watch_laws.proofs.PlugWords.{KeepsOut, KeepsIn, one_step, step_added, step_dropped, out_is_move, in_is_move}
use Rattle.fw_watch_laws.proofs.Quiet.{NoneOdd, more_remarks, many_free, units_free, new_free, several_free}
use Rattle.fw_watch_laws.proofs.Silent.{IsOfSwaps}
use Rattle.fw_watch_laws.proofs.Swaps.{IsAccountSwap}
use Rattle.fw_watch_laws.proofs.AtManager.{silent}

-- ---- output plugs

-- one connection comes or goes in the fields of a plug
out_step : (l m : Account) (p : PlugAt) (k : ℕ) (s : Connections) (w : Settings) → IsSound l → IsSound m → is_output l.latest p ≡ true → m.latest ≡ l.latest
    → m.outputs p ≡ s → m.settings p ≡ w → KeepsOut (fields_at l p) (record { broadcast = is_there s.broadcast; counter = counter s; settings = w })
    → one_step (is_there (l.outputs p).broadcast) (counter (l.outputs p)) (is_there s.broadcast) (counter s) ≡ true
    → is_move (Output k) (word_of l (OutputPlug p)) (word_of m (OutputPlug p)) ≡ true
out_step l m p k s w sl sm there latest out set keeps step =
    let g : OutFields = record { broadcast = is_there s.broadcast; counter = counter s; settings = w } in
    let same : fields_at m p ≡ g = cc in
    let few : counter (l.outputs p) ≤ 63 = (sl.counts p).0 in
    let less : counter (m.outputs p) ≤ 63 = (sm.counts p).0 in
    let count : counter s ≡ counter (m.outputs p) = ap (λ (x : Connections). counter x) (sym out) in
    let fit : FitsRegister w = subst FitsRegister set (sm.settings_fit p (ap (λ (o : Option ResetEntry). is_output o p) latest ∙ there)) in
    ap (λ (x : OutFields). is_move (Output k) (out_word (fields_at l p)) (out_word x)) same
    ∙ out_is_move (fields_at l p) g k (omega (arith, few)) (sl.settings_fit p there) (omega (arith, less, count)) fit keeps step

-- a plug that has a connection is there
talker_there : (l : Account) (p : PlugAt) → IsSound l → has_connection (l.outputs p) ≡ true → is_output l.latest p ≡ true
talker_there l p s h = s.there p (ap (λ (b : Bool). b || l.continues p) h)

-- a plug without a connection
empty_of : (n : ℕ) (b : Bool) → (nat_lt 0 n || b) ≡ false → (b ≡ false) × (n ≡ 0)
empty_of n true e = absurd (no (nat_lt 0 n) e)
  where
    no : (c : Bool) → (c || true) ≡ false → ⊥
    no true f = cc
    no false f = cc
empty_of n false e = (refl, none (nat_lt 0 n) refl e)
  where
    none : (c : Bool) → nat_lt 0 n ≡ c → (c || false) ≡ false → n ≡ 0
    none true f g = cc
    none false f g = grind (arith, nat_tests, f)

output_moves : (mv : Move) (c : ℕ) (p q : PlugAt) (l : Account) (k : ℕ) → c < 63 → IsSound l → Can c p mv l → register_of_move p mv ≡ OutputPlug q
    → is_move (Output k) (word_of l (OutputPlug p)) (word_of (after c p mv l) (OutputPlug p)) ≡ true
output_moves (AllocateChannel ch) c p q l k h s can e = cc
output_moves (AllocateUnits ch u) c p q l k h s can e = cc
output_moves (ConnectFirst kind ch overhead) c p q l k h s can e =
    let mv : Move = ConnectFirst kind ch overhead in
    out_step l (after c p mv l) p k (add_connection c kind (l.outputs p)) (record { channel = ch; rate = (l.settings p).rate; overhead = overhead }) s (moves_keep c p mv l h s can) can.is_plug refl
    (update_plug_same l.outputs p (add_connection c kind (l.outputs p))) (update_plug_same l.settings p (record { channel = ch; rate = (l.settings p).rate; overhead = overhead }))
    (inr (empty_of (counter (l.outputs p)) (is_there (l.outputs p).broadcast) can.empty)) (step_added c kind (l.outputs p) h (empty_has_room kind (l.outputs p) can.empty))
output_moves (ConnectOverlaid kind) c p q l k h s can e =
    let mv : Move = ConnectOverlaid kind in
    out_step l (after c p mv l) p k (add_connection c kind (l.outputs p)) (l.settings p) s (moves_keep c p mv l h s can) (talker_there l p s can.connected) refl
    (update_plug_same l.outputs p (add_connection c kind (l.outputs p))) refl (inl refl) (step_added c kind (l.outputs p) h can.room)
output_moves (ConnectInput kind ch) c p q l k h s can e = cc
output_moves (DisconnectInput kind) c p q l k h s can e = cc
output_moves (DisconnectOutput kind) c p q l k h s can e =
    let mv : Move = DisconnectOutput kind in
    out_step l (after c p mv l) p k (drop_connection c kind (l.outputs p)) (l.settings p) s (moves_keep c p mv l h s can)
    (talker_there l p s (had_connection c kind (l.outputs p) h can.has)) refl
    (update_plug_same l.outputs p (drop_connection c kind (l.outputs p))) refl (inl refl) (step_dropped c kind (l.outputs p) h can.has)
output_moves (ReleaseUnits ch u) c p q l k h s can e = cc
output_moves (ReleaseChannel ch) c p q l k h s can e = cc

-- ---- input plugs

in_step : (l m : Account) (p : PlugAt) (k : ℕ) (s : Connections) (ch : ℕ) → IsSound l → IsSound m → is_input l.latest p ≡ true → m.latest ≡ l.latest
    → m.inputs p ≡ s → m.input_channel p ≡ ch → KeepsIn (input_fields_at l p) (record { broadcast = is_there s.broadcast; counter = counter s; channel = ch })
    → one_step (is_there (l.inputs p).broadcast) (counter (l.inputs p)) (is_there s.broadcast) (counter s) ≡ true
    → is_move (Input k) (word_of l (InputPlug p)) (word_of m (InputPlug p)) ≡ true
in_step l m p k s ch sl sm there latest ins set keeps step =
    let g : InFields = record { broadcast = is_there s.broadcast; counter = counter s; channel = ch } in
    let same : input_fields_at m p ≡ g = cc in
    let few : counter (l.inputs p) ≤ 63 = (sl.counts p).1 in
    let less : counter (m.inputs p) ≤ 63 = (sm.counts p).1 in
    let count : counter s ≡ counter (m.inputs p) = ap (λ (x : Connections). counter x) (sym ins) in
    let fit : m.input_channel p < 64 = sm.channels_fit p (ap (λ (o : Option ResetEntry). is_input o p) latest ∙ there) in
    ap (λ (x : InFields). is_move (Input k) (in_word (input_fields_at l p)) (in_word x)) same
    ∙ in_is_move (input_fields_at l p) g k (omega (arith, few)) (sl.channels_fit p there) (omega (arith, less, count)) (omega (arith, fit, set)) keeps step

-- a connected input plug keeps its channel
keeps_channel : (l : Account) (p : PlugAt) (ch : ℕ) (g : InFields) → g.channel ≡ ch → (has_connection (l.inputs p) ≡ true → ch ≡ l.input_channel p) → KeepsIn (input_fields_at l p) g
keeps_channel l p ch g e h = elim (cases_Bool (has_connection (l.inputs p))) [
  | inl some ↦ inl (sym (e ∙ h some))
  | inr none ↦ inr (empty_of (counter (l.inputs p)) (is_there (l.inputs p).broadcast) none)
]

input_moves : (mv : Move) (c : ℕ) (p q : PlugAt) (l : Account) (k : ℕ) → c < 63 → IsSound l → Can c p mv l → register_of_move p mv ≡ InputPlug q
    → is_move (Input k) (word_of l (InputPlug p)) (word_of (after c p mv l) (InputPlug p)) ≡ true
input_moves (AllocateChannel ch) c p q l k h s can e = cc
input_moves (AllocateUnits ch u) c p q l k h s can e = cc
input_moves (ConnectFirst kind ch overhead) c p q l k h s can e = cc
input_moves (ConnectOverlaid kind) c p q l k h s can e = cc
input_moves (ConnectInput kind ch) c p q l k h s can e =
    let mv : Move = ConnectInput kind ch in
    in_step l (after c p mv l) p k (add_connection c kind (l.inputs p)) ch s (moves_keep c p mv l h s can) can.is_plug refl
    (update_plug_same l.inputs p (add_connection c kind (l.inputs p))) (update_plug_same l.input_channel p ch)
    (keeps_channel l p ch (record { broadcast = is_there (add_connection c kind (l.inputs p)).broadcast; counter = counter (add_connection c kind (l.inputs p)); channel = ch }) refl can.stays)
    (step_added c kind (l.inputs p) h can.room)
input_moves (DisconnectInput kind) c p q l k h s can e =
    let mv : Move = DisconnectInput kind in
    in_step l (after c p mv l) p k (drop_connection c kind (l.inputs p)) (l.input_channel p) s (moves_keep c p mv l h s can)
    (s.inputs_there p (had_connection c kind (l.inputs p) h can.has)) refl
    (update_plug_same l.inputs p (drop_connection c kind (l.inputs p))) refl (inl refl) (step_dropped c kind (l.inputs p) h can.has)
input_moves (DisconnectOutput kind) c p q l k h s can e = cc
input_moves (ReleaseUnits ch u) c p q l k h s can e = cc
input_moves (ReleaseChannel ch) c p q l k h s can e = cc

-- ---- the law

-- the plug of a move is that of the register
output_plug : (mv : Move) (p q : PlugAt) → register_of_move p mv ≡ OutputPlug q → p ≡ q
output_plug (AllocateChannel ch) p q e = cc
output_plug (AllocateUnits ch u) p q e = cc
output_plug (ConnectFirst kind ch overhead) p q e = cc
output_plug (ConnectOverlaid kind) p q e = cc
output_plug (ConnectInput kind ch) p q e = cc
output_plug (DisconnectInput kind) p q e = cc
output_plug (DisconnectOutput kind) p q e = cc
output_plug (ReleaseUnits ch u) p q e = cc
output_plug (ReleaseChannel ch) p q e = cc

input_plug : (mv : Move) (p q : PlugAt) → register_of_move p mv ≡ InputPlug q → p ≡ q
input_plug (AllocateChannel ch) p q e = cc
input_plug (AllocateUnits ch u) p q e = cc
input_plug (ConnectFirst kind ch overhead) p q e = cc
input_plug (ConnectOverlaid kind) p q e = cc
input_plug (ConnectInput kind ch) p q e = cc
input_plug (DisconnectInput kind) p q e = cc
input_plug (DisconnectOutput kind) p q e = cc
input_plug (ReleaseUnits ch u) p q e = cc
input_plug (ReleaseChannel ch) p q e = cc

-- each swap at a plug is a move of it
swap_moves : (r : WatchedRegister) (l m : Account) (a : Answer) (swap : Swap) (v : Place) (i : IsAccountSwap l m a swap) → i.register ≡ v
    → (register_of_move i.move.plug i.move.move ≡ v → is_move r (word_of l v) (word_of (after i.controller i.move.plug i.move.move l) v) ≡ true)
    → is_move r swap.argument swap.new ≡ true
swap_moves r l m a swap v i e f =
    let x = i.move in
    let old : word_of l v ≡ swap.argument = ap (word_of l) (sym e) ∙ x.is.before in
    let new : word_of (after i.controller x.plug x.move l) v ≡ swap.new = ap (word_of (after i.controller x.plug x.move l)) (sym e) ∙ x.is.later in
    ap (λ (w : ℕ). is_move r w swap.new) (sym old) ∙ ap (λ (w : ℕ). is_move r (word_of l v) w) (sym new) ∙ f (x.is.place ∙ e)

output_swap : (l m : Account) (a : Answer) (swap : Swap) (k : ℕ) → IsSound l → IsAccountSwap l m a swap → a.at.register ≡ Output k → is_move (Output k) swap.argument swap.new ≡ true
output_swap l m a swap k s i e =
    let x = i.move in
    let P : WatchedRegister → Type 0 = λ r. place_at l.latest a.at.node (offset_of r) ≡ Some i.register in
    let N : WatchedRegister → Type 0 = λ r. IsNumber r in
    let y = output_place l.latest a.at.node k i.register (subst N e i.number) (subst P e i.place) in
    swap_moves (Output k) l m a swap (OutputPlug y.0) i y.1
    (λ f. (let same : x.plug ≡ y.0 = output_plug x.move x.plug y.0 f in
    let Q : PlugAt → Type 0 = λ p. is_move (Output k) (word_of l (OutputPlug p)) (word_of (after i.controller x.plug x.move l) (OutputPlug p)) ≡ true in
    subst Q same (output_moves x.move i.controller x.plug y.0 l k i.below s x.is.can f)))

input_swap : (l m : Account) (a : Answer) (swap : Swap) (k : ℕ) → IsSound l → IsAccountSwap l m a swap → a.at.register ≡ Input k → is_move (Input k) swap.argument swap.new ≡ true
input_swap l m a swap k s i e =
    let x = i.move in
    let P : WatchedRegister → Type 0 = λ r. place_at l.latest a.at.node (offset_of r) ≡ Some i.register in
    let N : WatchedRegister → Type 0 = λ r. IsNumber r in
    let y = input_place l.latest a.at.node k i.register (subst N e i.number) (subst P e i.place) in
    swap_moves (Input k) l m a swap (InputPlug y.0) i y.1
    (λ f. (let same : x.plug ≡ y.0 = input_plug x.move x.plug y.0 f in
    let Q : PlugAt → Type 0 = λ p. is_move (Input k) (word_of l (InputPlug p)) (word_of (after i.controller x.plug x.move l) (InputPlug p)) ≡ true in
    subst Q same (input_moves x.move i.controller x.plug y.0 l k i.below s x.is.can f)))

move_none : (q : Said → Bool) (m : Made) → is_move m.at.register m.old m.new ≡ true → IsNone q (more_remarks m)
move_none q m e = rw e refl

free : (k : Kind) → is_of_more k ≡ false → IsFree (λ (s : Said). is_more s.remark) k
free k n x e = is_more_by x.remark ∙ ap is_of_more e ∙ n

of_swaps : IsOfSwaps (λ (s : Said). is_more s.remark)
of_swaps = record { reset = free OfReset refl; word = free OfWord refl; swap = free OfSwap refl; channel = free OfChannel refl }

none_odd : (r : WatchedRegister) (l m : Account) (a : Answer) (swap : Swap) (cycle : ℕ) (u : State) → IsSound l → IsAccountSwap l m a swap → a.at.register ≡ r
    → NoneOdd (λ (s : Said). is_more s.remark) r u (made cycle a swap)
none_odd Bandwidth l m a swap cycle u s i e = (many_free _ (made cycle a swap) (free OfMany refl), units_free _ u (made cycle a swap) (free OfUnits refl))
none_odd ChannelsHigh l m a swap cycle u s i e = (new_free _ u (made cycle a swap) 0 (free OfNew refl), several_free _ (made cycle a swap) (free OfSeveral refl))
none_odd ChannelsLow l m a swap cycle u s i e = (new_free _ u (made cycle a swap) 32 (free OfNew refl), several_free _ (made cycle a swap) (free OfSeveral refl))
none_odd (Output k) l m a swap cycle u s i e =
    move_none _ (made cycle a swap) (ap (λ (r : WatchedRegister). is_move r swap.argument swap.new) e ∙ output_swap l m a swap k s i e)
none_odd (Input k) l m a swap cycle u s i e =
    move_none _ (made cycle a swap) (ap (λ (r : WatchedRegister). is_move r swap.argument swap.new) e ∙ input_swap l m a swap k s i e)

pub none_more : (entries : List Timed) → IsOrderly entries → HasNone is_more entries
none_more entries o =
    silent (λ (s : Said). is_more s.remark) entries (λ prefix l. ⊤) o of_swaps (λ prefix rest t l m y p. tt) tt
    (λ prefix rest t l m a swap u y p i e. none_odd a.at.register l m a swap t.cycle u y.sound i refl)
