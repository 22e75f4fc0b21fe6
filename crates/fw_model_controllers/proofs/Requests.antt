-- A controller's request is at its register, and the account goes on with its packets.
use Rattle.fw_model_controllers.proofs.Common.{PlugAt, ◌≡◌, ◌≢◌, ℕ, ◌+◌, ◌-◌, ◌^◌, ◌<◌, Bool, true, false, ◌&&◌, Option, Some, None}
use Rattle.fw_model_controllers.proofs.Common.{List, [], ◌∷◌, eqb, cond, refl, ap, ap₂, subst, sym, ◌∙◌, arith, inl, inr}
use Rattle.fw_model_controllers.proofs.Common.{nat_tests, Reply, Swap, ResetEntry, Account, is_open, Move, after, is_output}
use Rattle.fw_model_controllers.proofs.Common.{is_input, asked, ended, IsSound, output_addressed, word_of, Access, Target, OutputPlug}
use Rattle.fw_model_controllers.proofs.Common.{InputPlug, Channels, BandwidthAvailable, Job, Stage, SwapChannels, SwapBandwidth}
use Rattle.fw_model_controllers.proofs.Common.{ConnectOutput, OverlayOutput, ConnectInput, LeaveInput, LeaveOutput, RaiseBandwidth}
use Rattle.fw_model_controllers.proofs.Common.{RestoreChannel, StageFits, swap_of, Others, HalfStep, after_move, carried_out, register_at, stands, succeeds, IsAnswer}
use Rattle.std.proofs.Common.{suc, ◌*◌}
use Rattle.std.proofs.Common.{slice_get}
use Rattle.std.specs.Int.{to_be_bytes, w32}
use Rattle.std.specs.List.{list_any}
use Rattle.fw_async.specs.declared.packet.Packet.{Packet}
use Rattle.fw_async.specs.Quadlets.{request_with}
use Rattle.fw_async.specs.declared.packet.Packet.TheVariants.{LockReply}
use Rattle.fw_log_entry.specs.declared.entry.Entry.TheVariants.{Async}
use Rattle.fw_log_entry.specs.declared.nodes.NodeRow.{NodeRow}
use Rattle.fw_terms.specs.Tables.{at_plug}
use Rattle.fw_model_account.specs.Fold.{next_account}
use Rattle.fw_model_account.specs.Decode.{IsMove}
use Rattle.fw_model_account.proofs.Moves.{moves_keep}
use Rattle.fw_model_account.proofs.Words.{bits_below}
use Rattle.fw_log_entry.specs.Network.{first_id, row_of_node}
use Rattle.fw_model_account.specs.Network.{is_output_of, is_input_of}
use Rattle.fw_model_account.specs.Words.{first_address, first_output, first_input, register_of}
use Rattle.fw_model_account.proofs.Accesses.{after_read_request, after_lock_request, after_read_reply, after_failed_swap, after_refused_lock, after_move as after_moved}
use Rattle.fw_model_account.proofs.Bounds.{word_below}
use Rattle.fw_model_account.proofs.Places.{device_at_id, register_at_address, bandwidth_at, channels_high_at, channels_low_at}
use Rattle.fw_model_account.proofs.Places.{output_at, input_at, addresses_output, addresses_no_input, addresses_no_manager}
use Rattle.fw_cmp_jobs.specs.Requests.{offset_of}
use Rattle.fw_words.specs.Swaps.{swap_bytes}
use Rattle.fw_model_controllers.specs.InStep.{IsRegister}
use Rattle.fw_model_controllers.specs.Moves.{move_of}
use Rattle.fw_model_controllers.proofs.Holdings.{move_keeps}
use Rattle.fw_model_controllers.specs.Registers.{plug_addressed, IsRequestAt}
use Rattle.fw_model_controllers.specs.Requests.{IsNodeOf, EachOnce, PlugNumberFits, Awaits, procedure_head, request_packet, IsResponse, operation_of, request_to}

-- ---- rows

-- what passes stands at some place
any_place : (test : NodeRow → Bool) (xs : List NodeRow) → list_any test xs ≡ true → (n : ℕ) × (x : NodeRow) × (slice_get xs n ≡ Some x) × (test x ≡ true)
any_place test [] e = absurd (grind arith)
any_place test (x ∷ xs) e = go (test x) refl (any_place test xs)
  where
    go : (b : Bool) → test x ≡ b → (list_any test xs ≡ true → (n : ℕ) × (y : NodeRow) × (slice_get xs n ≡ Some y) × (test y ≡ true)) → (n : ℕ) × (y : NodeRow) × (slice_get (x ∷ xs) n ≡ Some y)
        × (test y ≡ true)
    go true t later = (0, x, refl, t)
    go false t later = let r = later (grind arith) in (suc r.0, r.1, r.2, r.3)

-- the row of a device that is one node has its plug
output_row : (r : ResetEntry) (p : PlugAt) (n : ℕ) (row : NodeRow) → EachOnce (Some r) → slice_get r.nodes n ≡ Some row → row.device ≡ p.device → is_output (Some r) p ≡ true → p.plug < row.outs
output_row r p n row once at same there =
    let found = any_place (is_output_of p) r.nodes there in
    let device : (found.1).device ≡ p.device = grind (arith, nat_tests, found.3) in
    let place : found.0 ≡ n = once found.0 n found.1 row found.2 at (device ∙ sym same) in
    let row_is : Some found.1 ≡ Some row = sym found.2 ∙ (ap (slice_get r.nodes) place ∙ at) in
    let equal : found.1 ≡ row = cc in
    subst (λ x. p.plug < x.outs) equal (grind (arith, nat_tests, found.3))

input_row : (r : ResetEntry) (p : PlugAt) (n : ℕ) (row : NodeRow) → EachOnce (Some r) → slice_get r.nodes n ≡ Some row → row.device ≡ p.device → is_input (Some r) p ≡ true → p.plug < row.ins
input_row r p n row once at same there =
    let found = any_place (is_input_of p) r.nodes there in
    let device : (found.1).device ≡ p.device = grind (arith, nat_tests, found.3) in
    let place : found.0 ≡ n = once found.0 n found.1 row found.2 at (device ∙ sym same) in
    let row_is : Some found.1 ≡ Some row = sym found.2 ∙ (ap (slice_get r.nodes) place ∙ at) in
    let equal : found.1 ≡ row = cc in
    subst (λ x. p.plug < x.ins) equal (grind (arith, nat_tests, found.3))

-- ---- the register of a request

output_offset : (k : ℕ) → 281474708277508 + 4 * k ≡ first_address + (first_output + 4 * k)
output_offset k = omega arith

input_offset : (k : ℕ) → 281474708277636 + 4 * k ≡ first_address + (first_input + 4 * k)
input_offset k = omega arith

register_is : (latest : Option ResetEntry) (t : Target) (n : ℕ) → EachOnce latest → IsNodeOf latest t n → PlugNumberFits t → IsRegister (register_at t) → stands latest t ≡ true
    → register_of latest (first_id + n) (offset_of t) ≡ Some (register_at t)
register_is None (OutputPlug p) n once at small is there = absurd (grind arith)
register_is None (InputPlug p) n once at small is there = absurd (grind arith)
register_is None (Channels base) n once at small is there = absurd at
register_is None BandwidthAvailable n once at small is there = absurd at
register_is (Some r) (OutputPlug p) n once at small is there =
    ap (register_of (Some r) (first_id + n)) (output_offset p.plug)
    ∙ (register_at_address (Some r) n (first_output + 4 * p.plug)
    ∙ (output_at r n p.plug at.0 at.1 (output_row r p n at.0 once at.1 at.2 there) small ∙ ap (λ d. Some (register_at (OutputPlug (at_plug d p.plug)))) at.2))
register_is (Some r) (InputPlug p) n once at small is there =
    ap (register_of (Some r) (first_id + n)) (input_offset p.plug)
    ∙ (register_at_address (Some r) n (first_input + 4 * p.plug)
    ∙ (input_at r n p.plug at.0 at.1 (input_row r p n at.0 once at.1 at.2 there) small ∙ ap (λ d. Some (register_at (InputPlug (at_plug d p.plug)))) at.2))
register_is (Some r) (Channels base) n once at small (inl e) there = rw e (register_at_address (Some r) n 0x224 ∙ channels_high_at r n at)
register_is (Some r) (Channels base) n once at small (inr e) there = rw e (register_at_address (Some r) n 0x228 ∙ channels_low_at r n at)
register_is (Some r) BandwidthAvailable n once at small is there = register_at_address (Some r) n 0x220 ∙ bandwidth_at r n at

pub plug_is : (latest : Option ResetEntry) (t : Target) (n : ℕ) → IsNodeOf latest t n → PlugNumberFits t → output_addressed latest (first_id + n) (offset_of t) ≡ plug_addressed t
plug_is latest (OutputPlug p) n at small = ap (output_addressed latest (first_id + n)) (output_offset p.plug)
    ∙ (addresses_output latest n p.plug at.0 at.1 small ∙ ap (λ d. Some (at_plug d p.plug)) at.2)
plug_is latest (InputPlug p) n at small = ap (output_addressed latest (first_id + n)) (input_offset p.plug) ∙ addresses_no_input latest (first_id + n) p.plug
plug_is latest (Channels base) n at small = go (eqb base 0)
  where
    go : (b : Bool) → output_addressed latest (first_id + n) (cond b 281474708275748 281474708275752) ≡ None
    go true = addresses_no_manager latest (first_id + n) 0x224 (omega arith)
    go false = addresses_no_manager latest (first_id + n) 0x228 (omega arith)
plug_is latest BandwidthAvailable n at small = addresses_no_manager latest (first_id + n) 0x220 (omega arith)

pub is_request_at : (l : Account) (a : Access) (n : ℕ) → EachOnce l.latest → IsNodeOf l.latest a.target n → PlugNumberFits a.target → IsRegister (register_at a.target)
    → IsRequestAt l a.target (request_to n a)
is_request_at l a n once at small is = record { plug = plug_is l.latest a.target n at small; register = λ there. register_is l.latest a.target n once at small is there }

-- ---- the request packet

pub request_leads : (l : Account) (n to : ℕ) (row : NodeRow) (a : Access) → row_of_node l.latest n ≡ Some row → l.outstanding row.device ≡ None
    → next_account l (Async (request_packet (procedure_head to n) a)) ≡ Some (asked row.device (request_to to a) l)
request_leads l n to row a at free = go a.swap
  where
    go : (o : Option Swap) → next_account l (Async (request_with (procedure_head to n) (offset_of a.target) o))
        ≡ Some (asked row.device (record { target = first_id + to; address = offset_of a.target; operation = operation_of o }) l)
    go None = after_read_request l (procedure_head to n) (offset_of a.target) row.device refl (device_at_id l.latest n row at) free
    go (Some s) = after_lock_request l (procedure_head to n) (offset_of a.target) 2 (swap_bytes s) row.device refl (device_at_id l.latest n row at) free

-- ---- the response

-- the word of a register that stands is a quadlet
register_below : (l : Account) (t : Target) → IsSound l → stands l.latest t ≡ true → word_of l (register_at t) < 2 ^ 32
register_below l (OutputPlug p) s f = word_below l (register_at (OutputPlug p)) s f
register_below l (InputPlug p) s f = word_below l (register_at (InputPlug p)) s f
register_below l (Channels base) s f = bits_below 32 (λ i. is_open l.withheld l.allocations (base + (31 - i)))
register_below l BandwidthAvailable s f = word_below l (register_at BandwidthAvailable) s tt

-- a complete answer comes from a register that stands
answer_stands : (l : Account) (t : Target) (r : Reply) → IsAnswer l t r → r.rcode ≡ 0 → stands l.latest t ≡ true
answer_stands l t r a e = go (stands l.latest t) refl
  where
    go : (b : Bool) → stands l.latest t ≡ b → b ≡ true
    go true f = refl
    go false f = absurd (a.refused f e)

swap_below : (arg new : ℕ) (w : Swap) → arg < 2 ^ 32 → Some (record { argument = arg; new = new }) ≡ Some w → w.argument < 2 ^ 32
swap_below arg new w lt e = let same : record { argument = arg; new = new } ≡ w = cc in subst (λ (x : Swap). x.argument < 2 ^ 32) same lt

-- the argument of a stage's swap is a quadlet
argument_below : (j : Job) (s : Stage) (w : Swap) → StageFits j s → swap_of j s ≡ Some w → w.argument < 2 ^ 32
argument_below j (SwapChannels ch arg x) w f e = swap_below arg _ w f.4 e
argument_below j (SwapBandwidth ch u arg x) w f e = swap_below arg _ w f.3 e
argument_below j (ConnectOutput ch u arg) w f e = swap_below arg _ w f.2.0 e
argument_below j (OverlayOutput arg) w f e = swap_below arg _ w f.1 e
argument_below j (ConnectInput g arg) w f e = swap_below arg _ w f.2 e
argument_below j (LeaveInput ch u arg) w f e = swap_below arg _ w f.2 e
argument_below j (LeaveOutput end ch u arg) w f e = swap_below arg _ w f.2 e
argument_below j (RaiseBandwidth next ch u arg) w f e = swap_below arg _ w f.2 e
argument_below j (RestoreChannel next ch arg) w f e = swap_below arg _ w f.2 e
argument_below j _ w f e = absurd (grind arith)

-- a read
read_leads : (l : Account) (n to : ℕ) (row : NodeRow) (t : Target) (r : Reply) (p : Packet) → Awaits l n to row t None r → IsResponse (procedure_head n to) None r p
    → next_account l (Async p) ≡ Some (ended row.device l)
read_leads l n to row t r p w is = subst (λ x. next_account l (Async x) ≡ Some (ended row.device l)) (sym is)
    (after_read_reply l (procedure_head n to) r.rcode r.value row.device (offset_of t) refl (device_at_id l.latest n row w.row_is) w.outstanding)

-- a swap that found another word, and one that was refused
failed_leads : (l : Account) (n to : ℕ) (row : NodeRow) (t : Target) (s : Swap) (r : Reply) (p : Packet) → Awaits l n to row t (Some s) r → IsResponse (procedure_head n to) (Some s) r p
    → s.argument < 2 ^ 32 → r.rcode ≡ 0 → r.value ≢ s.argument → next_account l (Async p) ≡ Some (ended row.device l)
failed_leads l n to row t s r p w is small done ne =
    let stood = answer_stands l t r w.answer done in
    let little : r.value < 2 ^ 32 = subst (λ v. v < 2 ^ 32) (sym (w.answer.complete stood).1) (register_below l t w.sound stood) in
    subst (λ x. next_account l (Async x) ≡ Some (ended row.device l)) (sym (is.1 ∙ ap₂ (λ c o. LockReply (procedure_head n to) c 2 o) done (is.2 done)))
    (after_failed_swap l (procedure_head n to) s.argument s.new r.value row.device (offset_of t) refl (device_at_id l.latest n row w.row_is) w.outstanding small little ne)

refused_leads : (l : Account) (n to : ℕ) (row : NodeRow) (t : Target) (s : Swap) (r : Reply) (p : Packet) → Awaits l n to row t (Some s) r → IsResponse (procedure_head n to) (Some s) r p → r.rcode ≢ 0
    → next_account l (Async p) ≡ Some (ended row.device l)
refused_leads l n to row t s r p w is ne = subst (λ x. next_account l (Async x) ≡ Some (ended row.device l)) (sym is.1)
    (after_refused_lock l (procedure_head n to) r.rcode 2 (swap_bytes s) is.0 row.device (offset_of t) refl (device_at_id l.latest n row w.row_is) w.outstanding ne)

-- a swap that is a move
moved_leads : (l : Account) (n to : ℕ) (row : NodeRow) (t : Target) (s : Swap) (r : Reply) (packet : Packet) (p : PlugAt) (m : Move) → row.device < 63 → Awaits l n to row t (Some s) r
    → IsResponse (procedure_head n to) (Some s) r packet → s.argument < 2 ^ 32 → r.rcode ≡ 0 → r.value ≡ s.argument → IsMove row.device p m (register_at t) s.argument s.new l
    → next_account l (Async packet) ≡ Some (ended row.device (after row.device p m l))
moved_leads l n to row t s r packet p m lt w is small done same move =
    let stood = answer_stands l t r w.answer done in
    let sound : IsSound (after row.device p m l) = moves_keep row.device p m l lt w.sound move.can in
    let still : stands (after row.device p m l).latest t ≡ true = ap (λ o. stands o t) (move_keeps row.device p m l move.can).latest ∙ stood in
    let new_small : s.new < 2 ^ 32 = subst (λ v. v < 2 ^ 32) move.later (register_below (after row.device p m l) t sound still) in
    subst (λ x. next_account l (Async x) ≡ Some (ended row.device (after row.device p m l)))
    (sym (is.1 ∙ ap₂ (λ c o. LockReply (procedure_head n to) c 2 o) done (is.2 done ∙ ap (to_be_bytes w32) same)))
    (after_moved l (procedure_head n to) row.device p m (register_at t) s.argument s.new (offset_of t) w.sound refl (device_at_id l.latest n row w.row_is) w.outstanding small new_small
    (w.place stood) move)

-- the response to the request of a stage
pub response_leads : (l : Account) (n to : ℕ) (row : NodeRow) (j : Job) (s : Stage) (others : Others) (t : Target) (r : Reply) (p : Packet) → row.device < 63 → StageFits j s
    → HalfStep l row.device j s others t r → Awaits l n to row t (swap_of j s) r → IsResponse (procedure_head n to) (swap_of j s) r p
    → next_account l (Async p) ≡ Some (ended row.device (carried_out row.device j s r l))
response_leads l n to row j s others t r p lt fits h w is = go (swap_of j s) refl w is
  where
    succeeded : (x : Swap) → swap_of j s ≡ Some x → Awaits l n to row t (Some x) r → IsResponse (procedure_head n to) (Some x) r p → r.rcode ≡ 0 → r.value ≡ x.argument
        → next_account l (Async p) ≡ Some (ended row.device (after_move row.device (move_of j s) l))
    succeeded x e w is done same =
        let m = h.moves x e (grind (arith, nat_tests)) in
        moved_leads l n to row t x r p m.plug m.move lt w is (argument_below j s x fits e) done same m.is_move ∙ ap (λ o. Some (ended row.device (after_move row.device o l))) (sym m.move_is)

    swapped : (x : Swap) → swap_of j s ≡ Some x → Awaits l n to row t (Some x) r → IsResponse (procedure_head n to) (Some x) r p → (b : Bool) → eqb r.rcode 0 ≡ b → (d : Bool)
        → eqb r.value x.argument ≡ d → next_account l (Async p) ≡ Some (ended row.device (cond (b && d) (after_move row.device (move_of j s) l) l))
    swapped x e w is true f true g = succeeded x e w is (grind (arith, nat_tests)) (grind (arith, nat_tests))
    swapped x e w is true f false g = failed_leads l n to row t x r p w is (argument_below j s x fits e) (grind (arith, nat_tests)) (grind (arith, nat_tests))
    swapped x e w is false f d g = refused_leads l n to row t x r p w is (grind (arith, nat_tests))

    go : (o : Option Swap) → swap_of j s ≡ o → Awaits l n to row t o r → IsResponse (procedure_head n to) o r p
        → next_account l (Async p) ≡ Some (ended row.device (cond (succeeds (swap_of j s) r) (after_move row.device (move_of j s) l) l))
    go None e w is = read_leads l n to row t r p w is ∙ ap (λ o. Some (ended row.device (cond (succeeds o r) (after_move row.device (move_of j s) l) l))) (sym e)
    go (Some x) e w is = swapped x e w is (eqb r.rcode 0) refl (eqb r.value x.argument) refl ∙ ap (λ o. Some (ended row.device (cond (succeeds o r) (after_move row.device (move_of j s) l) l))) (sym e)
