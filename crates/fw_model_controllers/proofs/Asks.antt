-- A controller whose request goes out, or whose job ends, stays in step.
use Rattle.fw_model_controllers.proofs.Common.{PlugAt, ConnectionKind, ◌≡◌, ℕ, ◌+◌, Bool, true, false, ◌&&◌, Option, Some, None}
use Rattle.fw_model_controllers.proofs.Common.{is_some, length, eqb, cond, refl, ap, subst, sym, ◌∙◌, arith, option_map, nat_tests}
use Rattle.fw_model_controllers.proofs.Common.{find_to, update, find_to_is, IsFirst, Allocation, Account, Request, asked, output_addressed, Flow}
use Rattle.fw_model_controllers.proofs.Common.{Slot, Free, Making, Established, Restoring, Gone, Job, HeldResources, Target}
use Rattle.fw_model_controllers.proofs.Common.{OutputPlug, InputPlug, Stage, Begin, ReadOutput, ReadChannels, SwapChannels}
use Rattle.fw_model_controllers.proofs.Common.{ReadBandwidth, SwapBandwidth, ConnectOutput, OverlayOutput, ReadInput, ConnectInput}
use Rattle.fw_model_controllers.proofs.Common.{ReadInputToLeave, LeaveInput, ReadOutputToLeave, LeaveOutput, ReadBandwidthToRelease, RaiseBandwidth}
use Rattle.fw_model_controllers.proofs.Common.{ReadChannelsToRelease, RestoreChannel, Made, Ended, output_of}
use Rattle.fw_model_controllers.proofs.Common.{input_of, ControllerState, slot_at, with_slot, count_of, restores, pending_of}
use Rattle.fw_model_controllers.proofs.Common.{has_output, stands_at_output, stands_at_input, slot_outputs, slot_inputs, job_outputs}
use Rattle.fw_model_controllers.proofs.Common.{job_inputs, target_of, HasReserved, Others, reservation, holding, sees, IsInStep, others_of, slots_alone, SlotInStep, ControllerInStep}
use Rattle.std.proofs.Common.{◌||◌}
use Rattle.fw_model_account.specs.Account.{is_pending, has_pending}
use Rattle.fw_model_account.specs.Moves.{HasNoPending}
use Rattle.fw_model_account.specs.Packets.{addressed_after}
use Rattle.fw_cmp.specs.Controllers.{break_waits}
use Rattle.fw_cmp.specs.Turns.{ended}
use Rattle.fw_model_controllers.specs.Registers.{plug_addressed}
use Rattle.fw_model_controllers.specs.InStep.{looks}
use Rattle.fw_model_controllers.proofs.Answers.{mapped, same_plug_is}
use Rattle.fw_model_controllers.proofs.Goes.{holds_same}
use Rattle.fw_model_controllers.proofs.Carried.{hearing}
use Rattle.fw_model_controllers.proofs.Slots.{counts_ended, slot_set}
use Rattle.fw_model_controllers.proofs.Turns.{at_rest, asking}

-- ---- the request

none_pending : (c : ℕ) (allocations : ℕ → Option Allocation) → HasNoPending c allocations → has_pending c allocations ≡ false
none_pending c allocations none = go (find_to 64 (λ ch. is_pending c (allocations ch))) (find_to_is 64 (λ ch. is_pending c (allocations ch)))
  where
    go : (o : Option ℕ) → IsFirst 64 (λ ch. is_pending c (allocations ch)) o → is_some o ≡ false
    go None f = refl
    go (Some k) f = let no_ = none k in let yes_ = f.1 in absurd (grind arith)

-- a request addresses the job's output plug, or none; one that looks for it addresses it
pub data Addresses (p : PlugAt) (s : Stage) (o : Option PlugAt) : Type 0 where
  nothing : o ≡ None → looks s ≡ false → Addresses p s o
  plug : o ≡ Some p → Addresses p s o

at_output : (j : Job) (s : Stage) (t : Target) (p : PlugAt) → option_map OutputPlug (output_of j.connection) ≡ Some t → output_of j.connection ≡ Some p → Addresses p s (plug_addressed t)
at_output j s t p e f = let w = mapped OutputPlug (output_of j.connection) t e in plug (ap plug_addressed (sym w.2) ∙ ap (λ x. Some x) (same_plug_is (output_of j.connection) p w.0 f w.1))

at_input : (j : Job) (s : Stage) (t : Target) (p : PlugAt) → option_map InputPlug (input_of j.connection) ≡ Some t → looks s ≡ false → Addresses p s (plug_addressed t)
at_input j s t p e f = let w = mapped InputPlug (input_of j.connection) t e in nothing (ap plug_addressed (sym w.2)) f

elsewhere : (p : PlugAt) (s : Stage) (own t : Target) → Some own ≡ Some t → plug_addressed own ≡ None → looks s ≡ false → Addresses p s (plug_addressed t)
elsewhere p s own t e none f = let same : own ≡ t = cc in nothing (ap plug_addressed (sym same) ∙ none) f

addresses : (j : Job) (s : Stage) (t : Target) (p : PlugAt) → target_of j s ≡ Some t → output_of j.connection ≡ Some p → Addresses p s (plug_addressed t)
addresses j Begin t p e f = absurd (grind arith)
addresses j ReadOutput t p e f = at_output j ReadOutput t p e f
addresses j (ReadChannels base w) t p e f = elsewhere p (ReadChannels base w) _ t e refl refl
addresses j (SwapChannels ch arg w) t p e f = elsewhere p (SwapChannels ch arg w) _ t e refl refl
addresses j (ReadBandwidth ch w) t p e f = elsewhere p (ReadBandwidth ch w) _ t e refl refl
addresses j (SwapBandwidth ch u arg w) t p e f = elsewhere p (SwapBandwidth ch u arg w) _ t e refl refl
addresses j (ConnectOutput ch u arg) t p e f = at_output j (ConnectOutput ch u arg) t p e f
addresses j (OverlayOutput arg) t p e f = at_output j (OverlayOutput arg) t p e f
addresses j (ReadInput g) t p e f = at_input j (ReadInput g) t p e refl
addresses j (ConnectInput g arg) t p e f = at_input j (ConnectInput g arg) t p e refl
addresses j (ReadInputToLeave ch u) t p e f = at_input j (ReadInputToLeave ch u) t p e refl
addresses j (LeaveInput ch u arg) t p e f = at_input j (LeaveInput ch u arg) t p e refl
addresses j (ReadOutputToLeave end ch u) t p e f = at_output j (ReadOutputToLeave end ch u) t p e f
addresses j (LeaveOutput end ch u arg) t p e f = at_output j (LeaveOutput end ch u arg) t p e f
addresses j (ReadBandwidthToRelease next ch u) t p e f = elsewhere p (ReadBandwidthToRelease next ch u) _ t e refl refl
addresses j (RaiseBandwidth next ch u arg) t p e f = elsewhere p (RaiseBandwidth next ch u arg) _ t e refl refl
addresses j (ReadChannelsToRelease next ch) t p e f = elsewhere p (ReadChannelsToRelease next ch) _ t e refl refl
addresses j (RestoreChannel next ch arg) t p e f = elsewhere p (RestoreChannel next ch arg) _ t e refl refl
addresses j (Made g) t p e f = absurd (grind arith)
addresses j (Ended end) t p e f = absurd (grind arith)

-- a stage that looks for its plug holds no channel
looks_free : (s : Stage) → looks s ≡ true → pending_of s ≡ None
looks_free ReadOutput e = refl
looks_free (ReadOutputToLeave end ch u) e = refl
looks_free _ e = absurd (grind arith)

-- the plug that is addressed after the request
addressed_is : (l : Account) (d : ℕ) (j : Job) (s : Stage) (others : Others) (o : Option PlugAt) (p : PlugAt) → IsInStep l d j s false others → output_of j.connection ≡ Some p → Addresses p s o
    → (sees s || looks s) ≡ true → addressed_after d o l d ≡ Some p
addressed_is l d j s others o p i e (nothing none f) x = rw none (i.addressed p e (subst (λ b. (sees s || b) ≡ true) f x))
addressed_is l d j s others o p i e (plug is) x = rw is (go (has_pending d l.allocations) refl (looks s) refl)
  where
    free : looks s ≡ true → has_pending d l.allocations ≡ false
    free looking = none_pending d l.allocations (subst (λ h. HasReserved d h l.allocations) (ap (reservation (output_of j.connection)) (looks_free s looking)) i.holds.reserved)

    go : (b : Bool) → has_pending d l.allocations ≡ b → (k : Bool) → looks s ≡ k → (cond b l.addressed (update l.addressed d (Some p))) d ≡ Some p
    go true f true g = let no_ = free g in absurd (grind arith)
    go true f false g = i.addressed p e (subst (λ b. (sees s || b) ≡ true) g x)
    go false f k g = grind (arith, nat_tests)

pub asks_step : (l : Account) (d : ℕ) (j : Job) (s : Stage) (others : Others) (t : Target) (request : Request) → target_of j s ≡ Some t
    → output_addressed l.latest request.target request.address ≡ plug_addressed t → IsInStep l d j s false others → IsInStep (asked d request l) d j s true others
asks_step l d j s others t request e at i = record {
  holds = record { reserved = i.holds.reserved; outputs = i.holds.outputs; inputs = i.holds.inputs };
  knows = i.knows;
  knows_flow = i.knows_flow;
  knows_channel = i.knows_channel;
  knows_input = i.knows_input;
  fresh = i.fresh;
  plugs = i.plugs;
  units = i.units;
  reclaims = i.reclaims;
  addressed = λ p f x. ap (λ o. addressed_after d o l d) at ∙ addressed_is l d j s others (plug_addressed t) p i f (addresses j s t p e f) x;
  found = i.found;
  found_input = i.found_input;
  manager = i.manager;
}

-- what a request does not change
slot_asked : (l : Account) (d : ℕ) (request : Request) (b : Bool) (s : Slot) → SlotInStep l b s → SlotInStep (asked d request l) b s
slot_asked l d request b Free x = tt
slot_asked l d request b (Making conn asked overhead) x = tt
slot_asked l d request true (Established conn f) x = tt
slot_asked l d request false (Established conn f) x = record { output = x.output; input = x.input; manager = x.manager }
slot_asked l d request b (Restoring conn f over) x = record { found = x.found; units = x.units; listed = x.listed }
slot_asked l d request b (Gone conn) x = tt

pub asks : (l : Account) (d : ℕ) (c : ControllerState) (j : Job) (s : Stage) (t : Target) (request : Request) → target_of j s ≡ Some t
    → output_addressed l.latest request.target request.address ≡ plug_addressed t → ControllerInStep l d (asking c j s) → ControllerInStep (asked d request l) d (hearing c j s)
asks l d c j s t request e at x = record {
  current = record { slot = x.current.slot; within = x.current.within; step = asks_step l d j s (others_of (asking c j s)) t request e at x.current.step };
  slots = λ i. slot_asked l d request (eqb j.slot i) (slot_at c i) (x.slots i);
}

-- ---- the end of a job

-- what the slot of a job says when it has ended
ended_slot : (l : Account) (d : ℕ) (c : ControllerState) (j : Job) (s : Stage) (new : Slot) → length c.slots ≡ 32 → ControllerInStep l d (asking c j s)
    → reservation (output_of j.connection) (pending_of s) ≡ None → ((kind : ConnectionKind) (q : PlugAt) → job_outputs j s kind q ≡ count_of (stands_at_output new kind q))
    → ((kind : ConnectionKind) (q : PlugAt) → job_inputs j s kind q ≡ count_of (stands_at_input new kind q)) → SlotInStep l false new → ControllerInStep l d (with_slot (at_rest c) j.slot new)
ended_slot l d c j s new full x none out into says = record {
  current = holds_same l d (holding j s (others_of (asking c j s))) (slots_alone (with_slot (at_rest c) j.slot new)) x.current.step.holds none
      (λ kind q. ap (λ y. slot_outputs (asking c j s) kind q + y) (out kind q) ∙ sym (counts_ended stands_at_output (asking c j s) j s new kind q full x.current.within refl))
      (λ kind q. ap (λ y. slot_inputs (asking c j s) kind q + y) (into kind q) ∙ sym (counts_ended stands_at_input (asking c j s) j s new kind q full x.current.within refl));
  slots = λ i. subst (SlotInStep l false) (sym (slot_set (at_rest c) j.slot i new (omega (arith, x.current.within)))) (go i (eqb i j.slot) refl);
}
  where
    go : (i : ℕ) (b : Bool) → eqb i j.slot ≡ b → SlotInStep l false (cond b new (slot_at c i))
    go i true e = says
    go i false e = let other : eqb j.slot i ≡ false = grind (arith, nat_tests) in subst (λ b. SlotInStep l b (slot_at c i)) other (x.slots i)

pub made_ends : (l : Account) (d : ℕ) (c : ControllerState) (j : Job) (f : Flow) → length c.slots ≡ 32 → ControllerInStep l d (asking c j (Made f))
    → ControllerInStep l d (with_slot (at_rest c) j.slot (Established j.connection f))
made_ends l d c j f full x = ended_slot l d c j (Made f) (Established j.connection f) full x refl (λ kind q. refl) (λ kind q. refl)
    (record { output = x.current.step.knows_flow; input = x.current.step.knows_channel; manager = λ e. x.current.step.manager e refl })

-- what its slot says if it has nothing
nothing_ends : (l : Account) (d : ℕ) (c : ControllerState) (j : Job) (s : Stage) (b : Bool) → length c.slots ≡ 32 → ControllerInStep l d (asking c j s)
    → reservation (output_of j.connection) (pending_of s) ≡ None → ((kind : ConnectionKind) (q : PlugAt) → job_outputs j s kind q ≡ 0)
    → ((kind : ConnectionKind) (q : PlugAt) → job_inputs j s kind q ≡ 0) → ControllerInStep l d (with_slot (at_rest c) j.slot (cond b (Gone j.connection) Free))
nothing_ends l d c j s true full x none out into = ended_slot l d c j s (Gone j.connection) full x none out into tt
nothing_ends l d c j s false full x none out into = ended_slot l d c j s Free full x none out into tt

-- a job whose request has no register has nothing
no_target : (f : PlugAt → Target) (o : Option PlugAt) → option_map f o ≡ None → o ≡ None
no_target f None e = refl
no_target f (Some p) e = absurd (grind arith)

no_output_at : (j : Job) (b : Bool) → output_of j.connection ≡ None → (kind : ConnectionKind) (q : PlugAt) → count_of (b && has_output j.connection kind q) ≡ 0
no_output_at j true e kind q = rw e refl
no_output_at j false e kind q = refl

output_ends : (l : Account) (d : ℕ) (c : ControllerState) (j : Job) (s : Stage) (b at : Bool) → length c.slots ≡ 32 → ControllerInStep l d (asking c j s)
    → option_map OutputPlug (output_of j.connection) ≡ None → ((kind : ConnectionKind) (q : PlugAt) → job_outputs j s kind q ≡ count_of (at && has_output j.connection kind q))
    → ((kind : ConnectionKind) (q : PlugAt) → job_inputs j s kind q ≡ 0) → ControllerInStep l d (with_slot (at_rest c) j.slot (cond b (Gone j.connection) Free))
output_ends l d c j s b at full x e out into =
    let gone = no_target OutputPlug (output_of j.connection) e in
    nothing_ends l d c j s b full x (ap (λ o. reservation o (pending_of s)) gone ∙ none_reserved (pending_of s)) (λ kind q. out kind q ∙ no_output_at j at gone kind q) into
  where
    none_reserved : (h : Option HeldResources) → reservation None h ≡ None
    none_reserved None = refl
    none_reserved (Some h) = refl

-- the input plug of a request is there
no_request : (j : Job) → is_some (input_of j.connection) ≡ true → option_map InputPlug (input_of j.connection) ≡ None → ⊥
no_request j there e = let gone = no_target InputPlug (input_of j.connection) e in let some : is_some {T = PlugAt} None ≡ true = ap (λ (o : Option PlugAt). is_some o) (sym gone) ∙ there in grind arith

pub unasked_ends : (l : Account) (d : ℕ) (c : ControllerState) (j : Job) (s : Stage) → length c.slots ≡ 32 → target_of j s ≡ None → ControllerInStep l d (asking c j s)
    → ControllerInStep l d (ended (asking c j s) j s)
unasked_ends l d c j Begin full e x = nothing_ends l d c j Begin (restores j && break_waits (asking c j Begin) j.slot) full x refl (λ kind q. refl) (λ kind q. refl)
unasked_ends l d c j (Made f) full e x = made_ends l d c j f full x
unasked_ends l d c j (Ended end) full e x = nothing_ends l d c j (Ended end) (restores j && break_waits (asking c j (Ended end)) j.slot) full x refl (λ kind q. refl) (λ kind q. refl)
unasked_ends l d c j ReadOutput full e x = output_ends l d c j ReadOutput (restores j && break_waits (asking c j ReadOutput) j.slot) false full x e (λ kind q. refl) (λ kind q. refl)
unasked_ends l d c j (ConnectOutput ch u arg) full e x = output_ends l d c j (ConnectOutput ch u arg) (restores j && break_waits (asking c j (ConnectOutput ch u arg)) j.slot) false full x e
    (λ kind q. refl) (λ kind q. refl)
unasked_ends l d c j (OverlayOutput arg) full e x = output_ends l d c j (OverlayOutput arg) (restores j && break_waits (asking c j (OverlayOutput arg)) j.slot) false full x e (λ kind q. refl)
    (λ kind q. refl)
unasked_ends l d c j (ReadOutputToLeave end ch u) full e x =
    output_ends l d c j (ReadOutputToLeave end ch u) (restores j && break_waits (asking c j (ReadOutputToLeave end ch u)) j.slot) true full x e (λ kind q. refl) (λ kind q. refl)
unasked_ends l d c j (LeaveOutput end ch u arg) full e x = output_ends l d c j (LeaveOutput end ch u arg) (restores j && break_waits (asking c j (LeaveOutput end ch u arg)) j.slot) true full x e
    (λ kind q. refl) (λ kind q. refl)
unasked_ends l d c j (ReadInput f) full e x = absurd (no_request j (x.current.step.plugs refl) e)
unasked_ends l d c j (ConnectInput f arg) full e x = absurd (no_request j (x.current.step.plugs refl) e)
unasked_ends l d c j (ReadInputToLeave ch u) full e x = absurd (no_request j (x.current.step.plugs refl) e)
unasked_ends l d c j (LeaveInput ch u arg) full e x = absurd (no_request j (x.current.step.plugs refl) e)
unasked_ends l d c j _ full e x = absurd (grind arith)
