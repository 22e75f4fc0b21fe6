-- Each half step of a controller in step leads the account on: by what its turn says, and by the answer that it hears.
use Rattle.fw_model_controllers.proofs.Common.{◌≡◌, ℕ, ◌<◌, true, false, Option, Some, None, List, [], ◌∷◌, refl}
use Rattle.fw_model_controllers.proofs.Common.{ap, subst, sym, ◌∙◌, arith, option_map, Access, Target, OutputPlug, InputPlug, Channels}
use Rattle.fw_model_controllers.proofs.Common.{BandwidthAvailable, PlugAt, StageFits, output_of, input_of, half_of, Begin}
use Rattle.fw_model_controllers.proofs.Common.{ReadOutput, ReadChannels, SwapChannels, ReadBandwidth, SwapBandwidth, ConnectOutput}
use Rattle.fw_model_controllers.proofs.Common.{OverlayOutput, ReadInput, ConnectInput, ReadInputToLeave, LeaveInput}
use Rattle.fw_model_controllers.proofs.Common.{ReadOutputToLeave, LeaveOutput, ReadBandwidthToRelease, RaiseBandwidth, ReadChannelsToRelease}
use Rattle.fw_model_controllers.proofs.Common.{RestoreChannel, Made, Ended, CanGoOn, target_of, swap_of, addressee_of, outstanding_of}
use Rattle.fw_model_controllers.proofs.Common.{Account, Request, asked, Current, Nothing, Asking, Hearing, Overtaken}
use Rattle.fw_model_controllers.proofs.Common.{Directory, Job, Stage, ControllerState, Fits, after_asking, after_answer, ControllerInStep}
use Rattle.fw_model_controllers.proofs.Common.{IsDirectory, others_of, Swap, IsSound, Reply, HalfStep, carried_out}
use Rattle.fw_model_controllers.proofs.Common.{register_at, IsAnswer}
use Rattle.std.proofs.Common.{IsSome}
use Rattle.fw_model_controllers.proofs.Answers.{mapped}
use Rattle.fw_cmp.specs.Holdings.{StageReached, CurrentReached}
use Rattle.fw_cmp_jobs.specs.Requests.{access_at, access_of, request_of}
use Rattle.fw_cmp.proofs.Ready.{ready_reached}
use Rattle.fw_model_controllers.specs.Requests.{request_to, requested_of, requested, Tells, is_sent, procedure_head, request_packet, IsResponse}
use Rattle.fw_model_controllers.proofs.Carried.{hearing, hear_half}
use Rattle.fw_model_controllers.proofs.Fits.{ready_fits}
use Rattle.fw_model_account.specs.Packets.{ended as request_ended}
use Rattle.fw_cmp.specs.declared.current.WaitingJob.{WaitingJob}
use Rattle.fw_cmp.specs.Controllers.{IsHeard}
use Rattle.fw_cmp.specs.Turns.{after_next, sending, asks_or_ends, rests as rests_on, answer_of, next}
use Rattle.fw_cmp_jobs.specs.Jobs.{outcome_of}
use Rattle.fw_cmp.specs.Jobs.{ready}
use Rattle.fw_model_controllers.proofs.Turns.{asking}
use Rattle.fw_model_controllers.proofs.Addressees.{target_is, addressee_there, number_at, node_is}
use Rattle.fw_async.specs.declared.packet.Packet.{Packet}
use Rattle.fw_model_controllers.proofs.OutputFits.{half_is}
use Rattle.fw_log_entry.specs.declared.entry.Entry.TheVariants.{Async}
use Rattle.fw_log_entry.specs.declared.nodes.NodeRow.{NodeRow}
use Rattle.fw_model_account.specs.Fold.{next_account}
use Rattle.fw_log_entry.specs.Network.{row_of_node}
use Rattle.fw_cmp.specs.declared.outcome.Next.{Next}
use Rattle.fw_cmp.specs.declared.outcome.Next.TheVariants.{End, Idle, Waiting as WaitsUntil}
use Rattle.fw_model_controllers.specs.InStep.{IsRegister}
use Rattle.fw_model_controllers.specs.Together.{AreInStep}
use Rattle.fw_model_controllers.proofs.Nexts.{ready_heard}
use Rattle.fw_model_controllers.proofs.Requests.{is_request_at, request_leads, response_leads}
use Rattle.fw_model_controllers.proofs.Standing.{heard_none}

-- ---- what a turn says

says_nothing : (dir : Directory) (says : Next) (after : Current) → is_sent says ≡ false → outstanding_of dir after ≡ None → Tells dir says after
says_nothing dir says after quiet none = record { sent = λ to q e. let no_ : true ≡ false = ap is_sent (sym e) ∙ quiet in absurd (grind arith); unsent = λ e. none }

sends_to : (dir : Directory) (j : Job) (s : Stage) (t : Target) → target_of j s ≡ Some t → IsSome (addressee_of dir t)
    → Tells dir (sending (addressee_of dir t) (record { target = t; swap = swap_of j s })) (Hearing j s)
sends_to dir j s t e there = go (addressee_of dir t) refl there
  where
    a : Access
    a = record { target = t; swap = swap_of j s }

    out : {o : Option Request} → requested_of (addressee_of dir t) a ≡ o → outstanding_of dir (Hearing j s) ≡ o
    out f = ap (λ x. requested dir (option_map (access_at (swap_of j s)) x)) e ∙ f

    go : (n : Option ℕ) → addressee_of dir t ≡ n → IsSome n → Tells dir (sending n a) (Hearing j s)
    go None g h = absurd (grind arith)
    go (Some n) g h = record {
      sent = λ to q f. let node : n ≡ to = cc in let asked_is : request_of a ≡ q = cc in (a, sym asked_is, out (ap (λ y. requested_of y a) g ∙ ap (λ y. Some (request_to y a)) node));
      unsent = λ f. absurd (grind arith);
    }

asking_tells : (now : ℕ) (dir : Directory) (c : ControllerState) (j : Job) (s : Stage) → StageFits j s → StageReached dir j s
    → Tells dir (asks_or_ends now dir j s (access_of j s)) (after_asking (asking c j s) j s (access_of j s)).current
asking_tells now dir c j s fits reached = go (target_of j s) refl
  where
    go : (o : Option Target) → target_of j s ≡ o → Tells dir (asks_or_ends now dir j s (option_map (access_at (swap_of j s)) o))
        (after_asking (asking c j s) j s (option_map (access_at (swap_of j s)) o)).current
    go None e = says_nothing dir (End j.slot (outcome_of now j s)) Nothing refl refl
    go (Some t) e = sends_to dir j s t e (addressee_there dir j s t fits reached e)

rests_tells : (dir : Directory) (ts : List WaitingJob) → Tells dir (rests_on dir ts) Nothing
rests_tells dir [] = says_nothing dir Idle Nothing refl refl
rests_tells dir (t ∷ ts) = says_nothing dir (WaitsUntil dir.over_at) Nothing refl refl

ready_tells : (now : ℕ) (dir : Directory) (c : ControllerState) (current : Current) → Fits (record c { current = current }) → CurrentReached dir current → IsHeard current
    → Tells dir (answer_of now dir (record c { current = current })) (after_answer (record c { current = current })).current
ready_tells now dir c Nothing fits reached heard = rests_tells dir c.waiting
ready_tells now dir c (Asking j s) fits reached heard = asking_tells now dir c j s fits.current.stage reached
ready_tells now dir c (Hearing j s) fits reached heard = absurd heard
ready_tells now dir c (Overtaken i o) fits reached heard = says_nothing dir (End i o) Nothing refl refl

pub turn_tells : (now : ℕ) (dir : Directory) (c : ControllerState) → Fits c → CanGoOn dir c → IsHeard c.current → Tells dir (next now dir c) (after_next now dir c).current
turn_tells now dir c fits goes heard = ready_tells now dir (ready now dir c) (ready now dir c).current (ready_fits now dir c fits) (ready_reached now dir c fits goes) (ready_heard now dir c heard)

-- ---- the account after a request

pub turn_leads : (dir : Directory) (l : Account) (controllers : ℕ → ControllerState) (n to : ℕ) (row : NodeRow) (a : Access) → AreInStep dir l controllers → IsHeard (controllers row.device).current
    → row_of_node l.latest n ≡ Some row → next_account l (Async (request_packet (procedure_head to n) a)) ≡ Some (asked row.device (request_to to a) l)
turn_leads dir l controllers n to row a x heard at = request_leads l n to row a at (x.requests row.device ∙ heard_none dir (controllers row.device).current heard)

-- ---- the account after an answer

own_register : (f : PlugAt → Target) (o : Option PlugAt) (t : Target) → ((p : PlugAt) → IsRegister (register_at (f p))) → option_map f o ≡ Some t → IsRegister (register_at t)
own_register f o t is e = let w = mapped f o t e in subst (λ x. IsRegister (register_at x)) w.2 (is w.0)

manager_register : (own t : Target) → IsRegister (register_at own) → Some own ≡ Some t → IsRegister (register_at t)
manager_register own t is e = let same : own ≡ t = cc in subst (λ x. IsRegister (register_at x)) same is

-- a target's register is one of the bus
pub target_register : (j : Job) (s : Stage) (t : Target) → StageFits j s → target_of j s ≡ Some t → IsRegister (register_at t)
target_register j Begin t f e = absurd (grind arith)
target_register j ReadOutput t f e = own_register OutputPlug (output_of j.connection) t (λ p. tt) e
target_register j (ReadChannels base w) t f e = manager_register (Channels base) t f.1 e
target_register j (SwapChannels ch arg w) t f e = manager_register (Channels (half_of ch)) t (half_is ch) e
target_register j (ReadBandwidth ch w) t f e = manager_register BandwidthAvailable t tt e
target_register j (SwapBandwidth ch u arg w) t f e = manager_register BandwidthAvailable t tt e
target_register j (ConnectOutput ch u arg) t f e = own_register OutputPlug (output_of j.connection) t (λ p. tt) e
target_register j (OverlayOutput arg) t f e = own_register OutputPlug (output_of j.connection) t (λ p. tt) e
target_register j (ReadInput g) t f e = own_register InputPlug (input_of j.connection) t (λ p. tt) e
target_register j (ConnectInput g arg) t f e = own_register InputPlug (input_of j.connection) t (λ p. tt) e
target_register j (ReadInputToLeave ch u) t f e = own_register InputPlug (input_of j.connection) t (λ p. tt) e
target_register j (LeaveInput ch u arg) t f e = own_register InputPlug (input_of j.connection) t (λ p. tt) e
target_register j (ReadOutputToLeave end ch u) t f e = own_register OutputPlug (output_of j.connection) t (λ p. tt) e
target_register j (LeaveOutput end ch u arg) t f e = own_register OutputPlug (output_of j.connection) t (λ p. tt) e
target_register j (ReadBandwidthToRelease next ch u) t f e = manager_register BandwidthAvailable t tt e
target_register j (RaiseBandwidth next ch u arg) t f e = manager_register BandwidthAvailable t tt e
target_register j (ReadChannelsToRelease next ch) t f e = manager_register (Channels (half_of ch)) t (half_is ch) e
target_register j (RestoreChannel next ch arg) t f e = manager_register (Channels (half_of ch)) t (half_is ch) e
target_register j (Made g) t f e = absurd (grind arith)
target_register j (Ended end) t f e = absurd (grind arith)

-- the register and the swap of an access
access_parts : (o : Option Target) (w : Option Swap) (a : Access) → option_map (access_at w) o ≡ Some a → (o ≡ Some a.target) × (w ≡ a.swap)
access_parts None w a e = absurd (grind arith)
access_parts (Some t) w a e = let same : record { target = t; swap = w } ≡ a = cc in (ap (λ (x : Access). Some x.target) same, ap (λ (x : Access). x.swap) same)

-- the controller of a device, whose job hears
hears_at : (dir : Directory) (l : Account) (c : ControllerState) (d now n to : ℕ) (row : NodeRow) (j : Job) (s : Stage) (a : Access) (r : Reply) (p : Packet) → IsSound l → row.device ≡ d → d < 63
    → Fits (hearing c j s) → ControllerInStep l d (hearing c j s) → l.outstanding d ≡ outstanding_of dir (Hearing j s) → IsDirectory l now dir → row_of_node l.latest n ≡ Some row
    → access_of j s ≡ Some a → addressee_of dir a.target ≡ Some to → IsAnswer l a.target r → IsResponse (procedure_head n to) a.swap r p
    → next_account l (Async p) ≡ Some (request_ended row.device (carried_out row.device j s r l))
hears_at dir l c d now n to row j s a r p sound device lt fits x out told at access to_is answer response =
    let parts = access_parts (target_of j s) (swap_of j s) a access in
    let node = node_is l now dir a.target to told to_is in
    let small = number_at j a.target fits.current.job.connection (target_is j s a.target fits.current.stage parts.0) in
    let own : Access = record { target = a.target; swap = swap_of j s } in
    let place = is_request_at l own to told.once node small (target_register j s a.target fits.current.stage parts.0) in
    let half = hear_half l d c j s a.target r lt sound fits parts.0 answer x in
    let asked_is : outstanding_of dir (Hearing j s) ≡ Some (request_to to own) =
    ap (requested dir) access ∙ (ap (λ y. requested_of y a) to_is ∙ ap (λ w. Some (request_to to (record { target = a.target; swap = w }))) (sym parts.1)) in
    response_leads l n to row j s _ a.target r p (subst (λ k. k < 63) (sym device) lt) fits.current.stage (subst (λ k. HalfStep l k j s (others_of (hearing c j s)) a.target r) (sym device) half)
    (record { sound = sound; row_is = at; outstanding = ap l.outstanding device ∙ (out ∙ asked_is); answer = answer; place = place.register })
    (subst (λ w. IsResponse (procedure_head n to) w r p) (sym parts.1) response)

pub answer_leads : (dir : Directory) (l : Account) (controllers : ℕ → ControllerState) (now n to : ℕ) (row : NodeRow) (j : Job) (s : Stage) (a : Access) (r : Reply) (p : Packet)
    → AreInStep dir l controllers → IsDirectory l now dir → row.device < 63 → row_of_node l.latest n ≡ Some row → (controllers row.device).current ≡ Hearing j s → access_of j s ≡ Some a
    → addressee_of dir a.target ≡ Some to → IsAnswer l a.target r → IsResponse (procedure_head n to) a.swap r p
    → next_account l (Async p) ≡ Some (request_ended row.device (carried_out row.device j s r l))
answer_leads dir l controllers now n to row j s a r p x told lt at e access to_is answer response =
    let c : ControllerState = controllers row.device in
    let same : c ≡ hearing c j s = λ i. record c { current = e i } in
    hears_at dir l c row.device now n to row j s a r p x.sound refl lt (subst Fits same (x.fits row.device)) (subst (ControllerInStep l row.device) same (x.each row.device))
    (x.requests row.device ∙ ap (outstanding_of dir) e) told at access to_is answer response
