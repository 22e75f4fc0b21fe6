-- In a good state an action finds one thing.
use Rattle.std.proofs.Common.{◌≡◌, ℕ, ◌+◌, ◌<◌, List, [], ◌∷◌, Bool, true, false, Some, refl, ap, sym, subst, ◌∙◌, arith}
use Rattle.std.proofs.lemmas.Option.{same_Some}
use Rattle.fw_terms.specs.declared.device.DeviceKind.{DeviceKind}
use Rattle.fw_fcp.specs.declared.frame.Frame.{Frame}
use Rattle.fw_log_entry.specs.declared.entry.ResetEntry.{ResetEntry}
use Rattle.fw_order.specs.declared.order.Transaction.{Transaction}
use Rattle.fw_tree.specs.declared.facts.End.{End}
use Rattle.fw_tree.specs.Topology as Topologies
use Rattle.fw_tree.specs.Topology.{IsJoined, Made, Topology}
use Rattle.fw_tree.proofs.ReachLaws.{sound_made}
use Rattle.fw_devices.specs.Network.{facts_of}
use Rattle.fw_model_account.specs.Words.{node_of}
use Rattle.fw_model_run.specs.Actions.{Action, AddDevice, AddCable, ResetBus, HalfStep, Answer, SendFrame, Receive, StartCycle, Contend}
use Rattle.fw_model_run.specs.Afterwards.{with_topology}
use Rattle.fw_model_run.specs.Decks.{FrameWrite}
use Rattle.fw_model_run.specs.Frames.{frame_head, request_of}
use Rattle.fw_model_run.specs.Good.{IsGood}
use Rattle.fw_model_run.specs.HalfSteps.{is_waiting}
use Rattle.fw_model_run.specs.Spaces.{access_request, answer_packet, target_node, transaction_head}
use Rattle.fw_model_run.specs.State.{State, device_in, epoch_of, is_deaf, is_on}
use Rattle.fw_model_run.proofs.Networks.{made_more}
use Rattle.fw_model_run.proofs.OneReset.{one_entry}
use Rattle.fw_model_run.specs.Deed.{IsNextReset}
use Rattle.fw_model_run.specs.Found.{Found, FoundAnswer, FoundBefore, FoundBid, FoundCable, FoundFrame, FoundInHalf, FoundWrite}
use Rattle.fw_model_run.specs.BusDeeds.{MayDeclare, declaring_beside, joining_ends, with_declared}
use Rattle.fw_model_run.specs.ControllerDeeds.{stepping_as}
use Rattle.fw_model_run.specs.TransactionDeeds.{IsAnswered, MaySendFrame}
use Rattle.fw_model_run.specs.ReelDeeds.{MayContend}
use Rattle.fw_model_run.specs.Deeds.{awaited, deed}

-- ---- bus resets

one_reset : (s : State) (initiator : ℕ) (e u : ResetEntry) → Made s.declared.topology → IsNextReset s initiator e → IsNextReset s initiator u → e ≡ u
one_reset s initiator e u made x y =
    one_entry s.declared.topology s.declared.kinds (epoch_of s.account.latest + 1) initiator e u (sound_made s.declared.topology made) x.is_entry y.is_entry

declared_made : (s : State) (name : List ℕ) (kind : DeviceKind) (ports speed : ℕ) → IsGood s → MayDeclare s ports speed → Made (with_declared s name kind ports speed).declared.topology
declared_made s name kind ports speed good may =
    made_more s.declared.topology (facts_of kind ports speed) good.declared.made (subst (λ n. n < 63) good.declared.named may.room) (let some = may.least in omega (arith, some)) may.most may.rate

one_before : (names : List (List ℕ)) (s : State) (name : List ℕ) (kind : DeviceKind) (ports speed : ℕ) (f g : FoundBefore names) → IsGood s
    → (declaring_beside names s name kind ports speed f).may → (declaring_beside names s name kind ports speed g).may → f ≡ g
one_before [] s name kind ports speed f g good x y =
    one_reset (with_declared s name kind ports speed) 0 f g (declared_made s name kind ports speed good x.device) x.reset y.reset
one_before (n ∷ names) s name kind ports speed f g good x y = refl

one_topology : (p q r : Topology) (a b : End) → IsJoined p q a b → IsJoined p r a b → q ≡ r
one_topology p q r a b f g = let devices = f.same ∙ sym g.same in let cables = f.added ∙ sym g.added in λ i. record { devices = devices i; cables = cables i }

-- the end that begins the bus reset may be either
one_begun : (s : State) (a b : End) (p q : Topology) (initiator : ℕ) (f g : ResetEntry) → IsGood s → IsJoined s.declared.topology p a b → q ≡ p → IsNextReset (with_topology s p) initiator f
    → IsNextReset (with_topology s q) initiator g → f ≡ g
one_begun s a b p q initiator f g good joined same x y =
    one_reset (with_topology s p) initiator f g (Topologies.cable good.declared.made a b joined) x (subst (λ z. IsNextReset (with_topology s z) initiator g) same y)

one_between : (one other : Bool) (s : State) (a b : End) (f g : FoundCable one other) → IsGood s → (joining_ends one other s a b f.topology f.begun).may
    → (joining_ends one other s a b g.topology g.begun).may → f ≡ g
one_between true false s a b f g good x y =
    let same = one_topology s.declared.topology f.topology g.topology a b x.joined y.joined in
    let begun = one_begun s a b f.topology g.topology a.device f.begun g.begun good x.joined (sym same) x.begins.reset y.begins.reset in
    λ i. record { topology = same i; begun = begun i }
one_between false true s a b f g good x y =
    let same = one_topology s.declared.topology f.topology g.topology a b x.joined y.joined in
    let begun = one_begun s a b f.topology g.topology b.device f.begun g.begun good x.joined (sym same) x.begins.reset y.begins.reset in
    λ i. record { topology = same i; begun = begun i }
one_between true true s a b f g good x y = let same = one_topology s.declared.topology f.topology g.topology a b x y in λ i. record { topology = same i; begun = tt }
one_between false false s a b f g good x y = let same = one_topology s.declared.topology f.topology g.topology a b x y in λ i. record { topology = same i; begun = tt }

one_in_half : (deaf waiting : Bool) (s : State) (d : ℕ) (f g : FoundInHalf deaf waiting) → IsGood s → (stepping_as deaf waiting s d f).may → (stepping_as deaf waiting s d g).may → f ≡ g
one_in_half false waiting s d f g good x y = refl
one_in_half true true s d f g good x y = refl
one_in_half true false s d f g good x y = one_reset s d f g good.declared.made x.reset y.reset

-- ---- packets

one_answer : (s : State) (f g : FoundAnswer) → s.transaction ≡ Some f.transaction → s.transaction ≡ Some g.transaction → IsAnswered s f → IsAnswered s g → f ≡ g
one_answer s f g a b x y =
    let asked : f.transaction ≡ g.transaction = same_Some f.transaction g.transaction (sym a ∙ b) in
    let response : f.response ≡ g.response = same_Some f.response g.response
    (sym x ∙ (ap (λ (z : Transaction). answer_packet s (target_node s z) (transaction_head s z) (access_request z.access)) asked ∙ y)) in
    λ i. record { transaction = asked i; response = response i }

one_frame : (s : State) (d : ℕ) (f g : FoundFrame) → MaySendFrame s d f → MaySendFrame s d g → f ≡ g
one_frame s d f g x y =
    let told : (f.node, f.frame) ≡ (g.node, g.frame) = same_Some {A = ℕ × Frame} (f.node, f.frame) (g.node, g.frame) (sym x.next ∙ y.next) in
    let to : f.to ≡ g.to = same_Some f.to g.to (sym x.addressee ∙ (ap (λ (z : ℕ × Frame). device_in s.account.latest z.0) told ∙ y.addressee)) in
    λ i. record { node = (told i).0; frame = (told i).1; to = to i }

one_write : (s : State) (f g : FoundWrite) (x : s.frame ≡ Some f.write) (y : s.frame ≡ Some g.write)
    → answer_packet s (node_of s.account.latest f.write.to) (frame_head s f.write) (request_of f.write) ≡ Some f.response
    → answer_packet s (node_of s.account.latest g.write.to) (frame_head s g.write) (request_of g.write) ≡ Some g.response → f ≡ g
one_write s f g x y a b =
    let write : f.write ≡ g.write = same_Some f.write g.write (sym x ∙ y) in
    let response : f.response ≡ g.response = same_Some f.response g.response
    (sym a ∙ (ap (λ (w : FrameWrite). answer_packet s (node_of s.account.latest w.to) (frame_head s w) (request_of w)) write ∙ b)) in
    λ i. record { write = write i; response = response i }

one_bid : (s : State) (d : ℕ) (f g : FoundBid) → MayContend s d f → MayContend s d g → f ≡ g
one_bid s d f g x y =
    let candidate : f.candidate ≡ g.candidate = same_Some f.candidate g.candidate (sym x.candidate ∙ y.candidate) in
    let manager : f.manager ≡ g.manager = same_Some f.manager g.manager (sym x.manages ∙ y.manages) in
    λ i. record { candidate = candidate i; manager = manager i }

-- ---- each action

pub one_found : (s : State) (a : Action) (f g : Found s a) → IsGood s → s.transaction ≡ awaited s a f → s.transaction ≡ awaited s a g → (deed s a f).may → (deed s a g).may → f ≡ g
one_found s (AddDevice name kind ports speed) f g good v w x y = one_before s.declared.names s name kind ports speed f g good x y
one_found s (AddCable a b) f g good v w x y = one_between (is_on s a.device) (is_on s b.device) s a b f g good x y
one_found s (ResetBus d) f g good v w x y = one_reset s d f g good.declared.made x.begins.reset y.begins.reset
one_found s (HalfStep d) f g good v w x y = one_in_half (is_deaf s d) (is_waiting s d) s d f g good x y
one_found s Answer f g good v w x y = one_answer s f g v w x y
one_found s (SendFrame d) f g good v w x y = one_frame s d f g x y
one_found s (Receive obeyed) f g good v w x y = one_write s f g x.waits y.waits x.answered y.answered
one_found s StartCycle f g good v w x y = same_Some f g (sym x.latest ∙ y.latest)
one_found s (Contend d) f g good v w x y = one_bid s d f g x y
one_found s a f g good v w x y = refl
