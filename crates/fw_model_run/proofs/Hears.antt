-- The half step in which a controller hears the answer to its request, and what it leaves of the account.
use Rattle.fw_model_run.proofs.Common.{◌≡◌, ℕ, ◌==◌, cond, Bool, true, false, List, [], Option, Some, None, is_some, refl, ap, sym, subst, ◌∙◌, arith, option_map, IsTrue, IsFalse, to_be_bytes, w32}
use Rattle.fw_model_run.proofs.Common.{PlugAt, update, Packet, ReadQuadletReply, LockReply, Reply, Swap, Async, ResetEntry, Account, row_of_node, next_account, node_of, Hearing, Job, Access, Target}
use Rattle.fw_model_run.proofs.Common.{Stage, offset_of, access_of, addressee_of, request_at, after_hear, packet_of, kind_at, row_of, procedure_head, AsksWhatStands, reply_from, State, while_talking}
use Rattle.fw_model_run.proofs.Common.{linked_number, directory_of, is_living, half_of, half, dub_between, IsGood, IsLatest}
use Rattle.std.proofs.Common.{IsSome, is_none}
use Rattle.fw_model_account.specs.Moves.{Move, AllocateChannel, AllocateUnits, ConnectFirst, ConnectOverlaid, ConnectInput, DisconnectInput, DisconnectOutput, ReleaseUnits, ReleaseChannel, after}
use Rattle.fw_model_account.specs.Packets.{ended}
use Rattle.fw_cmp.specs.Controllers.{CurrentFits, RunsFitting}
use Rattle.fw_cmp.specs.Holdings.{StageReached, CurrentReached}
use Rattle.fw_cmp_jobs.specs.Requests.{target_of, swap_of, access_at, request_of}
use Rattle.fw_node.specs.Packets.{response_to}
use Rattle.fw_model_controllers.specs.Controllers.{IsDirectory}
use Rattle.fw_model_controllers.specs.Moves.{move_of, after_move, carried_out}
use Rattle.fw_model_controllers.specs.Registers.{IsAnswer, succeeds}
use Rattle.fw_model_controllers.specs.Requests.{IsNodeOf, IsResponse}
use Rattle.fw_model_controllers.proofs.Addressees.{target_is, addressee_there, number_at, node_is}
use Rattle.fw_model_controllers.proofs.Leads.{target_register, answer_leads}
use Rattle.fw_model_run.specs.HalfSteps.{hears, hears_from}
use Rattle.fw_model_run.proofs.Answers.{nodes_answer}
use Rattle.fw_model_run.proofs.Buses.{linked_at, linked_small}
use Rattle.fw_model_run.proofs.Directories.{told}
use Rattle.fw_model_run.proofs.Turns.{living_linked}

-- ---- the response

-- the packet of a reply is the response that the account asks for
pub record Responds (to n offset : ℕ) (w : Option Swap) (r : Reply) : Type 0 where
  pub packet : Packet
  pub sent : response_to to (packet_of (procedure_head to n) (request_at offset w)) r ≡ Some packet
  pub is : IsResponse (procedure_head n to) w r packet

responds : (to n offset : ℕ) (w : Option Swap) (r : Reply) → Responds to n offset w r
responds to n offset None r = record { packet = ReadQuadletReply (procedure_head n to) r.rcode r.value; sent = refl; is = refl }
responds to n offset (Some swap) r = record {
  packet = LockReply (procedure_head n to) r.rcode 2 (old (r.rcode == 0));
  sent = refl;
  is = (old (r.rcode == 0), refl, λ zero. ap old (ap (λ k. k == 0) zero));
}
  where
    old : Bool → List ℕ
    old b = cond b (to_be_bytes w32 r.value) []

-- ---- what an answer leaves of the account

pub moved_bus : (d : ℕ) (p : PlugAt) (m : Move) (l : Account) → ((after d p m l).latest ≡ l.latest) × ((after d p m l).reclaiming ≡ l.reclaiming)
moved_bus d p (AllocateChannel ch) l = (refl, refl)
moved_bus d p (AllocateUnits ch u) l = (refl, refl)
moved_bus d p (ConnectFirst kind ch overhead) l = (refl, refl)
moved_bus d p (ConnectOverlaid kind) l = (refl, refl)
moved_bus d p (ConnectInput kind ch) l = (refl, refl)
moved_bus d p (DisconnectInput kind) l = (refl, refl)
moved_bus d p (DisconnectOutput kind) l = (refl, refl)
moved_bus d p (ReleaseUnits ch u) l = (refl, refl)
moved_bus d p (ReleaseChannel ch) l = (refl, refl)

-- what is withheld
moved_withheld : (d : ℕ) (p : PlugAt) (m : Move) (l : Account) → (after d p m l).withheld ≡ l.withheld
moved_withheld d p (AllocateChannel ch) l = refl
moved_withheld d p (AllocateUnits ch u) l = refl
moved_withheld d p (ConnectFirst kind ch overhead) l = refl
moved_withheld d p (ConnectOverlaid kind) l = refl
moved_withheld d p (ConnectInput kind ch) l = refl
moved_withheld d p (DisconnectInput kind) l = refl
moved_withheld d p (DisconnectOutput kind) l = refl
moved_withheld d p (ReleaseUnits ch u) l = refl
moved_withheld d p (ReleaseChannel ch) l = refl

pub carried_withheld : (d : ℕ) (j : Job) (s : Stage) (r : Reply) (l : Account) → (carried_out d j s r l).withheld ≡ l.withheld
carried_withheld d j s r l = go (succeeds (swap_of j s) r) (move_of j s)
  where
    go : (b : Bool) (m : Option (PlugAt × Move)) → (cond b (after_move d m l) l).withheld ≡ l.withheld
    go false m = refl
    go true None = refl
    go true (Some x) = moved_withheld d x.0 x.1 l

-- the bus, and whether a second runs
pub carried_bus : (d : ℕ) (j : Job) (s : Stage) (r : Reply) (l : Account) → ((carried_out d j s r l).latest ≡ l.latest) × ((carried_out d j s r l).reclaiming ≡ l.reclaiming)
carried_bus d j s r l = go (succeeds (swap_of j s) r) (move_of j s)
  where
    go : (b : Bool) (m : Option (PlugAt × Move)) → ((cond b (after_move d m l) l).latest ≡ l.latest) × ((cond b (after_move d m l) l).reclaiming ≡ l.reclaiming)
    go false m = (refl, refl)
    go true None = (refl, refl)
    go true (Some x) = moved_bus d x.0 x.1 l

-- an outstanding request: its register, and the node that it went to
pub record Asked (s : State) (d : ℕ) (j : Job) (stage : Stage) (t : Target) (to : ℕ) (r : Reply) : Type 0 where
  pub current : (s.controllers d).current ≡ Hearing j stage
  pub target : target_of j stage ≡ Some t
  pub answer : IsAnswer s.account t r

-- ---- the half step

abbrev pub with_answer : State → ℕ → Reply → Account → State
with_answer s d r l = record s {
  account = l;
  controllers = update s.controllers d (after_hear (s.controllers d) r);
  asked_at = update s.asked_at d (s.asked_at d);
  streams = while_talking l s.streams;
  dub = dub_between s.account l s.dub;
}

-- an outstanding request, whose controller's device and addressee are nodes
pub record Heard (s : State) (d : ℕ) (j : Job) (stage : Stage) : Type 0 where
  pub entry : ResetEntry
  pub is : s.account.latest ≡ Some entry
  pub shows : IsLatest (Some entry) s.declared s.account
  pub number : ℕ
  pub linked : linked_number (Some entry) d ≡ Some number
  pub target : Target
  pub asked : target_of j stage ≡ Some target
  pub to : ℕ
  pub goes : addressee_of (directory_of s) target ≡ Some to

abbrev pub access_heard : (s : State) (d : ℕ) (j : Job) (stage : Stage) → Heard s d j stage → Access
access_heard s d j stage x = record { target = x.target; swap = swap_of j stage }

-- the reply of the node
abbrev pub reply_heard : (s : State) (d : ℕ) (j : Job) (stage : Stage) → Heard s d j stage → Reply
reply_heard s d j stage x = reply_from s x.to (request_of (access_heard s d j stage x))

-- what the half step writes, and the account after it
pub record HalfHears (s : State) (d : ℕ) (j : Job) (stage : Stage) (x : Heard s d j stage) : Type 0 where
  pub access : access_of j stage ≡ Some (access_heard s d j stage x)
  pub answer : IsAnswer s.account x.target (reply_heard s d j stage x)
  pub response : Responds x.to (node_of s.account.latest d) (offset_of x.target) (swap_of j stage) (reply_heard s d j stage x)
  pub half_is : half s d ≡ record { says = Some (Async response.packet); controller = after_hear (s.controllers d) (reply_heard s d j stage x); asked_at = s.asked_at d }
  pub leads : next_account s.account (Async response.packet) ≡ Some (ended d (carried_out d j stage (reply_heard s d j stage x) s.account))

pub half_hears : (s : State) (d : ℕ) (j : Job) (stage : Stage) → IsGood s → (s.controllers d).current ≡ Hearing j stage → (x : Heard s d j stage) → HalfHears s d j stage x
half_hears s d j stage g current x = record { access = access; answer = answer; response = response; half_is = half_is; leads = leads }
  where
    t : Target
    t = x.target

    a : Access
    a = access_heard s d j stage x

    r : Reply
    r = reply_heard s d j stage x

    place : ℕ
    place = node_of s.account.latest d

    access : access_of j stage ≡ Some a
    access = ap (option_map (access_at (swap_of j stage))) x.asked

    fits : RunsFitting (s.controllers d) j stage
    fits = subst (CurrentFits (s.controllers d)) current (g.reclaims.step.fits d).current

    dir : IsDirectory s.account s.clock.cycle (directory_of s)
    dir = told s x.entry x.is x.shows.1 g.time.second

    answer : IsAnswer s.account t r
    answer =
        nodes_answer s x.entry t (swap_of j stage) x.to x.is x.shows.1 (subst (λ o. IsNodeOf o t x.to) x.is (node_is s.account s.clock.cycle (directory_of s) t x.to dir x.goes))
        (number_at j t fits.job.connection (target_is j stage t fits.stage x.asked)) (target_register j stage t fits.stage x.asked)

    response : Responds x.to place (offset_of t) (swap_of j stage) r
    response = responds x.to place (offset_of t) (swap_of j stage) r

    half_is : half s d ≡ record { says = Some (Async response.packet); controller = after_hear (s.controllers d) r; asked_at = s.asked_at d }
    half_is = ap (half_of s d) current ∙ (ap (hears s d) access ∙
        (ap (λ o. hears_from s d o a) x.goes ∙ ap (λ o. record { says = option_map Async o; controller = after_hear (s.controllers d) r; asked_at = s.asked_at d }) response.sent))

    row : row_of_node s.account.latest place ≡ Some (row_of d (kind_at s.declared.kinds d))
    row = subst (λ o. row_of_node o (node_of o d) ≡ Some (row_of d (kind_at s.declared.kinds d))) (sym x.is) (linked_at s x.entry d x.number x.shows.1 x.linked)

    leads : next_account s.account (Async response.packet) ≡ Some (ended d (carried_out d j stage r s.account))
    leads =
        answer_leads (directory_of s) s.account s.controllers s.clock.cycle place x.to (row_of d (kind_at s.declared.kinds d)) j stage a r response.packet g.reclaims.step dir
        (linked_small s x.entry d x.number x.shows.1 x.linked) row current access x.goes answer response.is

-- if a request is outstanding there is its node
pub heard_of : (s : State) (d : ℕ) (j : Job) (stage : Stage) → IsGood s → IsTrue (is_living s d) → (s.controllers d).current ≡ Hearing j stage → Heard s d j stage
heard_of s d j stage g lives current = of_latest s.account.latest refl (living_linked s d lives) g.latest
  where
    fits : RunsFitting (s.controllers d) j stage
    fits = subst (CurrentFits (s.controllers d)) current (g.reclaims.step.fits d).current

    reached : StageReached (directory_of s) j stage
    reached = subst (CurrentReached (directory_of s)) current (g.reclaims.step.goes_on d).current

    of_node : (e : ResetEntry) (n : ℕ) (t : Target) → s.account.latest ≡ Some e → IsLatest (Some e) s.declared s.account → linked_number (Some e) d ≡ Some n → target_of j stage ≡ Some t
        → (o : Option ℕ) → addressee_of (directory_of s) t ≡ o → IsSome o → Heard s d j stage
    of_node e n t is h number target None f there = absurd (grind (arith, there))
    of_node e n t is h number target (Some to) f there = record { entry = e; is = is; shows = h; number = n; linked = number; target = t; asked = target; to = to; goes = f }

    of_target : (e : ResetEntry) (n : ℕ) → s.account.latest ≡ Some e → IsLatest (Some e) s.declared s.account → linked_number (Some e) d ≡ Some n → (o : Option Target) → target_of j stage ≡ o
        → IsFalse (is_none o) → Heard s d j stage
    of_target e n is h number None f there = absurd (grind (arith, there))
    of_target e n is h number (Some t) f there = of_node e n t is h number f (addressee_of (directory_of s) t) refl (addressee_there (directory_of s) j stage t fits.stage reached f)

    stands : IsFalse (is_none (target_of j stage))
    stands = subst AsksWhatStands current (g.stands d)

    of_number : (e : ResetEntry) → s.account.latest ≡ Some e → IsLatest (Some e) s.declared s.account → (o : Option ℕ) → linked_number (Some e) d ≡ o → IsTrue (is_some o) → Heard s d j stage
    of_number e is h None f on = absurd (grind (arith, on))
    of_number e is h (Some n) f on = of_target e n is h f (target_of j stage) refl stands

    of_latest : (o : Option ResetEntry) → s.account.latest ≡ o → IsTrue (is_some (linked_number o d)) → IsLatest o s.declared s.account → Heard s d j stage
    of_latest None is on h = absurd (grind (arith, on))
    of_latest (Some e) is on h = of_number e is h (linked_number (Some e) d) refl on
