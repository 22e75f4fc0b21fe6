-- An outstanding request, the node that it went to, and the reply that its response carries.
use Rattle.fw_bus_engine.proofs.Common.{◌≡◌, ◌&&◌, Bool, ℕ, ◌<◌, ◌^◌, length, true, Option, Some, None, is_some}
use Rattle.fw_bus_engine.proofs.Common.{refl, ap, sym, subst, ◌∙◌, arith, IsTrue, same_Some, has_link, Head}
use Rattle.fw_bus_engine.proofs.Common.{Packet, ResetEntry, Current, Nothing, Asking, Hearing, Overtaken}
use Rattle.fw_bus_engine.proofs.Common.{Stage, Access, Target, ControllerState, standing_in, addressee_of, request_at, stands}
use Rattle.fw_bus_engine.proofs.Common.{packet_of, reply_in, kind_at, kinds_of, is_node, node_device, State, number_in, directory_of, is_linked, is_living, manager_in}
use Rattle.fw_bus_engine.proofs.Common.{IsGood, IsLatest, half_hears, Awaits, stands_here, state_same, Machine, StandsFor, is_linked_in, is_living_in, states_of, linked_same, living_same}
use Rattle.fw_bus_engine.proofs.Common.{on_within}
use Rattle.std.proofs.lemmas.Nat.{from_be_bytes-to_be_bytes_4}
use Rattle.fw_csr.specs.declared.register.RegisterAccess.{RegisterAccess}
use Rattle.fw_csr.specs.declared.register.RegisterAccess.TheVariants.{ReadOnly, ReadSwap, WriteOnly}
use Rattle.fw_words.specs.declared.swap.Swap.{Swap}
use Rattle.fw_csr.specs.Replies.{reply}
use Rattle.fw_cmp_jobs.specs.declared.job.Job.{Job}
use Rattle.fw_cmp_jobs.specs.declared.request.Target.TheVariants as target
use Rattle.fw_cmp.specs.Controllers.{IsStanding, CurrentFits, RunsFitting}
use Rattle.fw_cmp_jobs.specs.Nodes as Told
use Rattle.fw_model_controllers.specs.Controllers.{IsDirectory}
use Rattle.fw_model_controllers.specs.Requests.{IsDevice}
use Rattle.fw_model_controllers.proofs.Addressees.{target_is, number_at}
use Rattle.fw_model_controllers.proofs.Leads.{target_register}
use Rattle.fw_node.specs.Packets.{response_to, old_value, old_bytes}
use Rattle.fw_model_run.proofs.Directories.{told, node_told}
use Rattle.fw_model_run.proofs.Hears.{Heard, heard_of, access_heard}
use Rattle.fw_model_run.proofs.Responses.{heard_node}
use Rattle.fw_model_run.proofs.Words.{device_of_number}
use Rattle.fw_tree.proofs.ReachLaws.{sound_made}
use Rattle.fw_bus_engine.proofs.Places.{HasTarget, Addresses}
use Rattle.fw_bus_engine.proofs.Responder.{device_there}
use Rattle.fw_bus_state.proofs.Latest.{numbers_apart}

-- ---- the reply in a response

-- the reply of a register to a read or a compare_swap of a quadlet comes back from its response
pub carried : (n : ℕ) (h : Head) (offset : ℕ) (w : Option Swap) (o : Option RegisterAccess) (p : Packet)
    → ((reply o (request_at offset w)).rcode ≡ 0 → (reply o (request_at offset w)).value < 2 ^ 32)
    → response_to n (packet_of h (request_at offset w)) (reply o (request_at offset w)) ≡ Some p → reply_in p ≡ Some (reply o (request_at offset w))
carried n h offset None o p low is = subst (λ z. reply_in z ≡ Some (reply o (request_at offset None))) (same_Some _ p is) refl
carried n h offset (Some x) o p low is = subst (λ z. reply_in z ≡ Some (reply o (request_at offset (Some x)))) (same_Some _ p is) (go o low)
  where
    go : (o : Option RegisterAccess) → ((reply o (request_at offset (Some x))).rcode ≡ 0 → (reply o (request_at offset (Some x))).value < 2 ^ 32)
        → old_value (reply o (request_at offset (Some x))).rcode (old_bytes (reply o (request_at offset (Some x)))) ≡ Some (reply o (request_at offset (Some x)))
    go None low = refl
    go (Some (ReadOnly word)) low = refl
    go (Some WriteOnly) low = refl
    go (Some (ReadSwap word)) low = ap (λ v. Some (record { rcode = 0; value = v })) (from_be_bytes-to_be_bytes_4 word (low refl))

-- ---- the outstanding request

-- the node that it went to is the target, and the controller hears its reply
pub record Exchange (m : Machine) (s : State) (d : ℕ) (a : Access) (to device : ℕ) : Type 0 where
  pub job : Job
  pub stage : Stage
  pub current : (s.controllers d).current ≡ Hearing job stage
  pub heard : Heard s d job stage
  pub access : a ≡ access_heard s d job stage heard
  pub to_is : to ≡ heard.to
  pub number : number_in s.account.latest device ≡ Some to

-- of which the machine knows the access and the addressee alone
pub record Standing (m : Machine) (s : State) (d : ℕ) (a : Access) : Type 0 where
  pub job : Job
  pub stage : Stage
  pub current : (s.controllers d).current ≡ Hearing job stage
  pub heard : Heard s d job stage
  pub access : a ≡ access_heard s d job stage heard

-- if a request is outstanding, by the machine
pub standing_of : (m : Machine) (s : State) (d : ℕ) (a : Access) → IsGood s → StandsFor m s → IsTrue (is_living_in m d)
    → Awaits (states_of m.controllers d) → Some a ≡ standing_in (states_of m.controllers d).state.current → Standing m s d a
standing_of m s d a g st lives stands asks =
    go (s.controllers d).current refl (stands_here m s d st stands) (asks ∙ ap (λ (c : ControllerState). standing_in c.current) (state_same m s d st stands.0))
  where
    living : IsTrue (is_living s d)
    living = sym (living_same m s d g st) ∙ lives

    go : (c : Current) → (s.controllers d).current ≡ c → IsStanding c → Some a ≡ standing_in c → Standing m s d a
    go Nothing e h f = absurd h
    go (Asking j stage) e h f = absurd h
    go (Overtaken i o) e h f = absurd h
    go (Hearing j stage) e h f =
        let x = heard_of s d j stage g living e in
        record { job = j; stage = stage; current = e; heard = x; access = same_Some a (access_heard s d j stage x) (f ∙ (half_hears s d j stage g e x).access) }

-- its addressee
pub addressee_is : (m : Machine) (s : State) (d : ℕ) (a : Access) → StandsFor m s → (x : Standing m s d a)
    → addressee_of m.directory a.target ≡ Some x.heard.to
addressee_is m s d a st x = (λ i. addressee_of (st.directory i) (x.access i).target) ∙ x.heard.goes

-- the device of its node
pub device_is : (m : Machine) (s : State) (d : ℕ) (a : Access) → IsGood s → StandsFor m s → (x : Standing m s d a)
    → (device : ℕ) × (node_device m.devices.latest.nodes x.heard.to ≡ Some device) × (number_in s.account.latest device ≡ Some x.heard.to)
device_is m s d a g st x =
    let w = heard_node s d x.job x.stage g x.heard in
    (w.device, device_there m s x.heard.to w.device st (device_of_number s w.device x.heard.to g w.number), w.number)

-- so the request went to that node, by the run
pub exchange_of : (m : Machine) (s : State) (d : ℕ) (a : Access) (to device : ℕ) → IsGood s → StandsFor m s → Standing m s d a
    → Some to ≡ addressee_of m.directory a.target → Some device ≡ node_device m.devices.latest.nodes to → Exchange m s d a to device
exchange_of m s d a to device g st x goes at =
    let to_is : to ≡ x.heard.to = same_Some to x.heard.to (goes ∙ addressee_is m s d a st x) in
    let w = device_is m s d a g st x in
    let same : device ≡ w.0 = same_Some device w.0 (at ∙ (ap (node_device m.devices.latest.nodes) to_is ∙ w.1)) in
    record {
      job = x.job;
      stage = x.stage;
      current = x.current;
      heard = x.heard;
      access = x.access;
      to_is = to_is;
      number = ap (number_in s.account.latest) same ∙ (w.2 ∙ ap (λ n. Some n) (sym to_is));
    }

-- ---- its node

-- the device on the bus
pub exchange_on : (m : Machine) (s : State) (d : ℕ) (a : Access) (to device : ℕ) → Exchange m s d a to device
    → IsTrue (is_some (number_in s.account.latest device))
exchange_on m s d a to device x = ap is_some x.number

-- it is among the nodes
pub exchange_within : (m : Machine) (s : State) (d : ℕ) (a : Access) (to device : ℕ) → IsGood s → StandsFor m s → Exchange m s d a to device
    → device < length m.devices.nodes
exchange_within m s d a to device g st x = on_within m.devices.nodes s device st.devices.nodes g (exchange_on m s d a to device x)

-- a row of the latest entry is that of its device
device_number : (s : State) (e : ResetEntry) (d n : ℕ) → IsGood s → s.account.latest ≡ Some e → IsDevice s.account.latest d n
    → number_in s.account.latest d ≡ Some n
device_number s e d n g is w =
    let h = subst (λ o. IsLatest o s.declared s.account) is g.latest in
    let row = subst (λ o. IsDevice o d n) is w in
    ap (λ o. number_in o d) is ∙ (ap (number_in (Some e)) (sym row.2) ∙ (h.1.rows n row.0 row.1).1)

-- it has the register of the request, if any node has it
pub exchange_addresses : (m : Machine) (s : State) (d : ℕ) (a : Access) (to device : ℕ) → IsGood s → (x : Exchange m s d a to device)
    → Addresses s device to x.heard.target
exchange_addresses m s d a to device g x =
    record {
      number = x.number;
      has = has x.heard.target (subst (λ n. addressee_of (directory_of s) x.heard.target ≡ Some n) (sym x.to_is) x.heard.goes);
      small = number_at x.job x.heard.target fits.job.connection (target_is x.job x.stage x.heard.target fits.stage x.heard.asked);
      register = target_register x.job x.stage x.heard.target fits.stage x.heard.asked;
    }
  where
    fits : RunsFitting (s.controllers d) x.job x.stage
    fits = subst (CurrentFits (s.controllers d)) x.current (g.reclaims.step.fits d).current

    dir : IsDirectory s.account s.clock.cycle (directory_of s)
    dir = told s x.heard.entry x.heard.is x.heard.shows.1 g.time.second

    plug : (k : ℕ) → Told.node_of (directory_of s) k ≡ Some to → k ≡ device
    plug k e = numbers_apart s k device to to g (device_number s x.heard.entry k to g x.heard.is (dir.devices k to e)) x.number refl

    has : (t : Target) → addressee_of (directory_of s) t ≡ Some to → HasTarget s.account.latest device to t
    has (target.OutputPlug p) e = plug p.device e
    has (target.InputPlug p) e = plug p.device e
    has (target.Channels base) e = e
    has target.BandwidthAvailable e = e

-- there are 63 devices at most
exchange_low : (m : Machine) (s : State) (d : ℕ) (a : Access) (to device : ℕ) → IsGood s → StandsFor m s → Exchange m s d a to device → device < 63
exchange_low m s d a to device g st x =
    let few = (sound_made s.declared.topology g.declared.made).few in
    omega (arith, exchange_within m s d a to device g st x, st.devices.nodes.size, g.declared.named, few)

both_second : (a b : Bool) → (a && b) ≡ true → b ≡ true
both_second a b e = grind (arith, e)

-- it has a link
pub exchange_kind : (m : Machine) (s : State) (d : ℕ) (a : Access) (to device : ℕ) → IsGood s → StandsFor m s
    → (x : Exchange m s d a to device) → IsTrue (has_link (kind_at s.declared.kinds device))
exchange_kind m s d a to device g st x =
    go x.heard.target
    (subst (λ n. addressee_of (directory_of s) x.heard.target ≡ Some n) (sym x.to_is) x.heard.goes) (exchange_addresses m s d a to device g x).has
  where
    linked : (k : ℕ) → Told.node_of (directory_of s) k ≡ Some to → k ≡ device → IsTrue (has_link (kind_at s.declared.kinds device))
    linked k e same =
        let lt : k < 63 = omega (arith, exchange_low m s d a to device g st x, same) in
        let on : is_linked s k ≡ true = ap is_some (sym (node_told s k lt) ∙ e) in
        let there : is_linked_in m.devices device ≡ true = ap (is_linked_in m.devices) (sym same) ∙ (linked_same m.devices s k g st.devices ∙ on) in
        let link : has_link (kind_at (kinds_of m.devices.nodes) device) ≡ true = both_second (is_node m.devices.nodes device) (has_link (kind_at (kinds_of m.devices.nodes) device)) there in
        subst (λ kinds. has_link (kind_at kinds device) ≡ true) st.devices.kinds link

    manager : manager_in s.account.latest ≡ Some to → IsTrue (has_link (kind_at s.declared.kinds device))
    manager e =
        let w = x.heard.shows.1.manager to (sym (ap manager_in x.heard.is) ∙ e) in
        let same : w.0 ≡ device = numbers_apart s w.0 device to to g (ap (λ o. number_in o w.0) x.heard.is ∙ w.1) x.number refl in
        subst (λ k. has_link (kind_at s.declared.kinds k) ≡ true) same w.2

    go : (t : Target) → addressee_of (directory_of s) t ≡ Some to → HasTarget s.account.latest device to t
        → IsTrue (has_link (kind_at s.declared.kinds device))
    go (target.OutputPlug p) e has = linked p.device e has
    go (target.InputPlug p) e has = linked p.device e has
    go (target.Channels base) e has = manager has
    go target.BandwidthAvailable e has = manager has
