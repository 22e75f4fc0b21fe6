-- The half step in which a request stands: the node that it went to carries it out, and the controller hears the reply.
use Rattle.fw_bus_engine.proofs.Common.{◌≡◌, false, ℕ, Some, None, unwrap_or, refl, ap, sym, subst, ◌∙◌, IsTrue, IsFalse}
use Rattle.fw_bus_engine.proofs.Common.{get_or-set_other, length-set, same_Some, Relay, Procedure, update, Head, Packet, Reply, Request, Async, Account, node_of, Access}
use Rattle.fw_bus_engine.proofs.Common.{ControllerState, offset_of, standing_in, request_at, packet_of, request_head, request_in}
use Rattle.fw_bus_engine.proofs.Common.{reply_in, first_state}
use Rattle.fw_bus_engine.proofs.Common.{Network, State, number_in, is_deaf, half, taken, after_half, IsGood, half_hears, living_linked, Awaits, controller_at, quiet_here}
use Rattle.fw_bus_engine.proofs.Common.{Machine, TakesHalf, StandsFor, is_living_in, without, nodes_after, HasStreams, looked_at, HasWire, ControllerTable, IsTable, count_of}
use Rattle.fw_bus_engine.proofs.Common.{states_of, dead_of, living_same, node_number_is, linked_on}
use Rattle.fw_csr.specs.Requests as Offsets
use Rattle.fw_cmp_jobs.specs.Requests.{swap_of, request_of}
use Rattle.fw_cmp.specs.Resets.{heard as heard_then, after_hear}
use Rattle.fw_model_controllers.specs.Requests.{procedure_head}
use Rattle.fw_model_controllers.proofs.LingersAlong.{entry_lingers}
use Rattle.fw_node.specs.Space as Spaces
use Rattle.fw_model_run.specs.Spaces.{space_of_node}
use Rattle.fw_model_run.proofs.HalfSteps.{half_good}
use Rattle.fw_model_run.proofs.Hears.{HalfHears, access_heard, reply_heard, carried_bus, carried_withheld}
use Rattle.fw_cmp.specs.Losses.{after_answer}
use Rattle.fw_model_run.proofs.Apart.{controllers_of, all_hear}
use Rattle.fw_bus_engine.specs.Serving.{Sent}
use Rattle.fw_bus_engine.proofs.Exchanges.{Exchange, standing_of, exchange_of, exchange_within, exchange_addresses, carried}
use Rattle.fw_bus_engine.proofs.HalfNodes.{state_with, answer_follows}
use Rattle.fw_bus_engine.proofs.AnsweredNodes.{FollowsRequest, answered_by, devices_follow}
use Rattle.fw_bus_engine.proofs.Responder.{asks_request, response_is}
use Rattle.fw_model_run.specs.Spaces.{answer_packet}
use Rattle.fw_bus_state.specs.Stands.{HasDevices, devices_at}
use Rattle.fw_bus_engine.proofs.HalfTurns.{stands_with, table_with}
use Rattle.fw_bus_engine.proofs.HalfWires.{own_number}
use Rattle.fw_bus_state.proofs.Standing.{directory_same}
use Rattle.fw_bus_state.proofs.Wires.{WithRequest, changed_wire, take_request}
use Rattle.fw_bus_state.specs.Wires.{packet_for}
use Rattle.fw_bus_engine.proofs.Common.{directory_of}
use Rattle.fw_bus_state.proofs.Counts.{streams_look}
use Rattle.fw_bus_engine.proofs.HalfAnswers.{account_heard, words_heard, reply_below}

-- ---- the response

-- the run's half step has that response, and its controller hears the reply in it
pub record Answered (m : Machine) (s : State) (d : ℕ) (a : Access) (to device : ℕ) (response : Packet) : Type 0 where
  pub exchange : Exchange m s d a to device
  pub hears : HalfHears s d exchange.job exchange.stage exchange.heard
  pub response_is : response ≡ hears.response.packet
  pub reply_is : reply_in response ≡ Some (reply_heard s d exchange.job exchange.stage exchange.heard)

-- the machine's exchange is that of the run
pub answered_of : (m : Machine) (s : State) (d : ℕ) (a : Access) (to device own : ℕ) (packet response : Packet) → IsGood s → StandsFor m s
    → IsTrue (is_living_in m d) → Awaits (states_of m.controllers d) → Sent m d a to device own packet response
    → Answered m s d a to device response
answered_of m s d a to device own packet response g st lives standing sent =
    record { exchange = x; hears = h; response_is = same; reply_is = ap reply_in same ∙ reply_is }
  where
    x : Exchange m s d a to device
    x = exchange_of m s d a to device g st (standing_of m s d a g st lives standing sent.asks) sent.goes sent.at

    h : HalfHears s d x.job x.stage x.heard
    h = half_hears s d x.job x.stage g x.current x.heard

    q : Request
    q = request_of (access_heard s d x.job x.stage x.heard)

    head : Head
    head = procedure_head x.heard.to (node_of s.account.latest d)

    place : own ≡ node_of s.account.latest d
    place =
        same_Some own (node_of s.account.latest d) (sym sent.own_is
        ∙ (node_number_is m.devices.nodes s d st.devices.nodes g (linked_on s d (living_linked s d (sym (living_same m s d g st) ∙ lives)))).0)

    packet_is : packet ≡ packet_of head q
    packet_is = sent.packet_is ∙ (λ i. packet_of (request_head (place i) (x.to_is i) Procedure) (request_of (x.access i)))

    number : number_in s.account.latest device ≡ Some x.heard.to
    number = x.number ∙ ap (λ n. Some n) x.to_is

    answered : answer_packet s x.heard.to head q ≡ Some response
    answered = response_is m.devices.nodes s m.cycle device x.heard.to head q packet response g st.devices.nodes st.clock.cycle number packet_is sent.answered

    same : response ≡ h.response.packet
    same = same_Some response h.response.packet (sym answered ∙ h.response.sent)

    reply_is : reply_in h.response.packet ≡ Some (reply_heard s d x.job x.stage x.heard)
    reply_is =
        carried x.heard.to head (offset_of x.heard.target) (swap_of x.job x.stage)
        (Spaces.register_at (space_of_node s x.heard.to) (Offsets.offset_of q)) h.response.packet
        (reply_below s d x.job x.stage g x.current x.heard h) h.response.sent

-- ---- the machine after it

-- the machine then
abbrev pub machine_after : Machine → ControllerTable → ℕ → ℕ → Packet → Machine
machine_after m k device own packet = record m {
  devices = record m.devices { nodes = nodes_after m.devices.nodes device packet };
  controllers = k;
  wire = without own m.wire;
  streams = looked_at device (nodes_after m.devices.nodes device packet) m.streams;
}

-- it stands for the state after the half step
hears_stands : (m : Machine) (s : State) (k : ControllerTable) (d : ℕ) (a : Access) (to device own : ℕ) (packet response : Packet) (r : Reply) → IsGood s
    → IsGood (after_half s d) → StandsFor m s → IsFalse (is_deaf s d) → number_in s.account.latest d ≡ Some own → Sent m d a to device own packet response
    → Answered m s d a to device response → Some r ≡ reply_in response
    → IsTable k (count_of m.controllers) (update (states_of m.controllers) d (after_answer (states_of m.controllers d) r)) (dead_of m.controllers)
    → StandsFor (machine_after m k device own packet) (after_half s d)
hears_stands m s k d a to device own packet response r g after st quiet place sent z heard table =
    subst (λ y. StandsFor now (taken s d y)) (sym h.half_is) (subst (λ l. StandsFor now (state_with s l f asked)) (sym (ap (λ o. unwrap_or o s.account) h.leads))
    (stands_with m s (answered_by m.devices device (request_in packet)) k l f asked (without own m.wire)
    (looked_at device (nodes_after m.devices.nodes device packet) m.streams) st (record { latest = bus.0; reclaiming = bus.1; withheld = withheld }) devices
    (table_with m s (state_with s l f asked) k d (after_answer (states_of m.controllers d) r) (after_answer (controller_at s d) reply_) st
    (λ i. after_answer (st.table.states_are i d) (reply_is i)) all table) wire streams))
  where
    x : Exchange m s d a to device
    x = z.exchange

    h : HalfHears s d x.job x.stage x.heard
    h = z.hears

    now : Machine
    now = machine_after m k device own packet

    reply_ : Reply
    reply_ = reply_heard s d x.job x.stage x.heard

    reply_is : r ≡ reply_
    reply_is = same_Some r reply_ (heard ∙ z.reply_is)

    l : Account
    l = account_heard s d x.job x.stage x.heard

    f : ℕ → ControllerState
    f = update s.controllers d (after_hear (s.controllers d) reply_)

    asked : ℕ → ℕ
    asked = update s.asked_at d (s.asked_at d)

    -- the table of the run, by the account that the response leads to
    all : controllers_of (state_with s l f asked) ≡ update (controllers_of s) d (after_answer (controller_at s d) reply_)
    all = subst (λ o. controllers_of (state_with s (unwrap_or o s.account) f asked) ≡ update (controllers_of s) d (after_answer (controller_at s d) reply_)) h.leads
        (subst (λ y. controllers_of (taken s d y) ≡ update (controllers_of s) d (after_answer (controller_at s d) reply_)) h.half_is (all_hear s d x.job x.stage g quiet x.current x.heard))

    bus : (l.latest ≡ s.account.latest) × (l.reclaiming ≡ s.account.reclaiming)
    bus = carried_bus d x.job x.stage reply_ s.account

    withheld : l.withheld ≡ s.account.withheld
    withheld = carried_withheld d x.job x.stage reply_ s.account

    rests : standing_in (after_hear (s.controllers d) reply_).current ≡ None
    rests = ap (λ c. standing_in (heard_then c reply_)) x.current

    wire : HasWire (without own m.wire) (state_with s l f asked)
    wire = changed_wire m.wire (without own m.wire) s (state_with s l f asked) d own (after_hear (s.controllers d) reply_) g
        (record { latest = bus.0; told = directory_same s (state_with s l f asked) bus.0 refl; controllers = refl }) place
        (subst (WithRequest m.wire (without own m.wire) own) (sym (ap (packet_for s.account.latest (directory_of s) d) rests)) (take_request m.wire own)) st.wire

    request_is : request_in packet ≡ Some (request_at (offset_of x.heard.target) (swap_of x.job x.stage))
    request_is = ap request_in sent.packet_is ∙ (asks_request (request_head own to Procedure) (request_of a) ∙ ap (λ y. Some (request_of y)) x.access)

    -- a swap that changes the word of an output plug ends its lingering, in the node as in the account
    follows : FollowsRequest s (state_with s l f asked) device to (request_at (offset_of x.heard.target) (swap_of x.job x.stage))
    follows = answer_follows s l f asked device to x.heard.target (swap_of x.job x.stage) g (exchange_addresses m s d a to device g x) bus.0 withheld
        (words_heard s d x.job x.stage g x.current x.heard h) (entry_lingers s.account l (Async h.response.packet) g.reclaims.step.sound h.leads)

    devices : HasDevices (answered_by m.devices device (request_in packet)) (devices_at (state_with s l f asked))
    devices = subst (λ o. HasDevices (answered_by m.devices device o) (devices_at (state_with s l f asked))) (sym request_is)
        (devices_follow m.devices s (state_with s l f asked) device to (request_at (offset_of x.heard.target) (swap_of x.job x.stage)) g st.around.hearing st.devices follows)

    good : IsGood (state_with s l f asked)
    good = subst (λ o. IsGood (state_with s (unwrap_or o s.account) f asked)) h.leads (subst (λ y. IsGood (taken s d y)) h.half_is after)

    streams : HasStreams (looked_at device (nodes_after m.devices.nodes device packet) m.streams) (state_with s l f asked).streams
    streams =
        streams_look m.devices.nodes (nodes_after m.devices.nodes device packet) m.streams s (state_with s l f asked) device g good st.devices.nodes devices.nodes
        st.devices.lingering devices.lingering (length-set m.devices.nodes device _) (exchange_within m s d a to device g st x)
        (λ c ne. get_or-set_other m.devices.nodes device c _ (first_state Relay 0 0 false) ne) refl st.streams

-- the half step of the machine is that of the run
pub takes_hears : (m : Machine) (n : Network) (k : ControllerTable) (d : ℕ) (a : Access) (to device own : ℕ) (packet response : Packet) (r : Reply)
    → IsTrue (is_living_in m d) → Awaits (states_of m.controllers d) → Sent m d a to device own packet response
    → n ≡ record m.devices { nodes = nodes_after m.devices.nodes device packet } → Some r ≡ reply_in response
    → IsTable k (count_of m.controllers) (update (states_of m.controllers) d (after_answer (states_of m.controllers d) r)) (dead_of m.controllers)
    → TakesHalf half m (record m { devices = n; controllers = k; wire = without own m.wire; streams = looked_at device n.nodes m.streams })
    d (Some (Async response))
takes_hears m n k d a to device own packet response r lives standing sent registers heard table = λ s g st.
    let z = answered_of m s d a to device own packet response g st lives standing sent in
    let after = half_good s d g (sym (living_same m s d g st) ∙ lives) (quiet_here m s d st standing.0) in
    let P : Network → Type 0 = λ v.
    StandsFor (record m { devices = v; controllers = k; wire = without own m.wire; streams = looked_at device v.nodes m.streams }) (after_half s d) in (
      ap (λ p. Some (Async p)) z.response_is ∙ sym (ap (λ y. y.says) z.hears.half_is),
      subst P (sym registers) (hears_stands m s k d a to device own packet response r g after st (quiet_here m s d st standing.0)
          (own_number m s d own g st lives sent.own_is) sent z heard table),
    )
