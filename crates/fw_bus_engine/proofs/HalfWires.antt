-- The wire after a half step in which no request is outstanding: a request that goes out is put there.
use Rattle.fw_bus_engine.proofs.Common.{◌≡◌, ℕ, ◌<◌, List, [], ◌∷◌, ◌++◌, true, false, option_map, Option, Some, None, refl, ap, sym, subst, ◌∙◌, arith, IsTrue, same_Some, Packet, spelling, Fits}
use Rattle.fw_bus_engine.proofs.Common.{Procedure, update, Async, bytes_from, Request, ResetEntry, node_of, Current, Nothing}
use Rattle.fw_bus_engine.proofs.Common.{Asking, Hearing, Overtaken, Directory, Next, Send, Access, ControllerState}
use Rattle.fw_bus_engine.proofs.Common.{IsHeard, addressee_of, standing_in, after_next, packet_of, request_head, node_at, State, directory_of, is_living, number_in, half, taken, after_half, IsGood}
use Rattle.fw_bus_engine.proofs.Common.{living_linked, turn_of, after_turn, Machine, TakesHalf, StandsFor, IsReady, is_living_in}
use Rattle.fw_bus_engine.proofs.Common.{ControllerTable, IsTable, count_of, states_of, dead_of, Listens, HasWire}
use Rattle.fw_bus_engine.proofs.Common.{living_same, linked_on, number_of_node, on_within}
use Rattle.fw_cmp.specs.declared.current.WaitingJob.{WaitingJob}
use Rattle.fw_cmp_jobs.specs.Requests.{access_of, request_of}
use Rattle.fw_cmp.specs.Turns.{rests, sending, asks_or_ends, after_asking, answer_of, after_answer, next}
use Rattle.fw_cmp.specs.Jobs.{ready}
use Rattle.fw_model_controllers.specs.Requests.{is_sent, procedure_head}
use Rattle.fw_model_controllers.proofs.Nexts.{ready_heard}
use Rattle.fw_model_run.specs.HalfSteps.{asks}
use Rattle.fw_bus_state.proofs.Heard.{heard_here, next_same}
use Rattle.fw_bus_state.specs.Wires.{controller_asks, packet_for}
use Rattle.fw_bus_engine.proofs.HalfTurns.{asks_is, asks_leaves, takes_asks, request_says, entry_fits}
use Rattle.fw_bus_state.proofs.Latest.{on_number}
use Rattle.fw_bus_state.proofs.Standing.{directory_same}
use Rattle.fw_bus_state.proofs.Wires.{Becomes, WithRequest, changed_wire, keep_request, put_request, stands_at}

-- ---- what a controller that answers is at then

-- it rests, and says no request
rests_quiet : (told : Directory) (ts : List WaitingJob) → is_sent (rests told ts) ≡ false
rests_quiet told [] = refl
rests_quiet told (t ∷ ts) = refl

sends_it : (o : Option ℕ) (a : Access) → is_sent (sending o a) ≡ true
sends_it None a = refl
sends_it (Some to) a = refl

quiet_not : (x : Next) (to : ℕ) (q : Request) → is_sent x ≡ false → x ≡ Send to q → ⊥
quiet_not x to q quiet e = let no : true ≡ false = ap is_sent (sym e) ∙ quiet in absurd (grind arith)

-- the request that it says stands then
said_stands : (latest : Option ResetEntry) (now : ℕ) (told : Directory) (d : ℕ) (c : ControllerState) (x : Current) (to : ℕ) (q : Request) → IsHeard x → to < 63
    → answer_of now told (record c { current = x }) ≡ Send to q
    → packet_for latest told d (standing_in (after_answer (record c { current = x })).current) ≡ Some (packet_of (procedure_head to (node_of latest d)) q)
said_stands latest now told d c Nothing to q heard low e = absurd (quiet_not (rests told c.waiting) to q (rests_quiet told c.waiting) e)
said_stands latest now told d c (Hearing j s) to q heard low e = absurd heard
said_stands latest now told d c (Overtaken i o) to q heard low e = let no : ⊥ = cc in absurd no
said_stands latest now told d c (Asking j s) to q heard low e = go (access_of j s) refl e
  where
    b : ControllerState
    b = record c { current = Asking j s }

    sent : (a : Access) (n : Option ℕ) → sending n a ≡ Send to q
        → option_map (λ k. packet_of (procedure_head k (node_of latest d)) (request_of a)) n ≡ Some (packet_of (procedure_head to (node_of latest d)) q)
    sent a None f = let far : 63 ≡ to = cc in absurd (omega (arith, far, low))
    sent a (Some n) f =
        let node : n ≡ to = cc in
        let asked : request_of a ≡ q = cc in
        λ i. Some (packet_of (procedure_head (node i) (node_of latest d)) (asked i))

    go : (o : Option Access) → access_of j s ≡ o → asks_or_ends now told j s o ≡ Send to q
        → packet_for latest told d (standing_in (after_asking b j s o).current) ≡ Some (packet_of (procedure_head to (node_of latest d)) q)
    go None is f = let no : ⊥ = cc in absurd no
    go (Some a) is f = ap (packet_for latest told d) is ∙ sent a (addressee_of told a.target) f

-- else none stands
unsaid_stands : (now : ℕ) (told : Directory) (c : ControllerState) (x : Current) → IsHeard x → is_sent (answer_of now told (record c { current = x })) ≡ false
    → standing_in (after_answer (record c { current = x })).current ≡ None
unsaid_stands now told c Nothing heard quiet = refl
unsaid_stands now told c (Hearing j s) heard quiet = absurd heard
unsaid_stands now told c (Overtaken i o) heard quiet = refl
unsaid_stands now told c (Asking j s) heard quiet = go (access_of j s) quiet
  where
    go : (o : Option Access) → is_sent (asks_or_ends now told j s o) ≡ false → standing_in (after_asking (record c { current = Asking j s }) j s o).current ≡ None
    go None f = refl
    go (Some a) f = let no : true ≡ false = sym (sends_it (addressee_of told a.target) a) ∙ f in absurd (grind (arith, no))

heard_stands : (x : Current) → IsHeard x → standing_in x ≡ None
heard_stands Nothing h = refl
heard_stands (Asking j s) h = refl
heard_stands (Hearing j s) h = absurd h
heard_stands (Overtaken i o) h = refl

-- ---- the node of a living controller

pub own_place : (s : State) (d : ℕ) → IsTrue (is_living s d) → number_in s.account.latest d ≡ Some (node_of s.account.latest d)
own_place s d lives = on_number s d (linked_on s d (living_linked s d lives))

pub own_number : (m : Machine) (s : State) (d own : ℕ) → IsGood s → StandsFor m s → IsTrue (is_living_in m d)
    → (node_at m.devices.nodes d).number ≡ Some own → number_in s.account.latest d ≡ Some own
own_number m s d own g st lives number =
    let living : IsTrue (is_living s d) = sym (living_same m s d g st) ∙ lives in
    sym (number_of_node m.devices.nodes s d st.devices.nodes (on_within m.devices.nodes s d st.devices.nodes g (linked_on s d (living_linked s d living)))) ∙ number

-- it has no pair while no request of it is outstanding
pub own_free : (m : Machine) (s : State) (d own : ℕ) → IsGood s → StandsFor m s → Listens (states_of m.controllers d)
    → number_in s.account.latest d ≡ Some own → bytes_from own m.wire ≡ None
own_free m s d own g st heard at =
    let here : IsHeard (s.controllers d).current = heard_here m s d st heard in
    stands_at m.wire s (controller_asks s) d own g at st.wire ∙ ap (λ o. option_map spelling (packet_for s.account.latest (directory_of s) d o)) (heard_stands (s.controllers d).current here)

-- ---- the wire after it

asks_become : (s : State) (d : ℕ) → IsGood s → IsTrue (is_living s d) → IsHeard (s.controllers d).current
    → Becomes s (taken s d (asks s d)) d (after_next s.clock.cycle (directory_of s) (s.controllers d))
asks_become s d g lives heard =
    let latest = (asks_leaves s d g lives heard).bus.latest in
    record { latest = latest; told = directory_same s (taken s d (asks s d)) latest refl; controllers = refl }

-- a request that goes out
pub sent_wire : (m : Machine) (d to own : ℕ) (q : Request) (p : Packet) → IsTrue (is_living_in m d) → Listens (states_of m.controllers d) → to < 63
    → turn_of m.cycle m.directory (states_of m.controllers d) ≡ Send to q → (node_at m.devices.nodes d).number ≡ Some own → p ≡ packet_of (request_head own to Procedure) q
    → (s : State) → IsGood s → StandsFor m s → HasWire (m.wire ++ (own, spelling p) ∷ []) (after_half s d)
sent_wire m d to own q p lives heard low says number is s g st =
    let living : IsTrue (is_living s d) = sym (living_same m s d g st) ∙ lives in
    let here : IsHeard (s.controllers d).current = heard_here m s d st heard in
    let at = own_number m s d own g st lives number in
    let node : node_of s.account.latest d ≡ own = same_Some (node_of s.account.latest d) own (sym (own_place s d living) ∙ at) in
    let c = ready s.clock.cycle (directory_of s) (s.controllers d) in
    let says_here : next s.clock.cycle (directory_of s) (s.controllers d) ≡ Send to q = sym (next_same m s d st heard.0) ∙ says in
    let stands = said_stands s.account.latest s.clock.cycle (directory_of s) d c c.current to q (ready_heard s.clock.cycle (directory_of s) (s.controllers d) here) low says_here in
    let goes = stands ∙ ap (λ (n : ℕ). Some (packet_of (procedure_head to n) q)) node ∙ ap (λ (x : Packet). Some x) (sym is) in
    subst (λ h. HasWire (m.wire ++ (own, spelling p) ∷ []) (taken s d h)) (sym (asks_is s d here))
    (changed_wire m.wire (m.wire ++ (own, spelling p) ∷ []) s (taken s d (asks s d)) d own (after_next s.clock.cycle (directory_of s) (s.controllers d)) g (asks_become s d g living here) at
    (subst (WithRequest m.wire (m.wire ++ (own, spelling p) ∷ []) own) (sym goes) (put_request m.wire own p (own_free m s d own g st heard at))) st.wire)

-- none goes out
pub quiet_wire : (m : Machine) (d : ℕ) → IsTrue (is_living_in m d) → Listens (states_of m.controllers d)
    → is_sent (turn_of m.cycle m.directory (states_of m.controllers d)) ≡ false
    → (s : State) → IsGood s → StandsFor m s → HasWire m.wire (after_half s d)
quiet_wire m d lives heard quiet s g st =
    let living : IsTrue (is_living s d) = sym (living_same m s d g st) ∙ lives in
    let here : IsHeard (s.controllers d).current = heard_here m s d st heard in
    let c = ready s.clock.cycle (directory_of s) (s.controllers d) in
    let quiet_here : is_sent (next s.clock.cycle (directory_of s) (s.controllers d)) ≡ false = ap is_sent (sym (next_same m s d st heard.0)) ∙ quiet in
    let none = unsaid_stands s.clock.cycle (directory_of s) c c.current (ready_heard s.clock.cycle (directory_of s) (s.controllers d) here) quiet_here in
    let same = none ∙ sym (heard_stands (s.controllers d).current here) in
    let at = own_place s d living in
    let own = node_of s.account.latest d in
    subst (λ h. HasWire m.wire (taken s d h)) (sym (asks_is s d here))
    (changed_wire m.wire m.wire s (taken s d (asks s d)) d own (after_next s.clock.cycle (directory_of s) (s.controllers d)) g (asks_become s d g living here) at
    (keep_request m.wire own _ (stands_at m.wire s (controller_asks s) d own g at st.wire ∙ ap (λ o. option_map spelling (packet_for s.account.latest (directory_of s) d o)) (sym same))) st.wire)

-- ---- a request that goes out, as a half step

-- what the machine has then
pub record Sends (m : Machine) (d to own : ℕ) (k : ControllerTable) (q : Request) (p : Packet) : Type 0 where
  pub lives : IsTrue (is_living_in m d)
  pub heard : Listens (states_of m.controllers d)
  pub table : IsTable k (count_of m.controllers) (update (states_of m.controllers) d (after_turn m.cycle m.directory (states_of m.controllers d))) (dead_of m.controllers)
  pub says : turn_of m.cycle m.directory (states_of m.controllers d) ≡ Send to q
  pub low : to < 63
  pub number : (node_at m.devices.nodes d).number ≡ Some own
  pub packet : p ≡ packet_of (request_head own to Procedure) q

pub sends_takes : {m : Machine} {d to own : ℕ} {k : ControllerTable} {q : Request} {p : Packet} → Sends m d to own k q p
    → TakesHalf half m (record m { controllers = k; wire = m.wire ++ (own, spelling p) ∷ [] }) d (Some (Async p))
sends_takes {m} {d} {to} {own} {k} {q} {p} x =
    takes_asks m k (m.wire ++ (own, spelling p) ∷ []) d (Some (Async p)) x.lives x.heard x.table
    (λ s g st. request_says m s d to own q p (turn_of m.cycle m.directory (states_of m.controllers d)) g st x.lives x.says x.number x.packet)
    (sent_wire m d to own q p x.lives x.heard x.low x.says x.number x.packet)

pub sends_fits : {m : Machine} {d to own : ℕ} {k : ControllerTable} {q : Request} {p : Packet} → IsReady m → Sends m d to own k q p → Fits p
sends_fits {m} {d} {to} {own} {k} {q} {p} ready x =
    entry_fits m (record m { controllers = k; wire = m.wire ++ (own, spelling p) ∷ [] }) d (Some (Async p)) ready x.lives (sends_takes x)

pub sends_free : {m : Machine} {d to own : ℕ} {k : ControllerTable} {q : Request} {p : Packet} → IsReady m → Sends m d to own k q p → bytes_from own m.wire ≡ None
sends_free {m} {d} {to} {own} r x = own_free m r.state d own r.good r.stands x.heard (own_number m r.state d own r.good r.stands x.lives x.number)
