-- The machine after a half step, and the half step in which no request stands: the controller says what it does next.
use Rattle.fw_bus_engine.proofs.Common.{◌≡◌, ◌⊎◌, inl, inr, ℕ, ◌<◌, ◌==◌, ◌&&◌, Bool, false, length, List, Option, Some, None, IfSome, refl, ap, sym, subst, ◌∙◌, arith, IsTrue, IsFalse}
use Rattle.fw_bus_engine.proofs.Common.{nat_tests, same_Some, PlugAt, update, at_plug, Packet, Request, Entry, Async, Account, Register, BandwidthAvailable, ChannelsAvailable, OutputPlug, InputPlug}
use Rattle.fw_bus_engine.proofs.Common.{word_of, node_of, Current, Nothing, Asking, Hearing, Overtaken, Next, Send, ControllerState, IsHeard, after_next, Procedure, packet_of, request_head}
use Rattle.fw_bus_engine.proofs.Common.{Network, node_at, State, directory_of, is_living, linked_number, manager_in}
use Rattle.fw_bus_engine.proofs.Common.{is_deaf, half, taken, after_half, IsGood, living_linked, Listening, turn_of}
use Rattle.fw_bus_engine.proofs.Common.{after_turn, controller_at, quiet_here, Machine, TakesHalf, StandsFor, IsReady, is_living_in, Pairs, HasStreams, HasWire}
use Rattle.fw_bus_engine.proofs.Common.{ControllerTable, IsTable, count_of, states_of, dead_of, Listens, living_same, node_number_is, linked_on}
use Rattle.fw_model_account.specs.Account.{Request as Outstanding, talks}
use Rattle.fw_model_account.specs.Packets.{asked, ended}
use Rattle.fw_cmp.specs.declared.outcome.Next.TheVariants.{Idle, Waiting, Deaf, Force}
use Rattle.fw_cmp_jobs.specs.declared.request.Target.TheVariants as target
use Rattle.fw_cmp_jobs.specs.Nodes.{HasNodeNumbers}
use Rattle.fw_cmp_jobs.specs.Nodes as Told
use Rattle.fw_model_controllers.specs.Lingering.{SameLinger}
use Rattle.fw_model_controllers.specs.Controllers.{IsDirectory}
use Rattle.fw_model_run.specs.State.{entered_by, list_to}
use Rattle.fw_model_run.specs.HalfSteps.{said, asks, half_of}
use Rattle.fw_model_run.proofs.Directories.{told}
use Rattle.fw_model_run.proofs.Fitting.{EntryFits, half_fits}
use Rattle.fw_model_run.proofs.Leads.{IsLinked, linked_of}
use Rattle.fw_model_run.proofs.Responses.{node_of_target}
use Rattle.fw_model_run.proofs.Turns.{Turns, sends, rests, turns}
use Rattle.fw_model_run.proofs.Apart.{controllers_of, all_turn}
use Rattle.fw_bus_state.proofs.Heard.{heard_here, next_same}
use Rattle.fw_bus_state.specs.Stands.{HasDevices, devices_at}
use Rattle.fw_bus_engine.proofs.HalfNodes.{state_with}
use Rattle.fw_bus_state.proofs.Latest.{number_low}
use Rattle.fw_bus_state.proofs.Counts.{streams_stay}
use Rattle.fw_model_run.specs.Dubs.{dub_between}
use Rattle.fw_model_run.proofs.Candidates.{on_bus}
use Rattle.fw_model_run.proofs.Hearing.{fewer_hear}
use Rattle.fw_bus_state.specs.Bids.{candidate_asks}
use Rattle.fw_bus_state.specs.Wires.{HasRequests}
use Rattle.fw_bus_state.proofs.Standing.{devices_kept}

-- ---- the machine stands for a state that differs in the account and in one controller

-- the bus that the account has is the same
pub record SameBus (l m : Account) : Type 0 where
  pub latest : m.latest ≡ l.latest
  pub reclaiming : m.reclaiming ≡ l.reclaiming
  pub withheld : m.withheld ≡ l.withheld

-- the table with one other controller
pub table_with : (m : Machine) (s t : State) (k : ControllerTable) (d : ℕ) (x y : Listening) → StandsFor m s → x ≡ y
    → controllers_of t ≡ update (controllers_of s) d y
    → IsTable k (count_of m.controllers) (update (states_of m.controllers) d x) (dead_of m.controllers)
    → IsTable k (length s.declared.names) (λ e. controller_at t e) s.dead
table_with m s t k d x y st same all h = let u = st.table in record {
  count_is = h.count_is ∙ u.count_is;
  states_are = h.states_are ∙ ((λ i. update (u.states_are i) d (same i)) ∙ sym all);
  dead_are = h.dead_are ∙ u.dead_are;
}

quiet_and : (a b : Bool) → a ≡ false → (a && b) ≡ false
quiet_and a b e = grind (arith, e)

-- a plug whose word stays goes on
stays_where : (b : Bool) (v w : ℕ) → v ≡ w → (b && (v == w)) ≡ b
stays_where b v w e = grind (arith, nat_tests, e)

-- the machine with these devices and controllers stands for the state with this account
pub stands_with : (m : Machine) (s : State) (n : Network) (k : ControllerTable) (l : Account) (f : ℕ → ControllerState) (asked_at : ℕ → ℕ) (w : Pairs) (c : List ℕ)
    → StandsFor m s → SameBus s.account l → HasDevices n (devices_at (state_with s l f asked_at))
    → IsTable k (length s.declared.names) (λ e. controller_at (state_with s l f asked_at) e) s.dead
    → HasWire w (state_with s l f asked_at) → HasStreams c (state_with s l f asked_at).streams
    → StandsFor (record m { devices = n; controllers = k; wire = w; streams = c }) (state_with s l f asked_at)
stands_with m s n k l f asked_at w c st same devices table wire streams = record {
  devices = devices;
  clock =
      record { cycle = st.clock.cycle; reclaiming = st.clock.reclaiming ∙ sym same.reclaiming; half_steps = st.clock.half_steps; written = st.clock.written; resets = st.clock.resets };
  table = table;
  directory = st.directory
      ∙ sym (ap (λ o. record { node = list_to 63 (linked_number o); manager = manager_in o; over_at = s.clock.over_at }) same.latest);
  wire = wire;
  streams = streams;
  answered = st.answered;
  unsent = st.unsent;
  election = st.election;
  bids = subst (λ o. HasRequests m.bids o (candidate_asks o s.election)) (sym same.latest) st.bids;
  reel = record { tied_is = st.reel.tied_is; reel_is = st.reel.reel_is };
  around = record { candidates = on_bus s l.latest same.latest st.around.candidates; hearing = fewer_hear s _ l.latest (λ q e. quiet_and _ _ e) same.latest st.around.hearing };
}

-- ---- words that a request and its end leave

-- a request that goes out changes no word
pub asked_words : (d : ℕ) (q : Outstanding) (l : Account) (r : Register) → word_of (asked d q l) r ≡ word_of l r
asked_words d q l BandwidthAvailable = refl
asked_words d q l (ChannelsAvailable base) = refl
asked_words d q l (OutputPlug p) = refl
asked_words d q l (InputPlug p) = refl

-- nor does the end of a request
pub ended_words : (d : ℕ) (l : Account) (r : Register) → word_of (ended d l) r ≡ word_of l r
ended_words d l BandwidthAvailable = refl
ended_words d l (ChannelsAvailable base) = refl
ended_words d l (OutputPlug p) = refl
ended_words d l (InputPlug p) = refl

-- ---- no request is outstanding

-- the half step is then what the controller does next
pub asks_is : (s : State) (d : ℕ) → IsHeard (s.controllers d).current → half s d ≡ asks s d
asks_is s d heard = go (s.controllers d).current heard
  where
    go : (c : Current) → IsHeard c → half_of s d c ≡ asks s d
    go Nothing h = refl
    go (Asking j stage) h = refl
    go (Hearing j stage) h = absurd h
    go (Overtaken i o) h = refl

-- what the controller says leaves the bus and all words
pub record SameShown (l m : Account) : Type 0 where
  pub bus : SameBus l m
  pub words : (r : Register) → word_of m r ≡ word_of l r
  pub linger : SameLinger l m
  pub talk : (p : PlugAt) → talks m p ≡ talks l p

-- whether a request goes out or not
pub asks_leaves : (s : State) (d : ℕ) → IsGood s → IsTrue (is_living s d) → IsHeard (s.controllers d).current
    → SameShown s.account (entered_by s.account (asks s d).says)
asks_leaves s d g lives heard = go (turns s d x.number x.entry g x.is x.shows x.linked heard)
  where
    x : IsLinked s d
    x = linked_of s d g (living_linked s d lives)

    go : Turns s d → SameShown s.account (entered_by s.account (asks s d).says)
    go (sends q out is) =
        subst (SameShown s.account) (sym is)
        (record { bus = record { latest = refl; reclaiming = refl; withheld = refl }; words = λ r. asked_words d q s.account r; linger = λ p. refl; talk = λ p. refl })
    go (rests out is) = subst (SameShown s.account) (sym is)
        (record { bus = record { latest = refl; reclaiming = refl; withheld = refl }; words = λ r. refl; linger = λ p. refl; talk = λ p. refl })

-- the machine stands for the state after it
asks_stands : (m : Machine) (s : State) (k : ControllerTable) (w : Pairs) (d : ℕ) → IsGood s → StandsFor m s → IsTrue (is_living s d)
    → IsFalse (is_deaf s d) → IsHeard (s.controllers d).current
    → IsTable k (count_of m.controllers)
    (update (states_of m.controllers) d (after_turn m.cycle m.directory (states_of m.controllers d))) (dead_of m.controllers)
    → HasWire w (after_half s d) → StandsFor (record m { controllers = k; wire = w }) (after_half s d)
asks_stands m s k w d g st lives quiet heard table wire =
    let l : Account = entered_by s.account (asks s d).says in
    let f : ℕ → ControllerState = update s.controllers d (after_next s.clock.cycle (directory_of s) (s.controllers d)) in
    let asked_at : ℕ → ℕ = update s.asked_at d (asks s d).asked_at in
    let same = asks_leaves s d g lives heard in
    let becomes : after_turn m.cycle m.directory (states_of m.controllers d) ≡ after_turn s.clock.cycle (directory_of s) (controller_at s d) =
    λ i. after_turn (st.clock.cycle i) (st.directory i) (st.table.states_are i d) in
    let all = subst (λ h. controllers_of (taken s d h) ≡ update (controllers_of s) d (after_turn s.clock.cycle (directory_of s) (controller_at s d))) (asks_is s d heard) (all_turn s d quiet heard) in
    let kept = devices_kept s l (dub_between s.account l s.dub).lingers same.bus.latest same.words same.bus.withheld same.linger (λ p. stays_where _ _ _ (same.words (InputPlug p))) in
    let devices : HasDevices m.devices (devices_at (state_with s l f asked_at)) = subst (λ r. HasDevices m.devices r) (sym kept) st.devices in
    subst (λ h. StandsFor (record m { controllers = k; wire = w }) (taken s d h)) (sym (asks_is s d heard))
    (stands_with m s m.devices k l f asked_at w m.streams st same.bus devices
    (table_with m s (taken s d (asks s d)) k d _ _ st becomes all table)
    (subst (λ h. HasWire w (taken s d h)) (asks_is s d heard) wire)
    (streams_stay m.streams s (state_with s l f asked_at) g refl (λ k. same.talk (at_plug k 0)) st.streams))

-- the controller says what it says in the run
pub takes_asks : (m : Machine) (k : ControllerTable) (w : Pairs) (d : ℕ) (e : Option Entry) → IsTrue (is_living_in m d)
    → Listens (states_of m.controllers d)
    → IsTable k (count_of m.controllers)
    (update (states_of m.controllers) d (after_turn m.cycle m.directory (states_of m.controllers d))) (dead_of m.controllers)
    → ((s : State) → IsGood s → StandsFor m s → e ≡ said s d (turn_of m.cycle m.directory (states_of m.controllers d)))
    → ((s : State) → IsGood s → StandsFor m s → HasWire w (after_half s d))
    → TakesHalf half m (record m { controllers = k; wire = w }) d e
takes_asks m k w d e lives heard table says wires = λ s g st.
    let own : IsHeard (s.controllers d).current = heard_here m s d st heard in
    let living = sym (living_same m s d g st) ∙ lives in
    (says s g st ∙ (ap (said s d) (next_same m s d st heard.0) ∙ sym (ap (λ h. h.says) (asks_is s d own))), asks_stands m s k w d g st living (quiet_here m s d st heard.0) own table (wires s g st))

-- the packet of a request that goes out
pub request_says : (m : Machine) (s : State) (d to own : ℕ) (q : Request) (p : Packet) (x : Next) → IsGood s → StandsFor m s → IsTrue (is_living_in m d)
    → x ≡ Send to q → (node_at m.devices.nodes d).number ≡ Some own → p ≡ packet_of (request_head own to Procedure) q
    → Some (Async p) ≡ said s d x
request_says m s d to own q p x g st lives is number packet =
    let living = sym (living_same m s d g st) ∙ lives in
    let on = node_number_is m.devices.nodes s d st.devices.nodes g (linked_on s d (living_linked s d living)) in
    let place : own ≡ node_of s.account.latest d = same_Some own (node_of s.account.latest d) (sym number ∙ on.0) in
    ap (λ y. Some (Async y)) (packet ∙ ap (λ n. packet_of (request_head n to Procedure) q) place) ∙ sym (ap (said s d) is)

-- the controller has nothing to do, or waits, or cannot hear
abbrev pub IsSilent : Next → Type 0
IsSilent x = (x ≡ Idle) ⊎ (((until : ℕ) × (x ≡ Waiting until)) ⊎ (((until : ℕ) × (x ≡ Deaf until)) ⊎ (x ≡ Force)))

pub rests_says : (s : State) (d : ℕ) (x : Next) → IsSilent x → None ≡ said s d x
rests_says s d x (inl is) = sym (ap (said s d) is)
rests_says s d x (inr (inl w)) = sym (ap (said s d) w.1)
rests_says s d x (inr (inr (inl w))) = sym (ap (said s d) w.1)
rests_says s d x (inr (inr (inr is))) = sym (ap (said s d) is)

-- ---- what a half step leaves

-- what is written fits the log
pub entry_fits : (m now : Machine) (d : ℕ) (e : Option Entry) → IsReady m → IsTrue (is_living_in m d) → TakesHalf half m now d e → EntryFits e
entry_fits m now d e ready lives takes =
    let s = ready.state in
    let living = sym (living_same m s d ready.good ready.stands) ∙ lives in
    subst EntryFits (sym (takes s ready.good ready.stands).0) (half_fits s d ready.good ready.numbers living)

-- ---- node numbers

-- controllers are told of node numbers below 63
pub node_numbers : (m : Machine) (s : State) (d : ℕ) → IsGood s → StandsFor m s → IsTrue (is_living_in m d) → HasNodeNumbers m.directory
node_numbers m s d g st lives =
    subst HasNodeNumbers (sym st.directory)
    (record { devices = λ k. device k (Told.node_of (directory_of s) k) refl; manager = manager (manager_in s.account.latest) refl })
  where
    living : IsTrue (is_living s d)
    living = sym (living_same m s d g st) ∙ lives

    x : IsLinked s d
    x = linked_of s d g (living_linked s d living)

    dir : IsDirectory s.account s.clock.cycle (directory_of s)
    dir = told s x.entry x.is x.shows.1 g.time.second

    device : (k : ℕ) (o : Option ℕ) → Told.node_of (directory_of s) k ≡ o → IfSome o (λ n. n < 63)
    device k None e = tt
    device k (Some n) e =
        let w = node_of_target s x.entry (target.OutputPlug (at_plug k 0)) n x.is x.shows (dir.devices k n e) in
        let low = number_low s w.device n g w.number in
        omega (arith, low)

    manager : (o : Option ℕ) → manager_in s.account.latest ≡ o → IfSome o (λ n. n < 63)
    manager None e = tt
    manager (Some n) e =
        let w = node_of_target s x.entry target.BandwidthAvailable n x.is x.shows (dir.manager n e) in
        let low = number_low s w.device n g w.number in
        omega (arith, low)
