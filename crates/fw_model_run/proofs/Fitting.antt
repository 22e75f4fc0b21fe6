-- What half steps and transactions of the script write is in the grammar of the log.
use Rattle.fw_model_run.proofs.Common.{◌≡◌, ℕ, zero, suc, ◌^◌, ◌<◌, ◌≤◌, ◌==◌, List, [], ◌∷◌, ◌++◌, Bool, true}
use Rattle.fw_model_run.proofs.Common.{false, Option, Some, None, length, cond, option_map, refl, ap, sym, subst, arith, IsTrue, ⊤}
use Rattle.fw_model_run.proofs.Common.{to_be_bytes, w32, same_Some, Head, Packet, ReadQuadletReply, LockReply, Reply, Swap}
use Rattle.fw_model_run.proofs.Common.{Entry, node_of, Current, Nothing, Asking, Hearing, Overtaken, Directory, Job}
use Rattle.fw_model_run.proofs.Common.{Next, Idle, Waiting, Access, Target, Stage, ControllerState, offset_of}
use Rattle.fw_model_run.proofs.Common.{access_of, addressee_of, request_at, next, packet_of, response_head, old_bytes, procedure_head}
use Rattle.fw_model_run.proofs.Common.{State, directory_of, is_living, said, asks, half, half_of, IsGood, HasNumbers}
use Rattle.std.specs.Int.{byte_at}
use Rattle.fw_async.specs.Async.{HeadFits}
use Rattle.fw_async_fields.specs.Data.{AreBytes, is_reply_size}
use Rattle.fw_async.specs.Async as Async
use Rattle.fw_log_entry.specs.Log.{Fits}
use Rattle.fw_cmp_jobs.specs.declared.connection.Connection.{Connection}
use Rattle.fw_cmp_jobs.specs.declared.connection.Connection.TheVariants.{PlugToPlug, BroadcastOut, BroadcastIn}
use Rattle.fw_cmp_jobs.specs.declared.job.Ending.{Ending}
use Rattle.fw_cmp_jobs.specs.declared.job.Ending.TheVariants as ending
use Rattle.fw_cmp.specs.declared.outcome.Next.TheVariants.{End}
use Rattle.fw_cmp_jobs.specs.declared.outcome.Outcome.{Outcome}
use Rattle.fw_cmp_jobs.specs.declared.outcome.Outcome.TheVariants.{Connected, Broken, Restored, NoChannel, NoUnits, PlugFull, InputBusy, NoPlug, NoManager, Absent, Reset, Late}
use Rattle.fw_cmp_jobs.specs.declared.request.Target.TheVariants.{OutputPlug, InputPlug, Channels, BandwidthAvailable}
use Rattle.fw_cmp_jobs.specs.declared.stage.Stage.TheVariants.{Begin, ReadOutput, ReadChannels, SwapChannels, ReadBandwidth, SwapBandwidth, ConnectOutput}
use Rattle.fw_cmp_jobs.specs.declared.stage.Stage.TheVariants.{OverlayOutput, ReadInput, ConnectInput, ReadInputToLeave, LeaveInput, ReadOutputToLeave, LeaveOutput}
use Rattle.fw_cmp_jobs.specs.declared.stage.Stage.TheVariants.{ReadBandwidthToRelease, RaiseBandwidth, ReadChannelsToRelease, RestoreChannel, Made, Ended}
use Rattle.fw_cmp_jobs.specs.Connections.{output_of, input_of}
use Rattle.fw_cmp_jobs.specs.Decisions.{restores}
use Rattle.fw_cmp_jobs.specs.Fits.{ConnectionFits}
use Rattle.fw_cmp_jobs.specs.Requests.{target_of, swap_of, access_at}
use Rattle.fw_cmp.specs.Turns.{sending, asks_or_ends, rests}
use Rattle.fw_cmp_jobs.specs.Jobs.{outcome_for, outcome_of}
use Rattle.fw_cmp.specs.Jobs.{is_empty, ready}
use Rattle.fw_node.specs.Packets.{response_to}
use Rattle.fw_model_controllers.specs.Requests.{PlugNumberFits}
use Rattle.fw_model_controllers.proofs.Addressees.{node_is}
use Rattle.fw_model_run.specs.Entries.{coded, outcome_entry}
use Rattle.fw_model_run.specs.HalfSteps.{HalfStep}
use Rattle.fw_model_run.specs.Numbers.{EndingShows, StageShows}
use Rattle.fw_model_run.proofs.Bounds.{ReplyFits, node_few, number_few, node_fits}
use Rattle.fw_model_run.proofs.Buses.{linked_small}
use Rattle.fw_model_run.proofs.Directories.{told}
use Rattle.fw_model_run.proofs.ReadyEndings.{ReadyFits, ready_fits, made_shows}
use Rattle.fw_model_run.proofs.Hears.{Heard, heard_of, half_hears, reply_heard}
use Rattle.fw_model_run.proofs.Leads.{IsLinked, linked_of}
use Rattle.fw_model_run.proofs.Responses.{node_of_target, heard_node}
use Rattle.fw_model_run.proofs.Turns.{living_linked}

-- ---- bytes of quadlets

byte_more : (b : ℕ) (bytes : List ℕ) → b < 256 → AreBytes bytes → AreBytes (b ∷ bytes)
byte_more b bytes low f zero = low
byte_more b bytes low f (suc i) = f i

no_bytes : AreBytes []
no_bytes i = omega arith

quadlet_bytes : (a : ℕ) (bytes : List ℕ) → AreBytes bytes → AreBytes (to_be_bytes w32 a ++ bytes)
quadlet_bytes a bytes f =
    byte_more (byte_at 3 a) (byte_at 2 a ∷ byte_at 1 a ∷ byte_at 0 a ∷ bytes) (omega arith) (byte_more (byte_at 2 a) (byte_at 1 a ∷ byte_at 0 a ∷ bytes) (omega arith)
    (byte_more (byte_at 1 a) (byte_at 0 a ∷ bytes) (omega arith) (byte_more (byte_at 0 a) bytes (omega arith) f)))

two_quadlets : (a b : ℕ) → AreBytes (to_be_bytes w32 a ++ to_be_bytes w32 b)
two_quadlets a b = quadlet_bytes a (to_be_bytes w32 b) (quadlet_bytes b [] no_bytes)

-- ---- packets

pub procedure_fits : (to source : ℕ) → to ≤ 63 → source ≤ 63 → HeadFits (procedure_head to source)
procedure_fits to source few some = (omega (arith, few), omega arith, omega arith, omega arith, omega (arith, some))

pub request_fits : (h : Head) (offset : ℕ) (w : Option Swap) → HeadFits h → offset < 2 ^ 48 → Async.Fits (packet_of h (request_at offset w))
request_fits h offset None f low = (f, low)
request_fits h offset (Some swap) f low = (f, low, omega arith, omega arith, refl, two_quadlets swap.argument swap.new)

response_head_fits : (n : ℕ) (h : Head) → n ≤ 63 → HeadFits h → HeadFits (response_head n h)
response_head_fits n h few f = (f.4, f.1, omega arith, omega arith, omega (arith, few))

lock_fits : (n : ℕ) (h : Head) (r : Reply) → n ≤ 63 → HeadFits h → ReplyFits r → Async.Fits (LockReply (response_head n h) r.rcode 2 (old_bytes r))
lock_fits n h r few f fits = (response_head_fits n h few f, fits.rcode, omega arith, omega arith, size (r.rcode == 0), bytes (r.rcode == 0))
  where
    size : (b : Bool) → IsTrue (is_reply_size (length (cond b (to_be_bytes w32 r.value) [])))
    size true = refl
    size false = refl

    bytes : (b : Bool) → AreBytes (cond b (to_be_bytes w32 r.value) [])
    bytes true = quadlet_bytes r.value [] no_bytes
    bytes false = no_bytes

pub response_fits : (n : ℕ) (h : Head) (offset : ℕ) (w : Option Swap) (r : Reply) (p : Packet) → response_to n (packet_of h (request_at offset w)) r ≡ Some p → n ≤ 63 → HeadFits h → ReplyFits r
    → Async.Fits p
response_fits n h offset None r p is few f fits = subst Async.Fits (same_Some (ReadQuadletReply (response_head n h) r.rcode r.value) p is) (response_head_fits n h few f, fits.rcode, fits.value)
response_fits n h offset (Some swap) r p is few f fits = subst Async.Fits (same_Some (LockReply (response_head n h) r.rcode 2 (old_bytes r)) p is) (lock_fits n h r few f fits)

-- ---- registers

offset_below : (t : Target) → PlugNumberFits t → offset_of t < 2 ^ 48
offset_below (OutputPlug p) f = omega (arith, f)
offset_below (InputPlug p) f = omega (arith, f)
offset_below BandwidthAvailable f = omega arith
offset_below (Channels base) f = go (base == 0)
  where
    go : (b : Bool) → cond b 0xFFFF_F000_0224 0xFFFF_F000_0228 < 2 ^ 48
    go true = omega arith
    go false = omega arith

plain : (u t : Target) → Some u ≡ Some t → PlugNumberFits u → PlugNumberFits t
plain u t e f = subst PlugNumberFits (same_Some u t e) f

output_small : (conn : Connection) (t : Target) → ConnectionFits conn → option_map OutputPlug (output_of conn) ≡ Some t → PlugNumberFits t
output_small (PlugToPlug out into) t f e = plain (OutputPlug out) t e f.0.1
output_small (BroadcastOut out) t f e = plain (OutputPlug out) t e f.1
output_small (BroadcastIn into) t f e = absurd (grind (arith, e))

input_small : (conn : Connection) (t : Target) → ConnectionFits conn → option_map InputPlug (input_of conn) ≡ Some t → PlugNumberFits t
input_small (PlugToPlug out into) t f e = plain (InputPlug into) t e f.1.1
input_small (BroadcastOut out) t f e = absurd (grind (arith, e))
input_small (BroadcastIn into) t f e = plain (InputPlug into) t e f.1

target_small : (j : Job) (s : Stage) (t : Target) → ConnectionFits j.connection → target_of j s ≡ Some t → PlugNumberFits t
target_small j Begin t f e = absurd (grind (arith, e))
target_small j ReadOutput t f e = output_small j.connection t f e
target_small j (ReadChannels base w) t f e = plain (Channels base) t e tt
target_small j (SwapChannels ch arg w) t f e = plain (Channels _) t e tt
target_small j (ReadBandwidth ch w) t f e = plain BandwidthAvailable t e tt
target_small j (SwapBandwidth ch u arg w) t f e = plain BandwidthAvailable t e tt
target_small j (ConnectOutput ch u arg) t f e = output_small j.connection t f e
target_small j (OverlayOutput arg) t f e = output_small j.connection t f e
target_small j (ReadInput g) t f e = input_small j.connection t f e
target_small j (ConnectInput g arg) t f e = input_small j.connection t f e
target_small j (ReadInputToLeave ch u) t f e = input_small j.connection t f e
target_small j (LeaveInput ch u arg) t f e = input_small j.connection t f e
target_small j (ReadOutputToLeave x ch u) t f e = output_small j.connection t f e
target_small j (LeaveOutput x ch u arg) t f e = output_small j.connection t f e
target_small j (ReadBandwidthToRelease next ch u) t f e = plain BandwidthAvailable t e tt
target_small j (RaiseBandwidth next ch u arg) t f e = plain BandwidthAvailable t e tt
target_small j (ReadChannelsToRelease next ch) t f e = plain (Channels _) t e tt
target_small j (RestoreChannel next ch arg) t f e = plain (Channels _) t e tt
target_small j (Made g) t f e = absurd (grind (arith, e))
target_small j (Ended x) t f e = absurd (grind (arith, e))

-- the register of an access is that of its stage
access_target : (o : Option Target) (w : Option Swap) (a : Access) → option_map (access_at w) o ≡ Some a → o ≡ Some a.target
access_target None w a e = absurd (grind (arith, e))
access_target (Some t) w a e = ap (λ (x : Access). Some x.target) (same_Some (access_at w t) a e)

-- ---- outcomes

outcome_fits : (d slot : ℕ) (o : Outcome) → d < 63 → slot < 32 → (coded o).1 < 2 ^ 32 → Fits (outcome_entry d slot o)
outcome_fits d slot (Connected channel) few some low = record { device = omega (arith, few); slot = omega (arith, some); value = low; shape = refl }
outcome_fits d slot Broken few some low = record { device = omega (arith, few); slot = omega (arith, some); value = low; shape = refl }
outcome_fits d slot (Restored channel) few some low = record { device = omega (arith, few); slot = omega (arith, some); value = low; shape = refl }
outcome_fits d slot (NoChannel word) few some low = record { device = omega (arith, few); slot = omega (arith, some); value = low; shape = refl }
outcome_fits d slot (NoUnits remainder) few some low = record { device = omega (arith, few); slot = omega (arith, some); value = low; shape = refl }
outcome_fits d slot (PlugFull word) few some low = record { device = omega (arith, few); slot = omega (arith, some); value = low; shape = refl }
outcome_fits d slot (InputBusy word) few some low = record { device = omega (arith, few); slot = omega (arith, some); value = low; shape = refl }
outcome_fits d slot (NoPlug rcode) few some low = record { device = omega (arith, few); slot = omega (arith, some); value = low; shape = refl }
outcome_fits d slot NoManager few some low = record { device = omega (arith, few); slot = omega (arith, some); value = low; shape = refl }
outcome_fits d slot (Absent device) few some low = record { device = omega (arith, few); slot = omega (arith, some); value = low; shape = refl }
outcome_fits d slot (Reset epoch) few some low = record { device = omega (arith, few); slot = omega (arith, some); value = low; shape = refl }
outcome_fits d slot (Late cycle) few some low = record { device = omega (arith, few); slot = omega (arith, some); value = low; shape = refl }

ending_low : (now : ℕ) (e : Ending) → EndingShows e → (coded (outcome_for now e)).1 < 2 ^ 32
ending_low now ending.Broken f = omega arith
ending_low now (ending.NoChannel w) f = f
ending_low now (ending.NoUnits left) f = f
ending_low now (ending.PlugFull w) f = f
ending_low now (ending.InputBusy w) f = f
ending_low now (ending.NoPlug rcode) f = f
ending_low now ending.NoManager f = omega arith
ending_low now (ending.Absent device) f = f
ending_low now ending.Late f = omega arith

outcome_low : (now : ℕ) (j : Job) (s : Stage) → StageShows s → (coded (outcome_of now j s)).1 < 2 ^ 32
outcome_low now j (Made f) h = made_shows f.channel (restores j) h
outcome_low now j (Ended e) h = ending_low now e h
outcome_low now j _ h = omega arith

-- ---- half steps

abbrev pub EntryFits : Option Entry → Type 0
EntryFits None = ⊤
EntryFits (Some e) = Fits e

asks_fits : (s : State) (d : ℕ) → IsGood s → HasNumbers s → IsLinked s d → EntryFits (asks s d).says
asks_fits s d g b x = go (ready now dir c).current (ready_fits now dir c (g.reclaims.step.fits d) (b.shows d))
  where
    now : ℕ
    now = s.clock.cycle

    dir : Directory
    dir = directory_of s

    c : ControllerState
    c = s.controllers d

    few : d < 63
    few = linked_small s x.entry d x.number x.shows.1 x.linked

    own : node_of s.account.latest d ≤ 63
    own = node_few s d g

    to_few : (t : Target) (to : ℕ) → addressee_of dir t ≡ Some to → to ≤ 63
    to_few t to e = let w = node_of_target s x.entry t to x.is x.shows (node_is s.account now dir t to (told s x.entry x.is x.shows.1 g.time.second) e) in number_few s w.device to g w.number

    sends : (a : Access) → PlugNumberFits a.target → (o : Option ℕ) → addressee_of dir a.target ≡ o → EntryFits (said s d (sending o a))
    sends a f None e = request_fits (procedure_head 63 (node_of s.account.latest d)) (offset_of a.target) a.swap (procedure_fits 63 (node_of s.account.latest d) (omega arith) own)
        (offset_below a.target f)
    sends a f (Some to) e = request_fits (procedure_head to (node_of s.account.latest d)) (offset_of a.target) a.swap (procedure_fits to (node_of s.account.latest d) (to_few a.target to e) own)
        (offset_below a.target f)

    stage : (j : Job) (st : Stage) → ReadyFits (Asking j st) → (o : Option Access) → access_of j st ≡ o → EntryFits (said s d (asks_or_ends now dir j st o))
    stage j st h None e = outcome_fits d j.slot (outcome_of now j st) few h.0.slot (outcome_low now j st h.1)
    stage j st h (Some a) e = sends a (target_small j st a.target h.0.connection (access_target (target_of j st) (swap_of j st) a e)) (addressee_of dir a.target) refl

    rest : (b : Bool) → EntryFits (said s d (cond b Idle (Waiting dir.over_at)))
    rest true = tt
    rest false = tt

    go : (cur : Current) → ReadyFits cur → EntryFits (said s d (elim cur as
        (λ _. Next) [ Nothing ↦ rests dir (ready now dir c).waiting | Asking j st ↦ asks_or_ends now dir j st (access_of j st) | Hearing j st ↦ Idle | Overtaken i o ↦ End i o ]))
    go Nothing h = rest (is_empty (ready now dir c).waiting)
    go (Asking j st) h = stage j st h (access_of j st) refl
    go (Hearing j st) h = tt
    go (Overtaken i o) h = outcome_fits d i o few h.0 h.1

-- the reply that a controller hears
pub heard_fits : (s : State) (d : ℕ) (j : Job) (stage : Stage) → IsGood s → HasNumbers s → (x : Heard s d j stage) → ReplyFits (reply_heard s d j stage x)
heard_fits s d j stage g b x = let w = heard_node s d j stage g x in node_fits s w.device x.to (offset_of x.target) (swap_of j stage) g b.bus_manager_id w.number

pub half_fits : (s : State) (d : ℕ) → IsGood s → HasNumbers s → IsTrue (is_living s d) → EntryFits (half s d).says
half_fits s d g b lives = go (s.controllers d).current refl
  where
    Ok : Current → Type 0
    Ok c = EntryFits (half_of s d c).says

    rests_ : (c : Current) → (s.controllers d).current ≡ c → half_of s d c ≡ asks s d → Ok (s.controllers d).current
    rests_ c e is = subst Ok (sym e) (subst (λ (h : HalfStep). EntryFits h.says) (sym is) (asks_fits s d g b (linked_of s d g (living_linked s d lives))))

    go : (c : Current) → (s.controllers d).current ≡ c → Ok (s.controllers d).current
    go Nothing e = rests_ Nothing e refl
    go (Asking j stage) e = rests_ (Asking j stage) e refl
    go (Overtaken i o) e = rests_ (Overtaken i o) e refl
    go (Hearing j stage) e =
        let x = heard_of s d j stage g lives e in
        let h = half_hears s d j stage g e x in
        let w = heard_node s d j stage g x in
        let to = number_few s w.device x.to g w.number in
        subst (λ (y : HalfStep). EntryFits y.says) (sym h.half_is)
        (response_fits x.to (procedure_head x.to (node_of s.account.latest d)) (offset_of x.target) (swap_of j stage) (reply_heard s d j stage x) h.response.packet h.response.sent to
        (procedure_fits x.to (node_of s.account.latest d) to (node_few s d g)) (heard_fits s d j stage g b x))
