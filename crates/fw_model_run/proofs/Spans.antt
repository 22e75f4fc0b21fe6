-- Each entry that actions write may be written, in cycles that never fall.
use Rattle.fw_model_run.proofs.Common.{◌≡◌, ℕ, ◌+◌, ◌^◌, ◌<◌, ◌≤◌, ◌++◌, List, [], ◌∷◌, Option, Some, None, refl, ap, sym, subst, ◌∙◌, arith, IsTrue, ⊤, Packet, Request, Entry, Reset, Timed, node_of}
use Rattle.fw_model_run.proofs.Common.{first_address, request_at, packet_of, Transaction, at_most, State, Declared, epoch_of, is_linked, access_request, target_node, transaction_head, answer_packet}
use Rattle.fw_model_run.proofs.Common.{reply_from, Action, Transition, Transitions, Resets, IsGood, AreDeclared, HasNumbers}
use Rattle.fw_async.specs.Async as Async
use Rattle.fw_words.specs.declared.swap.Swap.{Swap as Swapping}
use Rattle.fw_log_entry.specs.declared.entry.Entry.TheVariants.{Async as AsyncEntry}
use Rattle.fw_log_entry.specs.Log.{Fits, TimedFits}
use Rattle.fw_devices.proofs.EntryLaws.{entry_fits}
use Rattle.fw_order.specs.declared.order.Access.{Access}
use Rattle.fw_order.specs.declared.order.Access.TheVariants.{Read, Swap}
use Rattle.fw_model_run.specs.Spaces.{script_head}
use Rattle.fw_model_run.specs.Actions.{AccessFits}
use Rattle.fw_model_run.proofs.Along.{step_led}
use Rattle.fw_model_run.proofs.Alterations.{Allows, Alteration, Answered, Asked, AtUnits, Beside, Bid, Died, Halved, Over, Started, Tied, Waits, Withheld, altered, told_by}
use Rattle.fw_model_run.proofs.Bidding.{bid_fits}
use Rattle.fw_model_run.proofs.Bounds.{node_few, node_fits}
use Rattle.fw_model_run.proofs.Effects.{Effect, altering, effect, resetting}
use Rattle.fw_model_run.proofs.Resets.{numbered, declaring}
use Rattle.fw_model_run.proofs.Events.{living_small}
use Rattle.fw_model_run.proofs.Fitting.{EntryFits, request_fits, response_fits, half_fits}
use Rattle.fw_model_run.proofs.Kept.{step_numbers}
use Rattle.fw_model_run.proofs.Led.{Led}
use Rattle.fw_model_run.proofs.Steps.{step_good}
use Rattle.fw_model_run.proofs.Transactions.{linked_number_of}
use Rattle.fw_model_run.proofs.Writable.{declared_few, linked_few}

-- ---- entries that may be written

abbrev pub AllFit : List Timed → Type 0
AllFit [] = ⊤
AllFit (e ∷ es) = Fits e.what × AllFit es

most_fit : (c : ℕ) (o : Option Entry) (out : List Timed) → out ≡ at_most c o → EntryFits o → AllFit out
most_fit c None out is f = subst AllFit (sym is) tt
most_fit c (Some e) out is f = subst AllFit (sym is) (f, tt)

-- ---- bus resets

reset_fits : (s : State) (n : Declared) (initiator : ℕ) (out : List Timed) (t : State) → AreDeclared n → Resets (declaring s n) initiator out t → AllFit out
reset_fits s n initiator out t d r =
    let few = r.few in
    let low : epoch_of s.account.latest + 1 < 2 ^ 32 = omega (arith, few) in
    most_fit s.clock.cycle (Some (Reset r.entry)) out r.out_is (entry_fits n.topology n.kinds (epoch_of s.account.latest + 1) initiator r.entry d.made d.kinds low r.is_entry)

-- ---- transactions of the script

script_fits : (to from : ℕ) → to ≤ 63 → from ≤ 63 → Async.HeadFits (script_head to from)
script_fits to from few some = (omega (arith, few), omega arith, omega arith, omega arith, omega (arith, some))

-- an access is a read or a compare_swap of a quadlet
abbrev swap_in : Access → Option Swapping
swap_in (Read offset) = None
swap_in (Swap offset swap) = Some swap

abbrev place_of : Access → ℕ
place_of (Read offset) = first_address + offset
place_of (Swap offset swap) = first_address + offset

request_is : (a : Access) → access_request a ≡ request_at (place_of a) (swap_in a)
request_is (Read offset) = refl
request_is (Swap offset swap) = refl

place_low : (a : Access) → AccessFits a → place_of a < 2 ^ 48
place_low (Read offset) f = omega (arith, f)
place_low (Swap offset swap) f = let low = f.0 in omega (arith, low)

ask_fits : (s : State) (x : Transaction) → IsGood s → AccessFits x.access → Fits (AsyncEntry (packet_of (transaction_head s x) (access_request x.access)))
ask_fits s x g f =
    subst (λ (q : Request). Async.Fits (packet_of (transaction_head s x) q)) (sym (request_is x.access))
    (request_fits (transaction_head s x) (place_of x.access) (swap_in x.access) (script_fits (target_node s x) (node_of s.account.latest x.from) (node_few s x.to g) (node_few s x.from g))
    (place_low x.access f))

-- the packet that answers a request of a transaction
abbrev IsReplied : State → Transaction → Request → Packet → Type 0
IsReplied s x q p = answer_packet s (target_node s x) (transaction_head s x) q ≡ Some p

answer_fits : (s : State) (x : Transaction) (p : Packet) → IsGood s → HasNumbers s → IsTrue (is_linked s x.to) → IsReplied s x (access_request x.access) p → Async.Fits p
answer_fits s x p g b on is =
    let at = linked_number_of s x.to g on in
    response_fits (target_node s x) (transaction_head s x) (place_of x.access) (swap_in x.access) (reply_from s (target_node s x) (request_at (place_of x.access) (swap_in x.access))) p
    (subst (λ q. IsReplied s x q p) (request_is x.access) is) (node_few s x.to g) (script_fits (target_node s x) (node_of s.account.latest x.from) (node_few s x.to g) (node_few s x.from g))
    (node_fits s x.to (target_node s x) (place_of x.access) (swap_in x.access) g b.bus_manager_id at)

-- ---- each action

effect_fits : (s : State) (a : Action) (out : List Timed) (t : State) → IsGood s → HasNumbers s → Effect s a out t → AllFit out
effect_fits s a out t g b (resetting resets half_steps n initiator free begins may r) = reset_fits (numbered s resets half_steps) n initiator out t (may g).declared r
effect_fits s a out t g b (altering y waits said is ok) = most_fit (altered s y).clock.cycle (told_by s y) out said (by y waits ok)
  where
    by : (y : Alteration) → Waits s y → Allows s a y → EntryFits (told_by s y)
    by (Halved d lost resets half_steps) waits ok = half_fits s d g b ok.2
    by Over waits ok = record { device = omega arith; tape = omega arith; shape = refl }
    by (Died d) waits ok = record { device = let few = living_small s d g ok.2 in omega (arith, few); tape = omega arith; shape = refl }
    by (Started d) waits ok = record { device = let few = linked_few s d g ok.2 in omega (arith, few); tape = omega arith; shape = refl }
    by Withheld waits ok = record { device = omega arith; tape = omega arith; shape = refl }
    by (Asked x) waits ok = ask_fits s x g ok.3
    by (Answered x p) waits ok = answer_fits s x p g b (b.asks x waits) ok.1
    by (Bid d manager c) waits ok = bid_fits s d manager c g b ok.1 ok.3
    by (Tied d) waits ok = record { device = declared_few s d g ok.1; tape = omega arith; shape = refl }
    by (Beside says half_steps written frame) waits ok = ok.4 g b
    by (AtUnits says decks frame) waits ok = ok.5 g b
    by _ waits ok = tt

pub step_fits : (s : State) (a : Action) (out : List Timed) (t : State) → IsGood s → HasNumbers s → Transition s a out t → AllFit out
step_fits s a out t g b x = effect_fits s a out t g b (effect s a out t x)

-- ---- actions

-- entries from one cycle to another
abbrev pub Spans : ℕ → List Timed → ℕ → Type 0
Spans c [] d = c ≤ d
Spans c (e ∷ es) d = (c ≤ e.cycle) × TimedFits e × Spans e.cycle es d

earlier : (b c d : ℕ) (out : List Timed) → b ≤ c → Spans c out d → Spans b out d
earlier b c d [] less f = omega (arith, less, f)
earlier b c d (e ∷ es) less f = let first = f.0 in (omega (arith, less, first), f.1, f.2)

pub steps_span : (s t : State) (xs : List Action) (out : List Timed) → IsGood s → HasNumbers s → Transitions s xs out t → Spans s.clock.cycle out t.clock.cycle
steps_span s t [] out g b f = subst (λ z. Spans s.clock.cycle z t.clock.cycle) (sym f.0) (let same = ap (λ (x : State). x.clock.cycle) f.1 in omega (arith, same))
steps_span s t (x ∷ xs) out g b f = subst (λ z. Spans s.clock.cycle z t.clock.cycle) (sym (f.4 ∙ ap (λ z. z ++ f.1) led.is))
    (go (steps_span f.2 t xs f.1 good (step_numbers s x f.0 f.2 g b f.3) f.5) led.entry (subst AllFit led.is (step_fits s x f.0 f.2 g b f.3)))
  where
    led : Led s f.0 f.2
    led = step_led s f.2 x f.0 g f.3

    good : IsGood f.2
    good = step_good s x f.0 f.2 g f.3

    go : Spans f.2.clock.cycle f.1 t.clock.cycle → (o : Option Entry) → AllFit (at_most f.2.clock.cycle o) → Spans s.clock.cycle (at_most f.2.clock.cycle o ++ f.1) t.clock.cycle
    go later None fits = earlier s.clock.cycle f.2.clock.cycle t.clock.cycle f.1 led.later later
    go later (Some e) fits = let few = good.time.cycle in (led.later, record { cycle = omega (arith, few); entry = fits.0 }, later)

pub spans_entry : (c d : ℕ) (prefix rest : List Timed) (t : Timed) → Spans c (prefix ++ t ∷ rest) d → TimedFits t
spans_entry c d [] rest t f = f.1
spans_entry c d (e ∷ prefix) rest t f = spans_entry e.cycle d prefix rest t f.2

pub spans_pair : (c d : ℕ) (prefix rest : List Timed) (t u : Timed) → Spans c (prefix ++ t ∷ u ∷ rest) d → t.cycle ≤ u.cycle
spans_pair c d [] rest t u f = f.2.0
spans_pair c d (e ∷ prefix) rest t u f = spans_pair e.cycle d prefix rest t u f.2
