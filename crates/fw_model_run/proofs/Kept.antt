-- The numbers that a state keeps stay in their fields.
use Rattle.fw_model_run.proofs.Common.{◌≡◌, ℕ, ◌+◌, ◌^◌, ◌<◌, ◌==◌, List, Bool, true, false, cond, Some, None, refl, sym, subst, ◌∙◌, arith, IsTrue, Ok, update, quadlet_at, swap_bytes, Timed}
use Rattle.fw_model_run.proofs.Common.{first_address, Slot, Current, Nothing, Asking, Hearing, Overtaken, ControllerState, new_controller, break_started, Transaction, State, Declared, first_state}
use Rattle.fw_model_run.proofs.Common.{directory_of, is_linked, is_living, is_deaf, access_request, target_node, is_manager, bus_manager_id_after}
use Rattle.fw_model_run.proofs.Common.{asks, half, half_of, after_half, Action, Transition, Resets}
use Rattle.fw_model_run.proofs.Common.{after_reset_entry, slot_of, start_of, IsGood, HasNumbers}
use Rattle.std.specs.Prelude.{Err}
use Rattle.std.specs.declared.result.Result.{Result}
use Rattle.fw_csr.specs.Manager.{after_at}
use Rattle.fw_cmp.specs.declared.outcome.StartFault.{StartFault}
use Rattle.fw_cmp.specs.Starts.{started as given}
use Rattle.fw_order.specs.declared.order.Access.{Access}
use Rattle.fw_order.specs.declared.order.Access.TheVariants.{Read, Swap}
use Rattle.fw_model_run.specs.HalfSteps.{HalfStep as Half}
use Rattle.fw_model_run.specs.Numbers.{CurrentShows}
use Rattle.fw_model_run.proofs.ReadyEndings.{next_shows, reset_shows}
use Rattle.fw_model_run.proofs.Endings.{hears_shows}
use Rattle.fw_model_run.proofs.Events.{break_current}
use Rattle.fw_model_run.proofs.Fitting.{heard_fits}
use Rattle.fw_model_run.proofs.Hears.{heard_of, half_hears, reply_heard}
use Rattle.fw_model_run.proofs.Resets.{declaring, numbered}
use Rattle.fw_model_run.proofs.Bidding.{bid_below}
use Rattle.fw_model_run.proofs.Turns.{each_of}
use Rattle.fw_model_run.proofs.Alterations.{Allows, Alteration, Answered, Asked, Bid, Breaks, Connected, Died, Halved, Started, Waits, altered}
use Rattle.fw_model_run.proofs.Effects.{Effect, altering, effect, resetting}

pub first_numbers : HasNumbers first_state
first_numbers = record { shows = λ d. tt; bus_manager_id = omega arith; asks = λ x waits. absurd (cc waits) }

-- while no transaction waits
numbers_of : (s u : State) → s.transaction ≡ None → u.transaction ≡ s.transaction → u.bus_manager_id < 2 ^ 32 → ((d : ℕ) → CurrentShows (u.controllers d).current) → HasNumbers u
numbers_of s u none same low shows = record {
  shows = shows;
  bus_manager_id = low;
  asks = λ x waits. absurd (let wrong : None ≡ Some x = sym (same ∙ none) ∙ waits in cc wrong);
}

-- one controller changes
one_shows : (s : State) (d : ℕ) (c : ControllerState) → HasNumbers s → CurrentShows c.current → (k : ℕ) → CurrentShows (update s.controllers d c k).current
one_shows s d c b new = each_of (λ x. CurrentShows x.current) s.controllers d c new b.shows

-- ---- bus resets, devices and cables

reset_numbers : (s : State) (n : Declared) (initiator : ℕ) (out : List Timed) (t : State) → HasNumbers s → s.transaction ≡ None → Resets (declaring s n) initiator out t → HasNumbers t
reset_numbers s n initiator out t b none r =
    let is = r.is_entry.epoch_is in
    let few = r.few in
    let low : r.entry.epoch < 2 ^ 32 = omega (arith, is, few) in
    subst HasNumbers (sym r.state_is) (numbers_of s (after_reset_entry (declaring s n) r.entry) none refl (omega arith)
    (λ d. reset_shows r.entry.epoch (is_deaf s d) (s.controllers d) low (b.shows d)))

-- ---- half steps

half_shows : (s : State) (d : ℕ) → IsGood s → HasNumbers s → IsTrue (is_living s d) → CurrentShows (half s d).controller.current
half_shows s d g b lives = go (s.controllers d).current refl
  where
    Ok_ : Current → Type 0
    Ok_ c = CurrentShows (half_of s d c).controller.current

    rests : (c : Current) → (s.controllers d).current ≡ c → half_of s d c ≡ asks s d → Ok_ (s.controllers d).current
    rests c e is = subst Ok_ (sym e) (subst (λ (h : Half). CurrentShows h.controller.current) (sym is)
        (next_shows s.clock.cycle (directory_of s) (s.controllers d) (g.reclaims.step.fits d) (b.shows d)))

    go : (c : Current) → (s.controllers d).current ≡ c → Ok_ (s.controllers d).current
    go Nothing e = rests Nothing e refl
    go (Asking j stage) e = rests (Asking j stage) e refl
    go (Overtaken i o) e = rests (Overtaken i o) e refl
    go (Hearing j stage) e =
        let x = heard_of s d j stage g lives e in
        let h = half_hears s d j stage g e x in
        let r = heard_fits s d j stage g b x in
        let code = r.rcode in
        subst (λ (y : Half). CurrentShows y.controller.current) (sym h.half_is)
        (hears_shows (s.controllers d) (reply_heard s d j stage x) (g.reclaims.step.fits d).current (b.shows d) r.value (omega (arith, code)))

half_numbers : (s : State) (d : ℕ) → IsGood s → HasNumbers s → s.transaction ≡ None → IsTrue (is_living s d) → HasNumbers (after_half s d)
half_numbers s d g b none lives = numbers_of s (after_half s d) none refl b.bus_manager_id (one_shows s d (half s d).controller b (half_shows s d g b lives))

-- ---- what controllers are asked for

given_current : (r : Result ℕ StartFault) (slot : Slot) (c : ControllerState) → (given r slot c).current ≡ c.current
given_current (Ok i) slot c = refl
given_current (Err f) slot c = refl

-- ---- transactions of the script

-- what raw swaps store in BUS_MANAGER_ID is a quadlet
id_below : (s : State) (x : Transaction) → HasNumbers s → bus_manager_id_after s x < 2 ^ 32
id_below s x b = either (is_manager s.account.latest (target_node s x)) _ s.bus_manager_id (go x.access) b.bus_manager_id
  where
    either : (b : Bool) (k l : ℕ) → k < 2 ^ 32 → l < 2 ^ 32 → cond b k l < 2 ^ 32
    either true k l f h = f
    either false k l f h = h

    go : (a : Access) → after_at 0xFFFF_F000_021C (access_request a) s.bus_manager_id < 2 ^ 32
    go (Read offset) = either (first_address + offset == 0xFFFF_F000_021C) s.bus_manager_id s.bus_manager_id b.bus_manager_id b.bus_manager_id
    go (Swap offset swap) =
        let stored : quadlet_at (swap_bytes swap) 4 < 2 ^ 32 = omega arith in
        either (first_address + offset == 0xFFFF_F000_021C) _ s.bus_manager_id (either (s.bus_manager_id == quadlet_at (swap_bytes swap) 0) _ s.bus_manager_id stored b.bus_manager_id) b.bus_manager_id

-- ---- each action

pub step_numbers : (s : State) (a : Action) (out : List Timed) (t : State) → IsGood s → HasNumbers s → Transition s a out t → HasNumbers t
step_numbers s a out t g b x = go (effect s a out t x)
  where
    by : (y : Alteration) → Waits s y → Allows s a y → HasNumbers (altered s y)
    by (Halved d lost resets half_steps) none ok = let h = half_numbers s d g b none ok.2 in numbers_of s _ none refl h.bus_manager_id h.shows
    by (Connected d w) none ok =
        numbers_of s _ none refl b.bus_manager_id (one_shows s d (given (start_of d w (s.controllers d)) (slot_of w) (s.controllers d)) b
        (subst CurrentShows (sym (given_current (start_of d w (s.controllers d)) (slot_of w) (s.controllers d))) (b.shows d)))
    by (Breaks d i) none ok = numbers_of s _ none refl b.bus_manager_id
        (one_shows s d (break_started (s.controllers d) i) b (subst CurrentShows (sym (break_current (s.controllers d) i ok.3)) (b.shows d)))
    by (Died d) none ok = numbers_of s _ none refl b.bus_manager_id (one_shows s d new_controller b tt)
    by (Started d) none ok = numbers_of s _ none refl b.bus_manager_id (one_shows s d new_controller b tt)
    by (Asked y) none ok = record { shows = b.shows; bus_manager_id = b.bus_manager_id; asks = λ z waits. let same : y ≡ z = cc in subst (λ (w : Transaction). IsTrue (is_linked s w.to)) same ok.2 }
    by (Answered y response) waits ok = record { shows = b.shows; bus_manager_id = id_below s y b; asks = λ z waits. absurd (cc waits) }
    by (Bid d manager c) none ok = numbers_of s _ none refl (bid_below s d manager c b.bus_manager_id) b.shows
    by _ none ok = numbers_of s _ none refl b.bus_manager_id b.shows

    go : Effect s a out t → HasNumbers t
    go (resetting resets half_steps n initiator free begins may r) =
        reset_numbers (numbered s resets half_steps) n initiator out t (numbers_of s (numbered s resets half_steps) free refl b.bus_manager_id b.shows) free r
    go (altering y waits out_is is ok) = subst HasNumbers (sym is) (by y waits ok)
