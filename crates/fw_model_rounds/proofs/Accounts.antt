-- The account tells who holds the channel that a slot waits for.
use Rattle.fw_model_rounds.proofs.Common.{◌≡◌, ℕ, ◌<◌, true, false, Bool, Option, Some, None, eqb, refl, ap}
use Rattle.fw_model_rounds.proofs.Common.{sym, subst, ◌∙◌, arith, ◌&&◌, ◌||◌, not, nat_tests, option_map, PlugAt, is_connected, Account}
use Rattle.fw_model_rounds.proofs.Common.{
  Connection,
  PlugToPlug,
  BroadcastOut,
  BroadcastIn,
  Slot,
  Current,
  Nothing,
  Asking,
  Hearing,
  Overtaken,
  HeldResources,
  Target,
  OutputPlug,
  output_of,
  is_listen,
}
use Rattle.fw_model_rounds.proofs.Common.{ControllerState, words_of, shown, is_channel_free, Waits, Situation}
use Rattle.std.proofs.Common.{true≢false}
use Rattle.fw_plug.specs.Words.{OutFields}
use Rattle.fw_plug.proofs.Words.{fields_of_word}
use Rattle.fw_model_account.specs.Account.{Allocation, Holder, Pending, Connected, Orphaned, Flow, is_free, is_withheld, is_pending, has_connection, counter, is_there}
use Rattle.fw_model_account.specs.Network.{is_output}
use Rattle.fw_model_account.specs.Sound.{IsSound}
use Rattle.fw_model_account.specs.Words.{fields_at, word_of}
use Rattle.fw_model_account.specs.Words as word
use Rattle.fw_model_account.proofs.Open.{not_claimed}
use Rattle.fw_model_controllers.proofs.Registers.{open_shown}
use Rattle.fw_cmp.specs.Holdings.{pending_of, pending_at, is_current_slot}
use Rattle.fw_model_controllers.specs.Controllers.{CurrentInStep, SlotInStep, IsToRestore}
use Rattle.fw_model_controllers.specs.Holding.{HasReserved}
use Rattle.fw_model_controllers.specs.InStep.{reservation}
use Rattle.fw_model_rounds.specs.Accounts.{IsReclaiming}
use Rattle.fw_model_rounds.specs.HalfSteps.{SlotWaits}
use Rattle.fw_model_rounds.specs.Rounds.{IsHolder}

-- ---- registers

-- the register of a plug on the bus shows whether it has a connection
pub connected_word : (l : Account) (p : PlugAt) → IsSound l → is_output l.latest p ≡ true
    → is_connected (word_of l (word.OutputPlug p)) ≡ (is_there (l.outputs p).broadcast || not (eqb (counter (l.outputs p)) 0))
connected_word l p s there = ap (λ (f : OutFields). f.broadcast || not (eqb f.counter 0)) (fields_of_word (fields_at l p) (omega (arith, (s.counts p).0)) (s.settings_fit p there))

pub unconnected : (l : Account) (p : PlugAt) → IsSound l → is_output l.latest p ≡ true → is_connected (word_of l (word.OutputPlug p)) ≡ false → has_connection (l.outputs p) ≡ false
unconnected l p s there e =
    let w : (is_there (l.outputs p).broadcast || not (eqb (counter (l.outputs p)) 0)) ≡ false = sym (connected_word l p s there) ∙ e in
    grind (arith, nat_tests)

-- a channel that its register shows as taken, and that a flow may have again, is allocated: it is not withheld
taken : (l : Account) (ch : ℕ) (f : Flow) → IsSound l → l.reclaimable ch ≡ Some f → is_channel_free (words_of l) ch ≡ false → is_free (l.allocations ch) ≡ false
taken l ch f s listed e =
    let shown = open_shown l ch (s.reclaimable_bounded ch f listed) in
    closed (is_free (l.allocations ch)) (is_withheld l.withheld ch) (not_claimed l ch f s listed) (sym shown ∙ e)
  where
    closed : (free withheld : Bool) → withheld ≡ false → (free && not withheld) ≡ false → free ≡ false
    closed true true w e = absurd (true≢false w)
    closed true false w e = e
    closed false withheld w e = refl

allocation_of : (o : Option Allocation) → is_free o ≡ false → (x : Allocation) × (o ≡ Some x)
allocation_of None e = absurd (grind arith)
allocation_of (Some x) e = (x, refl)

-- ---- who has a Pending allocation

own_number : (h : ℕ) → eqb h h ≡ true
own_number h = grind (arith, nat_tests)

-- a controller with nothing reserved has none
none_pending : (l : Account) (h ch : ℕ) (q : PlugAt) (u : ℕ) → l.allocations ch ≡ Some (record { holder = Pending h q; units = u }) → ((k : ℕ) → is_pending h (l.allocations k) ≡ false) → ⊥
none_pending l h ch q u e none =
    let own : is_pending h (l.allocations ch) ≡ true = rw e (own_number h) in
    grind (arith, none ch)

reserved_pending : (l : Account) (h ch : ℕ) (q : PlugAt) (u : ℕ) (p : Option PlugAt) (o : Option HeldResources) → l.allocations ch ≡ Some (record { holder = Pending h q; units = u })
    → HasReserved h (reservation p o) l.allocations → (held : HeldResources) × (o ≡ Some held)
reserved_pending l h ch q u p None e r = absurd (none_pending l h ch q u e r)
reserved_pending l h ch q u p (Some held) e r = (held, refl)

pending_held : (l : Account) (h ch : ℕ) (q : PlugAt) (u : ℕ) (c : ControllerState) (current : Current) → l.allocations ch ≡ Some (record { holder = Pending h q; units = u })
    → CurrentInStep l h c current → (held : HeldResources) × (pending_at current ≡ Some held)
pending_held l h ch q u c Nothing e i = absurd (none_pending l h ch q u e i.reserved)
pending_held l h ch q u c (Asking j s) e i = reserved_pending l h ch q u (output_of j.connection) (pending_of s) e i.step.holds.reserved
pending_held l h ch q u c (Hearing j s) e i = reserved_pending l h ch q u (output_of j.connection) (pending_of s) e i.step.holds.reserved
pending_held l h ch q u c (Overtaken k o) e i = absurd (none_pending l h ch q u e i.reserved)

pending_holder : (l : Account) (s : Situation) (h ch : ℕ) (q : PlugAt) (u : ℕ) → IsReclaiming l s → l.allocations ch ≡ Some (record { holder = Pending h q; units = u }) → IsHolder s h
pending_holder l s h ch q u a e =
    let below = a.living.devices ch h q u e in
    let held = pending_held l h ch q u (s.at h) (s.at h).current e (a.in_step h below).current in
    record { device = below; held = held.0; pending = held.1 }

-- ---- who holds the channel that a slot waits for

pub output_is : (conn : Connection) → is_listen conn ≡ false → (p : PlugAt) × (output_of conn ≡ Some p)
output_is (PlugToPlug out into) e = (out, refl)
output_is (BroadcastOut out) e = (out, refl)
output_is (BroadcastIn into) e = absurd (grind arith)

-- one channel's flow is of one plug
same_flow : (l : Account) (ch : ℕ) (p q : PlugAt) (u v : ℕ) → l.reclaimable ch ≡ Some (record { plug = p; units = u }) → l.reclaimable ch ≡ Some (record { plug = q; units = v }) → p ≡ q
same_flow l ch p q u v e f = grind arith

-- an allocation of the channel of a plug that has no connection
holder_at : (l : Account) (s : Situation) (p : PlugAt) (ch u v : ℕ) (x : Holder) → IsReclaiming l s → l.reclaimable ch ≡ Some (record { plug = p; units = u }) → has_connection (l.outputs p) ≡ false
    → l.allocations ch ≡ Some (record { holder = x; units = v }) → (h : ℕ) × IsHolder s h
holder_at l s p ch u v (Pending h q) a listed none e = (h, pending_holder l s h ch q v a e)
holder_at l s p ch u v (Connected q) a listed none e =
    let own = a.sound.reclaimed a.second ch _ e in
    let same = same_flow l ch q p own.0 u own.1 listed in
    let is = (a.sound.connected ch q v e).0 in
    absurd (grind (arith, ap (λ (y : PlugAt). has_connection (l.outputs y)) same))
holder_at l s p ch u v (Orphaned q) a listed none e = absurd (a.living.none_died ch q v e)

-- the slot's place in the account
to_restore : (l : Account) (s : Situation) (k : ℕ) (w : Waits s.words (s.at k)) → IsReclaiming l s → k < 63 → IsToRestore l w.connection w.flow false
to_restore l s k w a lt = subst (λ (x : Slot). SlotInStep l (is_current_slot (s.at k).current w.slot) x) w.is ((a.in_step k lt).slots w.slot)

pub holder_of : (l : Account) (s : Situation) (k : ℕ) → IsReclaiming l s → k < 63 → Waits s.words (s.at k) → (h : ℕ) × IsHolder s h
holder_of l s k a lt w = go (output_is w.connection waits.0)
  where
    waits : SlotWaits (words_of l) w.connection w.flow
    waits = subst (λ (ws : Target → ℕ). SlotWaits ws w.connection w.flow) a.words w.waits

    place : IsToRestore l w.connection w.flow false
    place = to_restore l s k w a lt

    go : (p : PlugAt) × (output_of w.connection ≡ Some p) → (h : ℕ) × IsHolder s h
    go o =
        let listed = (place.listed o.0 o.1 refl).1 in
        let open_plug : is_connected (word_of l (word.OutputPlug o.0)) ≡ false = subst (λ (x : Option PlugAt). is_connected (shown (words_of l) (option_map OutputPlug x)) ≡ false) o.1 waits.1 in
        let x = allocation_of (l.allocations w.flow.channel) (taken l w.flow.channel _ a.sound listed waits.2) in
        holder_at l s o.0 w.flow.channel w.flow.units x.0.units x.0.holder a listed (unconnected l o.0 a.sound (place.found o.0 o.1) open_plug) x.1
